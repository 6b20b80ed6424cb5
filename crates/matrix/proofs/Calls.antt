-- What the public calls cite: the number and the matrix beside it, what no number says, and one row more. Assumes nothing.
use borrow.Author.Tests.{le-ltb, leb-false, leb-true, lt-ltb, ne_eqb}
use lib.Dec.{leb, ltb}
use lib.ListN.{length, length-append, length-map, set, take}
use mathlib.Core.List.{[], ◌++◌, ◌∷◌, List, map, map-append}
use mathlib.Core.Path.{◌∙◌, ◌≡◌, ap, refl, sym}
use native.Mathlib.Omega.{arith}
use Prim.Native.Nat.{◌+◌, ◌<◌, ℕ}
use Rattle.lists.specs.Bools.{by_bool}
use Rattle.lists.specs.Lists.{mem}
use Rattle.lists.specs.Vec.{push, vec}
use Rattle.matrix.proofs.Checks.{rows_viewed}
use Rattle.matrix.proofs.StepHeld.{clean_held, held_is, zero_row}
use Rattle.matrix.specs.declared.Matrix.{Matrix}
use Rattle.matrix.specs.Faults.{Fits}
use Rattle.matrix.specs.Mat.{Clean, from, given, made_from, matrix_from, view}
use Rattle.rows.specs.declared.Row.{Row}
use Rattle.rows.specs.Rows as rows
use Rattle.rules.proofs.Picks.{none_applies}
use Rattle.rules.specs.Answers.{made}
use Rattle.rules.specs.Bounds.{rows_max}
use Rattle.rules.specs.Given.{Given, matrix_table}
use Rattle.rules.specs.Matrix.{Matrix as MatrixOf, Row as RowOf}
use Rattle.rules.specs.declared.refusal.Refusal.{Refusal}
use Rattle.rules.specs.declared.refusal.Refusal.TheVariants as why
use Rattle.rules.specs.Refuse.{COLUMNS, refusal, ROWS, RULES, SHAPE}
use Rattle.rules.specs.Refused.{number_of}

-- ---- the answer: r is the number that the call gives

pub number-some : (why : Refusal) → number_of why ≡ 0 → ⊥
number-some why.Columns e = absurd (omega arith)
number-some why.Rows e = absurd (omega arith)
number-some why.Shape e = absurd (omega arith)
number-some why.Net e = absurd (omega arith)
number-some why.Rules e = absurd (omega arith)
number-some why.Catch e = absurd (omega arith)
number-some why.Nodes e = absurd (omega arith)
number-some why.Width e = absurd (omega arith)
number-some why.Overlap e = absurd (omega arith)
number-some why.Room e = absurd (omega arith)
number-some why.Line e = absurd (omega arith)
number-some why.Form e = absurd (omega arith)

module _ (r : ℕ) (old : Given) (m : MatrixOf) (x : Matrix) where
  pub refuse : (why : Refusal) → number_of why ≡ r → x ≡ from old → record { no = number_of why; matrix = x } ≡ made_from (made r old m)
  refuse why e q = rw (← e, ne_eqb (number_of why) 0 (number-some why), q)

  pub accept : 0 ≡ r → x ≡ matrix_from m → record { no = 0; matrix = x } ≡ made_from (made r old m)
  accept e q = rw (← e, q)

-- ---- no number: the matrix by itself is within the bounds

pub unrefused_fits : (m : Matrix) → refusal (matrix_table (given m)) ≡ 0 → Fits m
unfolding mem
unrefused_fits m e =
    let none = none_applies (matrix_table (given m)) e in
    record { columns = none COLUMNS refl; rows = none ROWS refl; shape = none SHAPE refl; rules = none RULES refl }

-- ---- what a matrix has in use, and one more

pub view-rows-length : (m : Matrix) → length (view m).rows ≡ length (take m.count m.rows)
view-rows-length m = ap (λ (l : List RowOf). length l) (rows_viewed m) ∙ length-map (take m.count m.rows) rows.view

pub one-over : (k n u : ℕ) → n ≡ u + 1 → ltb k n ≡ leb k u
one-over k n u e = by_bool (leb k u) (λ t. let h = leb-true k u t in rw t (lt-ltb k n (omega arith))) (λ t. let h = leb-false k u t in rw t (le-ltb k n (omega arith)))

-- ---- one row more

push_rows : (rs : List RowOf) (x : RowOf) (v : List Row) (k : ℕ) (y : Row) → length rs < rows_max → v ≡ vec rows_max zero_row (map rows.row_from rs)
    → k ≡ length rs → y ≡ rows.row_from x → set v k y ≡ vec rows_max zero_row (map rows.row_from (rs ++ (x ∷ [])))
push_rows rs x v k y h e q z =
    let a : length (map rows.row_from rs) ≡ length rs = length-map rs rows.row_from in
    let b : set v k y ≡ set (vec rows_max zero_row (map rows.row_from rs)) (length (map rows.row_from rs)) (rows.row_from x) = rw (e, q, z, a) in
    b ∙ push rows_max zero_row (map rows.row_from rs) (rows.row_from x) (omega arith) ∙ ap (vec rows_max zero_row) (sym (map-append rows.row_from rs (x ∷ [])))

pub push_made : (m : Matrix) → Clean m → (y : Row) (x : RowOf) → m.count < rows_max → y ≡ rows.row_from x
    → record { value = m.value; columns = m.columns; rows = set m.rows m.count y; count = m.count + 1 } ≡ matrix_from (record { nets = (view m).nets; rows = (view m).rows ++ (x ∷ []) })
push_made m c y x h z =
    let k = clean_held m c in
    let l : length ((view m).rows ++ (x ∷ [])) ≡ length (view m).rows + 1 = length-append (view m).rows (x ∷ []) in
    held_is _ (view m).nets ((view m).rows ++ (x ∷ []))
    (record { value = k.value; columns = k.columns; rows = push_rows (view m).rows x m.rows m.count y (omega (arith, k.count)) k.rows k.count z; count = omega (arith, k.count) })
