-- What no number says of a row to add, and what is added then. Assumes nothing.
use borrow.Author.Tests.{eqb-true, ltb-false}
use lib.Dec.{eqb, ltb}
use lib.ListN.{length, length-append}
use mathlib.Core.Bool.{false, not}
use mathlib.Core.List.{[], ◌++◌, ◌∷◌, List}
use mathlib.Core.Path.{◌∙◌, ◌≡◌, ap, refl, sym}
use native.Mathlib.Omega.{arith}
use Prim.Native.Nat.{◌<◌, ◌≤◌, ℕ}
use Rattle.lists.specs.Bools.{or_no}
use Rattle.lists.specs.Lists.{mem}
use Rattle.matrix.proofs.StepHeld.{view_row_lem}
use Rattle.matrix.proofs.Tidies.{fits-columns, is_not}
use Rattle.matrix.specs.declared.Matrix.{Matrix}
use Rattle.matrix.specs.Faults.{Fits}
use Rattle.matrix.specs.Mat.{given, view}
use Rattle.rows.specs.declared.Row.{Row}
use Rattle.rows.specs.Rows as rows
use Rattle.rules.proofs.Picks.{none_applies}
use Rattle.rules.specs.Bounds.{rows_max, rules_max}
use Rattle.rules.specs.Given.{bad_rows, bad_rules, bad_shape, too_tall}
use Rattle.rules.specs.Matrix.{add, Matrix as MatrixOf, Row as RowOf, set_of}
use Rattle.rules.specs.Refusals.{add_table}
use Rattle.rules.specs.Refuse.{COLUMNS, refusal, ROWS, RULES, SHAPE}
use Rattle.sets.proofs.Unions.{list_of-rules_from}
use Rattle.sets.specs.declared.Rules.{Rules}
use Rattle.sets.specs.Sets.{list_of, rules_from}

module _ (m : Matrix) (p rs : List ℕ) (e : refusal (add_table (given m) p rs) ≡ 0) where
  no_rows : (bad_rows (given m) ≡ false) × (too_tall (add p rs (view m)) ≡ false)
  unfolding mem
  no_rows = or_no _ _ (none_applies (add_table (given m) p rs) e ROWS refl)

  no_shape : (bad_shape (given m) ≡ false) × (not (eqb (length p) m.columns) ≡ false)
  unfolding mem
  no_shape = or_no _ _ (none_applies (add_table (given m) p rs) e SHAPE refl)

  no_rules : (bad_rules (given m) ≡ false) × (ltb rules_max (length (set_of rs)) ≡ false)
  unfolding mem
  no_rules = or_no _ _ (none_applies (add_table (given m) p rs) e RULES refl)

  pub add-fits : Fits m
  unfolding mem
  add-fits = record { columns = none_applies (add_table (given m) p rs) e COLUMNS refl; rows = no_rows.0; shape = no_shape.0; rules = no_rules.0 }

  pub add-room : length (view m).rows < rows_max
  add-room =
      let h = ltb-false rows_max (length (add p rs (view m)).rows) no_rows.1 in
      let l = length-append (view m).rows (record { pattern = p; rules = set_of rs } ∷ []) in
      omega arith

  pub add-shape : length p ≡ m.columns
  add-shape = eqb-true (length p) m.columns (is_not _ no_shape.1)

  pub add-few : length (set_of rs) ≤ rules_max
  add-few = ltb-false rules_max (length (set_of rs)) no_rules.1

-- ---- the row, and the matrix with it

pub collected-few : (s : Rules) (rs : List ℕ) → s ≡ rules_from (set_of rs) → length (set_of rs) ≤ rules_max → (list_of s ≡ set_of rs) × (s ≡ rules_from (list_of s))
collected-few s rs f h =
    let l : list_of s ≡ set_of rs = ap list_of f ∙ list_of-rules_from (set_of rs) h in
    (l, f ∙ ap rules_from (sym l))

pub add_path : (a b : MatrixOf) (x y : RowOf) → a ≡ b → x ≡ y
    → ◌≡◌ {A = MatrixOf} (record { nets = a.nets; rows = a.rows ++ (x ∷ []) }) (record { nets = b.nets; rows = b.rows ++ (y ∷ []) })
add_path a b x y p q = λ i. record { nets = (p i).nets; rows = (p i).rows ++ (q i ∷ []) }

-- y is the row made of the pattern and the collected rules, t the matrix tidied
module _ (m : Matrix) (p rs : List ℕ) (e : refusal (add_table (given m) p rs) ≡ 0) (s : Rules) (q : s ≡ rules_from (set_of rs)) (y : Row) (f : y ≡ rows.row_from (record { pattern = p; rules = list_of s })) where
  pub add-row_is : rows.view y ≡ record { pattern = p; rules = set_of rs }
  add-row_is =
      let w = fits-columns m (add-fits m p rs e) in
      let a = add-shape m p rs e in
      let k = (collected-few s rs q (add-few m p rs e)).0 in
      let h : length (list_of s) ≤ rules_max = rw k (add-few m p rs e) in
      ap rows.view f ∙ view_row_lem (record { pattern = p; rules = list_of s }) (omega arith) h ∙ (λ i. record { pattern = p; rules = k i })

  pub add-row_clean : y ≡ rows.row_from (rows.view y)
  add-row_clean =
      let k : set_of rs ≡ list_of s = sym (collected-few s rs q (add-few m p rs e)).0 in
      f ∙ ap rows.row_from (sym (add-row_is ∙ (λ i. record { pattern = p; rules = k i })))
