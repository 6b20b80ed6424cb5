-- What normalize makes, step by step: within the bounds, and 01's. Assumes nothing.
use lib.ListN.{length, length-map, take}
use mathlib.Core.Bool.{Bool, false}
use mathlib.Core.List.{[], ◌∷◌, List, map}
use mathlib.Core.Option.{none, Option, some}
use mathlib.Core.Path.{◌∙◌, ◌≡◌, ap, ap₂, refl, subst, sym}
use native.Mathlib.Omega.{arith}
use Prim.Native.Nat.{◌≤◌, suc, ℕ}
use Rattle.lists.specs.Bools.{by_bool}
use Rattle.lists.specs.Lists.{kept, length-kept}
use Rattle.lists.specs.Vec.{take-vec, vec}
use Rattle.matrix.proofs.NormalRows.{kept_row, length_alike}
use Rattle.matrix.proofs.Views.{clean_is}
use Rattle.matrix.specs.declared.Matrix.{Matrix}
use Rattle.matrix.specs.Mat.{Clean, matrix_from, view}
use Rattle.rows.proofs.Laws.{length-flags, strip-kept}
use Rattle.rows.proofs.Walked.{length-walk}
use Rattle.rows.specs.Rows.{flags}
use Rattle.rules.proofs.Givens.{sized_means_shaped}
use Rattle.rules.proofs.Stepped.{steps_are}
use Rattle.rules.specs.Bounds.{columns_max, rules_max}
use Rattle.rules.specs.Given.{Sized, SizedRows}
use Rattle.rules.specs.Matrix.{Matrix as MatrixOf, Row}
use Rattle.rules.specs.Normalize.{again, normalize}
use Rattle.rules.specs.Steps.{goes, row_if, steps, strip_row, walk, walk_rows}

-- ---- the rows that stay

-- no more than came in, each as long
abbrev Less : ℕ → ℕ → List Row → Type 0
Less w n rs = SizedRows w rs × (length rs ≤ n)

less-row : (w n : ℕ) (o : Option (List ℕ)) (named : List ℕ) (rs : List Row) → ((ms : List ℕ) → o ≡ some ms → length ms ≡ w) → length named ≤ rules_max → Less w n rs → Less w (suc n) (row_if o named rs)
unfolding SizedRows
less-row w n none named rs f h l = (l.0, omega (arith, l.1))
less-row w n (some ms) named rs f h l = ((f ms refl, h, l.0), omega (arith, l.1))

less-walk : (ns : List ℕ) (last : Option (List ℕ)) (w : ℕ) (rs : List Row) → SizedRows w rs → Less w (length rs) (walk_rows ns last rs)
unfolding SizedRows walk_rows
less-walk ns last w [] s = (tt, omega arith)
less-walk ns last w (r ∷ rs) s =
    let one = less-walk ns last w rs s.2 in
    let two = less-walk ns (some r.pattern) w rs s.2 in
    by_bool (again last r.pattern)
    (λ p. rw p (one.0, omega (arith, one.1)))
    (λ p. rw p (less-row w (length rs) (walk ns (length ns) 0 r.pattern) r.rules (walk_rows ns (some r.pattern) rs) (λ ms e. length-walk ns (length ns) 0 r.pattern ms e ∙ s.0) s.1 two))

abbrev pub walked_of : MatrixOf → MatrixOf
walked_of m = record { nets = m.nets; rows = walk_rows m.nets none m.rows }

pub sized_walked : (m : MatrixOf) → Sized m → Sized (walked_of m)
sized_walked m s =
    let l = less-walk m.nets none (length m.nets) m.rows s.each in
    record { wide = s.wide; tall = omega (arith, l.1, s.tall); each = l.0 }

-- ---- the columns that stay

abbrev pub kept_of : List Bool → MatrixOf → MatrixOf
kept_of gs m = record { nets = kept gs m.nets; rows = map (kept_row gs) m.rows }

sized_rows-kept : (gs : List Bool) (ns : List ℕ) (rs : List Row) → SizedRows (length ns) rs → SizedRows (length (kept gs ns)) (map (kept_row gs) rs)
unfolding SizedRows
sized_rows-kept gs ns [] s = tt
sized_rows-kept gs ns (r ∷ rs) s = (length_alike gs r.pattern ns s.0, s.1, sized_rows-kept gs ns rs s.2)

pub sized_kept : (gs : List Bool) (m : MatrixOf) → Sized m → Sized (kept_of gs m)
sized_kept gs m s =
    let k = length-kept gs m.nets in
    let l : length (map (kept_row gs) m.rows) ≡ length m.rows = length-map m.rows (kept_row gs) in
    record { wide = omega (arith, s.wide); tall = omega (arith, s.tall); each = sized_rows-kept gs m.nets m.rows s.each }

-- ---- both

abbrev pub gone_of : MatrixOf → List Bool
gone_of m = flags (goes m.nets m.rows) m.nets

rows-kept : (go : ℕ → ℕ → Bool) (ns : List ℕ) (rs : List Row) → map (strip_row go ns) rs ≡ map (kept_row (flags go ns)) rs
rows-kept go ns [] = refl
rows-kept go ns (r ∷ rs) = ap₂ {C = List Row} (λ (p : List ℕ) (l : List Row). record { pattern = p; rules = r.rules } ∷ l) (strip-kept go ns r.pattern) (rows-kept go ns rs)

pub normalize_is : (m : MatrixOf) → Sized m → kept_of (gone_of (walked_of m)) (walked_of m) ≡ normalize m
unfolding steps
normalize_is m s =
    let rs : List Row = walk_rows m.nets none m.rows in
    let go : ℕ → ℕ → Bool = goes m.nets rs in
    let e : kept_of (gone_of (walked_of m)) (walked_of m) ≡ steps m = λ i. record { nets = sym (strip-kept go m.nets m.nets) i; rows = sym (rows-kept go m.nets rs) i } in
    e ∙ steps_are m (sized_means_shaped m s)

pub sized_normalize : (m : MatrixOf) → Sized m → Sized (normalize m)
sized_normalize m s = subst Sized (normalize_is m s) (sized_kept (gone_of (walked_of m)) (walked_of m) (sized_walked m s))

-- ---- the calls, one after the other

module _ (m t : Matrix) (c : Clean m) (e : t ≡ matrix_from (walked_of (view m))) where
  pub settled_clean : Clean t × (view t ≡ walked_of (view m))
  settled_clean = clean_is t (walked_of (view m)) (sized_walked (view m) c.sized) e

  pub normal_is : (r : Matrix) (gs : List Bool) → gs ≡ vec columns_max false (gone_of (walked_of (view m))) → r ≡ matrix_from (kept_of (take t.columns gs) (view t)) → r ≡ matrix_from (normalize (view m))
  normal_is r gs g f =
      let s = settled_clean in
      let w : MatrixOf = walked_of (view m) in
      let l : length (gone_of w) ≡ length w.nets = length-flags (goes w.nets w.rows) 0 w.nets in
      let n : t.columns ≡ length w.nets = ap (λ (x : Matrix). x.columns) e in
      let h : length w.nets ≤ columns_max = c.sized.wide in
      let k : take t.columns gs ≡ gone_of w = ap₂ (λ (i : ℕ) (b : List Bool). take i b) (n ∙ sym l) g ∙ take-vec columns_max false (gone_of w) (omega arith) in
      f ∙ ap (λ (b : List Bool). matrix_from (kept_of b (view t))) k ∙ ap (λ (x : MatrixOf). matrix_from (kept_of (gone_of w) x)) s.1 ∙ ap matrix_from (normalize_is (view m) c.sized)
