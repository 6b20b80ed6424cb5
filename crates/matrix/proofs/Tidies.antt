-- A matrix within the bounds, handed in with anything past its counts: what tidying it makes. Assumes nothing.
use borrow.Author.Tests.{ltb-false}
use lib.ListN.{get_or, length, length-map, set, take}
use mathlib.Core.Bool.{Bool, false, not, true}
use mathlib.Core.List.{[], ◌∷◌, List, map}
use mathlib.Core.Path.{◌∙◌, ◌≡◌, ap, refl, sym}
use native.Mathlib.Omega.{arith}
use Prim.Native.Nat.{◌+◌, ◌<◌, ◌≤◌, ℕ}
use Rattle.lists.specs.Bools.{clash}
use Rattle.lists.specs.Vec.{fill, vec}
use Rattle.matrix.proofs.Checks.{rows_viewed}
use Rattle.matrix.proofs.StepHeld.{past, slots_is, zero_row}
use Rattle.matrix.proofs.Views.{clean_is}
use Rattle.matrix.specs.declared.Matrix.{Matrix}
use Rattle.matrix.specs.Faults.{Fits}
use Rattle.matrix.specs.Mat.{Clean, given, matrix_from, view}
use Rattle.rows.proofs.Laws.{get_d_map}
use Rattle.rows.specs.declared.Row.{Row}
use Rattle.rows.specs.Rows as rows
use Rattle.rules.proofs.Givens.{sized_by_tests}
use Rattle.rules.specs.Bounds.{columns_max, rows_max}
use Rattle.rules.specs.Given.{Sized, Slots}
use Rattle.rules.specs.Matrix.{Row as RowOf}

-- ---- what the four tests of size say

pub is_not : (b : Bool) → not b ≡ false → b ≡ true
is_not true e = refl
is_not false e = absurd (clash (sym e))

module _ (m : Matrix) (f : Fits m) where
  pub fits-columns : m.columns ≤ columns_max
  fits-columns = ltb-false columns_max m.columns f.columns

  pub fits_sized : Slots (given m) → Sized (view m)
  fits_sized s = sized_by_tests (given m) s f.columns f.rows f.shape f.rules

-- ---- the rows of the matrix that is made

abbrev pub tidied : Row → Row
tidied r = rows.row_from (rows.view r)

twice : (l : List Row) → map rows.row_from (map rows.view l) ≡ map tidied l
twice [] = refl
twice (r ∷ l) = ap (λ (s : List Row). tidied r ∷ s) (twice l)

pub tidied-rows : (m : Matrix) → (matrix_from (view m)).rows ≡ vec rows_max zero_row (map tidied (take m.count m.rows))
tidied-rows m =
    slots_is (view m).rows ∙ ap (λ (l : List RowOf). vec rows_max zero_row (map rows.row_from l)) (rows_viewed m)
    ∙ ap (vec rows_max zero_row) (twice (take m.count m.rows))

-- a turn
pub tidy_turn : (l : List Row) (i : ℕ) (v : List Row) (y : Row) → length l ≤ rows_max → i < length l
    → v ≡ vec rows_max zero_row (take i (map tidied l)) → y ≡ tidied (get_or l i past)
    → set v i y ≡ vec rows_max zero_row (take (i + 1) (map tidied l))
tidy_turn l i v y k o e q =
    let w = length-map l tidied in
    let u : y ≡ get_or (map tidied l) i zero_row = q ∙ sym (get_d_map tidied l i past zero_row o) in
    rw (e, u) (fill rows_max zero_row (map tidied l) i (omega arith) (omega arith))

-- what a call goes on with: m was handed in, and t is what tidying made of it
pub tidied_clean : (m t : Matrix) → Fits m → Slots (given m) → t ≡ matrix_from (view m) → Clean t × (view t ≡ view m)
tidied_clean m t f s e = clean_is t (view m) (fits_sized m f s) e
