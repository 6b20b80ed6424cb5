-- What no number says of an assumption and of an enable, and when an enable is one too many. Assumes nothing.
use borrow.Author.Tests.{le-ltb, ltb-false}
use lib.Dec.{eqb, leb}
use lib.ListN.{length, length-append, length-map, take}
use mathlib.Core.Bool.{◌&&◌, false, not}
use mathlib.Core.List.{[], ◌++◌, ◌∷◌, map}
use mathlib.Core.Path.{◌≡◌, refl}
use native.Mathlib.Omega.{arith}
use Prim.Native.Nat.{◌<◌, ◌≤◌, suc, ℕ}
use Rattle.lists.specs.Bools.{by_bool, or_no}
use Rattle.lists.specs.Lists.{mem}
use Rattle.matrix.proofs.Calls.{one-over, view-rows-length}
use Rattle.matrix.specs.declared.Matrix.{Matrix}
use Rattle.matrix.specs.Faults.{Fits}
use Rattle.matrix.specs.Mat.{given, view}
use Rattle.rules.proofs.Picks.{none_applies}
use Rattle.rules.specs.Bounds.{columns_max, rows_max}
use Rattle.rules.specs.Given.{bad_columns, bad_rows, too_tall, too_wide}
use Rattle.rules.specs.Matrix.{add_enable, widened}
use Rattle.rules.specs.Refusals.{assume_table, enable_table}
use Rattle.rules.specs.Refuse.{COLUMNS, refusal, ROWS, RULES, SHAPE}

module _ (m : Matrix) (t : ℕ) (e : refusal (assume_table t (given m)) ≡ 0) where
  pub assume-fits : Fits m
  unfolding mem
  assume-fits =
      let none = none_applies (assume_table t (given m)) e in
      record { columns = none COLUMNS refl; rows = none ROWS refl; shape = none SHAPE refl; rules = none RULES refl }

-- ---- the enable

-- its column and its row are one too many where all are in use
module _ (m : Matrix) (e u : ℕ) where
  pub enable_wide : u ≤ columns_max → u ≡ length (take m.columns m.value) → too_wide (add_enable e (view m)) ≡ (not (eqb e 1) && leb columns_max u)
  enable_wide h q =
      let a = length-append (view m).nets (e ∷ []) in
      by_bool (eqb e 1)
      (λ t. rw t (le-ltb columns_max (length (view m).nets) (omega arith)))
      (λ t. rw t (one-over columns_max (length ((view m).nets ++ (e ∷ []))) u (omega arith)))

  pub enable_tall : u ≤ rows_max → u ≡ length (take m.count m.rows) → too_tall (add_enable e (view m)) ≡ (not (eqb e 1) && leb rows_max u)
  enable_tall h q =
      let a = view-rows-length m in
      let b = length-map (view m).rows widened in
      by_bool (eqb e 1)
      (λ t. rw t (le-ltb rows_max (length (view m).rows) (omega arith)))
      (λ t. rw t (one-over rows_max (suc (length (map widened (view m).rows))) u (omega arith)))

module _ (m : Matrix) (e : ℕ) (z : refusal (enable_table e (given m)) ≡ 0) where
  no_columns : (bad_columns (given m) ≡ false) × (too_wide (add_enable e (view m)) ≡ false)
  unfolding mem
  no_columns = or_no _ _ (none_applies (enable_table e (given m)) z COLUMNS refl)

  no_rows : (bad_rows (given m) ≡ false) × (too_tall (add_enable e (view m)) ≡ false)
  unfolding mem
  no_rows = or_no _ _ (none_applies (enable_table e (given m)) z ROWS refl)

  pub enable_fits : Fits m
  unfolding mem
  enable_fits =
      let none = none_applies (enable_table e (given m)) z in
      record { columns = no_columns.0; rows = no_rows.0; shape = none SHAPE refl; rules = none RULES refl }

  pub enable_room : eqb e 1 ≡ false → (length (view m).nets < columns_max) × (length (view m).rows < rows_max)
  enable_room t =
      let a = length-append (view m).nets (e ∷ []) in
      let b = length-map (view m).rows widened in
      let c = ltb-false columns_max (length ((view m).nets ++ (e ∷ []))) (rw t at no_columns.1) in
      let d = ltb-false rows_max (suc (length (map widened (view m).rows))) (rw t at no_rows.1) in
      (omega arith, omega arith)
