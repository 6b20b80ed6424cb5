use lib.ListN.{take}
use mathlib.Core.Path.{◌≡◌}
use mathlib.Core.List.{◌∷◌, map}
use Prim.Native.Nat.{◌+◌}
use Rattle.lists.specs.Vec.{vec}
use Rattle.matrix.proofs.StepHeld.{zero_row}
use Rattle.matrix.specs.Mat.{view}
use Rattle.rows.specs.Rows.{row_from}
use Rattle.rules.specs.Bounds.{rows_max}
use Rattle.rules.specs.Matrix.{off, widened}
use Rattle.matrix.proofs.inner.step.enabled.Given as goal

abbrev pub invariant-loop-i : goal.invariant-loop-i
invariant-loop-i l = l.rows ≡ vec rows_max zero_row (take (l.i + 1) (map row_from (off (view l.fn.m) ∷ map widened (view l.fn.m).rows)))
