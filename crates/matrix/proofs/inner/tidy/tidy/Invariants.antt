use lib.ListN.{take}
use mathlib.Core.List.{map}
use mathlib.Core.Path.{◌≡◌}
use Rattle.lists.specs.Vec.{vec}
use Rattle.matrix.proofs.StepHeld.{zero_row}
use Rattle.matrix.proofs.Tidies.{tidied}
use Rattle.rules.specs.Bounds.{rows_max}
use Rattle.matrix.proofs.inner.tidy.tidy.Given as goal

abbrev pub invariant-loop-i : goal.invariant-loop-i
invariant-loop-i l = l.made ≡ vec rows_max zero_row (take l.i (map tidied l.rows))
