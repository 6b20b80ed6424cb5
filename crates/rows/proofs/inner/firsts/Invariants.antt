use lib.ListN.{take}
use mathlib.Core.Path.{◌≡◌}
use Rattle.lists.specs.Vec.{vec}
use Rattle.rows.specs.Rows.{places}
use Rattle.rules.specs.Bounds.{columns_max}
use Rattle.rows.proofs.inner.firsts.Given as goal

abbrev pub invariant-loop-i : goal.invariant-loop-i
invariant-loop-i l = l.made ≡ vec columns_max 0 (take l.i (places l.nets))
