use lib.ListN.{take}
use mathlib.Core.Bool.{false}
use mathlib.Core.Path.{◌≡◌}
use Rattle.lists.specs.Vec.{vec}
use Rattle.matrix.proofs.NormalFlags.{gone_by}
use Rattle.rows.specs.Rows.{flags}
use Rattle.rules.specs.Bounds.{columns_max}
use Rattle.matrix.proofs.inner.normal.gone.Given as goal

abbrev pub invariant-loop-j : goal.invariant-loop-j
invariant-loop-j l = l.made ≡ vec columns_max false (take l.j (flags (gone_by l.nets l.used) l.nets))
