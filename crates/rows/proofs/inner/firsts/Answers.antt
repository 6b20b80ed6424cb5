use lib.Seq.{take_all}
use mathlib.Core.Path.{ap, ◌∙◌}
use native.Mathlib.Omega.{arith}
use Rattle.lists.specs.Vec.{vec, vec_none}
use Rattle.rows.proofs.Laws.{length-places, places_fill}
use Rattle.rows.specs.Rows.{places}
use Rattle.rules.specs.Bounds.{columns_max}
use Rattle.rows.proofs.inner.firsts.Goals as goal

pub loop-i-init : goal.loop-i-init
loop-i-init c = vec_none columns_max 0

pub loop-i-preserved : goal.loop-i-preserved
loop-i-preserved c =
    rw c.loop-i.invariant (places_fill c.args.nets.now columns_max c.loop-i.i _ (omega arith) (omega arith) c.first_of.ensures)
