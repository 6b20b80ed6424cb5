use Rattle.lists.specs.Vec.{vec_none}
use Rattle.muxes.proofs.Hots.{byte_bit, hot_turn}
use Rattle.rules.specs.Bounds.{width_max}
use Rattle.rules.specs.Nets.{cell}
use Rattle.rules.specs.Trits.{bit}
use Rattle.std.proofs.Common.{ap, map, ◌∙◌}
use Rattle.muxes.proofs.inner.OneHotLeafValue.nets.Goals as goal

pub loop-i-init : goal.loop-i-init
loop-i-init c = vec_none width_max 0

pub loop-i-preserved : goal.loop-i-preserved
loop-i-preserved c = hot_turn c.args.self.now.outputs.now (map cell c.args.rules.now) c.loop-i.nets c.loop-i.i c.from.result c.loop-i-test.true c.requires.1 c.loop-i.invariant (c.from.ensures ∙ byte_bit c.names.result ∙ ap bit c.names.ensures)
