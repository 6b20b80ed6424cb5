use Rattle.lists.specs.Vec.{vec}
use Rattle.rules.specs.Bounds.{width_max}
use Rattle.rules.specs.Emit.{one_hot}
use Rattle.rules.specs.Nets.{cell}
use Rattle.std.proofs.Common.{◌≡◌, map, take}
use Rattle.muxes.proofs.inner.OneHotLeafValue.nets.Given as goal

abbrev pub invariant-loop-i : goal.invariant-loop-i
invariant-loop-i l = l.nets ≡ vec width_max 0 (take l.i (one_hot l.output-items (map cell l.rules)))
