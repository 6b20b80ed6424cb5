use Rattle.rules.specs.Nets.{cell}
use Rattle.rules.specs.Prefix.{hits}
use Rattle.rules.specs.Trits.{bit}
use Rattle.std.proofs.Common.{drop, leb, map, ◌+◌, ◌≡◌}
use Rattle.muxes.proofs.inner.CrowdedLeafTest.meets.Given as goal

abbrev pub invariant-loop-net : goal.invariant-loop-net
invariant-loop-net l = leb 2 (bit l.seen + hits (drop l.net-index l.self.nets.now) (map cell l.rules)) ≡ leb 2 (hits l.self.nets.now (map cell l.rules))
