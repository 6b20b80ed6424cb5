use Rattle.muxes.specs.Lent.{lent}
use Rattle.rules.specs.Emit.{updated}
use Rattle.rules.specs.Nets.{cell}
use Rattle.rules.specs.Trits.{bit}
use Rattle.std.proofs.Common.{drop, leb, map, ◌+◌, ◌≡◌}
use Rattle.muxes.proofs.inner.OverlappingLeafTest.meets.Given as goal

abbrev pub invariant-loop-rule : goal.invariant-loop-rule
invariant-loop-rule l = leb 2 (bit l.updated + updated (lent l.self.updates) (map cell (drop l.rule-index l.rules))) ≡ leb 2 (updated (lent l.self.updates) (map cell l.rules))
