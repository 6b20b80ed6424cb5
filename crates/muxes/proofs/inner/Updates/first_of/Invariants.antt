use Rattle.muxes.specs.Lent.{lent}
use Rattle.rules.specs.Emit.{disjoint}
use Rattle.rules.specs.Nets.{cell}
use Rattle.std.proofs.Common.{ℕ, List, drop, map, ◌≡◌}
use Rattle.muxes.proofs.inner.Updates.first_of.Given as goal

abbrev pub invariant-loop-rule : goal.invariant-loop-rule
invariant-loop-rule l = (d : List ℕ) → disjoint (lent l.self) d (map cell (drop l.rule-index l.rules)) ≡ disjoint (lent l.self) d (map cell l.rules)
