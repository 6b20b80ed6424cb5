use Rattle.lists.specs.Lists.{mem}
use Rattle.rules.specs.Nets.{cell}
use Rattle.std.proofs.Common.{drop, map, ◌≡◌}
use Rattle.muxes.proofs.inner.names.Given as goal

abbrev pub invariant-loop-rule : goal.invariant-loop-rule
invariant-loop-rule l = mem l.net (map cell (drop l.rule-index l.rules)) ≡ mem l.net (map cell l.rules)
