use Rattle.std.proofs.Common.{[], ◌+◌, ◌≤◌}
use Rattle.rules.specs.Bounds.{rules_max}
use Rattle.sets.proofs.Unions.{Holds}
use Rattle.sets.proofs.inner.collect.Given as goal

abbrev pub invariant-loop-x : goal.invariant-loop-x
invariant-loop-x l = (l.count ≤ rules_max) × Holds (rules_max + 1) l.fn.rules [] l.x-iterator.iter.rest.now l.items l.count
