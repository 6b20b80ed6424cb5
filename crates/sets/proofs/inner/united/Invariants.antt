use Rattle.std.proofs.Common.{◌*◌}
use Rattle.rules.specs.Bounds.{rules_max}
use Rattle.sets.proofs.Unions.{Holds}
use Rattle.sets.specs.Sets.{list_of}
use Rattle.sets.proofs.inner.united.Given as goal

abbrev pub invariant-loop-x : goal.invariant-loop-x
invariant-loop-x l = Holds (2 * rules_max) (list_of l.fn.a) (list_of l.fn.b) l.x-iterator.iter.rest.now l.items l.count
