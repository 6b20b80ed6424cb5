use Rattle.std.proofs.Common.{◌≤◌, length}
use Rattle.edges.proofs.numbers.fill.Given as goal

abbrev pub invariant-loop-number : goal.invariant-loop-number
invariant-loop-number l = l.count ≤ length l.room
