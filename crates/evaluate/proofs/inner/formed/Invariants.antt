use Rattle.evaluate.proofs.Turns.{left}
use Rattle.rules.specs.Emit.{formed}
use Rattle.std.proofs.Common.{length, ◌-◌, ◌≡◌}
use Rattle.evaluate.proofs.inner.formed.Given as goal

abbrev pub invariant-loop-k : goal.invariant-loop-k
invariant-loop-k l = formed l.k (left l.k l.entries) ≡ formed 0 (left 0 l.entries)

-- the entries that are left
abbrev pub decreases-loop-k : goal.decreases-loop-k
decreases-loop-k l = length l.entries - l.k
