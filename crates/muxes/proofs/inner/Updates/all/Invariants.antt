use Rattle.lists.specs.Lists.{all}
use Rattle.muxes.specs.Lent.{Tests, lent}
use Rattle.rules.specs.Emit.{Update}
use Rattle.std.proofs.Common.{Bool, length, ◌≡◌}
use Rattle.muxes.proofs.inner.Updates.all.Given as goal

abbrev pub invariant-loop-first : goal.invariant-loop-first
invariant-loop-first g l = goal.F-IsAlwaysCallable g l.test × ((p : Update → Bool) → Tests (goal.F-post g l.test) p → all p (lent l.rest) ≡ all p (lent l.self))

abbrev pub decreases-loop-first : goal.decreases-loop-first
decreases-loop-first g l = length (lent l.rest)
