use Rattle.muxes.proofs.Lents.{later}
use Rattle.muxes.specs.Lent.{found, lent}
use Rattle.rules.specs.Emit.{update_for}
use Rattle.std.proofs.Common.{length, ◌≡◌}
use Rattle.muxes.proofs.inner.Updates.last_for.Given as goal

abbrev pub invariant-loop-first : goal.invariant-loop-first
invariant-loop-first l = later (lent l.rest) l.net (found l.last) ≡ update_for (lent l.self) l.net

abbrev pub decreases-loop-first : goal.decreases-loop-first
decreases-loop-first l = length (lent l.rest)
