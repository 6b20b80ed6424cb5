use lib.ListN.{length}
use Rattle.muxes.proofs.inner.+emit.Given as goal

abbrev pub decreases-emit : goal.decreases-emit
decreases-emit g l = length l.store.now
