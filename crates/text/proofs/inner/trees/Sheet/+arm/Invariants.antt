use Rattle.std.proofs.Common.{length}
use Rattle.text.proofs.inner.trees.Sheet.+arm.Given as goal

abbrev pub decreases-arm : goal.decreases-arm
decreases-arm l = length l.store.now
