use lib.ListN.{length}
use Rattle.tree.proofs.inner.+is_tree.Given as goal

abbrev pub decreases-is_tree : goal.decreases-is_tree
decreases-is_tree l = length l.store.now
