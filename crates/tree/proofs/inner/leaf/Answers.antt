use Rattle.tree.proofs.Grows.{leaf_built, leaf_short}
use Rattle.tree.proofs.inner.leaf.Goals as goal

pub returns-then-store-lt-NODE_RUN : goal.returns-then-store-lt-NODE_RUN
returns-then-store-lt-NODE_RUN c = leaf_short c.args.rules.now c.args.store.now _ c.if-store-lt-NODE_RUN.true

pub returns : goal.returns
returns c =
    leaf_built c.args.rules.now c.args.store.now c.put_leaf.new.store _
    c.requires c.if-store-lt-NODE_RUN.false c.put_leaf.ensures
