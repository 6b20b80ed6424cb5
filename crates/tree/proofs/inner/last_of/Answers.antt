use Prim.Native.Nat.{ℕ, ◌<◌}
use mathlib.Core.Path.{◌≡◌, ap, ◌∙◌}
use native.Mathlib.Omega.{arith}
use lib.ListN.{get_or, length}
use Rattle.rules.specs.Bounds.{node_run}
use Rattle.tree.proofs.Forms.{lone, too_high, tree_ends, tree-run}
use Rattle.tree.specs.Form.{LastOf}
use Rattle.tree.proofs.inner.last_of.Goals as goal

pub returns-then-store-lt-NODE_RUN : goal.returns-then-store-lt-NODE_RUN
unfolding LastOf
returns-then-store-lt-NODE_RUN c = λ w. omega (arith, c.if-store-lt-NODE_RUN.true, tree-run c.args.store.now w)

pub returns-then-head-gt-NODE_RUN : goal.returns-then-head-gt-NODE_RUN
unfolding LastOf
returns-then-head-gt-NODE_RUN c = λ w. too_high c.args.store.now w.tree (tree_ends c.args.store.now w) (omega (arith, c.if-head-gt-NODE_RUN.true, c.from-head.ensures))

pub returns-then-e-ne0 : goal.returns-then-e-ne0
unfolding LastOf
returns-then-e-ne0 c =
    λ w.
    let l = lone c.args.store.now w.tree w.is w.good (λ q. c.if-head-eq-NODE_RUN.false (c.from-head.ensures ∙ q)) in
    c.if-e-ne0.true (omega (arith, l))

pub returns-then-is_leaf : goal.returns-then-is_leaf
unfolding LastOf
returns-then-is_leaf c = c.is_leaf.ensures.yes c.if-is_leaf.true

pub returns : goal.returns
unfolding LastOf
returns c = c.is_leaf.ensures.no c.if-is_leaf.false
