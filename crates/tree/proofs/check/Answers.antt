use Prim.Native.Nat.{ℕ, ◌*◌, ◌+◌}
use mathlib.Core.List.{List}
use mathlib.Core.Path.{sym, ap, ◌∙◌}
use native.Mathlib.Omega.{arith}
use lib.Seq.{length-take-le}
use Rattle.rules.specs.Bounds.{node_run}
use Rattle.rules.specs.Refuse.{done}
use Rattle.tree.proofs.Handed.{check_none, check_some, tree_at-size, tree_far, tree_none, tree-there}
use Rattle.tree.proofs.check.Goals as goal

pub returns-then-places-at : goal.returns-then-places-at
returns-then-places-at c = sym (check_none c.args.store.now c.args.root.0 (tree_far c.args.store.now c.args.root.0 (omega (arith, c.if-places-at.true, c.places.ensures))))

pub returns-then-is_tree : goal.returns-then-is_tree
returns-then-is_tree c =
    let xs : List ℕ = c.args.store.now in
    let p : ℕ = c.args.root.0 in
    let w = c.is_tree.ensures.yes c.if-is_tree.true in
    ap done (sym (tree_at-size xs p (omega (arith, c.if-places-at.false, c.places.ensures)) w))
    ∙ sym (check_some xs p w.tree (tree-there xs p (omega (arith, c.if-places-at.false, c.places.ensures)) w))

pub returns : goal.returns
returns c = sym (check_none c.args.store.now c.args.root.0 (tree_none c.args.store.now c.args.root.0 (c.is_tree.ensures.no c.if-is_tree.false)))
