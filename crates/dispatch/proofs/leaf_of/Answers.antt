use lib.ListN.{length}
use mathlib.Core.List.{List}
use mathlib.Core.Path.{◌∙◌, subst}
use native.Mathlib.Omega.{arith}
use Prim.Native.Nat.{ℕ}
use Rattle.dispatch.proofs.Leaves.{first-few, first-rules}
use Rattle.matrix.proofs.StepHeld.{clean_held}
use Rattle.matrix.specs.Mat.{view}
use Rattle.rules.specs.Tree.{leaf}
use Rattle.tree.specs.Grown.{Grown}
use Rattle.dispatch.proofs.leaf_of.Goals as goal

pub returns : goal.returns
returns c =
    let m = c.args.m in
    let p = c.requires in
    subst (λ (rs : List ℕ). Grown (leaf rs) c.args.store.now c.leaf.new.store c.leaf.result)
    (c.slice.ensures.items ∙ first-rules (length (view m).nets) (view m).rows m.rows p.sized.each (clean_held m p).rows) c.leaf.ensures
