use Rattle.lists.specs.Vec.{vec}
use Rattle.muxes.proofs.Lents.{leaf_slice}
use Rattle.rules.specs.Bounds.{width_max}
use Rattle.std.proofs.Common.{ℕ, List, ap, ◌∙◌}
use Rattle.muxes.proofs.inner.last_leaf.Goals as goal

pub returns : goal.returns
returns g c = λ rs h e. c.nets.ensures ∙ ap (λ (l : List ℕ). vec width_max 0 (g.L.LeafValue.gives c.args.leaves.now l)) (leaf_slice rs c.args.store.now c.args.n h e)
