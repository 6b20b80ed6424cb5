use Rattle.muxes.proofs.Splits.{can_join, can_one, can_zero, leaf_long, one_long, sends_branch, sends_leaf, zero_long}
use Rattle.std.proofs.Common.{arith, sym}
use Rattle.tree.proofs.Tails.{ends_run}
use Rattle.muxes.proofs.inner.+emit.Goals as goal

pub slice_bounds-emit-end : goal.slice_bounds-emit-end
slice_bounds-emit-end g t c = sym (one_long _ _ _ _ _ c.requires c.root_of.result _ _ _ c.root_of.ensures c.in-Branch.is)

pub emit-a-requires : goal.emit-a-requires
emit-a-requires g t c = λ κs s. let h = can_one _ _ _ _ _ c.requires c.root_of.result _ _ _ c.root_of.ensures c.in-Branch.is in (omega (arith, h.0, c.decreases), (s, h.1))

pub slice_bounds-emit-end-in-Branch : goal.slice_bounds-emit-end-in-Branch
slice_bounds-emit-end-in-Branch g t c = sym (zero_long _ _ _ _ _ c.requires c.root_of.result _ _ _ c.root_of.ensures c.in-Branch.is)

pub emit-b-requires : goal.emit-b-requires
emit-b-requires g t c =
    λ κs s.
    let h = can_zero _ _ _ _ _ c.requires c.root_of.result _ _ _ c.root_of.ensures c.in-Branch.is c.emit-a.new.table c.emit-a.result c.emit-a.auto.table c.emit-a.ensures in
    (omega (arith, h.0, c.decreases), (s, h.1))

pub join-requires : goal.join-requires
join-requires g t c =
    rw c.width.ensures (can_join _ _ _ _ _ c.requires c.root_of.result _ _ _ c.root_of.ensures c.in-Branch.is c.emit-a.new.table c.emit-a.result c.emit-a.auto.table c.emit-a.ensures c.emit-b.new.table c.emit-b.result c.emit-b.auto.table c.emit-b.ensures)

pub returns-in-Leaf : goal.returns-in-Leaf
returns-in-Leaf g t c =
    λ w e. sends_leaf (g.L.LeafValue.gives c.args.leaves.now) (g.L.LeafValue.bits c.args.leaves.now) c.args.k c.in-Leaf.n w c.args.store.now c.args.table.now c.last_leaf-nets.result c.root_of.result e (c.root_of.ensures w e) c.in-Leaf.is c.last_leaf-nets.ensures

pub returns-in-Branch : goal.returns-in-Branch
returns-in-Branch g t c =
    sends_branch _ _ _ _ _ c.requires c.root_of.result _ _ _ c.root_of.ensures c.in-Branch.is c.emit-a.new.table c.emit-a.result c.emit-a.auto.table c.emit-a.ensures c.emit-b.new.table c.emit-b.result c.emit-b.auto.table c.emit-b.ensures
    c.join.new.table c.join.result (rw c.width.ensures at c.join.ensures)

pub last_leaf-nets-requires : goal.last_leaf-nets-requires
last_leaf-nets-requires g t c =
    let p = c.requires in
    let e = p.ends in
    (ends_run p.tree c.args.store.now e, leaf_long p.tree c.args.store.now c.root_of.result c.in-Leaf.n e (c.root_of.ensures p.tree e) c.in-Leaf.is, p.wide, p.narrow)
