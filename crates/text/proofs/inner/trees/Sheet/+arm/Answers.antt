use Rattle.std.proofs.Common.{ℕ, List, ◌≡◌, ◌+◌, length, take, ap, sym, arith}
use lib.Seq.{length-take-le}
use Rattle.rules.specs.Nets.{cell}
use Rattle.rules.specs.Print.{arm as arm_of}
use Rattle.rules.specs.Tree.{Tree, leaf as leaf_of}
use Rattle.rules.specs.Trits.{bit}
use Rattle.text.proofs.Trees.{branch_fits, lays_leaf, lays_node, leaf_read, level_fits, one-fits, zero_fits}
use Rattle.tree.proofs.Splits.{split}
use Rattle.text.proofs.inner.trees.Sheet.+arm.Goals as goal

pub last-requires : goal.last-requires
last-requires t c =
    let p = c.requires in
    (leaf_read p.tree c.args.store.now c.root_of.result c.in-Leaf.n p.ends (c.root_of.ensures p.tree p.ends) c.in-Leaf.is).fits

pub leaf-requires : goal.leaf-requires
leaf-requires t c =
    let p = c.requires in
    let h = leaf_read p.tree c.args.store.now c.root_of.result c.in-Leaf.n p.ends (c.root_of.ensures p.tree p.ends) c.in-Leaf.is in
    omega (arith, p.fits, ap (λ (l : List ℕ). length (arm_of c.args.arm.level (3 + c.args.arm.test.0) (bit c.args.arm.one) (leaf_of l))) c.last.ensures, ap (λ (w : Tree). length (arm_of c.args.arm.level (3 + c.args.arm.test.0) (bit c.args.arm.one) w)) h.is)

pub branch-self-requires : goal.branch-self-requires
branch-self-requires t c =
    let h = split c.requires.tree c.args.store.now c.root_of.result c.in-Branch.test c.in-Branch.one c.in-Branch.zero c.requires.ends (c.root_of.ensures c.requires.tree c.requires.ends) c.in-Branch.is in
    branch_fits c.args.arm.level (3 + c.args.arm.test.0) (bit c.args.arm.one) c.args.self.now.at _ _ h.z h.o h.is c.requires.fits

pub overflow_add-level : goal.overflow_add-level
overflow_add-level t c =
    let h = split c.requires.tree c.args.store.now c.root_of.result c.in-Branch.test c.in-Branch.one c.in-Branch.zero c.requires.ends (c.root_of.ensures c.requires.tree c.requires.ends) c.in-Branch.is in
    omega (arith, level_fits c.args.arm.level (3 + c.args.arm.test.0) (bit c.args.arm.one) c.args.self.now.at _ _ h.z h.o h.is c.requires.fits)

pub invariant_of-arm : goal.invariant_of-arm
invariant_of-arm t c =
    let h = split c.requires.tree c.args.store.now c.root_of.result c.in-Branch.test c.in-Branch.one c.in-Branch.zero c.requires.ends (c.root_of.ensures c.requires.tree c.requires.ends) c.in-Branch.is in
    record { low = h.low }

pub slice_bounds-arm-end : goal.slice_bounds-arm-end
slice_bounds-arm-end t c =
    let h = split c.requires.tree c.args.store.now c.root_of.result c.in-Branch.test c.in-Branch.one c.in-Branch.zero c.requires.ends (c.root_of.ensures c.requires.tree c.requires.ends) c.in-Branch.is in
    sym (length-take-le c.in-Branch.zero c.args.store.now (omega (arith, h.zero_in)))

pub arm-requires : goal.arm-requires
arm-requires t c =
    let h = split c.requires.tree c.args.store.now c.root_of.result c.in-Branch.test c.in-Branch.one c.in-Branch.zero c.requires.ends (c.root_of.ensures c.requires.tree c.requires.ends) c.in-Branch.is in
    let l : length (take c.in-Branch.zero c.args.store.now) ≡ c.in-Branch.zero = length-take-le c.in-Branch.zero c.args.store.now (omega (arith, h.zero_in)) in
    let f = zero_fits c.args.arm.level (3 + c.args.arm.test.0) (bit c.args.arm.one) c.args.self.now.at _ _ h.z h.o h.is c.requires.fits c.branch-self.new.self.at c.branch-self.ensures.laid.next in
    (omega (arith, l, h.zero_in), record { tree = h.z; ends = h.zero_ends; fits = f })

pub slice_bounds-arm-end-in-Branch : goal.slice_bounds-arm-end-in-Branch
slice_bounds-arm-end-in-Branch t c =
    let h = split c.requires.tree c.args.store.now c.root_of.result c.in-Branch.test c.in-Branch.one c.in-Branch.zero c.requires.ends (c.root_of.ensures c.requires.tree c.requires.ends) c.in-Branch.is in
    sym (length-take-le c.in-Branch.one c.args.store.now (omega (arith, h.one_in)))

pub arm-requires-in-Branch : goal.arm-requires-in-Branch
arm-requires-in-Branch t c =
    let h = split c.requires.tree c.args.store.now c.root_of.result c.in-Branch.test c.in-Branch.one c.in-Branch.zero c.requires.ends (c.root_of.ensures c.requires.tree c.requires.ends) c.in-Branch.is in
    let l : length (take c.in-Branch.one c.args.store.now) ≡ c.in-Branch.one = length-take-le c.in-Branch.one c.args.store.now (omega (arith, h.one_in)) in
    let f = one-fits c.args.arm.level (3 + c.args.arm.test.0) (bit c.args.arm.one) c.args.self.now.at _ _ h.z h.o h.is c.requires.fits c.branch-self.new.self.at c.arm.new.self.at c.branch-self.ensures.laid.next (c.arm.ensures h.z h.zero_ends).laid.next in
    (omega (arith, l, h.one_in), record { tree = h.o; ends = h.one_ends; fits = f })

pub returns-in-Leaf : goal.returns-in-Leaf
returns-in-Leaf t c = λ w e. lays_leaf c.args.arm.level (3 + c.args.arm.test.0) (bit c.args.arm.one) w c.args.store.now c.in-Leaf.n _ (leaf_read w c.args.store.now c.root_of.result c.in-Leaf.n e (c.root_of.ensures w e) c.in-Leaf.is) c.last.ensures c.leaf.ensures

pub returns-in-Branch : goal.returns-in-Branch
returns-in-Branch t c = λ w e.
    let h = split w c.args.store.now c.root_of.result c.in-Branch.test c.in-Branch.one c.in-Branch.zero e (c.root_of.ensures w e) c.in-Branch.is in
    lays_node c.args.arm.level (3 + c.args.arm.test.0) (bit c.args.arm.one) (cell c.in-Branch.test.0) w h.z h.o h.is c.branch-self.ensures (c.arm.ensures h.z h.zero_ends) (c.arm-in-Branch.ensures h.o h.one_ends)
