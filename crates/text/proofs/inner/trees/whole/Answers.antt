use Rattle.std.proofs.Common.{ℕ, List, rules, refl, ap, sym, ◌∙◌, arith}
use lib.Seq.{length-take-le}
use Rattle.rules.specs.Nets.{cell}
use Rattle.rules.specs.Print.{printed_tree}
use Rattle.rules.specs.Tree.{leaf as leaf_of}
use Rattle.text.proofs.Lays.{laid_in, lays_as}
use Rattle.text.specs.declared.inner.trees.Sheet.{Sheet}
use Rattle.text.proofs.Trees.{first_fits, lays_arms, leaf_read, second_fits}
use Rattle.tree.proofs.Splits.{split}
use Rattle.text.proofs.inner.trees.whole.Goals as goal
use Rattle.text.proofs.inner.trees.whole.Goals.{in-Leaf, in-Branch}

pub last-requires : goal.last-requires
last-requires c =
    let p = c.requires.0 in
    (leaf_read p.tree c.args.store.now c.root_of.result c.in-Leaf.n p.ends (c.root_of.ensures p.tree p.ends) c.in-Leaf.is).fits

pub invariant_of-arm : goal.invariant_of-arm
invariant_of-arm c =
    let p = c.requires.0 in
    let h = split p.tree c.args.store.now c.root_of.result c.in-Branch.test c.in-Branch.one c.in-Branch.zero p.ends (c.root_of.ensures p.tree p.ends) c.in-Branch.is in
    record { low = h.low }

pub slice_bounds-arm-end : goal.slice_bounds-arm-end
slice_bounds-arm-end c =
    let p = c.requires.0 in
    let h = split p.tree c.args.store.now c.root_of.result c.in-Branch.test c.in-Branch.one c.in-Branch.zero p.ends (c.root_of.ensures p.tree p.ends) c.in-Branch.is in
    sym (length-take-le c.in-Branch.zero c.args.store.now (omega (arith, h.zero_in)))

pub arm-requires : goal.arm-requires
arm-requires c =
    let p = c.requires.0 in
    let h = split p.tree c.args.store.now c.root_of.result c.in-Branch.test c.in-Branch.one c.in-Branch.zero p.ends (c.root_of.ensures p.tree p.ends) c.in-Branch.is in
    record { tree = h.z; ends = h.zero_ends; fits = first_fits _ p.tree h.z h.o c.args.store.now h.is p.ends c.requires.1 }

pub slice_bounds-arm-end-in-Branch : goal.slice_bounds-arm-end-in-Branch
slice_bounds-arm-end-in-Branch c =
    let p = c.requires.0 in
    let h = split p.tree c.args.store.now c.root_of.result c.in-Branch.test c.in-Branch.one c.in-Branch.zero p.ends (c.root_of.ensures p.tree p.ends) c.in-Branch.is in
    sym (length-take-le c.in-Branch.one c.args.store.now (omega (arith, h.one_in)))

pub arm-requires-in-Branch : goal.arm-requires-in-Branch
arm-requires-in-Branch c =
    let p = c.requires.0 in
    let h = split p.tree c.args.store.now c.root_of.result c.in-Branch.test c.in-Branch.one c.in-Branch.zero p.ends (c.root_of.ensures p.tree p.ends) c.in-Branch.is in
    record { tree = h.o; ends = h.one_ends; fits = second_fits _ p.tree h.z h.o c.args.store.now h.is p.ends c.requires.1 c.arm.new.self.at (c.arm.ensures h.z h.zero_ends).laid.next }

pub returns : goal.returns
returns c = λ t e. elim c.match-root_of.branch [
  | in-Leaf w ↦
      let h = leaf_read t c.args.store.now c.root_of.result w.in-Leaf.n e (c.root_of.ensures t e) w.in-Leaf.is in
      let k = ap (λ (s : Sheet). s.out.ghost_name) w.sheet-is ∙ w.alone.ensures.same_reference in
      laid_in refl refl (lays_as (ap (λ (l : List ℕ). printed_tree (leaf_of l)) w.last.ensures ∙ sym (ap printed_tree h.is)) w.alone.ensures) (search rules) (ap (λ (s : Sheet). s.at) w.sheet-is)
  | in-Branch w ↦
      let h = split t c.args.store.now c.root_of.result w.in-Branch.test w.in-Branch.one w.in-Branch.zero e (c.root_of.ensures t e) w.in-Branch.is in
      let l = lays_arms (cell w.in-Branch.test.0) t h.z h.o h.is (w.arm.ensures h.z h.zero_ends) (w.arm-in-Branch.ensures h.o h.one_ends) in
      let k = ap (λ (s : Sheet). s.out.ghost_name) w.sheet-is ∙ l.same_reference in
      laid_in refl refl l (search rules) (ap (λ (s : Sheet). s.at) w.sheet-is)
]
