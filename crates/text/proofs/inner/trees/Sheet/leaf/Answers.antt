use lib.ListN.{length-map}
use Rattle.std.proofs.lemmas.Bool.{eqb-false}
use Rattle.std.proofs.Common.{eqb-true, ℕ, List, ◌+◌, ◌++◌, length, map, ap, sym, ◌∙◌, arith}
use Rattle.print.proofs.Laws.{put_then}
use Rattle.rules.specs.Nets.{cell}
use Rattle.rules.specs.Print.{arm_head, indent}
use Rattle.rules.specs.Trits.{bit}
use Rattle.text.proofs.Lays.{arm_empty, arm_leaf, end_few, first_in, head_few, lays_as, lays_none}
use Rattle.text.specs.Trees.{rule_end}
use Rattle.text.proofs.inner.trees.Sheet.leaf.Goals as goal

pub returns-then-is_empty : goal.returns-then-is_empty
returns-then-is_empty c =
    let a = c.args in
    let rs = map cell a.leaf.rules.now in
    lays_as (sym (arm_empty a.arm.level (3 + a.arm.test.0) (bit a.arm.one) rs (omega (arith, length-map a.leaf.rules.now cell, eqb-true _ _ (sym c.is_empty.ensures ∙ c.if-is_empty.true))))) (lays_none a.self.now)

pub head-requires : goal.head-requires
head-requires c = omega (arith, ap length c.new-line.ensures, head_few (3 + c.args.arm.test.0) (bit c.args.arm.one))

pub end-requires : goal.end-requires
end-requires c =
    let a = c.args in
    let h = arm_head 0 (3 + a.arm.test.0) (bit a.arm.one) in
    let rs = map cell a.leaf.rules.now in
    omega (arith, ap length (first_in h c.new-line.ensures c.head.ensures), head_few (3 + a.arm.test.0) (bit a.arm.one), end_few rs (omega (arith, a.leaf.few, length-map a.leaf.rules.now cell)))

pub lay-requires : goal.lay-requires
lay-requires c =
    let a = c.args in
    let h = arm_head 0 (3 + a.arm.test.0) (bit a.arm.one) in
    let rs = map cell a.leaf.rules.now in
    let t = c.as_bytes.ensures ∙ first_in (h ++ rule_end rs) c.new-line.ensures (put_then c.new-line.result h (rule_end rs) c.head.ensures c.end.ensures) in
    let l = arm_leaf a.arm.level (3 + a.arm.test.0) (bit a.arm.one) rs (λ q. eqb-false (length a.leaf.rules.now) 0 (sym c.is_empty.ensures ∙ c.if-is_empty.false) (sym (length-map a.leaf.rules.now cell) ∙ q)) in
    omega (arith, c.requires, ap length l, ap (λ (k : List ℕ). length (indent a.arm.level ++ k)) t)

pub returns : goal.returns
returns c =
    let a = c.args in
    let h = arm_head 0 (3 + a.arm.test.0) (bit a.arm.one) in
    let rs = map cell a.leaf.rules.now in
    let t = c.as_bytes.ensures ∙ first_in (h ++ rule_end rs) c.new-line.ensures (put_then c.new-line.result h (rule_end rs) c.head.ensures c.end.ensures) in
    let l = arm_leaf a.arm.level (3 + a.arm.test.0) (bit a.arm.one) rs (λ q. eqb-false (length a.leaf.rules.now) 0 (sym c.is_empty.ensures ∙ c.if-is_empty.false) (sym (length-map a.leaf.rules.now cell) ∙ q)) in
    lays_as (ap (λ (k : List ℕ). indent a.arm.level ++ k) t ∙ sym l) c.lay.ensures
