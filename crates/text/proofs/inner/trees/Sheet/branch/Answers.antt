use Rattle.std.proofs.Common.{ℕ, List, [], ◌∷◌, ◌+◌, ◌++◌, length, ap, sym, ◌∙◌, arith}
use Rattle.print.proofs.Laws.{put_then}
use Rattle.rules.specs.Print.{arm_head, indent}
use Rattle.rules.specs.Trits.{bit}
use Rattle.text.proofs.Lays.{branch_is, first_in, head_few, lays_as}
use Rattle.text.proofs.inner.trees.Sheet.branch.Goals as goal

pub head-requires : goal.head-requires
head-requires c = omega (arith, ap length c.new-line.ensures, head_few (3 + c.args.arm.test.0) (bit c.args.arm.one))

pub byte-requires : goal.byte-requires
byte-requires c =
    let h = arm_head 0 (3 + c.args.arm.test.0) (bit c.args.arm.one) in
    (omega arith, omega (arith, ap length (first_in h c.new-line.ensures c.head.ensures), head_few (3 + c.args.arm.test.0) (bit c.args.arm.one)))

pub lay-requires : goal.lay-requires
lay-requires c =
    let h = arm_head 0 (3 + c.args.arm.test.0) (bit c.args.arm.one) in
    let t = c.as_bytes.ensures ∙ first_in (h ++ (10 ∷ [])) c.new-line.ensures (put_then c.new-line.result h (10 ∷ []) c.head.ensures c.byte.ensures) in
    omega (arith, c.requires, ap (λ (k : List ℕ). length (indent c.args.arm.level ++ k)) t, ap length (branch_is c.args.arm.level (3 + c.args.arm.test.0) (bit c.args.arm.one)))

pub returns : goal.returns
returns c =
    let h = arm_head 0 (3 + c.args.arm.test.0) (bit c.args.arm.one) in
    let t = c.as_bytes.ensures ∙ first_in (h ++ (10 ∷ [])) c.new-line.ensures (put_then c.new-line.result h (10 ∷ []) c.head.ensures c.byte.ensures) in
    lays_as (ap (λ (k : List ℕ). indent c.args.arm.level ++ k) t ∙ sym (branch_is c.args.arm.level (3 + c.args.arm.test.0) (bit c.args.arm.one))) c.lay.ensures
