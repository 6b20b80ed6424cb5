use Rattle.std.proofs.Common.{rules, arith, ◌≡◌, ◌+◌, get_or, ◌∙◌}
use Rattle.std.proofs.lemmas.Grind.{common_steps}
use Rattle.text.proofs.Scans.{word_0, word_1, word_cell, word_no, word_none, word_x}
use Rattle.text.proofs.inner.scan.token.Goals as goal

pub returns-in_err-get : goal.returns-in_err-get
returns-in_err-get c =
    let e : get_or c.args.s.now c.args.at 0 ≡ 0 = grind (arith, common_steps) in
    c.from_residual.ensures ∙ word_none c.args.s.now c.args.at 0 e (λ q. omega (arith, q))

pub returns-then-branch-ne32 : goal.returns-then-branch-ne32
returns-then-branch-ne32 c =
    let e : get_or c.args.s.now c.args.at 0 ≡ c.in_ok-get.field-0.now = grind (arith, common_steps) in
    word_none c.args.s.now c.args.at c.in_ok-get.field-0.now e c.if-branch-ne32.true

pub returns-in_err-get-2 : goal.returns-in_err-get-2
returns-in_err-get-2 c =
    let e : get_or c.args.s.now c.args.at 0 ≡ c.in_ok-get.field-0.now = grind (arith, common_steps) in
    let d : get_or c.args.s.now (c.args.at + 1) 0 ≡ 0 = grind (arith, common_steps) in
    c.from_residual-in_err-get-2.ensures ∙ word_no c.args.s.now c.args.at c.in_ok-get.field-0.now e c.if-branch-ne32.false 0 d (λ q. omega (arith, q)) (λ q. omega (arith, q)) (λ q. omega (arith, q)) (λ q. omega (arith, q))

pub returns-in-37 : goal.returns-in-37
returns-in-37 c =
    let e : get_or c.args.s.now c.args.at 0 ≡ c.in_ok-get.field-0.now = grind (arith, common_steps) in
    let d : get_or c.args.s.now (c.args.at + 1) 0 ≡ c.in_ok-get-2.field-0.now = grind (arith, common_steps) in
    c.cell.ensures ∙ word_cell c.args.s.now c.args.at c.in_ok-get.field-0.now e c.if-branch-ne32.false c.in_ok-get-2.field-0.now d c.in-37.is

pub returns-in-48 : goal.returns-in-48
returns-in-48 c =
    let e : get_or c.args.s.now c.args.at 0 ≡ c.in_ok-get.field-0.now = grind (arith, common_steps) in
    let d : get_or c.args.s.now (c.args.at + 1) 0 ≡ c.in_ok-get-2.field-0.now = grind (arith, common_steps) in
    word_0 c.args.s.now c.args.at c.in_ok-get.field-0.now e c.if-branch-ne32.false c.in_ok-get-2.field-0.now d c.in-48.is

pub returns-in-49 : goal.returns-in-49
returns-in-49 c =
    let e : get_or c.args.s.now c.args.at 0 ≡ c.in_ok-get.field-0.now = grind (arith, common_steps) in
    let d : get_or c.args.s.now (c.args.at + 1) 0 ≡ c.in_ok-get-2.field-0.now = grind (arith, common_steps) in
    word_1 c.args.s.now c.args.at c.in_ok-get.field-0.now e c.if-branch-ne32.false c.in_ok-get-2.field-0.now d c.in-49.is

pub returns-in-88 : goal.returns-in-88
returns-in-88 c =
    let e : get_or c.args.s.now c.args.at 0 ≡ c.in_ok-get.field-0.now = grind (arith, common_steps) in
    let d : get_or c.args.s.now (c.args.at + 1) 0 ≡ c.in_ok-get-2.field-0.now = grind (arith, common_steps) in
    word_x c.args.s.now c.args.at c.in_ok-get.field-0.now e c.if-branch-ne32.false c.in_ok-get-2.field-0.now d c.in-88.is

pub returns-in_default : goal.returns-in_default
returns-in_default c =
    let e : get_or c.args.s.now c.args.at 0 ≡ c.in_ok-get.field-0.now = grind (arith, common_steps) in
    let d : get_or c.args.s.now (c.args.at + 1) 0 ≡ c.in_ok-get-2.field-0.now = grind (arith, common_steps) in
    word_no c.args.s.now c.args.at c.in_ok-get.field-0.now e c.if-branch-ne32.false c.in_ok-get-2.field-0.now d (search rules) (search rules) (search rules) (search rules)
