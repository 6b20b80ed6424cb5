use Rattle.std.proofs.Common.{arith, ◌≡◌, get_or, Some, sym, ap, ◌∙◌, inl, inr}
use Rattle.std.proofs.lemmas.Grind.{common_steps}
use Rattle.text.proofs.Scans.{figure_over, figure_some, figure_under}
use Rattle.text.specs.Scan.{figure_of}
use Rattle.text.proofs.inner.scan.figure.Goals as goal

pub returns-in_err-b : goal.returns-in_err-b
unfolding figure_of
returns-in_err-b c =
    let e : get_or c.args.s.now c.args.at 0 ≡ 0 = grind (arith, common_steps) in
    record { value = c.from_residual.ensures ∙ ap figure_of (sym e); low = rw c.from_residual.ensures tt }

pub returns-then-is_ascii_digit : goal.returns-then-is_ascii_digit
returns-then-is_ascii_digit c =
    let e : get_or c.args.s.now c.args.at 0 ≡ c.in_ok-b.field-0.now = grind (arith, common_steps) in
    record { value = ap Some c.from.ensures ∙ figure_some _ c.if-is_ascii_digit.ensures.cases.0 c.if-is_ascii_digit.ensures.cases.1 ∙ ap figure_of (sym e); low = omega (arith, c.if-is_ascii_digit.ensures.cases.0, c.if-is_ascii_digit.ensures.cases.1) }

pub returns-else-is_ascii_digit : goal.returns-else-is_ascii_digit
returns-else-is_ascii_digit c =
    let e : get_or c.args.s.now c.args.at 0 ≡ c.in_ok-b.field-0.now = grind (arith, common_steps) in
    record { value = elim c.if-is_ascii_digit.ensures.cases [ inl h ↦ figure_under _ h ∙ ap figure_of (sym e) | inr h ↦ figure_over _ h ∙ ap figure_of (sym e) ]; low = tt }
