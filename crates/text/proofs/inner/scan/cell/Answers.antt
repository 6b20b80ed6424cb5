use Rattle.std.proofs.Common.{◌∙◌}
use Rattle.text.proofs.Scans.{cell_is_1, cell_is_2, cell_is_3, cell_is_4, cell_none}
use Rattle.text.proofs.inner.scan.cell.Goals as goal

pub returns-in_err-a : goal.returns-in_err-a
returns-in_err-a c = c.from_residual.ensures ∙ cell_none c.args.s.now c.args.at c.in_err-a.ensures.value

pub returns-in_default : goal.returns-in_default
returns-in_default c = cell_is_1 c.args.s.now c.args.at c.in_ok-a.a c.in_ok-a.ensures.value c.in_default.ensures.value

pub returns-in_default-figure : goal.returns-in_default-figure
returns-in_default-figure c = cell_is_2 c.args.s.now c.args.at c.in_ok-a.a c.in_ok-a.ensures.value c.in-Some.b c.in-Some.ensures.value c.in_default-figure.ensures.value

pub returns-in_default-figure-2 : goal.returns-in_default-figure-2
returns-in_default-figure-2 c = cell_is_3 c.args.s.now c.args.at c.in_ok-a.a c.in_ok-a.ensures.value c.in-Some.b c.in-Some.ensures.value c.in-Some-figure.c c.in-Some-figure.ensures.value c.in_default-figure-2.ensures.value

pub returns : goal.returns
returns c = cell_is_4 c.args.s.now c.args.at c.in_ok-a.a c.in_ok-a.ensures.value c.in-Some.b c.in-Some.ensures.value c.in-Some-figure.c c.in-Some-figure.ensures.value c.in-Some-figure-2.d c.in-Some-figure-2.ensures.value
