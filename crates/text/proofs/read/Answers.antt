use Rattle.std.proofs.Common.{ℕ, List, [], take, ap, sym, ◌∙◌, eqb-true}
use Rattle.rules.specs.Answers.{read_made}
use Rattle.rules.specs.Read.{lines, read_rows}
use Rattle.text.proofs.Reader.{head-fits, head-off, head_on, none_read}
use Rattle.text.specs.Calls.{read_from}
use Rattle.text.specs.Taken.{value_taken}
use Rattle.text.proofs.read.Goals as goal

pub returns-then-is_empty : goal.returns-then-is_empty
returns-then-is_empty c = c.wrong.ensures ∙ ap read_from (none_read c.args.text.now (eqb-true _ _ (sym c.if-is_empty.ensures)))

pub returns-in_default : goal.returns-in_default
returns-in_default c =
    let z = c.in_default.ensures ∙ ap value_taken c.split_at.ensures.front in
    c.wrong-in_default.ensures ∙ ap read_from (head-off c.args.text.now c.end.result c.end.ensures z)

pub body-requires : goal.body-requires
body-requires c = head-fits c.args.text.now c.end.result c.end.ensures c.in-Some.head (c.in-Some.ensures ∙ ap value_taken c.split_at.ensures.front)

pub returns : goal.returns
returns c =
    let z = c.in-Some.ensures ∙ ap value_taken c.split_at.ensures.front in
    let h = c.in-Some.head in
    c.body.ensures ∙ ap (λ (l : List ℕ). read_from (read_made (read_rows (take h.columns h.value) [] (lines l)))) c.split_at.ensures.back
    ∙ ap read_from (head_on c.args.text.now c.end.result c.end.ensures h z)
