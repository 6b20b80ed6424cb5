use Rattle.std.proofs.Common.{arith, ap, sym, ◌∙◌, eqb-true}
use Rattle.text.proofs.Reader.{rowed_done, rowed_full, rowed_more, rowed_none, rowed_off}
use Rattle.text.specs.Taken.{row_taken}
use Rattle.text.proofs.inner.reader.body.Goals as goal

pub loop-rest-init : goal.loop-rest-init
loop-rest-init c = rowed_none c.args.head c.args.text.now c.none-empty.result c.none-empty.ensures

pub returns-in_default : goal.returns-in_default
returns-in_default c =
    let l = c.loop-rest in
    rowed_off c.args.head c.requires c.args.text.now l.rows l.count l.rest.now l.invariant c.end.result c.end.ensures (c.in_default.ensures ∙ ap (row_taken c.args.head.columns) c.split_at.ensures.front) c.wrong.result c.wrong.ensures

pub returns-then-count-eq-ROWS_MAX : goal.returns-then-count-eq-ROWS_MAX
returns-then-count-eq-ROWS_MAX c =
    let l = c.loop-rest in
    rowed_full c.args.head c.requires c.args.text.now l.rows l.count l.rest.now l.invariant c.end.result c.end.ensures (omega (arith, c.if-count-eq-ROWS_MAX.true)) c.wrong-then-count-eq-ROWS_MAX.result c.wrong-then-count-eq-ROWS_MAX.ensures

pub loop-rest-preserved : goal.loop-rest-preserved
loop-rest-preserved c =
    let l = c.loop-rest in
    let m = rowed_more c.args.head c.requires c.args.text.now l.rows l.count l.rest.now l.invariant c.end.result c.end.ensures c.in-Some.row (c.in-Some.ensures ∙ ap (row_taken c.args.head.columns) c.split_at.ensures.front) c.if-count-eq-ROWS_MAX.false in
    rw c.split_at.ensures.back m

pub returns : goal.returns
returns c =
    let l = c.loop-rest in
    rowed_done c.args.head c.requires c.args.text.now l.rows l.count l.rest.now l.invariant (eqb-true _ _ (sym c.loop-rest-test.ensures))
