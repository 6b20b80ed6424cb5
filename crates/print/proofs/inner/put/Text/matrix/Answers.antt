use Rattle.std.proofs.Common.{rules, ℕ, length, length-append, take, append-nil, ap, sym, arith, take_all}
use Rattle.print.proofs.Laws.{put_as, put_then}
use Rattle.print.proofs.Rows.{nothing, printed_is, printed_long, row_at, rows_free, rows_put}
use Rattle.print.specs.Texts.{rows_text}
use Rattle.print.proofs.inner.put.Text.matrix.Goals as goal

pub value-requires : goal.value-requires
value-requires g c = (search rules, (c.requires.fits.low, omega (arith, printed_long c.args.m.now)))

pub loop-r-init : goal.loop-r-init
unfolding rows_text
loop-r-init g c = sym (append-nil c.value.new.self)

pub row-requires : goal.row-requires
row-requires g c =
    let rs = take c.args.m.now.count c.args.m.now.rows in
    let i = c.loop-r.r-index in
    (search rules, (row_at rs i nothing c.loop-r-test.true c.requires.fits.each, rows_free rs i nothing c.loop-r-test.true c.value.new.self c.loop-r.self c.loop-r.invariant g.row.N (omega (arith, printed_long c.args.m.now, length-append {A = ℕ}, ap length c.value.ensures))))

pub loop-r-preserved : goal.loop-r-preserved
loop-r-preserved g c =
    let rs = take c.args.m.now.count c.args.m.now.rows in
    rows_put rs c.loop-r.r-index nothing c.loop-r-test.true c.value.new.self c.loop-r.self c.loop-r.invariant c.row.new.self c.row.ensures

pub returns : goal.returns
returns g c =
    let rs = take c.args.m.now.count c.args.m.now.rows in
    let o = c.args.self.now in
    put_as o (sym (printed_is c.args.m.now)) (put_then o _ _ c.value.ensures (put_as c.value.new.self (ap rows_text (take_all c.loop-r.r-index rs c.loop-r-test.false)) c.loop-r.invariant))
