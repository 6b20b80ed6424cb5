use Rattle.std.proofs.Common.{ap, length, sym}
use Rattle.std.proofs.Math.Bool.{or-false}
use Rattle.matrix.proofs.CallSteps.{enable_tall, enable_wide}
use Rattle.matrix.proofs.inner.numbers.add_enable.Goals as goal

pub returns : goal.returns
returns c =
    let m = c.args.m.now in
    let n = c.nets_in_use.ensures in
    let r = c.rows_in_use.ensures in
    let d = c.default.ensures in
    let w = enable_wide m c.args.enable _ n.few (ap length n.items) in
    let t = enable_tall m c.args.enable _ r.few (ap length r.items) in
    simp (c.or.ensures, c.faults.ensures, d.0, d.1.1.1.0, d.1.1.1.1.1, or-false, c.over.ensures, sym w, sym t) at c.first.ensures
