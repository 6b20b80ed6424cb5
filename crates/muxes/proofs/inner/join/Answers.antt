use Rattle.muxes.proofs.Puts.{joins_nets, joins_put, joins_start, nets_start}
use Rattle.rules.specs.Bounds.{width_max}
use Rattle.rules.specs.Nets.{cell}
use Rattle.std.proofs.Common.{arith, length, refl, rules, ◌+◌, ◌≡◌}
use Rattle.muxes.proofs.inner.join.Goals as goal

pub loop-i-init : goal.loop-i-init
loop-i-init c = (joins_start (cell c.args.test.0) c.args.k c.args.one c.args.zero c.args.table.now, nets_start c.args.k)

pub loop-i-preserved : goal.loop-i-preserved
loop-i-preserved c =
    let v = c.loop-i.invariant in
    let a = c.args in
    let i = c.loop-i.i in
    let m = c.put_mux in
    let one : length a.one ≡ width_max = search rules in
    let zero : length a.zero ≡ width_max = search rules in
    (joins_put (cell a.test.0) a.k a.one a.zero a.table.now i (omega (arith, c.requires.0, c.loop-i-test.true)) (omega (arith, c.requires.0, c.loop-i-test.true)) (omega (arith, c.requires.1, c.loop-i-test.true)) c.loop-i.table m.new.table (a.k + i) refl v.0 m.ensures.1, joins_nets a.k i m.result c.loop-i.nets (omega (arith, c.requires.0, c.loop-i-test.true)) v.1 m.ensures.0)
