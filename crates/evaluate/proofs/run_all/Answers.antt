use Rattle.evaluate.proofs.Turns.{runs_end, runs_start, runs_turn, table-room}
use Rattle.std.proofs.Common.{arith, length, rules, ◌<◌, ◌≡◌}
use Rattle.rules.specs.Bounds.{mux_max}
use Rattle.evaluate.proofs.run_all.Goals as goal

pub loop-k-preserved : goal.loop-k-preserved
loop-k-preserved c =
    let es = c.entries-entry-items.result.now in
    let n : length c.args.values.now ≡ mux_max = search rules in
    let r : c.loop-k.k < length c.args.values.now = omega (arith, table-room c.args.count c.args.table.now c.requires.0, c.entries-entry-items.ensures.1, c.loop-k-test.true) in
    runs_turn c.args.trits.now c.args.values.now c.loop-k.values es _ c.loop-k.k c.mux.result c.requires.1 c.loop-k-test.true r c.loop-k.invariant c.mux.ensures

pub returns : goal.returns
returns c =
    let es = c.entries-entry-items.result.now in
    let t = c.entries-entry-items.ensures in
    runs_end c.args.trits.now c.args.table.now c.args.values.now c.loop-k.values es c.args.count c.loop-k.k t.0 c.requires.0 t.1 (omega (arith, c.loop-k-test.false, c.loop-k.auto.k-end)) c.loop-k.invariant
