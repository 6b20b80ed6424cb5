use Rattle.evaluate.proofs.Turns.{bad_is, formed-done, formed_more, formed_stop}
use Rattle.std.proofs.Common.{arith, sym, ◌∙◌}
use Rattle.evaluate.proofs.inner.formed.Goals as goal

pub returns-then-not-below : goal.returns-then-not-below
returns-then-not-below c =
    let es = c.entries-entries.result.now in
    let k = c.loop-k.k in
    bad_is c.args.count c.args.table.now es _ c.entries-entries.ensures.0 (omega (arith, c.if-room-count.false, c.room.ensures))
    (sym (formed_stop k es _ c.loop-k-test.true (sym c.below.ensures ∙ c.if-not-below.true)) ∙ c.loop-k.invariant)

pub loop-k-preserved : goal.loop-k-preserved
loop-k-preserved c =
    let es = c.entries-entries.result.now in
    let k = c.loop-k.k in
    sym (formed_more k es _ c.loop-k-test.true (sym c.below.ensures ∙ c.if-not-below.false)) ∙ c.loop-k.invariant

pub returns : goal.returns
returns c =
    let es = c.entries-entries.result.now in
    bad_is c.args.count c.args.table.now es _ c.entries-entries.ensures.0 (omega (arith, c.if-room-count.false, c.room.ensures)) (sym (formed-done c.loop-k.k es c.loop-k-test.false) ∙ c.loop-k.invariant)
