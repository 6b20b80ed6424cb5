use Rattle.std.proofs.Common.{refl}
use Rattle.matrix.proofs.CallOuts.{fits-few, gathers_end, gathers_start, within_end, within_start, within_turn, within-room}
use Rattle.matrix.proofs.inner.outs.outputs.Goals as goal

pub loop-row-init : goal.loop-row-init
loop-row-init c = gathers_start _ _ _ (cc) c.zeros-nets.ensures

pub loop-rule-init : goal.loop-rule-init
loop-rule-init c = within_start _ _ _ _ _ _ _ _ c.loop-row.invariant c.in-Some.ensures.steps (cc) refl

pub insert-count-requires : goal.insert-count-requires
insert-count-requires c =
    let m = c.args.m.now in
    within-room _ _ _ _ _ _ c.loop-rule.invariant _ _ c.in-Some-rule.ensures.steps (fits-few m c.requires) (rw (← c.rows_in_use.ensures.items) c.rows_in_use.ensures.few)

pub loop-rule-preserved : goal.loop-rule-preserved
loop-rule-preserved c = within_turn _ _ _ _ _ _ c.loop-rule.invariant _ _ _ _ c.in-Some-rule.ensures.steps c.insert-count.ensures

pub loop-row-preserved : goal.loop-row-preserved
loop-row-preserved c = within_end _ _ _ _ _ _ c.loop-rule.invariant c.in-None-rule.ensures.steps.0

pub returns : goal.returns
returns c = gathers_end c.args.m.now _ _ _ c.loop-row.invariant c.in-None.ensures.steps.0
