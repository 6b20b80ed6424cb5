use mathlib.Core.Path.{◌∙◌, ap, refl}
use native.Mathlib.Omega.{arith}
use Rattle.matrix.proofs.StepHeld.{clean_used, front_at, past, row_long, row_tidy}
use Rattle.matrix.proofs.StepLaws.{enabled_first, enabled_is, enabled_start, enabled_turn}
use Rattle.rows.specs.declared.Row.{Row}
use Rattle.rows.specs.Rows as rows
use Rattle.rules.specs.Matrix.{widened}
use Rattle.matrix.proofs.inner.step.enabled.Goals as goal

pub loop-i-init : goal.loop-i-init
loop-i-init c =
    let m = c.args.m in
    enabled_start m c.requires.0 _ _ c.blank-rows.ensures (enabled_first m c.requires.0 _ _ _ refl c.off.ensures c.none.ensures)

pub widened-requires : goal.widened-requires
widened-requires c =
    let m = c.args.m in
    let e = front_at m.count m.rows c.loop-i.i past c.loop-i-test.true in
    let l = row_long m c.requires.0 c.loop-i.i e.0 in
    (rw e.1 (row_tidy m c.requires.0 c.loop-i.i e.0), rw e.1 (omega (arith, l, c.requires.1)))

pub loop-i-preserved : goal.loop-i-preserved
loop-i-preserved c =
    let m = c.args.m in
    let e = front_at m.count m.rows c.loop-i.i past c.loop-i-test.true in
    enabled_turn m c.requires.0 _ c.loop-i.i _ e.0 c.requires.2 c.loop-i.invariant (c.widened.ensures ∙ ap (λ (r : Row). rows.row_from (widened (rows.view r))) e.1)

pub returns : goal.returns
returns c =
    let m = c.args.m in
    let l = clean_used m c.requires.0 in
    enabled_is m c.requires.0 c.args.enable c.loop-i.i _ (omega (arith, l, c.loop-i-test.false, c.loop-i.auto.i-end)) c.requires.1 c.requires.2 c.requires.3 c.loop-i.invariant
