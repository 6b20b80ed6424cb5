use lib.ListN.{length, length-map, replicate}
use lib.Seq.{take_all}
use mathlib.Core.List.{map}
use mathlib.Core.Path.{◌∙◌, ap, sym}
use native.Mathlib.Omega.{arith}
use Rattle.lists.specs.Vec.{vec, vec_none}
use Rattle.matrix.proofs.Calls.{view-rows-length}
use Rattle.matrix.proofs.StepHeld.{zero_row}
use Rattle.matrix.proofs.Tidies.{tidied, tidied-rows, tidy_turn}
use Rattle.matrix.proofs.Views.{matrix_path}
use Rattle.rules.specs.Bounds.{columns_max, rows_max}
use Rattle.matrix.proofs.inner.tidy.tidy.Goals as goal

pub loop-i-init : goal.loop-i-init
loop-i-init c = ap (replicate rows_max) c.blank-made.ensures ∙ vec_none rows_max zero_row

pub loop-i-preserved : goal.loop-i-preserved
loop-i-preserved c =
    tidy_turn c.rows_in_use-rows.result.now c.loop-i.i c.loop-i.made c.tidy_row.result c.rows_in_use-rows.ensures.few c.loop-i-test.true c.loop-i.invariant c.tidy_row.ensures

pub returns : goal.returns
returns c =
    let m = c.args.m in
    let n = c.nets_in_use-nets.ensures.items in
    let r = c.rows_in_use-rows.ensures.items in
    let rs = c.rows_in_use-rows.result.now in
    let s = length-map rs tidied in
    let e = take_all c.loop-i.i (map tidied rs) (omega (arith, s, c.loop-i-test.false)) in
    matrix_path _ _ (c.tidy.ensures ∙ ap (vec columns_max 0) n) (ap length n)
    (c.loop-i.invariant ∙ ap (vec rows_max zero_row) (e ∙ ap (map tidied) r) ∙ sym (tidied-rows m)) (ap length r ∙ sym (view-rows-length m))
