use mathlib.Core.Bool.{false}
use mathlib.Core.Path.{◌∙◌, ◌≡◌, ap, refl, sym}
use native.Mathlib.Omega.{arith}
use Rattle.lists.specs.Vec.{vec, vec_none}
use Rattle.matrix.proofs.NormalFlags.{gone_is}
use Rattle.matrix.proofs.NormalMade.{normal_is, settled_clean}
use Rattle.matrix.proofs.NormalRows.{columns-marked, rows_settled, sofar_start, turn_again, turn_clean, turn_gone, turn_stays}
use Rattle.matrix.specs.Mat.{view}
use Rattle.rules.specs.Bounds.{columns_max}
use Rattle.matrix.proofs.inner.normal.normalize.Goals as goal
use Rattle.matrix.proofs.inner.normal.normalize.Goals.{in-Some, in_default}

pub loop-j-init : goal.loop-j-init
loop-j-init c =
    let m = c.args.m in
    record { value = refl; columns = refl; count = refl; sofar = sofar_start (view m).nets _ m.rows _ (vec_none columns_max false) }

pub settle-requires-clause-tidy : goal.settle-requires-clause-tidy
settle-requires-clause-tidy c =
    let m = c.args.m in
    turn_clean m c.requires _ c.loop-j.j c.loop-j-test.true _ _ c.blank.ensures _ _ _ c.loop-j.invariant.sofar _ c.replace-row.ensures.value

pub loop-j-preserved-then-again : goal.loop-j-preserved-then-again
loop-j-preserved-then-again c =
    let m = c.args.m in
    let v = c.loop-j.invariant in
    let e = sym c.again.ensures ∙ c.if-again.true in
    let t = turn_again m c.requires _ c.loop-j.j c.loop-j-test.true _ _ c.blank.ensures _ _ _ v.sofar _ c.replace-row.ensures.value e in
    record { value = v.value; columns = v.columns; count = v.count; sofar = rw c.replace-row.ensures.after t }

pub loop-j-preserved : goal.loop-j-preserved
loop-j-preserved c =
    let m = c.args.m in
    let v = c.loop-j.invariant in
    let e = sym c.again.ensures ∙ c.if-again.false in
    elim c.match-settle.branch [
      | in-Some w ↦
          let t = turn_stays m c.requires _ c.loop-j.j c.loop-j-test.true _ _ c.blank.ensures _ _ _ v.sofar _ c.replace-row.ensures.value _ _ _ e c.settle.ensures w.in-Some.is w.mark-marked.ensures in
          rw (w.m-is, w.used-is, w.k-is) record { value = v.value; columns = v.columns; count = v.count; sofar = rw c.replace-row.ensures.after t }
      | in_default w ↦
          let t = turn_gone m c.requires _ c.loop-j.j c.loop-j-test.true _ _ c.blank.ensures _ _ _ v.sofar _ c.replace-row.ensures.value _ e c.settle.ensures w.in_default.is in
          rw (w.m-is, w.used-is, w.k-is) record { value = v.value; columns = v.columns; count = v.count; sofar = rw c.replace-row.ensures.after t }
    ]

pub strip_rows-requires : goal.strip_rows-requires
strip_rows-requires c =
    let m = c.args.m in
    let v = c.loop-j.invariant in
    let j : c.loop-j.j ≡ m.count = omega (arith, c.loop-j.auto.j-end, c.loop-j-test.false) in
    (settled_clean m _ c.requires (rows_settled m _ c.requires _ _ c.loop-j.j j v.sofar v.value v.columns)).0

pub returns : goal.returns
returns c =
    let m = c.args.m in
    let v = c.loop-j.invariant in
    let j : c.loop-j.j ≡ m.count = omega (arith, c.loop-j.auto.j-end, c.loop-j-test.false) in
    let u = columns-marked m (record { value = c.loop-j.m.value; columns = c.loop-j.m.columns; rows = c.loop-j.m.rows; count = c.loop-j.k }) c.requires _ _ c.loop-j.j j v.sofar in
    let g = c.gone-gone.ensures ∙ ap (vec columns_max false) (gone_is columns_max (view m).nets _ _ c.requires.sized.wide u) in
    normal_is m _ c.requires (rows_settled m _ c.requires _ _ c.loop-j.j j v.sofar v.value v.columns) _ _ g c.strip_rows.ensures
