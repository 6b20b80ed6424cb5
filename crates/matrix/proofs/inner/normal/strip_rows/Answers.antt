use lib.ListN.{length, take}
use lib.Seq.{length-take-le}
use mathlib.Core.Bool.{not}
use mathlib.Core.Path.{◌≡◌, refl}
use native.Mathlib.Omega.{arith}
use Prim.Native.Nat.{◌<◌}
use Rattle.lists.specs.Lists.{map_turn}
use Rattle.matrix.proofs.NormalRows.{all_stripped}
use Rattle.matrix.proofs.StepHeld.{clean_tall, clean_wide, past}
use Rattle.matrix.proofs.TidySlots.{rows_long}
use Rattle.matrix.specs.Mat.{stripped}
use Rattle.rules.specs.Bounds.{columns_max}
use Rattle.std.proofs.Common.{rules}
use Rattle.std.specs.List.{count_by}
use Rattle.matrix.proofs.inner.normal.strip_rows.Goals as goal

pub loop-i-preserved : goal.loop-i-preserved
loop-i-preserved c =
    let m = c.args.m in
    let v = c.loop-i.invariant in
    let k = rows_long m _ c.well_formed.0 in
    let t = clean_tall m c.requires in
    let h : c.loop-i.i < length m.rows = omega (arith, k, t, c.loop-i-test.true) in
    record { rows = map_turn (stripped (take m.columns c.args.gone) c.count-columns.result) m.rows _ past c.loop-i.i _ h v.rows c.strip_row.ensures; value = v.value; count = v.count }

pub returns : goal.returns
returns c =
    let m = c.args.m in
    let gs = take m.columns c.args.gone in
    let l : length c.args.gone ≡ columns_max = search rules in
    let w = clean_wide m c.requires in
    let n = length-take-le m.columns c.args.gone (omega arith) in
    let k : c.count-columns.result ≡ count_by not gs = search rules in
    let v = c.loop-i.invariant in
    all_stripped m _ gs c.count-columns.result c.loop-i.i c.requires n k (omega (arith, c.loop-i.auto.i-end, c.loop-i-test.false)) c.strip-nets.ensures refl v.rows v.count
