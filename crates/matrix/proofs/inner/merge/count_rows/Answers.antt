use lib.ListN.{drop, length}
use mathlib.Core.List.{List, map}
use mathlib.Core.Path.{◌∙◌, ◌≡◌, ap, ap₂, sym}
use native.Mathlib.Omega.{arith}
use Prim.Native.Nat.{◌+◌, ℕ}
use Rattle.matrix.proofs.Calls.{view-rows-length}
use Rattle.matrix.proofs.Checks.{rows_viewed}
use Rattle.matrix.proofs.MergeCount.{length-merge, shares, shares_end, shares_more}
use Rattle.matrix.specs.Mat.{view}
use Rattle.rows.specs.Rows as rows
use Rattle.rules.specs.Matrix.{Row}
use Rattle.matrix.proofs.inner.merge.count_rows.Goals as goal

pub loop-row-preserved : goal.loop-row-preserved
loop-row-preserved c =
    let v = c.loop-row.invariant in
    let k = length c.rows_in_use-k.result.now in
    let l = c.rows_in_use-row-items.result.now in
    let i = c.loop-row.row-index in
    let s = c.share-total.ensures in
    let d : shares c.args.t k (map rows.view (drop i l)) ≡ c.share-total.result + shares c.args.t k (map rows.view (drop (i + 1) l)) =
    shares_more c.args.t k l i c.loop-row-test.true ∙ ap (λ (x : ℕ). x + shares c.args.t k (map rows.view (drop (i + 1) l))) (sym s.0) in
    record { low = omega (arith, v.low, s.1, c.rows_in_use-k.ensures.few); sum = omega (arith, d, v.sum) }

pub returns : goal.returns
returns c =
    let m = c.args.m.now in
    let v = c.loop-row.invariant in
    let k = length c.rows_in_use-k.result.now in
    let l = c.rows_in_use-row-items.result.now in
    let z = shares_end c.args.t k l c.loop-row.row-index c.loop-row-test.false in
    let e : c.loop-row.total ≡ shares c.args.t k (map rows.view l) = omega (arith, z, v.sum) in
    e ∙ ap₂ (λ (j : ℕ) (rs : List Row). shares c.args.t j rs) (ap length c.rows_in_use-k.ensures.items ∙ sym (view-rows-length c.args.child.now)) (ap (map rows.view) c.rows_in_use-row-items.ensures.items ∙ sym (rows_viewed m))
    ∙ length-merge c.args.t (view c.args.child.now) (view m).rows
