use Rattle.std.proofs.Common.{◌≡◌, ◌∙◌, ◌+◌, ◌++◌, ap, length, length-append, sym, ℕ}
use Rattle.std.proofs.Math.Bool.{or-false}
use Rattle.matrix.proofs.CallMerges.{merge-number}
use Rattle.matrix.specs.Faults.{clipped}
use Rattle.matrix.specs.Mat.{view}
use Rattle.rules.specs.Given.{too_many}
use Rattle.rules.specs.Matrix.{merge, merge_rows}
use Rattle.matrix.proofs.inner.numbers.merge.Goals as goal

pub returns : goal.returns
returns c =
    let a = c.args in
    let m = a.m.now in
    let d = a.child.now in
    let t = c.clip-t.ensures in
    let e = c.default.ensures in
    let k : c.count_rows.result ≡ length (merge_rows (clipped a.at) (view d) (view m).rows) = c.count_rows.ensures ∙ ap (λ (x : ℕ). length (merge_rows x (view d) (view m).rows)) t in
    let x = c.nets_in_use in
    let y = c.nets_in_use-2 in
    let u : length x.result.now + length y.result.now ≡ length ((view m).nets ++ (view d).nets) = rw (x.ensures.items, y.ensures.items) (sym (length-append (view m).nets (view d).nets)) in
    let many : c.too_many.result ≡ too_many (merge (clipped a.at) (view m) (view d)) = c.too_many.ensures ∙ ap (λ (x : ℕ). too_many (merge x (view m) (view d))) t in
    merge-number m d a.at _ _ _ _ k u many (simp (c.or-2.ensures, c.or.ensures, c.faults.ensures, c.faults-2.ensures, e.0, e.1.1.1.0, or-false, c.is_name.ensures) at c.first.ensures)
