use Rattle.std.proofs.Common.{arith, ◌++◌, ℕ, List, drop, replicate, take, ap, refl, sym, ◌∙◌}
use lib.Seq.{length-take-le}
use Rattle.rules.specs.Bounds.{columns_max}
use Rattle.text.proofs.RowsIn.{pattern_long}
use Rattle.text.proofs.Values.{vec-drop, written, written_end}
use Rattle.text.specs.Scan.{pattern_at}
use Rattle.text.proofs.inner.parse.Line.pattern.Goals as goal

pub loop-i-init : goal.loop-i-init
loop-i-init c = (length-take-le c.args.self.columns (replicate columns_max 0) (omega (arith, c.args.self.few)), refl)

pub loop-i-preserved : goal.loop-i-preserved
loop-i-preserved c =
    let l = pattern_long c.args.self.columns c.args.self.bytes.now in
    let k = c.loop-i.invariant.0 in
    (k, written (pattern_at c.args.self.columns c.args.self.bytes.now) _ c.loop-i.t-items c.loop-i.i c.trit.result c.loop-i.invariant.1 c.trit.ensures (omega (arith, l)) (omega (arith, k, l)))

pub returns : goal.returns
returns c =
    let w = c.args.self.columns in
    let p = pattern_at w c.args.self.bytes.now in
    let z : List ℕ = replicate columns_max 0 in
    let l = pattern_long w c.args.self.bytes.now in
    let k = c.loop-i.invariant.0 in
    ap (λ (t : List ℕ). t ++ drop w z) (written_end p (take w z) c.loop-i.t-items c.loop-i.i c.loop-i.invariant.1 (l ∙ sym k) (omega (arith, l)))
    ∙ ap (λ (j : ℕ). p ++ drop j z) (sym l) ∙ vec-drop columns_max p (omega (arith, l, c.args.self.few))
