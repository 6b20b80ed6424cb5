use Rattle.std.proofs.Common.{◌≡◌, ◌∙◌, ap, arith, eqb, length, sym, ℕ}
use Rattle.matrix.proofs.CallSteps.{enable_fits, enable_room}
use Rattle.matrix.proofs.Tidies.{tidied_clean}
use Rattle.matrix.proofs.TidySlots.{slots}
use Rattle.matrix.specs.declared.Matrix.{Matrix}
use Rattle.matrix.specs.Mat.{matrix_from, view}
use Rattle.rules.specs.Matrix.{add_enable}
use Rattle.matrix.proofs.inner.step.enable.Goals as goal

pub add_enable-requires : goal.add_enable-requires
add_enable-requires c =
    let m = c.args.m in
    let w : c.tidy.result.columns ≡ length (view m).nets = ap (λ (r : Matrix). r.columns) c.tidy.ensures in
    let k : c.tidy.result.count ≡ length (view m).rows = ap (λ (r : Matrix). r.count) c.tidy.ensures in (
      (tidied_clean m _ (enable_fits m _ c.requires) (slots m _ c.well_formed.0) c.tidy.ensures).0,
      λ o. let r = enable_room m _ c.requires (ap (λ (n : ℕ). eqb n 1) (sym c.from.ensures) ∙ o) in (omega arith, omega arith),
    )

pub returns : goal.returns
returns c =
    let m = c.args.m in
    let v = (tidied_clean m _ (enable_fits m _ c.requires) (slots m _ c.well_formed.0) c.tidy.ensures).1 in
    c.add_enable.ensures ∙ (λ i. matrix_from (add_enable (c.from.ensures i) (v i)))
