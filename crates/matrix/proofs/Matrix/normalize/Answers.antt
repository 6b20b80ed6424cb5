use Rattle.std.proofs.Common.{◌≡◌, ◌∙◌, ap, sym}
use Rattle.matrix.proofs.Calls.{accept, refuse, unrefused_fits}
use Rattle.matrix.proofs.Tidies.{tidied_clean}
use Rattle.matrix.proofs.TidySlots.{slots}
use Rattle.matrix.proofs.Views.{from-given}
use Rattle.matrix.specs.Mat.{Clean, given, matrix_from, view}
use Rattle.rules.specs.Answers.{normalize_answer}
use Rattle.rules.specs.Given.{matrix_table}
use Rattle.rules.specs.Matrix.{Matrix as MatrixOf}
use Rattle.rules.specs.Normalize.{normalize}
use Rattle.rules.specs.Refuse.{refusal}
use Rattle.matrix.proofs.Matrix.normalize.Goals as goal
use Rattle.matrix.proofs.Matrix.normalize.Goals.{After-tidy-self}

tidied : (c : After-tidy-self) → Clean c.tidy-self.result × (view c.tidy-self.result ≡ view c.args.self)
tidied c = let m = c.args.self in tidied_clean m _ (unrefused_fits m (sym c.in_default.ensures)) (slots m _ c.well_formed.0) c.tidy-self.ensures

pub returns-in-Err : goal.returns-in-Err
unfolding normalize_answer
returns-in-Err c =
    let m = c.args.self in
    c.refused.ensures ∙ refuse (refusal (matrix_table (given m))) (given m) (normalize (view m)) _ _ c.in-Err.ensures (sym (from-given m))

pub normalize-self-requires : goal.normalize-self-requires
normalize-self-requires c = (tidied c).0

pub returns : goal.returns
unfolding normalize_answer
returns c =
    let m = c.args.self in
    let v = (tidied (goal.at.returns c).After-tidy-self).1 in
    c.done.ensures
    ∙ accept (refusal (matrix_table (given m))) (given m) (normalize (view m)) _ c.in_default.ensures (c.normalize-self.ensures ∙ ap (λ (x : MatrixOf). matrix_from (normalize x)) v)
