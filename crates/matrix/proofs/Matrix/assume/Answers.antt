use Rattle.std.proofs.Common.{◌≡◌, ◌∙◌, ap, sym, ℕ}
use Rattle.matrix.proofs.Calls.{accept, refuse}
use Rattle.matrix.proofs.CallSteps.{assume-fits}
use Rattle.matrix.proofs.Tidies.{tidied_clean}
use Rattle.matrix.proofs.TidySlots.{slots}
use Rattle.matrix.proofs.Views.{from-given}
use Rattle.matrix.specs.Mat.{Clean, given, matrix_from, view}
use Rattle.rules.specs.Answers.{assume_answer}
use Rattle.rules.specs.Codes.{net_code, trit_code}
use Rattle.rules.specs.Matrix.{assume}
use Rattle.rules.specs.Refusals.{assume_table}
use Rattle.rules.specs.Refuse.{refusal}
use Rattle.matrix.proofs.Matrix.assume.Goals as goal
use Rattle.matrix.proofs.Matrix.assume.Goals.{After-from-target, After-tidy-self}

-- the number is one of the net's code
coded : (c : After-from-target) → refusal (assume_table c.from-target.result (given c.args.self)) ≡ refusal (assume_table (net_code c.args.target) (given c.args.self))
coded c = ap (λ (t : ℕ). refusal (assume_table t (given c.args.self))) c.from-target.ensures

tidied : (c : After-tidy-self) → Clean c.tidy-self.result × (view c.tidy-self.result ≡ view c.args.self)
tidied c = let m = c.args.self in tidied_clean m _ (assume-fits m c.from-target.result (sym c.in_default.ensures)) (slots m _ c.well_formed.0) c.tidy-self.ensures

pub returns-in-Err : goal.returns-in-Err
unfolding assume_answer
returns-in-Err c =
    let a = c.args in
    let m = a.self in
    let n = c.in-Err.ensures ∙ coded (goal.at.returns-in-Err c).After-from-target in
    c.refused.ensures ∙ refuse (refusal (assume_table (net_code a.target) (given m))) (given m) (assume (net_code a.target) (trit_code a.value) (view m)) _ _ n (sym (from-given m))

pub assume-self-requires : goal.assume-self-requires
assume-self-requires c = (tidied (goal.at.assume-self-requires c).After-tidy-self).0

pub returns : goal.returns
unfolding assume_answer
returns c =
    let a = c.args in
    let m = a.self in
    let n = c.in_default.ensures ∙ coded (goal.at.returns c).After-from-target in
    let v = (tidied (goal.at.returns c).After-tidy-self).1 in
    let t = c.from-target.ensures in
    c.done.ensures
    ∙ accept (refusal (assume_table (net_code a.target) (given m))) (given m) (assume (net_code a.target) (trit_code a.value) (view m)) _ n
    (c.assume-self.ensures ∙ (λ i. matrix_from (assume (t i) (c.from.ensures i) (v i))))
