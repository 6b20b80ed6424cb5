use Rattle.std.proofs.Common.{◌≡◌, ◌∙◌, ap, sym, ℕ}
use Rattle.matrix.proofs.Calls.{accept, refuse}
use Rattle.matrix.proofs.Views.{from-given}
use Rattle.matrix.specs.Mat.{given, view}
use Rattle.rules.specs.Answers.{enable_answer}
use Rattle.rules.specs.Codes.{net_code}
use Rattle.rules.specs.Matrix.{add_enable}
use Rattle.rules.specs.Refusals.{enable_table}
use Rattle.rules.specs.Refuse.{refusal}
use Rattle.matrix.proofs.Matrix.add_enable.Goals as goal
use Rattle.matrix.proofs.Matrix.add_enable.Goals.{After-from}

-- the number is one of the net's code
coded : (c : After-from) → refusal (enable_table c.from.result (given c.args.self)) ≡ refusal (enable_table (net_code c.args.enable) (given c.args.self))
coded c = ap (λ (t : ℕ). refusal (enable_table t (given c.args.self))) c.from.ensures

pub returns-in-Err : goal.returns-in-Err
unfolding enable_answer
returns-in-Err c =
    let m = c.args.self in
    let e = net_code c.args.enable in
    let n = c.in-Err.ensures ∙ coded (goal.at.returns-in-Err c).After-from in
    c.refused.ensures ∙ refuse (refusal (enable_table e (given m))) (given m) (add_enable e (view m)) _ _ n (sym (from-given m))

pub returns : goal.returns
unfolding enable_answer
returns c =
    let m = c.args.self in
    let e = net_code c.args.enable in
    let n = c.in_default.ensures ∙ coded (goal.at.returns c).After-from in
    c.done.ensures ∙ accept (refusal (enable_table e (given m))) (given m) (add_enable e (view m)) _ n c.enable-self.ensures
