use Rattle.std.proofs.Common.{◌≡◌, ◌∙◌, ap, arith, length, sym}
use Rattle.matrix.proofs.CallAdds.{add-few, add-fits, add_path, add-room, add-row_clean, add-row_is, add-shape, collected-few}
use Rattle.matrix.proofs.Calls.{accept, refuse}
use Rattle.matrix.proofs.Tidies.{fits-columns, tidied_clean}
use Rattle.matrix.proofs.TidySlots.{slots}
use Rattle.matrix.proofs.Views.{from-given}
use Rattle.matrix.specs.declared.Matrix.{Matrix}
use Rattle.matrix.specs.Mat.{Clean, given, matrix_from, view}
use Rattle.rules.specs.Answers.{add_answer}
use Rattle.rules.specs.Matrix.{add}
use Rattle.rules.specs.Refusals.{add_table}
use Rattle.rules.specs.Refuse.{refusal}
use Rattle.matrix.proofs.Matrix.add.Goals as goal
use Rattle.matrix.proofs.Matrix.add.Goals.{After-tidy-self}

tidied : (c : After-tidy-self) → Clean c.tidy-self.result × (view c.tidy-self.result ≡ view c.args.self)
tidied c =
    let a = c.args in
    tidied_clean a.self _ (add-fits a.self a.pattern.now a.rules.now (sym c.in-Ok.ensures.number)) (slots a.self _ c.well_formed.0) c.tidy-self.ensures

pub returns-in-Err : goal.returns-in-Err
unfolding add_answer
returns-in-Err c =
    let a = c.args in
    let p = a.pattern.now in
    let rs = a.rules.now in
    c.refused.ensures ∙ refuse (refusal (add_table (given a.self) p rs)) (given a.self) (add p rs (view a.self)) _ _ c.in-Err.ensures.number (sym (from-given a.self))

pub row-requires : goal.row-requires
row-requires c =
    let a = c.args in
    let z = sym c.in-Ok.ensures.number in
    let k = add-shape a.self a.pattern.now a.rules.now z in
    let w = fits-columns a.self (add-fits a.self a.pattern.now a.rules.now z) in
    (omega arith, (collected-few _ a.rules.now c.in-Ok.ensures.set (add-few a.self a.pattern.now a.rules.now z)).1)

pub push-self-requires : goal.push-self-requires
push-self-requires c =
    let a = c.args in
    let m = a.self in
    let p = a.pattern.now in
    let rs = a.rules.now in
    let z = sym c.in-Ok.ensures.number in
    let o = add-room m p rs z in
    let k : c.tidy-self.result.count ≡ length (view m).rows = ap (λ (r : Matrix). r.count) c.tidy-self.ensures in
    ((tidied (goal.at.push-self-requires c).After-tidy-self).0, omega arith, add-row_clean m p rs z _ c.in-Ok.ensures.set _ c.row.ensures)

pub returns : goal.returns
unfolding add_answer
returns c =
    let a = c.args in
    let m = a.self in
    let p = a.pattern.now in
    let rs = a.rules.now in
    let v = (tidied (goal.at.returns c).After-tidy-self).1 in
    let y = add-row_is m p rs (sym c.in-Ok.ensures.number) _ c.in-Ok.ensures.set _ c.row.ensures in
    c.done.ensures
    ∙ accept (refusal (add_table (given m) p rs)) (given m) (add p rs (view m)) _ c.in-Ok.ensures.number (c.push-self.ensures ∙ ap matrix_from (add_path _ _ _ _ v y))
