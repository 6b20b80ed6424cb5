use Rattle.matrix.proofs.CallOuts.{outs_done, outs_refused}
use Rattle.matrix.specs.Mat.{given, view}
use Rattle.rules.specs.Answers.{outputs_answer}
use Rattle.rules.specs.Given.{matrix_table}
use Rattle.rules.specs.Matrix.{outputs}
use Rattle.rules.specs.Refuse.{refusal}
use Rattle.matrix.proofs.Matrix.outputs.Goals as goal

pub returns-in-Ok : goal.returns-in-Ok
unfolding outputs_answer
returns-in-Ok c =
    let m = c.args.self in
    outs_done (refusal (matrix_table (given m))) (outputs (view m)) _ c.in-Ok.ensures c.outputs.ensures

pub returns-in-Err : goal.returns-in-Err
unfolding outputs_answer
returns-in-Err c =
    let m = c.args.self in
    outs_refused c.in-Err.why (refusal (matrix_table (given m))) (outputs (view m)) _ c.in-Err.ensures c.refused.ensures
