use Rattle.std.proofs.Common.{◌∙◌}
use Rattle.matrix.proofs.Calls.{accept, refuse}
use Rattle.rules.specs.Answers.{new_answer}
use Rattle.rules.specs.Given.{spread}
use Rattle.rules.specs.Matrix.{new, none_yet}
use Rattle.rules.specs.Refusals.{new_table}
use Rattle.rules.specs.Refuse.{refusal}
use Rattle.matrix.proofs.Matrix.new.Goals as goal

pub returns-in-Err : goal.returns-in-Err
unfolding new_answer
returns-in-Err c =
    let ns = c.args.nets.now in
    c.refused.ensures ∙ refuse (refusal (new_table ns)) (spread none_yet) (new ns) _ _ c.in-Err.ensures c.none.ensures

pub returns : goal.returns
unfolding new_answer
returns c =
    let ns = c.args.nets.now in
    c.done.ensures ∙ accept (refusal (new_table ns)) (spread none_yet) (new ns) _ c.in_default.ensures c.fresh.ensures
