use Rattle.std.proofs.Common.{◌∙◌, ap}
use Rattle.dispatch.proofs.Lasts.{catches_last, catches_none}
use Rattle.rules.specs.Matrix.{all_x}
use Rattle.dispatch.proofs.catches.Goals as goal

pub returns-in-Some : goal.returns-in-Some
returns-in-Some c = c.undef.ensures ∙ ap all_x c.masks_in_use.ensures ∙ catches_last c.args.m.now c.rows_in_use.result.now c.rows_in_use.ensures.items c.in-Some.row.now c.in-Some.ensures.value

pub returns-in-None : goal.returns-in-None
returns-in-None c = catches_none c.args.m.now c.rows_in_use.result.now c.rows_in_use.ensures.items c.in-None.ensures.value
