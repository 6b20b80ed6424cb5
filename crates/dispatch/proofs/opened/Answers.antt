use Rattle.std.proofs.Common.{◌∙◌, ap, sym, ℕ}
use Rattle.dispatch.proofs.Doors.{enabled_is}
use Rattle.matrix.proofs.TidySlots.{slots}
use Rattle.matrix.specs.Mat.{given}
use Rattle.rules.specs.Codes.{net_code}
use Rattle.rules.specs.Refusals.{enable_table}
use Rattle.rules.specs.Refuse.{refusal}
use Rattle.dispatch.proofs.opened.Goals as goal

pub returns-clause-made : goal.returns-clause-made
returns-clause-made c =
    let m = c.args.m in
    let none = sym (c.in_ok-add_enable.ensures ∙ ap (λ (e : ℕ). refusal (enable_table e (given m))) c.from.ensures) in
    enabled_is m (net_code c.args.enable) (slots m _ c.well_formed.0) none c.enable.result c.enable.ensures
