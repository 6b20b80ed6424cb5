use Rattle.std.proofs.Common.{ℕ, ◌∙◌, ap, min, sym}
use Rattle.abi.proofs.Assumes.{trit_done, trit_refused}
use Rattle.abi.specs.Plain.{last}
use Rattle.matrix.proofs.Views.{from-given}
use Rattle.matrix.specs.Mat.{given, made_from}
use Rattle.matrix.specs.declared.Made.{Made}
use Rattle.matrix.specs.declared.Matrix.{Matrix}
use Rattle.rules.specs.Answers.{assume_answer}
use Rattle.rules.specs.Codes.{trit_code}
use Rattle.rules.specs.Refuse.{FORM}
use Rattle.abi.proofs.doorpigeon_assume.Goals as goal

abbrev back : ℕ → Matrix → Made
back k m = record { no = k; matrix = m }

pub returns-in-Err : goal.returns-in-Err
returns-in-Err c =
    let a = c.args in
    let t = trit_refused a.value _ c.in-Err.ensures in
    rw t.1 (ap (λ (k : ℕ). back k a.matrix) (c.from.ensures ∙ t.0) ∙ ap (back FORM) (sym (from-given a.matrix)))
