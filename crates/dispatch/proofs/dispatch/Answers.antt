use Rattle.std.proofs.Common.{refl, subst}
use Rattle.dispatch.proofs.Doors.{built_answer, refused_answer}
use Rattle.dispatch.proofs.Stored.{cleared_is}
use Rattle.matrix.specs.Mat.{given}
use Rattle.matrix.proofs.Calls.{number-some}
use Rattle.rules.specs.Codes.{net_code}
use Rattle.rules.specs.Dispatch.{raw_of}
use Rattle.rules.specs.Matrix.{Matrix as MatrixOf}
use Rattle.tree.specs.Grown.{Whole}
use Rattle.dispatch.proofs.dispatch.Goals as goal

pub returns-in-Ok : goal.returns-in-Ok
returns-in-Ok c =
    let a = c.args in
    let xs = a.store.now in
    built_answer (net_code a.enable) (given a.matrix) xs 0 _ _ c.in-Ok.ensures.number refl
    (subst (λ (m : MatrixOf). Whole (raw_of m) xs c.build.new.store c.build.result) c.in-Ok.ensures.made.1 c.build.ensures)

pub returns-in-Err : goal.returns-in-Err
returns-in-Err c =
    let a = c.args in
    let xs = a.store.now in
    refused_answer (net_code a.enable) (given a.matrix) xs _ _ c.in-Err.ensures.number (number-some c.in-Err.why)
    (cleared_is xs c.clear.new.store c.in_use-used.result c.in_use-used.ensures.0 c.in_use-used.ensures.1 c.clear.ensures)
