use Rattle.std.proofs.Common.{ℕ, List, ◌++◌, drop, length, ap, sym, ◌∙◌, arith}
use Rattle.matrix.proofs.TidySlots.{slots}
use Rattle.matrix.proofs.Calls.{number-some}
use Rattle.matrix.specs.Mat.{given, view}
use Rattle.print.proofs.Prints.{by_check, by_room, by_text, fits, text-few}
use Rattle.rules.specs.Refused.{number_of}
use Rattle.std.proofs.lemmas.Result.{err_from_is_err_and}
use Rattle.rules.specs.Print.{printed}
use Rattle.rules.specs.Refuse.{done}
use Rattle.text.proofs.print.Goals as goal

pub returns-in_err-check : goal.returns-in_err-check
returns-in_err-check c =
    let why = c.in_err-check.field-0.0 in
    let p = err_from_is_err_and c.from_residual.result c.from_residual.ensures.1 in
    let q = by_check (given c.args.matrix) c.args.out.now (number_of why) c.in_err-check.ensures (number-some why) in
    record { result_value = rw (p.1, p.2) q.0; out_after = q.1 }

pub matrix-requires : goal.matrix-requires
matrix-requires c =
    let m = c.args.matrix in
    let e = sym c.in_ok-check.ensures in
    (omega arith, (fits m e, omega (arith, text-few m e (slots m _ c.well_formed.0), ap length c.new-text.ensures)))

pub returns-then-out-n : goal.returns-then-out-n
returns-then-out-n c =
    let t = c.as_bytes-bytes.ensures ∙ c.matrix.ensures ∙ ap (λ (l : List ℕ). l ++ printed (view c.args.matrix)) c.new-text.ensures in
    let q = by_room (given c.args.matrix) c.args.out.now (sym c.in_ok-check.ensures) (omega (arith, ap length t)) in
    record { result_value = q.0; out_after = q.1 }

pub returns : goal.returns
returns c =
    let t = c.as_bytes-bytes.ensures ∙ c.matrix.ensures ∙ ap (λ (l : List ℕ). l ++ printed (view c.args.matrix)) c.new-text.ensures in
    let q = by_text (given c.args.matrix) c.args.out.now (sym c.in_ok-check.ensures) (omega (arith, ap length t)) in
    let o = c.args.out.now in
    record {
      result_value = ap (λ (l : List ℕ). done (length l)) t ∙ q.0;
      out_after = ap (λ (l : List ℕ). l ++ drop (length c.as_bytes-bytes.result.now) o) c.copy_from_slice.ensures.after ∙ ap (λ (l : List ℕ). l ++ drop (length l) o) t ∙ q.1;
    }
