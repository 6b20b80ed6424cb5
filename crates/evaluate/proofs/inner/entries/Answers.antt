use Rattle.evaluate.proofs.Turns.{runs_front}
use Rattle.rules.specs.Bounds.{mux_run}
use Rattle.std.proofs.Common.{List, ap, arith, length, length-take-le, take, ℕ, ◌/◌, ◌∙◌}
use Rattle.evaluate.proofs.inner.entries.Goals as goal

pub returns : goal.returns
returns c =
    let xs = c.args.table.now in
    let whole = c.as_chunks.ensures in
    (ap (λ (l : List (List ℕ)). take c.args.count l) whole.front ∙ runs_front mux_run (length xs / mux_run) c.args.count xs c.requires, length-take-le c.args.count _ (omega (arith, whole.front_len, c.requires)))
