use Rattle.evaluate.proofs.Turns.{answer_bad, answer_good, is_bad, not_bad}
use Rattle.rules.specs.Bounds.{mux_max}
use Rattle.rules.specs.Codes.{net_code}
use Rattle.std.proofs.Common.{sym, ◌∙◌, replicate}
use Rattle.evaluate.proofs.evaluate.Goals.{then-not-formed-via-then-not-formed, then-not-formed-via-else-not-formed+then-not-all_trits, then-not-formed-via-else-not-formed+else-not-all_trits+then-not-driven}
use Rattle.evaluate.proofs.evaluate.Goals as goal

pub returns-then-not-formed : goal.returns-then-not-formed
returns-then-not-formed c =
    let a = c.args in
    let bad = answer_bad a.count a.table.now a.trits.now (net_code a.asked) in
    elim c.then-not-formed.branch [
      | then-not-formed-via-then-not-formed w ↦ sym (bad (rw (is_bad _ (sym w.if-not-formed.true ∙ c.formed.ensures))))
      | then-not-formed-via-else-not-formed+then-not-all_trits w ↦ sym (bad (rw (not_bad _ (sym w.if-not-formed.false ∙ c.formed.ensures), sym w.all_trits.ensures ∙ w.if-not-all_trits.true)))
      | then-not-formed-via-else-not-formed+else-not-all_trits+then-not-driven w ↦
          sym (bad (rw (not_bad _ (sym w.if-not-formed.false ∙ c.formed.ensures), sym w.all_trits.ensures ∙ w.if-not-all_trits.false, is_bad _ (sym w.if-not-driven.true ∙ w.driven.ensures))))
    ]

pub returns : goal.returns
returns c =
    let a = c.args in
    answer_good a.count a.table.now a.trits.now (replicate mux_max 0) _ (net_code a.asked) c.net.result (not_bad _ (sym c.if-not-formed.false ∙ c.formed.ensures)) (sym c.all_trits.ensures ∙ c.if-not-all_trits.false)
    (not_bad _ (sym c.if-not-driven.false ∙ c.driven.ensures)) c.run_all.ensures c.net.ensures
