use Rattle.muxes.proofs.Hots.{mem_found, mem_next, mem_none}
use Rattle.std.proofs.Common.{sym, ◌∙◌}
use Rattle.muxes.proofs.inner.names.Goals as goal

pub returns-then-code-from : goal.returns-then-code-from
returns-then-code-from c = sym (mem_found c.args.net c.loop-rule.rule-index c.args.rules.now c.loop-rule-test.true (sym c.code.ensures ∙ c.if-code-from.true ∙ c.from.ensures)) ∙ c.loop-rule.invariant

pub loop-rule-preserved : goal.loop-rule-preserved
loop-rule-preserved c = sym (mem_next c.args.net c.loop-rule.rule-index c.args.rules.now c.loop-rule-test.true (λ q. c.if-code-from.false (c.code.ensures ∙ q ∙ sym c.from.ensures))) ∙ c.loop-rule.invariant

pub returns : goal.returns
returns c = sym (mem_none c.args.net c.loop-rule.rule-index c.args.rules.now c.loop-rule-test.false) ∙ c.loop-rule.invariant
