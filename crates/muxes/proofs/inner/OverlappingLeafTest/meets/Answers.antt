use Rattle.muxes.proofs.Hots.{twice_end, twice_more, twice_once, twice_start, twice_stop, updated_here, updated_none}
use Rattle.muxes.specs.Lent.{lent}
use Rattle.rules.specs.Emit.{updated}
use Rattle.rules.specs.Nets.{cell}
use Rattle.rules.specs.Trits.{bit}
use Rattle.std.proofs.Common.{drop, leb, map, sym, ◌+◌, ◌≡◌, ◌∙◌}
use Rattle.muxes.proofs.inner.OverlappingLeafTest.meets.Goals.{then-has+else-updated, else-has}
use Rattle.muxes.proofs.inner.OverlappingLeafTest.meets.Goals as goal

pub loop-rule-init : goal.loop-rule-init
loop-rule-init c = twice_start (updated (lent c.args.self.now.updates) (map cell c.args.rules.now))

pub returns-then-updated : goal.returns-then-updated
returns-then-updated c =
    let us = lent c.args.self.now.updates in
    let rs = c.args.rules.now in
    let here = updated_here us rs c.loop-rule.rule-index c.loop-rule-test.true in
    let v : leb 2 (1 + updated us (map cell (drop c.loop-rule.rule-index rs))) ≡ leb 2 (updated us (map cell rs)) = rw c.if-updated.true at c.loop-rule.invariant in
    sym (twice_stop _ _ _ here (sym c.has.ensures ∙ c.if-has.true)) ∙ v

pub loop-rule-preserved : goal.loop-rule-preserved
loop-rule-preserved c =
    let us = lent c.args.self.now.updates in
    let rs = c.args.rules.now in
    let here = updated_here us rs c.loop-rule.rule-index c.loop-rule-test.true in
    elim c.if-has.branch [
      | then-has+else-updated w ↦
          let v : leb 2 (0 + updated us (map cell (drop c.loop-rule.rule-index rs))) ≡ leb 2 (updated us (map cell rs)) = rw w.if-updated.false at c.loop-rule.invariant in
          rw w.updated-is (sym (twice_once _ _ _ here (sym c.has.ensures ∙ w.if-has.true)) ∙ v)
      | else-has w ↦ rw w.updated-is (sym (twice_more _ _ _ here (bit c.loop-rule.updated) (sym c.has.ensures ∙ w.if-has.false)) ∙ c.loop-rule.invariant)
    ]

pub returns : goal.returns
returns c = sym (twice_end c.loop-rule.updated _ (updated_none (lent c.args.self.now.updates) c.args.rules.now c.loop-rule.rule-index c.loop-rule-test.false)) ∙ c.loop-rule.invariant
