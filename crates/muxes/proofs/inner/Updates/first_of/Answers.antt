use Rattle.muxes.proofs.Lents.{found_no, found_yes, gives_here, rules_end}
use Rattle.muxes.specs.Lent.{found, lent}
use Rattle.rules.specs.Emit.{disjoint, update_for}
use Rattle.rules.specs.Nets.{cell}
use Rattle.std.proofs.Common.{ap, drop, map, sym, ◌+◌, ◌∙◌}
use Rattle.muxes.proofs.inner.Updates.first_of.Goals as goal

pub returns-then-is_some : goal.returns-then-is_some
returns-then-is_some c =
    let us = lent c.args.self in
    let rs = c.args.rules.now in
    let i = c.loop-rule.rule-index in
    let o = c.last_for-bits.result in
    let here = gives_here us rs i (found o) c.loop-rule-test.true (c.last_for-bits.ensures ∙ ap (update_for us) c.code.ensures) in
    λ d. found_yes o d (disjoint us d (map cell (drop (i + 1) rs))) (sym c.is_some.ensures ∙ c.if-is_some.true) ∙ sym (here d) ∙ c.loop-rule.invariant d

pub loop-rule-preserved : goal.loop-rule-preserved
loop-rule-preserved c =
    let us = lent c.args.self in
    let rs = c.args.rules.now in
    let i = c.loop-rule.rule-index in
    let o = c.last_for-bits.result in
    let here = gives_here us rs i (found o) c.loop-rule-test.true (c.last_for-bits.ensures ∙ ap (update_for us) c.code.ensures) in
    λ d. sym (here d ∙ found_no o (disjoint us d (map cell (drop (i + 1) rs))) (sym c.is_some.ensures ∙ c.if-is_some.false)) ∙ c.loop-rule.invariant d

pub returns : goal.returns
returns c = λ d. rules_end (lent c.args.self) c.args.rules.now d c.loop-rule.rule-index c.loop-rule-test.false ∙ c.loop-rule.invariant d
