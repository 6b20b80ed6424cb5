use Rattle.muxes.proofs.Lents.{later_end, later_turn}
use Rattle.muxes.specs.Lent.{found, lent, update}
use Rattle.std.proofs.Common.{sym, ◌∙◌}
use borrow.Author.Tests.{eq-eqb, ne_eqb}
use Rattle.muxes.proofs.inner.Updates.last_for.Goals as goal

pub loop-first-preserved-then-from-net : goal.loop-first-preserved-then-from-net
loop-first-preserved-then-from-net c =
    let u = c.in-Some in
    let t = eq-eqb u.first.target c.args.net (sym c.from.ensures ∙ c.if-from-net.true) in
    later_turn (lent c.loop-first.rest) (lent u.others) (update u.first) c.args.net (found c.loop-first.last) _ u.ensures (rw t) ∙ c.loop-first.invariant

pub loop-first-preserved : goal.loop-first-preserved
loop-first-preserved c =
    let u = c.in-Some in
    let t = ne_eqb u.first.target c.args.net (λ e. c.if-from-net.false (c.from.ensures ∙ e)) in
    later_turn (lent c.loop-first.rest) (lent u.others) (update u.first) c.args.net (found c.loop-first.last) _ u.ensures (rw t) ∙ c.loop-first.invariant

pub returns : goal.returns
returns c = sym (later_end (lent c.loop-first.rest) c.args.net (found c.loop-first.last) c.in_default.ensures) ∙ c.loop-first.invariant
