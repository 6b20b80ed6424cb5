use Rattle.std.proofs.Common.{◌≡◌, ◌+◌, ◌∙◌, ap, refl, arith, ℕ, get_or, length}
use Rattle.dispatch.proofs.Choices.{upto_turn}
use Rattle.dispatch.specs.Choice.{upto}
use Rattle.lists.specs.Vec.{vec}
use Rattle.rules.specs.Bounds.{columns_max}
use Rattle.rules.specs.Trits.{bit, is_x}
use Rattle.dispatch.proofs.tally.Goals as goal

pub loop-j-init : goal.loop-j-init
unfolding vec upto
loop-j-init c = refl

pub loop-j-preserved : goal.loop-j-preserved
loop-j-preserved c =
    let a = c.args in
    upto_turn columns_max (λ (i : ℕ). bit (is_x (get_or a.pattern.now i 0)) + get_or a.counts i 0) _ c.loop-j.j _ (omega (arith, c.requires.0, c.loop-j-test.true)) c.loop-j.invariant c.more-x.ensures
