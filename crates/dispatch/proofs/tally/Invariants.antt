use Rattle.std.specs.Prelude.{◌≡◌, ◌+◌, ℕ, get_or}
use Rattle.dispatch.specs.Choice.{upto}
use Rattle.lists.specs.Vec.{vec}
use Rattle.rules.specs.Bounds.{columns_max}
use Rattle.rules.specs.Trits.{bit, is_x}
use Rattle.dispatch.proofs.tally.Given as goal

abbrev pub invariant-loop-j : goal.invariant-loop-j
invariant-loop-j l = l.made ≡ vec columns_max 0 (upto (λ (i : ℕ). bit (is_x (get_or l.pattern i 0)) + get_or l.counts i 0) l.j)
