use Rattle.std.specs.Prelude.{◌≡◌, ◌-◌, ◌≤◌, length}
use Rattle.dispatch.specs.Choice.{least}
use Rattle.dispatch.proofs.fewest.Given as goal

abbrev pub invariant-loop-j : goal.invariant-loop-j
invariant-loop-j l = (l.at ≤ l.j) × (least l.counts (length l.counts - l.j) l.j l.at ≡ least l.counts (length l.counts) 0 0)
