use Rattle.evaluate.proofs.Turns.{Running}
use Rattle.evaluate.proofs.run_all.Given as goal

abbrev pub invariant-loop-k : goal.invariant-loop-k
invariant-loop-k l = Running l.trits l.entry-items l.initial.values l.k l.values
