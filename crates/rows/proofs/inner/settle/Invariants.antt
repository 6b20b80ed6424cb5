use Rattle.rows.proofs.Walked.{Going}
use Rattle.rows.proofs.inner.settle.Given as goal

abbrev pub invariant-loop-j : goal.invariant-loop-j
invariant-loop-j l = Going l.nets l.initial.pattern l.pattern l.j
