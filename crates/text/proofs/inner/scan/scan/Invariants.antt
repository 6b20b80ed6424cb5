use Rattle.text.proofs.Nets.{Sofar}
use Rattle.text.proofs.inner.scan.scan.Given as goal

abbrev pub invariant-loop-k : goal.invariant-loop-k
invariant-loop-k l = Sofar l.s l.at l.initial.out l.out l.k l.a
