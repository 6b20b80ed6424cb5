use Rattle.std.proofs.Common.{length}
use Rattle.text.proofs.Reader.{Rowed}
use Rattle.text.proofs.inner.reader.body.Given as goal

abbrev pub invariant-loop-rest : goal.invariant-loop-rest
invariant-loop-rest l = Rowed l.fn.head l.text l.rows l.count l.rest

abbrev pub decreases-loop-rest : goal.decreases-loop-rest
decreases-loop-rest l = length l.rest
