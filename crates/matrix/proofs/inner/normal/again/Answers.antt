use Rattle.matrix.proofs.NormalRows.{again-all, again-same}
use Rattle.matrix.proofs.inner.normal.again.Goals as goal

pub returns-then-eq : goal.returns-then-eq
returns-then-eq c = rw c.in-Some.is (again-same _ _ _ _ _ c.masks_in_use.ensures c.masks_in_use-in-Some.ensures c.eq.ensures c.if-eq.true)

pub returns-else-eq : goal.returns-else-eq
returns-else-eq c = rw c.in-Some.is (again-all _ _ _ _ _ c.masks_in_use.ensures c.masks_in_use-in-Some.ensures c.eq.ensures c.if-eq.false _ _ c.masks_in_use-else-eq.ensures c.undef.ensures)
