use Rattle.std.proofs.Common.{take}
use Rattle.matrix.proofs.CallOuts.{Gathers, Within}
use Rattle.matrix.proofs.inner.outs.outputs.Given as goal

abbrev pub invariant-loop-row : goal.invariant-loop-row
invariant-loop-row l = Gathers (take l.m.count l.m.rows) l.row-iterator.iter.rest.now l.nets l.count

abbrev pub invariant-loop-rule : goal.invariant-loop-rule
invariant-loop-rule l =
    Within (take l.m.count l.m.rows) l.row-iterator.iter.rest.now l.initial.rule-iterator.iter.rest.now l.rule-iterator.iter.rest.now l.nets l.count
