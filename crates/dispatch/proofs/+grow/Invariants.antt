use Rattle.matrix.specs.Mat.{view}
use Rattle.rules.specs.Dispatch.{distinct}
use Rattle.dispatch.proofs.+grow.Given as goal

abbrev pub decreases-grow : goal.decreases-grow
decreases-grow l = distinct (view l.m).nets
