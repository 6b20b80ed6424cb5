use Rattle.lists.specs.Vec.{vec_none}
use Rattle.rules.specs.Bounds.{outputs_max}
use Rattle.matrix.proofs.inner.outs.zeros.Goals as goal

pub returns : goal.returns
returns c = vec_none outputs_max 0
