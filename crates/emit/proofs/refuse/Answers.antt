use Rattle.lists.specs.Vec.{vec_none}
use Rattle.rules.specs.Bounds.{width_max}
use Rattle.emit.proofs.refuse.Goals as goal

pub returns : goal.returns
returns c = λ i. record { no = c.from.ensures i; nets = vec_none width_max 0 i; width = 0; used = 0 }
