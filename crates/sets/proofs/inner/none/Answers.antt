use mathlib.Core.Path.{refl}
use Rattle.lists.specs.Vec.{vec}
use Rattle.sets.proofs.inner.none.Goals as goal

pub returns : goal.returns
unfolding vec
returns c = refl
