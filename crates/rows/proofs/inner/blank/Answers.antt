use mathlib.Core.List.{[]}
use mathlib.Core.Path.{ap}
use Rattle.lists.specs.Vec.{vec}
use Rattle.rules.specs.Bounds.{columns_max}
use Rattle.sets.specs.declared.Rules.{Rules}
use Rattle.rows.proofs.inner.blank.Goals as goal

pub returns : goal.returns
unfolding vec
returns c = ap (λ (s : Rules). record { pattern = vec columns_max 0 []; len = 0; rules = s }) c.none.ensures
