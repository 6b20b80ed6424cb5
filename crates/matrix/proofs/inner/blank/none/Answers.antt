use lib.ListN.{replicate}
use mathlib.Core.Path.{ap}
use Rattle.lists.specs.Vec.{vec}
use Rattle.rows.specs.declared.Row.{Row}
use Rattle.rules.specs.Bounds.{columns_max, rows_max}
use Rattle.matrix.proofs.inner.blank.none.Goals as goal

pub returns : goal.returns
unfolding vec
returns c = ap (λ (r : Row). record { value = replicate columns_max 0; columns = 0; rows = replicate rows_max r; count = 0 }) c.blank.ensures
