use lib.ListN.{replicate}
use mathlib.Core.Path.{◌∙◌}
use Rattle.rows.proofs.Laws.{vec-last}
use Rattle.rules.specs.Bounds.{columns_max}
use Rattle.rows.proofs.inner.off.Goals as goal

pub returns : goal.returns
returns c = c.alone.ensures ∙ vec-last columns_max 0 (replicate c.args.n 2)
