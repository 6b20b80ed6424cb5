-- What the reader knows of a text from line to line. Assumes nothing: these are definitions.
use Rattle.std.specs.Prelude.{ℕ, ◌≤◌, ◌<◌, drop, length, take, List, ◌∷◌, ◌≡◌}
use Rattle.rows.specs.Rows.{nets_from}
use Rattle.rows.specs.declared.Nets.{Nets}
use Rattle.rules.specs.Bounds.{columns_max}
use Rattle.rules.specs.Read.{lines}

-- the first line of s is its first r bytes
pub record Cut (s : List ℕ) (r : ℕ) : Type 0 where
  pub some : 0 < r
  pub within : r ≤ length s
  pub line : lines s ≡ take r s ∷ lines (drop r s)

-- nets with 0 past the count, within the bound
pub record HeadFits (h : Nets) : Type 0 where
  pub few : h.columns ≤ columns_max
  pub tidy : h ≡ nets_from (take h.columns h.value)
