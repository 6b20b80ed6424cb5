-- How a struct holds a row, and what normalize makes of one. Assumes nothing: these are definitions.
use Rattle.std.specs.Prelude.{length, Bool, List, [], ◌∷◌, map, ℕ, suc, Option, Some, None, ◌≡◌}
use Rattle.std.proofs.Math.Option.{Option as Walk, none, some}
use Rattle.lists.specs.Vec.{vec}
use Rattle.rows.specs.declared.Nets.{Nets}
use Rattle.rows.specs.declared.Row.{Row}
use Rattle.rules.specs.Bounds.{columns_max}
use Rattle.rules.specs.Given.{GivenRow, spread_row, view_row}
use Rattle.rules.specs.Matrix.{Row as RowOf}
use Rattle.rules.specs.Steps.{place}

-- the slots and counts of the struct, and back
abbrev pub given : Row → GivenRow
given r = record { pattern = r.pattern; len = r.len; rules = r.rules.items; count = r.rules.count }

abbrev pub from : GivenRow → Row
from g = record { pattern = g.pattern; len = g.len; rules = record { items = g.rules; count = g.count } }

-- the row that it is
abbrev pub view : Row → RowOf
view r = view_row (given r)

-- a row with 0 past every count
abbrev pub row_from : RowOf → Row
row_from r = from (spread_row r)

-- it has 0 past every count
abbrev pub Tidy : Row → Type 0
Tidy r = r ≡ row_from (view r)

-- a row that was walked: none if it is dropped
abbrev pub settled : Walk (List ℕ) → Option (List ℕ)
settled none = None
settled (some ms) = Some (vec columns_max 0 ms)

-- nets with 0 past the count
abbrev pub nets_from : List ℕ → Nets
nets_from ns = record { value = vec columns_max 0 ns; columns = length ns }

-- the first column of each column's net
abbrev pub places : List ℕ → List ℕ
places ns = map (λ (x : ℕ). place x ns) ns

-- whether each column goes, from the j-th on
unfoldable pub flags_from : (ℕ → ℕ → Bool) → ℕ → List ℕ → List Bool
flags_from go j [] = []
flags_from go j (n ∷ ns) = go j n ∷ flags_from go (suc j) ns

abbrev pub flags : (ℕ → ℕ → Bool) → List ℕ → List Bool
flags go ns = flags_from go 0 ns
