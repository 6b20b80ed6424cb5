-- 01's `normalize` in its own words and order: rows in order, then columns in order, with the masks moved. Assumes nothing: these are definitions.
use Rattle.std.specs.Prelude.{ℕ, zero, suc, Bool, true, not, cond, ◌&&◌, ◌||◌, List, [], ◌∷◌, map, eqb, length, get_or, set}
use Rattle.std.proofs.Math.Option.{Option, none, some}
use Rattle.lists.specs.Lists.{front, same}
use Rattle.rules.specs.Matrix.{Row, Matrix, all_x}
use Rattle.rules.specs.Meaning.{fits}
use Rattle.rules.specs.Nets.{is_cell}
use Rattle.rules.specs.Normalize.{again}
use Rattle.rules.specs.Trits.{is_x}

-- the first column of a net
unfoldable pub place : ℕ → List ℕ → ℕ
place n [] = 0
place n (x ∷ xs) = cond (eqb x n) 0 (suc (place n xs))

-- a constant net drops the row if the mask is no X and differs from it; a repeated net's mask drops it if it is 0 against 1 in the first column
abbrev pub drops : ℕ → ℕ → ℕ → Bool
drops n first mask = cond (is_cell n) (not (is_x first) && not (fits mask first)) (not (fits mask n))

-- a first X takes the later mask
abbrev pub takes : ℕ → ℕ → ℕ → ℕ
takes n first mask = cond (is_cell n && is_x first) mask first

-- k columns from the j-th on: none if the row is dropped
unfoldable pub walk : List ℕ → ℕ → ℕ → List ℕ → Option (List ℕ)
unfolding place
walk ns zero j ms = some ms
walk ns (suc k) j ms =
    cond (drops (get_or ns j 0) (get_or ms (place (get_or ns j 0) ns) 2) (get_or ms j 2)) none
    (walk ns k (suc j) (set ms (place (get_or ns j 0) ns) (takes (get_or ns j 0) (get_or ms (place (get_or ns j 0) ns) 2) (get_or ms j 2))))

abbrev pub row_if : Option (List ℕ) → List ℕ → List Row → List Row
row_if none rules rest = rest
row_if (some ms) rules rest = record { pattern = ms; rules = rules } ∷ rest

-- rows in order
unfoldable pub walk_rows : List ℕ → Option (List ℕ) → List Row → List Row
unfolding walk same all_x
walk_rows ns last [] = []
walk_rows ns last (r ∷ rs) =
    row_if (cond (again last r.pattern) none (walk ns (length ns) 0 r.pattern)) r.rules (walk_rows ns (cond (again last r.pattern) last (some r.pattern)) rs)

-- columns go if constant, a repeat of an earlier one, or X in every kept row
unfoldable pub x_at : List Row → ℕ → Bool
x_at [] j = true
x_at (r ∷ rs) j = is_x (get_or r.pattern j 2) && x_at rs j

abbrev pub goes : List ℕ → List Row → ℕ → ℕ → Bool
goes ns rows j n = not (is_cell n) || (not (eqb (place n ns) j) || x_at rows j)

-- what stands in the columns that stay
unfoldable pub strip : (ℕ → ℕ → Bool) → ℕ → List ℕ → List ℕ → List ℕ
strip go j [] xs = []
strip go j (n ∷ ns) [] = []
strip go j (n ∷ ns) (x ∷ xs) = front (not (go j n)) x (strip go (suc j) ns xs)

abbrev pub strip_row : (ℕ → ℕ → Bool) → List ℕ → Row → Row
strip_row go ns r = record { pattern = strip go 0 ns r.pattern; rules = r.rules }

unfoldable pub steps : Matrix → Matrix
unfolding walk_rows x_at strip place
steps m =
    let rows : List Row = walk_rows m.nets none m.rows in
    let go : ℕ → ℕ → Bool = goes m.nets rows in
    record { nets = strip go 0 m.nets m.nets; rows = map (strip_row go m.nets) rows }
