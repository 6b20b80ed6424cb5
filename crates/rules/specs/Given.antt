-- 01, "Forms of this source to reshape": a matrix as it is handed in, slots with counts beside them, and what is wrong with it.
-- Assumes nothing: these are definitions.
use Rattle.std.specs.Prelude.{ℕ, ◌≤◌, Bool, true, not, ◌&&◌, List, [], ◌∷◌, map, ◌≡◌, eqb, ltb, leb, length, take}
use Rattle.lists.specs.Lists.{all, front}
use Rattle.lists.specs.Vec.{vec}
use Rattle.rules.specs.Bounds.{columns_max, rows_max, rules_max}
use Rattle.rules.specs.Matrix.{Row, Matrix}
use Rattle.rules.specs.Nets.{is_cell, is_name, is_net, over}
use Rattle.rules.specs.Refuse.{Table, COLUMNS, FORM, NET, ROWS, RULES, SHAPE}
use Rattle.rules.specs.Trits.{is_trit}

pub record GivenRow : Type 0 where
  pub pattern : List ℕ
  pub len : ℕ
  pub rules : List ℕ
  pub count : ℕ

pub record Given : Type 0 where
  pub value : List ℕ
  pub columns : ℕ
  pub rows : List GivenRow
  pub count : ℕ

-- ---- "Slots past a count are no part of a matrix": in use are those below the count, of which there are no more than the capacity

abbrev pub view_row : GivenRow → Row
view_row r = record { pattern = take r.len r.pattern; rules = take r.count r.rules }

abbrev pub view : Given → Matrix
view g = record { nets = take g.columns g.value; rows = map view_row (take g.count g.rows) }

-- ---- "and 0 in one that a call makes"

abbrev pub spread_row : Row → GivenRow
spread_row r = record { pattern = vec columns_max 0 r.pattern; len = length r.pattern; rules = vec rules_max 0 r.rules; count = length r.rules }

abbrev pub zero_given : GivenRow
zero_given = spread_row (record { pattern = []; rules = [] })

abbrev pub spread : Matrix → Given
spread m = record { value = vec columns_max 0 m.nets; columns = length m.nets; rows = vec rows_max zero_given (map spread_row m.rows); count = length m.rows }

-- ---- 12: "a number in use codes no trit or net", or "the cell nets of a rule set don't strictly ascend"

unfoldable pub cells : List ℕ → List ℕ
cells [] = []
cells (n ∷ ns) = front (is_cell n) n (cells ns)

unfoldable pub above : ℕ → List ℕ → Bool
above b [] = true
above b (x ∷ xs) = ltb b x && above x xs

unfoldable pub ascends : List ℕ → Bool
unfolding above
ascends [] = true
ascends (x ∷ xs) = above x xs

abbrev pub formed_row : Row → Bool
formed_row r = all is_trit r.pattern && (all is_net r.rules && ascends (cells r.rules))

abbrev pub bad_form : Given → Bool
bad_form g = not (all is_net (view g).nets && all formed_row (view g).rows)

-- ---- 1, 2: "the matrix, or the one to be made"

abbrev pub bad_columns : Given → Bool
bad_columns g = ltb columns_max g.columns

abbrev pub too_wide : Matrix → Bool
too_wide m = ltb columns_max (length m.nets)

abbrev pub bad_rows : Given → Bool
bad_rows g = ltb rows_max g.count

abbrev pub too_tall : Matrix → Bool
too_tall m = ltb rows_max (length m.rows)

-- ---- 3: "a pattern's length differs from the column count"

abbrev pub bad_shape : Given → Bool
bad_shape g = not (all (λ (r : GivenRow). eqb r.len g.columns) (take g.count g.rows))

-- ---- 4: "a cell number over 9,999; or a constant as a rule"

abbrev pub bad_net : Given → Bool
bad_net g = not (all (λ (n : ℕ). not (over n)) (view g).nets && all (λ (r : Row). all is_name r.rules) (view g).rows)

-- ---- 5: "over 8 rules in a row"

abbrev pub bad_rules : Given → Bool
bad_rules g = not (all (λ (r : GivenRow). leb r.count rules_max) (take g.count g.rows))

abbrev pub too_many : Matrix → Bool
too_many m = not (all (λ (r : Row). leb (length r.rules) rules_max) m.rows)

-- a matrix handed in, by itself
abbrev pub matrix_table : Given → Table
matrix_table g =
    (FORM, bad_form g)
    ∷ (COLUMNS, bad_columns g)
    ∷ (ROWS, bad_rows g)
    ∷ (SHAPE, bad_shape g)
    ∷ (NET, bad_net g)
    ∷ (RULES, bad_rules g)
    ∷ []

-- ---- a matrix that none of these applies to

abbrev pub good_row : ℕ → Row → Bool
good_row w r =
    eqb (length r.pattern) w && (all is_trit r.pattern && (leb (length r.rules) rules_max && (all is_name r.rules && ascends r.rules)))

abbrev pub good : Matrix → Bool
good m =
    leb (length m.nets) columns_max
    && (all (λ (n : ℕ). not (over n)) m.nets && (leb (length m.rows) rows_max && all (good_row (length m.nets)) m.rows))

-- ---- facts: within the bounds, and slots as many as the capacity

unfoldable pub SizedRows : ℕ → List Row → Type 0
SizedRows w [] = Unit {0}
SizedRows w (r ∷ rs) = (length r.pattern ≡ w) × (length r.rules ≤ rules_max) × SizedRows w rs

pub record Sized (m : Matrix) : Type 0 where
  pub wide : length m.nets ≤ columns_max
  pub tall : length m.rows ≤ rows_max
  pub each : SizedRows (length m.nets) m.rows

unfoldable pub SlotRows : List GivenRow → Type 0
SlotRows [] = Unit {0}
SlotRows (r ∷ rs) = (length r.pattern ≡ columns_max) × (length r.rules ≡ rules_max) × SlotRows rs

pub record Slots (g : Given) : Type 0 where
  pub value : length g.value ≡ columns_max
  pub rows : length g.rows ≡ rows_max
  pub each : SlotRows g.rows
