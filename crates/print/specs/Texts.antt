-- The texts of the printers, and what a row or a matrix must be like to have one. Assumes nothing: these are definitions.
use Rattle.std.specs.Prelude.{ℕ, ◌/◌, ◌≤◌, take, true, cond, leb, List, [], ◌∷◌, map, reverse, ◌≡◌}
use Rattle.matrix.specs.declared.Matrix.{Matrix}
use Rattle.rows.specs.Rows.{view}
use Rattle.rows.specs.declared.Row.{Row}
use Rattle.rules.specs.Bounds.{columns_max, rows_max, rules_max}
use Rattle.rules.specs.Bytes.{byte}
use Rattle.rules.specs.Print.{digit, gap, grouped, net, row_line, together, trit}
use Rattle.rules.specs.Refusals.{all_low}

-- the figure of n's thousands, hundreds or tens, where n has as many
abbrev pub lead : ℕ → ℕ → List ℕ
lead n unit = cond (leb unit n) (digit (n / unit) ∷ []) []

-- a space and a net
unfoldable pub spaced : ℕ → List ℕ
spaced n = byte " " ∷ net n

-- the i-th trit from the left, with its mark
unfoldable pub marked : ℕ → ℕ → List ℕ
marked i t = cond (gap i) (byte "_" ∷ trit t ∷ []) (trit t ∷ [])

-- the trits of a pattern, from the highest column to the lowest
unfoldable pub trits : List ℕ → List ℕ
trits p = grouped 0 (reverse p)

-- the lines of rows
unfoldable pub rows_text : List Row → List ℕ
rows_text rs = together (map (λ (r : Row). row_line (view r)) rs)

-- counts within the slots, and no cell over 9,999
pub record RowFits (r : Row) : Type 0 where
  pub wide : r.len ≤ columns_max
  pub few : r.rules.count ≤ rules_max
  pub low : all_low (take r.rules.count r.rules.items) ≡ true

unfoldable pub RowsFit : List Row → Type 0
RowsFit [] = Unit {0}
RowsFit (r ∷ rs) = RowFits r × RowsFit rs

pub record Fits (m : Matrix) : Type 0 where
  pub wide : m.columns ≤ columns_max
  pub tall : m.count ≤ rows_max
  pub low : all_low (take m.columns m.value) ≡ true
  pub each : RowsFit (take m.count m.rows)
