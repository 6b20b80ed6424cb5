-- 01, "Dispatch". Assumes nothing: these are definitions.
use Rattle.std.specs.Prelude.{ℕ, ◌+◌, ◌<◌, Bool, true, false, not, cond, ◌&&◌, ◌||◌, List, [], ◌∷◌, ◌≡◌, eqb, ltb, length, get_or}
use Rattle.lists.specs.Lists.{mem}
use Rattle.rules.specs.Fuel.{raw}
use Rattle.rules.specs.Matrix.{Row, Matrix, add_enable, all_x, assume}
use Rattle.rules.specs.Meaning.{Shaped}
use Rattle.rules.specs.Nets.{first_mux, is_cell}
use Rattle.rules.specs.Normalize.{normalize}
use Rattle.rules.specs.Tree.{Tree, peak, reduce}
use Rattle.rules.specs.Trits.{bit, is_x}

-- 6: "a matrix with no rows, or whose last row before the enable isn't all X"
unfoldable pub catch_all : List Row → Bool
unfolding all_x
catch_all [] = false
catch_all (r ∷ []) = all_x r.pattern
catch_all (r ∷ s ∷ rs) = catch_all (s ∷ rs)

-- "the number of distinct cell nets": those of a list that are in none before
unfoldable pub distinct_from : List ℕ → List ℕ → ℕ
unfolding mem
distinct_from before [] = 0
distinct_from before (n ∷ ns) = bit (is_cell n && not (mem n before)) + distinct_from (n ∷ before) ns

abbrev pub distinct : List ℕ → ℕ
distinct ns = distinct_from [] ns

-- ---- of a normal form

-- "if no columns or one row is left"
abbrev pub done : Matrix → Bool
done m = eqb (length m.nets) 0 || eqb (length m.rows) 1

-- "a leaf with the first row's rules, or none if there are no rows"
abbrev pub head_rules : List Row → List ℕ
head_rules [] = []
head_rules (r ∷ rs) = r.rules

abbrev pub rules : Matrix → List ℕ
rules m = head_rules m.rows

-- "the column with fewest X, the lowest on a tie"
unfoldable pub count_x : List Row → ℕ → ℕ
count_x [] i = 0
count_x (r ∷ rs) i = bit (is_x (get_or r.pattern i 2)) + count_x rs i

unfoldable pub best : List Row → List ℕ → ℕ → ℕ → ℕ
unfolding count_x
best rows [] i b = b
best rows (n ∷ ns) i b = best rows ns (i + 1) (cond (ltb (count_x rows i) (count_x rows b)) i b)

abbrev pub column : Matrix → ℕ
column m = best m.rows m.nets 0 0

-- the net that is tested
unfoldable pub test : Matrix → ℕ
unfolding best
test m = get_or m.nets (column m) 0

-- "Replace that net by 0, then by 1, and dispatch each", which normalizes first
unfoldable pub sub : Bool → Matrix → Matrix
unfolding normalize test
sub b m = normalize (assume (test m) (bit b) m)

-- ---- the tree

-- where equal arms still stand: the columns of a normal form are fuel enough
unfoldable pub raw_of : Matrix → Tree
unfolding raw normalize sub
raw_of m = raw Matrix done rules test sub (length (normalize m).nets) (normalize m)

-- "A public dispatch takes matrix and enable together."
unfoldable pub dispatch : ℕ → Matrix → Tree
unfolding raw_of reduce
dispatch e m = reduce (raw_of (add_enable e m))

unfoldable pub peak_of : ℕ → Matrix → ℕ
unfolding raw_of peak
peak_of e m = peak (raw_of (add_enable e m))

-- what dispatch takes with this enable, as far as meaning goes: every pattern as long as the value, the last row all X, nets up to 9,999
pub record Accepted (e : ℕ) (m : Matrix) : Type 0 where
  pub shape : Shaped (length m.nets) m.rows
  pub catch : catch_all m.rows ≡ true
  pub nets : (n : ℕ) → mem n m.nets ≡ true → n < first_mux
  pub enable : e < first_mux
