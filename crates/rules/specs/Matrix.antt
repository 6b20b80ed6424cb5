-- 01, "Rows and matrices": the matrix and its operations, on lists. Assumes nothing: these are definitions.
use Rattle.std.specs.Prelude.{ℕ, ◌<◌, Bool, true, false, cond, ◌&&◌, ◌||◌, List, [], ◌∷◌, ◌++◌, map, eqb, ltb, length, replicate}
use Rattle.lists.specs.Lists.{mem}
use Rattle.rules.specs.Trits.{is_x}

-- a pattern, its masks from column 0 up, and the rules that the row names: "a set of cell nets, ascending"
pub record Row : Type 0 where
  pub pattern : List ℕ
  pub rules : List ℕ

-- a net for each column, from column 0 up, and rows in order
pub record Matrix : Type 0 where
  pub nets : List ℕ
  pub rows : List Row

abbrev pub none_yet : Matrix
none_yet = record { nets = []; rows = [] }

unfoldable pub all_x : List ℕ → Bool
all_x [] = true
all_x (m ∷ ms) = is_x m && all_x ms

-- ---- sets: ascending, each once

unfoldable pub ins : ℕ → List ℕ → List ℕ
ins x [] = x ∷ []
ins x (y ∷ ys) = cond (ltb x y) (x ∷ y ∷ ys) (cond (eqb x y) (y ∷ ys) (y ∷ ins x ys))

unfoldable pub union : List ℕ → List ℕ → List ℕ
unfolding ins
union [] ys = ys
union (x ∷ xs) ys = ins x (union xs ys)

abbrev pub set_of : List ℕ → List ℕ
set_of xs = union xs []

-- ---- new, and add: one row more, the last, with the rules as a set

abbrev pub new : List ℕ → Matrix
new ns = record { nets = ns; rows = [] }

abbrev pub add : List ℕ → List ℕ → Matrix → Matrix
add p rs m = record { nets = m.nets; rows = m.rows ++ (record { pattern = p; rules = set_of rs } ∷ []) }

-- ---- merge at net t with a child

-- "patterns joined and rule sets united"
abbrev pub joined : Row → Row → Row
joined r c = record { pattern = r.pattern ++ c.pattern; rules = union r.rules c.rules }

-- "Any other row gets X in the child's columns."
abbrev pub alone : ℕ → Row → Row
alone w r = record { pattern = r.pattern ++ replicate w 2; rules = r.rules }

-- "A parent row naming t becomes one row per child row, in the child's order"
unfoldable pub merge_rows : ℕ → Matrix → List Row → List Row
unfolding union mem
merge_rows t child [] = []
merge_rows t child (r ∷ rs) = cond (mem t r.rules) (map (joined r) child.rows) (alone (length child.nets) r ∷ []) ++ merge_rows t child rs

-- "columns are the parent's, then the child's"
abbrev pub merge : ℕ → Matrix → Matrix → Matrix
merge t parent child = record { nets = parent.nets ++ child.nets; rows = merge_rows t child parent.rows }

-- ---- add_enable

-- "every old row gets 1 there"
abbrev pub widened : Row → Row
widened r = record { pattern = r.pattern ++ (1 ∷ []); rules = r.rules }

-- "a new first row of X with 0 there and no rules"
abbrev pub off : Matrix → Row
off m = record { pattern = replicate (length m.nets) 2 ++ (0 ∷ []); rules = [] }

-- "constant 1 adds nothing. Any other enable, constants 0 and X included, adds a last column"
abbrev pub add_enable : ℕ → Matrix → Matrix
add_enable e m = cond (eqb e 1) m (record { nets = m.nets ++ (e ∷ []); rows = off m ∷ map widened m.rows })

-- ---- assume: the net t becomes the constant b

abbrev pub swap : ℕ → ℕ → ℕ → ℕ
swap t b n = cond (eqb n t) b n

abbrev pub assume : ℕ → ℕ → Matrix → Matrix
assume t b m = record { nets = map (swap t b) m.nets; rows = m.rows }

-- ---- "Outputs are all rules of all rows before dispatch, ascending, each once."

unfoldable pub outputs_of : List Row → List ℕ
unfolding union
outputs_of [] = []
outputs_of (r ∷ rs) = union r.rules (outputs_of rs)

abbrev pub outputs : Matrix → List ℕ
outputs m = outputs_of m.rows

-- above b, each; and each above those before it
unfoldable pub Above : ℕ → List ℕ → Type 0
Above b [] = Unit {0}
Above b (x ∷ xs) = (b < x) × Above b xs

unfoldable pub Ascends : List ℕ → Type 0
unfolding Above
Ascends [] = Unit {0}
Ascends (x ∷ xs) = Above x xs × Ascends xs

-- some row names the net
unfoldable pub names : List Row → ℕ → Bool
unfolding mem
names [] q = false
names (r ∷ rs) q = mem q r.rules || names rs q
