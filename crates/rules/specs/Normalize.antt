-- 01's `normalize`, by filter and lookup: nothing moves. Steps.antt has it in 01's own words, and the two are equal.
-- Assumes nothing: these are definitions.
use Rattle.std.specs.Prelude.{Bool, false, not, cond, ◌&&◌, ◌||◌, List, [], ◌∷◌, map, ℕ, eqb}
use Rattle.std.proofs.Math.Option.{Option, none, some}
use Rattle.lists.specs.Lists.{front, mem, same}
use Rattle.rules.specs.Matrix.{Row, Matrix, all_x}
use Rattle.rules.specs.Meaning.{matches}
use Rattle.rules.specs.Nets.{is_cell}
use Rattle.rules.specs.Trits.{is_x}

-- the mask that a row asks of a net: the first of its columns that is no X
unfoldable pub wanted : List ℕ → List ℕ → ℕ → ℕ
wanted [] ms n = 2
wanted (x ∷ xs) [] n = 2
wanted (x ∷ xs) (m ∷ ms) n = cond (eqb x n && not (is_x m)) m (wanted xs ms n)

-- what a column's masks are held against: the constant, or the net's first mask
abbrev pub target : List ℕ → List ℕ → ℕ → ℕ
target ns ms n = cond (is_cell n) (wanted ns ms n) n

abbrev pub sound : List ℕ → List ℕ → Bool
sound ns ms = matches (target ns ms) ns ms

-- as the last row that this test did not remove, or after one of X
abbrev pub again : Option (List ℕ) → List ℕ → Bool
again none ms = false
again (some last) ms = same ms last || all_x last

unfoldable pub keep : List ℕ → Option (List ℕ) → List Row → List Row
unfolding same all_x matches wanted
keep ns last [] = []
keep ns last (r ∷ rs) =
    front (not (again last r.pattern) && sound ns r.pattern) r (keep ns (cond (again last r.pattern) last (some r.pattern)) rs)

-- some row asks something of the net
unfoldable pub asked : List ℕ → List Row → ℕ → Bool
unfolding wanted
asked ns [] n = false
asked ns (r ∷ rs) n = not (is_x (wanted ns r.pattern n)) || asked ns rs n

-- the columns that stay: no constant, no repeat of one before, and not X in every row
unfoldable pub columns : (ℕ → Bool) → List ℕ → List ℕ → List ℕ
unfolding mem
columns ask before [] = []
columns ask before (n ∷ ns) = front (is_cell n && (not (mem n before) && ask n)) n (columns ask (n ∷ before) ns)

-- a row at the columns that stay
abbrev pub moved : List ℕ → List ℕ → Row → Row
moved ns cs r = record { pattern = map (wanted ns r.pattern) cs; rules = r.rules }

abbrev pub kept : Matrix → List Row
kept m = keep m.nets none m.rows

abbrev pub stay : Matrix → List ℕ
stay m = columns (asked m.nets (kept m)) [] m.nets

unfoldable pub normalize : Matrix → Matrix
unfolding keep columns asked wanted
normalize m = record { nets = stay m; rows = map (moved m.nets (stay m)) (kept m) }
