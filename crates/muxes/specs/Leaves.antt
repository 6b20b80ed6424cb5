-- What a loop over a tree's entries finds. Assumes nothing: these are definitions.
use Rattle.std.specs.Prelude.{ℕ, zero, suc, ltb, drop, get_or, take, Bool, false, ◌&&◌, ◌||◌, List, map}
use Rattle.rules.specs.Bounds.{node_run}
use Rattle.rules.specs.Nets.{cell}

-- an entry is a leaf, and its rules are so
abbrev pub hit : (List ℕ → Bool) → List ℕ → Bool
hit p run = ltb (get_or run 0 0) node_run && p (map cell (take (get_or run 0 0) (drop 1 run)))

-- one of the first k entries
unfoldable pub any_leaf : (List ℕ → Bool) → ℕ → List ℕ → Bool
any_leaf p zero xs = false
any_leaf p (suc k) xs = hit p (take node_run xs) || any_leaf p k (drop node_run xs)
