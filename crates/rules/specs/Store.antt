-- 01, "Dispatch" and "Forms of this source to reshape": a tree as numbers in the node store. Assumes nothing: these are definitions.
use Rattle.std.specs.Prelude.{ℕ, ◌+◌, ◌-◌, ◌*◌, min, Bool, true, false, cond, ◌&&◌, List, [], ◌∷◌, ◌++◌, map, eqb, ltb, length, take, drop, get_or, replicate}
use Rattle.std.proofs.Math.Option.{Option, none, some}
use Rattle.lists.specs.Lists.{same as same_list}
use Rattle.lists.specs.Runs.{entries, runs}
use Rattle.rules.specs.Bounds.{node_run, nodes_max, rules_max}
use Rattle.rules.specs.Nets.{cell, number}
use Rattle.rules.specs.Tree.{Tree, leaf, node, size, fine}

-- a leaf: how many rules, the cells' numbers, zeros after them; the empty leaf is all zeros
abbrev pub leaf_run : List ℕ → List ℕ
leaf_run rs = length rs ∷ (map number rs ++ replicate (rules_max - length rs) 0)

-- a branch: one more than the most rules, the test's number, the size of the one arm, zeros after them
abbrev pub run_of_node : ℕ → ℕ → List ℕ
run_of_node t k = node_run ∷ number t ∷ k ∷ replicate (rules_max - 2) 0

-- "The store holds the zero arm's nodes, then the one arm's, then the branch"
unfoldable pub encode : Tree → List ℕ
encode (leaf rs) = leaf_run rs
encode (node t z o) = encode z ++ (encode o ++ run_of_node t (size o))

-- ---- the store after a dispatch

-- entries that dispatch uses of a store: "the first 1,024 entries if longer"
abbrev pub used : List ℕ → ℕ
used xs = min (entries node_run xs) nodes_max

-- "The entries after the root are cleared to the empty leaf, through place 1,023; any beyond are not touched."
unfoldable pub stored : Tree → List ℕ → List ℕ
unfolding encode size
stored t xs = encode t ++ (replicate (node_run * used xs - node_run * size t) 0 ++ drop (node_run * used xs) xs)

-- "its store (the first 1,024 entries if longer) is all empty leaves"
abbrev pub cleared : List ℕ → List ℕ
cleared xs = replicate (node_run * used xs) 0 ++ drop (node_run * used xs) xs

-- ---- a tree handed in

-- the one arm is on top of the zero arm
abbrev pub join : ℕ → List Tree → List Tree
join t [] = []
join t (o ∷ []) = []
join t (o ∷ z ∷ st) = node t z o ∷ st

abbrev pub step : List ℕ → List Tree → List Tree
step r st = cond (eqb (get_or r 0 0) node_run) (join (cell (get_or r 1 0)) st) (leaf (map cell (take (get_or r 0 0) (drop 1 r))) ∷ st)

-- entry by entry: what the entries give
unfoldable pub read_all : List (List ℕ) → List Tree → List Tree
read_all [] st = st
read_all (r ∷ rs) st = read_all rs (step r st)

-- "its entries read this way give one tree": one tree, whose one coding the numbers are
unfoldable pub one_tree : List ℕ → List Tree → Option Tree
unfolding same_list encode fine
one_tree xs [] = none
one_tree xs (t ∷ []) = cond (same_list (encode t) xs && fine t) (some t) none
one_tree xs (t ∷ u ∷ st) = none

-- "A tree is well formed (12) if its root is among the store's first 1,024 entries, its entries read this way give one tree up to its root"
unfoldable pub tree_at : List ℕ → ℕ → Option Tree
unfolding one_tree read_all runs
tree_at xs root =
    cond (ltb root (used xs)) (one_tree (take (node_run * (root + 1)) xs) (read_all (runs node_run (root + 1) xs) [])) none

abbrev pub is_none : Option Tree → Bool
is_none none = true
is_none (some t) = false

-- the tree that was found, where one was
abbrev pub found : Option Tree → Tree
found none = leaf []
found (some t) = t
