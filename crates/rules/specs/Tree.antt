-- 01, "Dispatch": trees, their size and peak, when two are the same, and what a tree says. Assumes nothing: these are definitions.
use Rattle.std.specs.Prelude.{ℕ, suc, ◌+◌, ◌≤◌, max, Bool, true, false, not, cond, ◌&&◌, ◌||◌, List, ◌≡◌, eqb, leb, length}
use Rattle.lists.specs.Lists.{all}
use Rattle.lists.specs.Lists.{same as same_list}
use Rattle.rules.specs.Bounds.{rules_max}
use Rattle.rules.specs.Given.{ascends}
use Rattle.rules.specs.Nets.{is_name}

-- a leaf names rules; a branch tests a net, and has a zero arm and a one arm
pub data Tree : Type 0 where
  leaf : List ℕ → Tree
  node : ℕ → Tree → Tree → Tree

-- entries
unfoldable pub size : Tree → ℕ
size (leaf rs) = 1
size (node t z o) = size z + size o + 1

unfoldable pub branches : Tree → ℕ
branches (leaf rs) = 0
branches (node t z o) = branches z + branches o + 1

-- tests on the longest path
unfoldable pub depth : Tree → ℕ
depth (leaf rs) = 0
depth (node t z o) = suc (max (depth z) (depth o))

-- "If the two trees are equal"
unfoldable pub same : Tree → Tree → Bool
unfolding same_list
same (leaf xs) (leaf ys) = same_list xs ys
same (leaf xs) (node t z o) = false
same (node t z o) (leaf xs) = false
same (node t z o) (node u w p) = eqb t u && (same z w && same o p)

-- "the answer is the zero tree, else a branch"
abbrev pub mk : ℕ → Tree → Tree → Tree
mk t z o = cond (same z o) z (node t z o)

-- the tree that is given, from the one where equal arms still stand
unfoldable pub reduce : Tree → Tree
unfolding same
reduce (leaf rs) = leaf rs
reduce (node t z o) = mk t (reduce z) (reduce o)

-- "Peak: 1 for a leaf; otherwise, with peaks p0, p1 and sizes s0, s1 of the arms, the larger of p0 and s0 + p1, and also s0 + s1 + 1 if the arms differ."
unfoldable pub peak : Tree → ℕ
unfolding reduce same size
peak (leaf rs) = 1
peak (node t z o) =
    max (max (peak z) (size (reduce z) + peak o)) (cond (same (reduce z) (reduce o)) 0 (size (reduce z) + size (reduce o) + 1))

-- the rules that a setting of the nets reaches
unfoldable pub eval : (ℕ → Bool) → Tree → List ℕ
eval v (leaf rs) = rs
eval v (node t z o) = cond (v t) (eval v o) (eval v z)

-- some leaf is so
unfoldable pub some_leaf : (List ℕ → Bool) → Tree → Bool
some_leaf p (leaf rs) = p rs
some_leaf p (node t z o) = some_leaf p z || some_leaf p o

-- ---- "tests and rules are cell nets up to 9,999, rules ascend and number at most 8, and no path tests a net twice"

abbrev pub fine_leaf : List ℕ → Bool
fine_leaf rs = leb (length rs) rules_max && (all is_name rs && ascends rs)

unfoldable pub untested : ℕ → Tree → Bool
untested n (leaf rs) = true
untested n (node t z o) = not (eqb n t) && (untested n z && untested n o)

unfoldable pub fine : Tree → Bool
unfolding untested ascends
fine (leaf rs) = fine_leaf rs
fine (node t z o) = is_name t && (untested t z && (untested t o && (fine z && fine o)))

-- the same as facts: no branch tests n; no path tests a net twice
unfoldable pub Untested : ℕ → Tree → Type 0
Untested n (leaf rs) = Unit {0}
Untested n (node t z o) = ((n ≡ t → ⊥) × Untested n z × Untested n o)

unfoldable pub Once : Tree → Type 0
Once (leaf rs) = Unit {0}
Once (node t z o) = (Untested t z × Untested t o × Once z × Once o)

-- every test, and every leaf, is so; no leaf has more than the most rules
unfoldable pub Tests : (ℕ → Type 0) → Tree → Type 0
Tests P (leaf rs) = Unit {0}
Tests P (node t z o) = P t × Tests P z × Tests P o

unfoldable pub Leaves : (List ℕ → Type 0) → Tree → Type 0
Leaves P (leaf rs) = P rs
Leaves P (node t z o) = Leaves P z × Leaves P o

unfoldable pub Fit : Tree → Type 0
Fit (leaf rs) = length rs ≤ rules_max
Fit (node t z o) = Fit z × Fit o
