-- 01, "Disjoint prefix": "the length of the longest prefix in which no leaf names the enables of two different positions".
-- Assumes nothing: these are definitions.
use Rattle.std.specs.Prelude.{ℕ, suc, ◌+◌, Bool, true, not, cond, ◌&&◌, List, [], ◌∷◌, ◌++◌, leb}
use Rattle.lists.specs.Lists.{mem}
use Rattle.rules.specs.Tree.{Tree, some_leaf}
use Rattle.rules.specs.Trits.{bit}

-- how many positions have a net that the rules name
unfoldable pub hits : List ℕ → List ℕ → ℕ
unfolding mem
hits [] rs = 0
hits (e ∷ es) rs = bit (mem e rs) + hits es rs

abbrev pub crowded : List ℕ → List ℕ → Bool
crowded es rs = leb 2 (hits es rs)

unfoldable pub among : List ℕ → List ℕ → Bool
unfolding mem
among outs [] = true
among outs (e ∷ es) = mem e outs && among outs es

-- every net is an output, and no leaf names two positions
abbrev pub disjoint_all : List ℕ → Tree → List ℕ → Bool
disjoint_all outs t es = among outs es && not (some_leaf (crowded es) t)

-- es after before: as many more as stay disjoint
unfoldable pub prefix_from : List ℕ → Tree → List ℕ → List ℕ → ℕ
unfolding hits among some_leaf
prefix_from outs t before [] = 0
prefix_from outs t before (e ∷ es) = cond (disjoint_all outs t (before ++ (e ∷ []))) (suc (prefix_from outs t (before ++ (e ∷ [])) es)) 0

abbrev pub prefix : List ℕ → Tree → List ℕ → ℕ
prefix outs t es = prefix_from outs t [] es
