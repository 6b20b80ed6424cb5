-- The column that is tested, as a loop over counts finds it. Assumes nothing: these are definitions.
use Rattle.std.specs.Prelude.{ltb, get_or, cond, [], ◌++◌, ◌∷◌, List, ◌+◌, suc, zero, ℕ}

-- f at 0, 1 and so on, n of them
unfoldable pub upto : (ℕ → ℕ) → ℕ → List ℕ
upto f zero = []
upto f (suc n) = upto f n ++ (f n ∷ [])

-- the place of the least of cs, of b and the k from i on: the first of these on a tie
unfoldable pub least : List ℕ → ℕ → ℕ → ℕ → ℕ
least cs zero i b = b
least cs (suc k) i b = least cs k (i + 1) (cond (ltb (get_or cs i 0) (get_or cs b 0)) i b)
