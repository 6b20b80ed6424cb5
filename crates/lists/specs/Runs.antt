-- Numbers lent as runs of a fixed length, one run an entry. Assumes nothing: these are definitions.
use Rattle.std.specs.Prelude.{ℕ, zero, suc, ◌/◌, List, [], ◌∷◌, length, take, drop}

-- how many whole runs of k there are
abbrev pub entries : ℕ → List ℕ → ℕ
entries k xs = length xs / k

-- the first n runs of k
unfoldable pub runs : ℕ → ℕ → List ℕ → List (List ℕ)
runs k zero xs = []
runs k (suc n) xs = take k xs ∷ runs k n (drop k xs)
