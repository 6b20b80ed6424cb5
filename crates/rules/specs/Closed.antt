-- Emission in closed form, which entry and which net by counting: `build-plain` says that it is 01's. Assumes nothing: these are definitions.
use Rattle.std.specs.Prelude.{ℕ, zero, suc, ◌+◌, ◌<◌, List, [], ◌∷◌, ◌++◌, map, ◌≡◌, length}
use Rattle.rules.specs.Emit.{Mux, Gives, Update}
use Rattle.rules.specs.Evaluate.{net_in, run}
use Rattle.rules.specs.Nets.{first_mux}
use Rattle.rules.specs.Tree.{Tree, leaf, node}
use Rattle.rules.specs.Trits.{mux}

-- the nets that w entries from the k-th on drive
unfoldable pub drives : ℕ → ℕ → List ℕ
drives k zero = []
drives k (suc w) = (first_mux + k) ∷ drives (suc k) w

-- "Muxes needed are branches times width": `muxes_are` says so
unfoldable pub muxes : ℕ → Tree → ℕ
muxes w (leaf rs) = 0
muxes w (node t z o) = muxes w o + muxes w z + w

-- the nets of a tree's value, where its first mux is the k-th entry
unfoldable pub nets_of : Gives → ℕ → ℕ → Tree → List ℕ
unfolding drives muxes
nets_of g w k (leaf rs) = g rs
nets_of g w k (node t z o) = drives (k + (muxes w o + muxes w z)) w

-- a branch's muxes, bit 0 first
unfoldable pub branch : ℕ → List ℕ → List ℕ → List Mux
branch t [] ys = []
branch t (x ∷ xs) [] = []
branch t (x ∷ xs) (y ∷ ys) = record { select = t; one_arm = x; zero_arm = y } ∷ branch t xs ys

-- the one arm's, the zero arm's, the branch's
unfoldable pub emits : Gives → ℕ → ℕ → Tree → List Mux
unfolding nets_of branch muxes
emits g w k (leaf rs) = []
emits g w k (node t z o) = emits g w k o ++ (emits g w (k + muxes w o) z ++ branch t (nets_of g w k o) (nets_of g w (k + muxes w o) z))

-- the values of the nets that give a tree's bits, where its muxes stand after those of old and before those of more
abbrev pub answers : (ℕ → ℕ) → Gives → ℕ → List Mux → List Mux → Tree → List ℕ
answers f g w old more t = map (net_in f (run f [] (old ++ (emits g w (length old) t ++ more)))) (nets_of g w (length old) t)

-- the same without a table: the tree as muxes of trits
unfoldable pub mux_all : ℕ → List ℕ → List ℕ → List ℕ
mux_all s [] ys = []
mux_all s (x ∷ xs) [] = []
mux_all s (x ∷ xs) (y ∷ ys) = mux s x y ∷ mux_all s xs ys

unfoldable pub bits_of : (ℕ → ℕ) → Gives → Tree → List ℕ
unfolding mux_all
bits_of f g (leaf rs) = map f (g rs)
bits_of f g (node t z o) = mux_all (f t) (bits_of f g o) (bits_of f g z)

-- nets below b
unfoldable pub Low : ℕ → List ℕ → Type 0
Low b [] = Unit {0}
Low b (x ∷ xs) = (x < b) × Low b xs

-- a leaf gives w nets, each a constant or a cell up to 9,999
pub record Wide (g : Gives) (w : ℕ) : Type 0 where
  pub width : (rs : List ℕ) → length (g rs) ≡ w
  pub small : (rs : List ℕ) → Low first_mux (g rs)

-- every update is w bits of constants or cells up to 9,999
unfoldable pub Updates : ℕ → List Update → Type 0
Updates w [] = Unit {0}
Updates w (u ∷ us) = (length u.bits ≡ w) × Low first_mux u.bits × Updates w us
