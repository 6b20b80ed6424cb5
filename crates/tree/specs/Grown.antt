-- What is left of a store into which a tree is built. Assumes nothing: these are definitions.
use Rattle.std.specs.Prelude.{ℕ, ◌*◌, ◌-◌, ◌≤◌, ◌<◌, List, ◌≡◌, drop, length, take, Result, Ok, Err}
use Rattle.rules.proofs.Stores.{Cells}
use Rattle.rules.specs.Bounds.{node_run}
use Rattle.rules.specs.Store.{cleared, encode, stored, used}
use Rattle.rules.specs.Tree.{Fit, Tree, peak, reduce, size}
use Rattle.rules.specs.declared.refusal.Refusal.{Refusal}
use Rattle.rules.specs.declared.refusal.Refusal.TheVariants.{Nodes}
use Rattle.tree.specs.declared.Built.{Built}

-- the root of a tree of n entries is the last of them
abbrev pub built_of : ℕ → Built
built_of n = record { root = record { 0 = n - 1 }; size = n }

-- xs is the store before, ys after: t stands in the first entries if need entries are there, else 7 is answered
pub data Outcome (need : ℕ) (t : Tree) (xs ys : List ℕ) (r : Result Built Refusal) : Type 0 where
  built : node_run * need ≤ length xs → r ≡ Ok (built_of (size t)) → take (node_run * size t) ys ≡ encode t → Outcome need t xs ys r
  short : length xs < node_run * need → r ≡ Err Nodes → Outcome need t xs ys r

-- t is the tree where equal arms still stand
abbrev pub Grown : Tree → List ℕ → List ℕ → Result Built Refusal → Type 0
Grown t xs ys r = Outcome (peak t) (reduce t) xs ys r

-- the same of the whole store, which is cleared after the root, or wholly
pub data Whole (t : Tree) (xs ys : List ℕ) (r : Result Built Refusal) : Type 0 where
  made : peak t ≤ used xs → r ≡ Ok (built_of (size (reduce t))) → ys ≡ stored (reduce t) xs → Whole t xs ys r
  refused : used xs < peak t → r ≡ Err Nodes → ys ≡ cleared xs → Whole t xs ys r

-- z and o, of k and l entries, stand at the front
pub record Arms (z o : Tree) (k l : ℕ) (xs : List ℕ) : Type 0 where
  pub zero_fit : Fit z
  pub one-fit : Fit o
  pub zero_cells : Cells z
  pub one-cells : Cells o
  pub zero_size : k ≡ size z
  pub one_size : l ≡ size o
  pub zero_at : take (node_run * k) xs ≡ encode z
  pub one_at : take (node_run * l) (drop (node_run * k) xs) ≡ encode o
