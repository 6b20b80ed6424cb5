-- A tree by a recursion that is on no constructor: on a number, which is at least the rank of what is dispatched.
-- Assumes nothing: these are definitions.
use Rattle.std.specs.Prelude.{ℕ, zero, suc, Bool, true, false, List}
use Rattle.rules.specs.Tree.{Tree, leaf, node}

module _ (M : Type 0) (done : M → Bool) (rules : M → List ℕ) (test : M → ℕ) (sub : Bool → M → M) where
  unfoldable pub raw : ℕ → M → Tree
  raw zero m = leaf (rules m)
  raw (suc f) m = elim (done m) [ true ↦ leaf (rules m) | false ↦ node (test m) (raw f (sub false m)) (raw f (sub true m)) ]
