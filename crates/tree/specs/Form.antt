-- When numbers are those of one tree, and what is read of their end. Assumes nothing: these are definitions.
use Rattle.std.specs.Prelude.{ℕ, zero, suc, ◌*◌, ◌-◌, ◌≤◌, ◌<◌, Bool, true, not, ◌&&◌, List, ◌++◌, ◌≡◌, eqb, drop, get_or, length, take, Option, Some, None}
use Rattle.rules.specs.Bounds.{node_run}
use Rattle.rules.specs.Nets.{number}
use Rattle.rules.specs.Store.{encode}
use Rattle.rules.specs.Tree.{Tree, fine, leaf, node, size}
use Rattle.tree.specs.declared.inner.Last.{Last}
use Rattle.tree.specs.declared.inner.Last.TheVariants.{Alone, Joins}
use Rattle.tree.specs.declared.inner.Root.{Root}
use Rattle.tree.specs.declared.inner.Root.TheVariants.{Branch, Leaf}

-- the entries of one well formed tree, and nothing else
pub record IsTree (xs : List ℕ) : Type 0 where
  pub tree : Tree
  pub is : xs ≡ encode tree
  pub good : fine tree ≡ true

-- xs ends in the entries of t
pub record Ends (t : Tree) (xs : List ℕ) : Type 0 where
  pub front : List ℕ
  pub is : xs ≡ front ++ encode t
  pub good : fine t ≡ true

pub record HasTree (xs : List ℕ) : Type 0 where
  pub tree : Tree
  pub ends : Ends tree xs

-- what is read of the last entry: how many rules; or the test, and where the arms end
unfoldable pub RootOf : Tree → List ℕ → Root → Type 0
RootOf (leaf rs) xs r = r ≡ Leaf (length rs)
RootOf (node t z o) xs r = r ≡ Branch (record { 0 = number t }) (length xs - node_run) (length xs - node_run - node_run * size o)

-- none of the first k entries is a branch that tests the cell n
unfoldable pub none_tests : ℕ → ℕ → List ℕ → Bool
none_tests n zero xs = true
none_tests n (suc k) xs = not (eqb (get_or xs 0 0) node_run && eqb (get_or xs 1 0) n) && none_tests n k (drop node_run xs)

-- xs is a tree exactly if the numbers up to z are one, and those from there up to o
pub record Split (xs : List ℕ) (z o : ℕ) : Type 0 where
  pub order : z ≤ o
  pub below : o < length xs
  pub whole : IsTree (take z xs) → IsTree (take (o - z) (drop z xs)) → IsTree xs
  pub zero_arm : IsTree xs → IsTree (take z xs)
  pub one_arm : IsTree xs → IsTree (take (o - z) (drop z xs))

unfoldable pub LastOf : List ℕ → Option Last → Type 0
LastOf xs None = IsTree xs → ⊥
LastOf xs (Some Alone) = IsTree xs
LastOf xs (Some (Joins z o)) = Split xs z o
