-- The store after a tree was built in its entries in use, or none was. Assumes nothing.
use lib.ListN.{drop, length, replicate, take}
use lib.Seq.{length-take-le, take_at}
use mathlib.Core.List.{◌++◌, List}
use mathlib.Core.Path.{◌∙◌, ◌≡◌, ap, ap₂, subst, sym}
use native.Mathlib.Omega.{arith}
use Prim.Native.Nat.{◌*◌, ◌+◌, ◌-◌, ◌≤◌, ℕ}
use Rattle.rules.proofs.Trees.{size_pos}
use Rattle.rules.specs.Bounds.{node_run}
use Rattle.rules.specs.Store.{cleared, used}
use Rattle.rules.specs.Tree.{reduce, size, Tree}
use Rattle.tree.proofs.Builds.{whole_made}
use Rattle.tree.proofs.Grows.{took}
use Rattle.std.specs.Prelude.{Result, Ok}
use Rattle.rules.specs.declared.refusal.Refusal.{Refusal}
use Rattle.tree.specs.declared.Built.{Built}
use Rattle.tree.specs.Grown.{built, built_of, Grown, short, Whole}

pub cleared_is : (xs zs : List ℕ) (k : ℕ) → k ≡ node_run * used xs → k ≤ length xs → zs ≡ replicate (length (take k xs)) 0 → zs ++ drop k xs ≡ cleared xs
cleared_is xs zs k e h c = ap₂ ◌++◌ (c ∙ ap (λ (n : ℕ). replicate n 0) (length-take-le k xs h ∙ e)) (ap (λ (n : ℕ). drop n xs) e)

-- the root is the last entry of the tree
pub root_next : (t : Tree) (xs ys : List ℕ) (r : Result Built Refusal) (b : Built) → Grown t xs ys r → r ≡ Ok b → b.root.0 + 1 ≡ b.size
root_next t xs ys r b (built h e a) q =
    let j : b ≡ built_of (size (reduce t)) = cc in
    let l = size_pos (reduce t) in
    rw j (omega arith)
root_next t xs ys r b (short h e) q = let z : ◌≡◌ {A = ℕ} 0 1 = cc in absurd (omega arith)

-- the tree that the recursion put into the first k numbers stands in them
pub placed : (t : Tree) (xs ys : List ℕ) (k : ℕ) (r : Result Built Refusal) (b : Built) → Grown t (take k xs) ys r → r ≡ Ok b → k ≤ length xs
    → (b.root.0 + 1 ≡ b.size) × (node_run * b.size ≤ k)
placed t xs ys k r b g q h =
    let w = took t (take k xs) ys r b g q in
    (root_next t (take k xs) ys r b g q, omega (arith, w.within, length-take-le k xs h))

-- xs is the store, k its numbers in use, ys what the recursion left of them, zs what was then cleared
module _ (t : Tree) (xs ys zs : List ℕ) (k : ℕ) (e : k ≡ node_run * used xs) (h : k ≤ length xs) (l : length ys ≡ length (take k xs)) where
  pub front_length : length (take k (ys ++ drop k xs)) ≡ k
  front_length =
      let a = length-take-le k xs h in
      ap length (take_at ys (drop k xs) k (l ∙ a)) ∙ l ∙ a

  -- n is the place after the root
  pub whole_root : (r : Result Built Refusal) (b : Built) (n : ℕ) → Grown t (take k xs) ys r → r ≡ Ok b → n ≡ b.size
      → zs ≡ replicate (length (take (k - node_run * n) (drop (node_run * n) (ys ++ drop k xs)))) 0
      → Whole t xs (take (node_run * n) (ys ++ drop k xs) ++ (zs ++ drop (k - node_run * n) (drop (node_run * n) (ys ++ drop k xs)))) (Ok b)
  whole_root r b n g q i =
      subst
      (λ (j : ℕ). zs ≡ replicate (length (take (k - node_run * j) (drop (node_run * j) (ys ++ drop k xs)))) 0
      → Whole t xs (take (node_run * j) (ys ++ drop k xs) ++ (zs ++ drop (k - node_run * j) (drop (node_run * j) (ys ++ drop k xs)))) (Ok b))
      (sym i) (whole_made t xs ys zs k e h l r b g q)
