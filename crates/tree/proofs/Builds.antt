-- What a public call leaves that grows a tree in the entries in use and clears those after its root. Assumes nothing.
use Prim.Native.Nat.{ℕ, ◌+◌, ◌*◌, ◌-◌, ◌≤◌, ◌<◌}
use mathlib.Core.List.{List, ◌++◌}
use mathlib.Core.Path.{◌≡◌, refl, sym, ap, ap₂, ◌∙◌}
use native.Mathlib.Omega.{arith}
use lib.ListN.{drop, length, length-append, length-drop, length-take, replicate, take}
use lib.Seq.{drop_at, drop-drop, length-take-le, take-append-le, take_at}
use Rattle.rules.specs.Bounds.{node_run}
use Rattle.rules.specs.Store.{encode, stored, used}
use Rattle.rules.specs.Tree.{Tree, peak, reduce}
use Rattle.tree.proofs.Grows.{took}
use Rattle.tree.specs.Grown.{Grown, Whole, built, made, refused, short}
use Rattle.tree.specs.declared.Built.{Built}
use Rattle.rules.specs.declared.refusal.Refusal.{Refusal}
use Rattle.rules.specs.declared.refusal.Refusal.TheVariants.{Nodes}
use Rattle.std.specs.Prelude.{Result, Ok, Err}

-- xs is the store, k its numbers in use, ys what the recursion left of them, zs what was then cleared
module _ (t : Tree) (xs ys zs : List ℕ) (k : ℕ) (e : k ≡ node_run * used xs) (h : k ≤ length xs) (l : length ys ≡ length (take k xs)) where
  room : length (take k xs) ≡ k
  room = length-take-le k xs h

  pub whole_refused : length (take k xs) < node_run * peak t → zs ≡ replicate (length (take k (ys ++ drop k xs))) 0
      → Whole t xs (zs ++ drop k (ys ++ drop k xs)) (Err Nodes)
  whole_refused n c =
      let a : take k (ys ++ drop k xs) ≡ ys = take_at ys (drop k xs) k (l ∙ room) in
      let b : drop k (ys ++ drop k xs) ≡ drop k xs = drop_at ys (drop k xs) k (l ∙ room) in
      refused (omega (arith, room)) refl
      (ap₂ ◌++◌ (c ∙ ap (λ (q : ℕ). replicate q 0) (ap length a ∙ l ∙ room ∙ e)) (b ∙ ap (λ (q : ℕ). drop q xs) e))

  -- what stands after a tree of s entries once it is cleared
  cleared-after : (s : ℕ) → node_run * s ≤ k → zs ≡ replicate (length (take (k - node_run * s) (drop (node_run * s) (ys ++ drop k xs)))) 0
      → zs ≡ replicate (node_run * used xs - node_run * s) 0
  cleared-after s w c =
      let mid : length (take (k - node_run * s) (drop (node_run * s) (ys ++ drop k xs))) ≡ node_run * used xs - node_run * s =
      simp (length-take, length-drop, length-append) (omega (arith, room)) in
      c ∙ ap (λ (n : ℕ). replicate n 0) mid

  untouched : (s : ℕ) → node_run * s ≤ k → drop (k - node_run * s) (drop (node_run * s) (ys ++ drop k xs)) ≡ drop (node_run * used xs) xs
  untouched s w =
      let sum : node_run * s + (k - node_run * s) ≡ k = omega arith in
      drop-drop (k - node_run * s) (node_run * s) (ys ++ drop k xs) ∙ ap (λ (n : ℕ). drop n (ys ++ drop k xs)) sum ∙ drop_at ys (drop k xs) k (l ∙ room) ∙ ap (λ (n : ℕ). drop n xs) e

  pub whole_made : (r : Result Built Refusal) (b : Built) → Grown t (take k xs) ys r → r ≡ Ok b
      → zs ≡ replicate (length (take (k - node_run * b.size) (drop (node_run * b.size) (ys ++ drop k xs)))) 0
      → Whole t xs (take (node_run * b.size) (ys ++ drop k xs) ++ (zs ++ drop (k - node_run * b.size) (drop (node_run * b.size) (ys ++ drop k xs)))) (Ok b)
  unfolding stored
  whole_made r b (built g d a) q c =
      let s : ℕ = b.size in
      let w = took t (take k xs) ys r b (built g d a) q in
      let w1 : node_run * s ≤ k = omega (arith, w.within, room) in
      let front : take (node_run * s) (ys ++ drop k xs) ≡ encode (reduce t) = take-append-le (node_run * s) ys (drop k xs) (omega (arith, room)) ∙ w.at in
      made (omega (arith, room)) (sym q ∙ d) (rw (front, untouched s w1, cleared-after s w1 c, w.is))
  whole_made r b (short g d) q c = let z : ◌≡◌ {A = ℕ} 0 1 = cc in absurd (omega arith)
