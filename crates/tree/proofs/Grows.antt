-- How what the arms leave makes what the whole leaves: the steps of an induction on any tree in which equal arms still stand. Assumes nothing.
use Prim.Native.Nat.{ℕ, ◌+◌, ◌*◌, ◌-◌, ◌≤◌, ◌<◌}
use mathlib.Core.Bool.{Bool, true, false, cond}
use mathlib.Core.List.{List, ◌++◌}
use mathlib.Core.Path.{◌≡◌, refl, ap, ◌∙◌}
use native.Mathlib.Omega.{arith}
use lib.ListN.{drop, length, take}
use lib.Seq.{drop_at, length-take-le, take_at}
use Rattle.rules.proofs.Stores.{Cells, encode-length}
use Rattle.rules.proofs.Trees.{reduce-fit, reduce-peak, size_pos}
use Rattle.rules.specs.Bounds.{node_run, rules_max}
use Rattle.rules.specs.Store.{encode, leaf_run}
use Rattle.rules.specs.Tree.{Fit, Tree, leaf, mk, node, peak, reduce, same, size}
use Rattle.tree.proofs.Laws.{rest}
use Rattle.rules.specs.declared.refusal.Refusal.{Refusal}
use Rattle.rules.specs.declared.refusal.Refusal.TheVariants.{Nodes}
use Rattle.std.specs.Prelude.{Result, Ok, Err}
use Rattle.tree.specs.Grown.{Arms, Grown, Outcome, built, built_of, short}
use Rattle.tree.specs.declared.Built.{Built}

-- what a sub-dispatch that gave a tree of s entries has left
pub record Took (t : Tree) (xs ys : List ℕ) (s : ℕ) : Type 0 where
  pub is : s ≡ size (reduce t)
  pub room : node_run * peak t ≤ length xs
  pub at : take (node_run * s) ys ≡ encode (reduce t)
  pub within : node_run * s ≤ length xs
  pub pos : 1 ≤ s

pub took : (t : Tree) (xs ys : List ℕ) (r : Result Built Refusal) (b : Built) → Grown t xs ys r → r ≡ Ok b → Took t xs ys b.size
took t xs ys r b (built h e a) q =
    let j : b ≡ built_of (size (reduce t)) = cc in
    let i : b.size ≡ size (reduce t) = ap (λ (w : Built). w.size) j in
    let l = reduce-peak t in
    let m = size_pos (reduce t) in
    record { is = i; room = h; at = ap (λ (k : ℕ). take (node_run * k) ys) i ∙ a; within = omega arith; pos = omega arith }
took t xs ys r b (short h e) q = let z : ◌≡◌ {A = ℕ} 0 1 = cc in absurd (omega arith)

pub gave_up : (t : Tree) (xs ys : List ℕ) (r : Result Built Refusal) (n : Refusal) → Grown t xs ys r → r ≡ Err n → length xs < node_run * peak t
gave_up t xs ys r n (built h e a) q = let z : ◌≡◌ {A = ℕ} 0 1 = cc in absurd (omega arith)
gave_up t xs ys r n (short h e) q = h

-- ---- a leaf

pub leaf_short : (rs xs ys : List ℕ) → length xs < node_run → Grown (leaf rs) xs ys (Err Nodes)
unfolding peak
leaf_short rs xs ys h = short (omega arith) refl

pub leaf_built : (rs xs ys r : List ℕ) → length rs ≤ rules_max → node_run ≤ length xs → ys ≡ leaf_run rs ++ r → Grown (leaf rs) xs ys (Ok (built_of 1))
unfolding peak reduce size encode Fit
leaf_built rs xs ys r f h e =
    let l : length (leaf_run rs) ≡ node_run = encode-length (leaf rs) f in
    built (omega arith) refl (rw e (take_at (leaf_run rs) r node_run l))

-- ---- a branch

-- same arms that are one have only cells, if all have
mk-cells : (t : ℕ) (z o : Tree) (b : Bool) → 3 ≤ t → Cells z → Cells o → Cells (cond b z (node t z o))
unfolding Cells
mk-cells t z o true h c d = c
mk-cells t z o false h c d = (h, c, d)

pub reduce-cells : (t : Tree) → Cells t → Cells (reduce t)
unfolding reduce Cells
reduce-cells (leaf rs) h = h
reduce-cells (node t z o) h = mk-cells t (reduce z) (reduce o) (same (reduce z) (reduce o)) h.0 (reduce-cells z h.1) (reduce-cells o h.2)

module _ (t : ℕ) (z o : Tree) where
  -- the zero arm was refused
  pub up_zero : (xs ys : List ℕ) → length xs < node_run * peak z → Grown (node t z o) xs ys (Err Nodes)
  unfolding peak
  up_zero xs ys h = short (omega arith) refl

  -- the one arm was refused
  pub up_one : (xs ys ws vs : List ℕ) (k : ℕ) → Took z xs ys k → length ws ≡ length xs - node_run * k → length ws < node_run * peak o → Grown (node t z o) xs vs (Err Nodes)
  unfolding peak
  up_one xs ys ws vs k a l h = short (omega (arith, a.is, a.within)) refl

  -- both were built, and joined
  pub up-join : (xs ys ws us vs qs : List ℕ) (k l : ℕ) (r : Result Built Refusal) → Took z xs ys k → Took o ws us l → length ws ≡ length xs - node_run * k → length vs ≡ length xs
      → Outcome (cond (same (reduce z) (reduce o)) 0 (size (reduce z) + size (reduce o) + 1)) (mk t (reduce z) (reduce o)) vs qs r
      → Grown (node t z o) xs qs r
  unfolding peak reduce
  up-join xs ys ws us vs qs k l r a b m n (built h e p) = built (omega (arith, a.is, a.within, a.room, b.room)) e p
  up-join xs ys ws us vs qs k l r a b m n (short h e) = short (omega (arith, a.is, a.within, a.room, b.room)) e

  -- how the arms stand when they are joined: of what is known of the given trees, as their being fine, or of those where equal arms still stand
  arms_of : (xs ys ws us : List ℕ) (k l : ℕ) → Fit (reduce z) → Fit (reduce o) → Cells (reduce z) → Cells (reduce o) → Took z xs ys k → Took o ws us l
      → length ys ≡ length xs → length ws ≡ length xs - node_run * k → length us ≡ length ws
      → Arms (reduce z) (reduce o) k l (take (node_run * k) ys ++ (us ++ drop (length ys - node_run * k) (drop (node_run * k) ys)))
  arms_of xs ys ws us k l fz fo cz co a b m n p =
      let w : node_run * k ≤ length ys = omega (arith, a.within) in
      let e : length (take (node_run * k) ys) ≡ node_run * k = length-take-le (node_run * k) ys w in
      rw (rest (node_run * k) ys us w) (record {
        zero_fit = fz;
        one-fit = fo;
        zero_cells = cz;
        one-cells = co;
        zero_size = a.is;
        one_size = b.is;
        zero_at = take_at (take (node_run * k) ys) us (node_run * k) e ∙ a.at;
        one_at = ap (λ (q : List ℕ). take (node_run * l) q) (drop_at (take (node_run * k) ys) us (node_run * k) e) ∙ b.at;
      })

  pub arms : (xs ys ws us : List ℕ) (k l : ℕ) → Fit z → Fit o → Cells z → Cells o → Took z xs ys k → Took o ws us l
      → length ys ≡ length xs → length ws ≡ length xs - node_run * k → length us ≡ length ws
      → Arms (reduce z) (reduce o) k l (take (node_run * k) ys ++ (us ++ drop (length ys - node_run * k) (drop (node_run * k) ys)))
  arms xs ys ws us k l fz fo cz co a b m n p = arms_of xs ys ws us k l (reduce-fit z fz) (reduce-fit o fo) (reduce-cells z cz) (reduce-cells o co) a b m n p
