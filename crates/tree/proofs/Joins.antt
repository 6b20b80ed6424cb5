-- What the joining of two arms leaves. Assumes nothing.
use Prim.Native.Nat.{ℕ, ◌+◌, ◌*◌, ◌-◌, ◌≤◌, ◌<◌}
use mathlib.Core.Bool.{Bool, true, false, cond}
use mathlib.Core.List.{List, [], ◌∷◌, ◌++◌, append_assoc, append-nil}
use mathlib.Core.Path.{◌≡◌, refl, sym, ap, ap₂, ◌∙◌}
use native.Mathlib.Omega.{arith}
use lib.ListN.{drop, length, take}
use lib.Seq.{take-add, take_at}
use Rattle.lists.specs.Runs.{runs}
use Rattle.rules.proofs.Stores.{Cells, encode-length, read-encode}
use Rattle.rules.proofs.Trees.{same_false, same_true}
use Rattle.rules.specs.Bounds.{node_run}
use Rattle.rules.specs.Store.{encode, run_of_node, read_all}
use Rattle.rules.specs.Tree.{Fit, Tree, mk, node, same, size}
use Rattle.tree.specs.Grown.{Arms, Outcome, built, built_of, short}
use Rattle.rules.specs.declared.refusal.Refusal.TheVariants.{Nodes}
use Rattle.std.specs.Prelude.{Ok, Err}

-- a tree has one coding, and a coding one tree
back : (t : Tree) → Fit t → Cells t → read_all (runs node_run (size t) (encode t)) [] ≡ t ∷ []
unfolding read_all runs
back t h c = ap (λ (l : List ℕ). read_all (runs node_run (size t) l) []) (sym (append-nil (encode t))) ∙ read-encode t h c [] 0 (size t) [] (omega arith)

pub encode_inj : (t u : Tree) → Fit t → Fit u → Cells t → Cells u → encode t ≡ encode u → t ≡ u
encode_inj t u h g c d e =
    let a : read_all (runs node_run (size t) (encode t)) [] ≡ t ∷ [] = back t h c in
    let b : read_all (runs node_run (size u) (encode u)) [] ≡ u ∷ [] = back u g d in
    let s : size t ≡ size u = omega (arith, ap length e, encode-length t h, encode-length u g) in
    let q : t ∷ [] ≡ u ∷ [] = sym a ∙ ap₂ (λ (n : ℕ) (l : List ℕ). read_all (runs node_run n l) []) s e ∙ b in
    cc

module _ (t : ℕ) (z o : Tree) (k l : ℕ) (xs : List ℕ) (a : Arms z o k l xs) where
  pub joined_same : take (node_run * k) xs ≡ take (node_run * l) (drop (node_run * k) xs)
      → Outcome (cond (same z o) 0 (size z + size o + 1)) (mk t z o) xs xs (Ok (built_of k))
  joined_same e = go (same z o) refl
    where
      p : z ≡ o
      p = encode_inj z o a.zero_fit a.one-fit a.zero_cells a.one-cells (sym a.zero_at ∙ e ∙ a.one_at)

      go : (b : Bool) → same z o ≡ b → Outcome (cond b 0 (size z + size o + 1)) (cond b z (node t z o)) xs xs (Ok (built_of k))
      go true q =
          built (omega arith) (ap (λ (n : ℕ). Ok (built_of n)) a.zero_size) (ap (λ (n : ℕ). take (node_run * n) xs) (sym a.zero_size) ∙ a.zero_at)
      go false q = absurd (same_false z o q p)

  pub joined_short : (take (node_run * k) xs ≡ take (node_run * l) (drop (node_run * k) xs) → ⊥) → length xs < node_run * k + node_run * l + node_run
      → Outcome (cond (same z o) 0 (size z + size o + 1)) (mk t z o) xs xs (Err Nodes)
  joined_short ne h = go (same z o) refl
    where
      go : (b : Bool) → same z o ≡ b → Outcome (cond b 0 (size z + size o + 1)) (cond b z (node t z o)) xs xs (Err Nodes)
      go true q = absurd (ne (a.zero_at ∙ ap encode (same_true z o q) ∙ sym a.one_at))
      go false q = short (omega (arith, a.zero_size, a.one_size)) refl

  new-run : (ys r p : List ℕ) → ys ≡ run_of_node t l ++ r → take (node_run * k + node_run * l) xs ++ (ys ++ p) ≡ encode (node t z o) ++ (r ++ p)
  unfolding encode
  new-run ys r p e = rw (e, take-add (node_run * k) (node_run * l) xs, a.zero_at, a.one_at, a.one_size) (simp append_assoc)

  pub joined-new : (ys r p : List ℕ) → (take (node_run * k) xs ≡ take (node_run * l) (drop (node_run * k) xs) → ⊥) → node_run * k + node_run * l + node_run ≤ length xs
      → ys ≡ run_of_node t l ++ r
      → Outcome (cond (same z o) 0 (size z + size o + 1)) (mk t z o) xs (take (node_run * k + node_run * l) xs ++ (ys ++ p)) (Ok (record { root = record { 0 = k + l }; size = k + l + 1 }))
  unfolding size Fit
  joined-new ys r p ne h e = go (same z o) refl
    where
      n : size (node t z o) ≡ k + l + 1
      n = omega (arith, a.zero_size, a.one_size)

      m : size (node t z o) - 1 ≡ k + l
      m = omega (arith, n)

      go : (b : Bool) → same z o ≡ b
          → Outcome (cond b 0 (size z + size o + 1)) (cond b z (node t z o)) xs (take (node_run * k + node_run * l) xs ++ (ys ++ p)) (Ok (record { root = record { 0 = k + l }; size = k + l + 1 }))
      go true q = absurd (ne (a.zero_at ∙ ap encode (same_true z o q) ∙ sym a.one_at))
      go false q =
          built (omega (arith, a.zero_size, a.one_size)) (ap₂ (λ (i j : ℕ). Ok (record { root = record { 0 = i }; size = j })) (sym m) (sym n))
          (rw (new-run ys r p e) (take_at (encode (node t z o)) (r ++ p) (node_run * size (node t z o)) (encode-length (node t z o) (a.zero_fit, a.one-fit))))
