-- Every leaf of a tree that tests no net twice is reached. Assumes nothing.
use Prim.Native.Nat.{ℕ, ◌-◌, ◌≤◌}
use mathlib.Core.Path.{◌≡◌, refl}
use mathlib.Core.List.{List}
use mathlib.Core.Bool.{Bool, true, false}
use native.Mathlib.Omega.{arith}
use borrow.Author.Tests.{eq-eqb, ne_eqb, leb-true}
use Rattle.lists.specs.Bools.{by_bool, or_cases, or_left, or_right}
use Rattle.rules.proofs.Muxes.{Cell}
use Rattle.rules.specs.Meaning.{Setting, bit_at, update}
use Rattle.rules.specs.Tree.{Once, Tests, Tree, Untested, eval, leaf, node, some_leaf}

pub reached_some : (p : List ℕ → Bool) (v : ℕ → Bool) (t : Tree) → p (eval v t) ≡ true → some_leaf p t ≡ true
unfolding some_leaf eval
reached_some p v (leaf rs) e = e
reached_some p v (node t z o) e =
    let a = reached_some p v z in
    let b = reached_some p v o in
    by_bool (v t)
    (λ q. or_right (some_leaf p z) (some_leaf p o) (b (rw q at e)))
    (λ q. or_left (some_leaf p z) (some_leaf p o) (a (rw q at e)))

-- a net that is not tested may be set
untested-eval : (σ : Setting) (n : ℕ) (b : Bool) → Cell n → (t : Tree) → Untested n t → Tests Cell t → eval (bit_at (update σ (n - 3) b)) t ≡ eval (bit_at σ) t
unfolding eval Untested Tests
untested-eval σ n b c (leaf rs) u k = refl
untested-eval σ n b c (node t z o) u k =
    let h : 3 ≤ n = leb-true 3 n c in
    let g : 3 ≤ t = leb-true 3 t k.0 in
    let ne : n ≡ t → ⊥ = u.0 in
    let s : t - 3 ≡ n - 3 → ⊥ = λ e. ne (omega arith) in
    rw (ne_eqb (t - 3) (n - 3) s, untested-eval σ n b c z u.1 k.1, untested-eval σ n b c o u.2 k.2)

pub some_reached : (p : List ℕ → Bool) (t : Tree) → Once t → Tests Cell t → some_leaf p t ≡ true → (σ : Setting) × (p (eval (bit_at σ) t) ≡ true)
unfolding some_leaf eval Once Tests
some_reached p (leaf rs) o c e = ((λ k. false), e)
some_reached p (node t z o) w c e =
    let a = some_reached p z w.2 c.1 in
    let b = some_reached p o w.3 c.2 in
    or_cases (some_leaf p z) (some_leaf p o) e
    (λ q.
    let r = a q in
    let same : eval (bit_at (update r.0 (t - 3) false)) z ≡ eval (bit_at r.0) z = untested-eval r.0 t false c.0 z w.0 c.1 in
    (update r.0 (t - 3) false, rw (eq-eqb (t - 3) (t - 3) refl, same) r.1))
    (λ q.
    let r = b q in
    let same : eval (bit_at (update r.0 (t - 3) true)) o ≡ eval (bit_at r.0) o = untested-eval r.0 t true c.0 o w.1 c.2 in
    (update r.0 (t - 3) true, rw (eq-eqb (t - 3) (t - 3) refl, same) r.1))
