-- Laws of trees: when two are the same, and what is left where same arms are one. Assumes nothing.
use Prim.Native.Nat.{ℕ, ◌≤◌, ◌+◌, max}
use mathlib.Core.Bool.{Bool, true, false, true≢false, cond, ◌&&◌}
use mathlib.Core.Path.{◌≡◌, refl, sym, ap, ◌∙◌}
use native.Mathlib.Omega.{arith}
use borrow.Author.Tests.{eqb-true, eq-eqb}
use lib.Dec.{eqb}
use Rattle.lists.specs.Bools.{and_left, and_right}
use Rattle.lists.specs.Lists.{same_refl as list_refl, same_true as list_true}
use Rattle.rules.specs.Tree.{Fit, Once, Tree, Untested, eval, leaf, node, peak, reduce, same, size}

pub size_pos : (t : Tree) → 1 ≤ size t
unfolding size
size_pos (leaf rs) = omega arith
size_pos (node t z o) = omega arith

pub same_true : (t u : Tree) → same t u ≡ true → t ≡ u
unfolding same
same_true (leaf xs) (leaf ys) e = ap leaf (list_true xs ys e)
same_true (leaf xs) (node t z o) e = absurd (true≢false (sym e))
same_true (node t z o) (leaf xs) e = absurd (true≢false (sym e))
same_true (node t z o) (node u w p) e =
    let a = and_right (eqb t u) (same z w && same o p) e in
    let q = eqb-true t u (and_left (eqb t u) (same z w && same o p) e) in
    let r = same_true z w (and_left (same z w) (same o p) a) in
    let s = same_true o p (and_right (same z w) (same o p) a) in
    cc

pub same_refl : (t : Tree) → same t t ≡ true
unfolding same
same_refl (leaf xs) = list_refl xs
same_refl (node t z o) = rw (eq-eqb t t refl, same_refl z, same_refl o)

-- a test that fails says that the trees differ
pub same_false : (t u : Tree) → same t u ≡ false → t ≡ u → ⊥
same_false t u e p = true≢false (sym (same_refl t) ∙ ap (λ (x : Tree). same t x) p ∙ e)

-- what is left where same arms are one means the same
mk-eval : (v : ℕ → Bool) (t : ℕ) (z o : Tree) (b : Bool) → same z o ≡ b → eval v (cond b z (node t z o)) ≡ eval v (node t z o)
unfolding eval
mk-eval v t z o false e = refl
mk-eval v t z o true e = either (v t)
  where
    either : (b : Bool) → eval v z ≡ cond b (eval v o) (eval v z)
    either true = ap (eval v) (same_true z o e)
    either false = refl

pub reduce-eval : (v : ℕ → Bool) (t : Tree) → eval v (reduce t) ≡ eval v t
unfolding reduce eval
reduce-eval v (leaf rs) = refl
reduce-eval v (node t z o) =
    mk-eval v t (reduce z) (reduce o) (same (reduce z) (reduce o)) refl
    ∙ rw (reduce-eval v z, reduce-eval v o)

mk-fit : (t : ℕ) (z o : Tree) (b : Bool) → Fit z → Fit o → Fit (cond b z (node t z o))
unfolding Fit
mk-fit t z o true h g = h
mk-fit t z o false h g = (h, g)

pub reduce-fit : (t : Tree) → Fit t → Fit (reduce t)
unfolding reduce Fit
reduce-fit (leaf rs) h = h
reduce-fit (node t z o) h = mk-fit t (reduce z) (reduce o) (same (reduce z) (reduce o)) (reduce-fit z h.0) (reduce-fit o h.1)

mk-peak : (t : ℕ) (z o : Tree) (p q : ℕ) (b : Bool) → size z ≤ p
    → size (cond b z (node t z o)) ≤ max (max p q) (cond b 0 (size z + size o + 1))
unfolding size
mk-peak t z o p q true h = omega arith
mk-peak t z o p q false h = omega arith

pub reduce-peak : (t : Tree) → size (reduce t) ≤ peak t
unfolding reduce peak size
reduce-peak (leaf rs) = omega arith
reduce-peak (node t z o) = mk-peak t (reduce z) (reduce o) (peak z) (size (reduce z) + peak o) (same (reduce z) (reduce o)) (reduce-peak z)

mk-untested : (n t : ℕ) (z o : Tree) (b : Bool) → Untested n (node t z o) → Untested n (cond b z (node t z o))
unfolding Untested
mk-untested n t z o true h = h.1
mk-untested n t z o false h = h

pub reduce-untested : (n : ℕ) (t : Tree) → Untested n t → Untested n (reduce t)
unfolding reduce Untested
reduce-untested n (leaf rs) h = h
reduce-untested n (node t z o) h =
    mk-untested n t (reduce z) (reduce o) (same (reduce z) (reduce o)) (h.0, reduce-untested n z h.1, reduce-untested n o h.2)

mk-once : (t : ℕ) (z o : Tree) (b : Bool) → Once (node t z o) → Once (cond b z (node t z o))
unfolding Once
mk-once t z o true h = h.2
mk-once t z o false h = h

pub reduce-once : (t : Tree) → Once t → Once (reduce t)
unfolding reduce Once
reduce-once (leaf rs) h = h
reduce-once (node t z o) h =
    mk-once t (reduce z) (reduce o) (same (reduce z) (reduce o)) (reduce-untested t z h.0, reduce-untested t o h.1, reduce-once z h.2, reduce-once o h.3)
