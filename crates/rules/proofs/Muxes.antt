-- The muxes of a tree, as trits. Assumes nothing.
use Prim.Native.Nat.{ℕ, zero, suc, ◌-◌, ◌<◌}
use mathlib.Core.Path.{◌≡◌, refl, sym, ap, ◌∙◌}
use mathlib.Core.List.{List, [], ◌∷◌, map}
use mathlib.Core.Bool.{Bool, true, false, cond}
use native.Mathlib.Omega.{arith}
use lib.Dec.{eqb}
use borrow.Author.Tests.{eqb-true, eq-eqb}
use lib.ListN.{length, get_or, length-map}
use Rattle.lists.specs.Bools.{by_bool}
use Rattle.rules.proofs.Tables.{Fine, bits_length}
use Rattle.rules.specs.Closed.{Low, bits_of, mux_all}
use Rattle.rules.specs.Emit.{Gives}
use Rattle.rules.specs.Meaning.{Fills, Setting, Trits, bit_at, value, value_at}
use Rattle.rules.specs.Nets.{first_mux, is_cell}
use Rattle.rules.specs.Tree.{Tests, Tree, eval, leaf, node}
use Rattle.rules.specs.Trits.{bit, mux}

abbrev pub Cell : ℕ → Type 0
Cell n = is_cell n ≡ true

mux_all-bit : (s : Bool) (w : ℕ) (xs ys : List ℕ) → length xs ≡ w → length ys ≡ w → mux_all (bit s) xs ys ≡ cond s xs ys
unfolding mux_all
mux_all-bit true w [] [] h k = refl
mux_all-bit false w [] [] h k = refl
mux_all-bit s w [] (y ∷ ys) h k = absurd (omega arith)
mux_all-bit s w (x ∷ xs) [] h k = absurd (omega arith)
mux_all-bit s zero (x ∷ xs) (y ∷ ys) h k = absurd (omega arith)
mux_all-bit true (suc w) (x ∷ xs) (y ∷ ys) h k = ap (λ (l : List ℕ). x ∷ l) (mux_all-bit true w xs ys (omega arith) (omega arith))
mux_all-bit false (suc w) (x ∷ xs) (y ∷ ys) h k = ap (λ (l : List ℕ). y ∷ l) (mux_all-bit false w xs ys (omega arith) (omega arith))

-- at bits a tree gives what the leaf that is reached gives
pub bits_eval : (σ : Setting) (g : Gives) (w : ℕ) → ((rs : List ℕ) → length (g rs) ≡ w) → (t : Tree) → Tests Cell t → bits_of (value σ) g t ≡ map (value σ) (g (eval (bit_at σ) t))
unfolding bits_of eval Tests
bits_eval σ g w h (leaf rs) c = refl
bits_eval σ g w h (node t z o) c =
    let a = bits_eval σ g w h z c.1 in
    let b = bits_eval σ g w h o c.2 in
    let l : (rs : List ℕ) → length (map (value σ) (g rs)) ≡ w = λ rs. length-map (g rs) (value σ) ∙ h rs in
    rw (c.0, a, b)
    (mux_all-bit (bit_at σ t) w (map (value σ) (g (eval (bit_at σ) o))) (map (value σ) (g (eval (bit_at σ) z))) (l (eval (bit_at σ) o)) (l (eval (bit_at σ) z))
    ∙ either (bit_at σ t) (eval (bit_at σ) o) (eval (bit_at σ) z))
  where
    either : (s : Bool) (xs ys : List ℕ) → cond s (map (value σ) (g xs)) (map (value σ) (g ys)) ≡ map (value σ) (g (cond s xs ys))
    either true xs ys = refl
    either false xs ys = refl

-- what is known at the one is the same at the other
abbrev pub Under : ℕ → ℕ → Type 0
Under a b = (a ≡ 2 → ⊥) → a ≡ b

-- equal arms give what they are
pub equal : (s x y : ℕ) → x ≡ y → x ≡ mux s x y
equal s x y e =
    by_bool (eqb s 1) (λ p. rw p)
    (λ p. by_bool (eqb s 0) (λ q. rw (p, q) e) (λ q. rw (p, q, eq-eqb x y e)))

pub mux-mono : (s s' a a' b b' : ℕ) → Under s s' → Under a a' → Under b b' → Under (mux s a b) (mux s' a' b')
mux-mono s s' a a' b b' us ua ub =
    by_bool (eqb s 1)
    (λ p.
    let e : s ≡ 1 = eqb-true s 1 p in
    let e' : s' ≡ 1 = sym (us (λ q. absurd (omega arith))) ∙ e in
    rw (e, e') ua)
    (λ p. by_bool (eqb s 0)
    (λ p0.
    let e : s ≡ 0 = eqb-true s 0 p0 in
    let e' : s' ≡ 0 = sym (us (λ q. absurd (omega arith))) ∙ e in
    rw (e, e') ub)
    (λ p0. by_bool (eqb a b)
    (λ q.
    let e : a ≡ b = eqb-true a b q in
    rw (p, p0, q) (λ h.
    let i : a ≡ a' = ua h in
    let j : b ≡ b' = ub (λ x. h (e ∙ x)) in
    let k : a' ≡ b' = sym i ∙ e ∙ j in
    i ∙ equal s' a' b' k))
    (λ q. rw (p, p0, q) (λ h. absurd (h refl)))))

mux_all-at : (s w : ℕ) (xs ys : List ℕ) (i : ℕ) → length xs ≡ w → length ys ≡ w → get_or (mux_all s xs ys) i 2 ≡ mux s (get_or xs i 2) (get_or ys i 2)
unfolding mux_all
mux_all-at s w [] [] i h k = equal s 2 2 refl
mux_all-at s w [] (y ∷ ys) i h k = absurd (omega arith)
mux_all-at s w (x ∷ xs) [] i h k = absurd (omega arith)
mux_all-at s w (x ∷ xs) (y ∷ ys) zero h k = refl
mux_all-at s zero (x ∷ xs) (y ∷ ys) (suc i) h k = absurd (omega arith)
mux_all-at s (suc w) (x ∷ xs) (y ∷ ys) (suc i) h k = mux_all-at s w xs ys i (omega arith) (omega arith)

map-under : (f f' : ℕ → ℕ) → ((n : ℕ) → n < first_mux → Under (f n) (f' n)) → (xs : List ℕ) → Low first_mux xs → (i : ℕ) → Under (get_or (map f xs) i 2) (get_or (map f' xs) i 2)
unfolding Low
map-under f f' u [] l i h = refl
map-under f f' u (x ∷ xs) l zero h = u x l.0 h
map-under f f' u (x ∷ xs) l (suc i) h = map-under f f' u xs l.1 i h

-- where nets become known, bits that were known stay
pub bits_under : (f f' : ℕ → ℕ) → ((n : ℕ) → n < first_mux → Under (f n) (f' n)) → (g : Gives) (w : ℕ) (t : Tree) → Fine g w t → (i : ℕ) → Under (get_or (bits_of f g t) i 2) (get_or (bits_of f' g t) i 2)
unfolding bits_of Fine
bits_under f f' u g w (leaf rs) h i = map-under f f' u (g rs) h.1 i
bits_under f f' u g w (node t z o) h i =
    rw (
      mux_all-at (f t) w (bits_of f g o) (bits_of f g z) i (bits_length f g w o h.2) (bits_length f g w z h.1),
      mux_all-at (f' t) w (bits_of f' g o) (bits_of f' g z) i (bits_length f' g w o h.2) (bits_length f' g w z h.1),
    )
    (mux-mono (f t) (f' t) (get_or (bits_of f g o) i 2) (get_or (bits_of f' g o) i 2) (get_or (bits_of f g z) i 2) (get_or (bits_of f' g z) i 2) (u t h.0)
    (bits_under f f' u g w o h.2 i) (bits_under f f' u g w z h.1 i))

-- a filling of the cells fills the nets
pub fills-nets : (τ : Trits) (σ : Setting) → Fills τ σ → (n : ℕ) → Under (value_at τ n) (value σ n)
fills-nets τ σ h n = by_bool (is_cell n) (λ p. rw p (h (n - 3))) (λ p. rw p (λ g. refl))
