-- A matrix with a net set means the matrix where the net is set. Assumes nothing.
use Prim.Native.Nat.{ℕ, ◌-◌, ◌≤◌}
use mathlib.Core.Path.{◌≡◌, refl, sym, ap, ◌∙◌, fun_ext}
use mathlib.Core.List.{List, [], ◌∷◌, map}
use mathlib.Core.Bool.{Bool, true, false}
use native.Mathlib.Omega.{arith}
use lib.Dec.{eqb}
use borrow.Author.Tests.{eqb-true, eqb-false, eq-eqb, ne_eqb, leb-true}
use Rattle.lists.specs.Bools.{by_bool}
use Rattle.rules.proofs.Normal.{normalize-first}
use Rattle.rules.specs.Matrix.{Matrix, Row, assume, swap}
use Rattle.rules.specs.Meaning.{Covered, Setting, bit_at, first_match, first_row, matches, update, value}
use Rattle.rules.specs.Nets.{is_cell}
use Rattle.rules.specs.Normalize.{normalize}
use Rattle.rules.specs.Trits.{bit}

matches-map : (f g : ℕ → ℕ) (ns ms : List ℕ) → matches f (map g ns) ms ≡ matches (λ n. f (g n)) ns ms
unfolding matches
matches-map f g [] ms = refl
matches-map f g (n ∷ ns) [] = refl
matches-map f g (n ∷ ns) (m ∷ ms) = rw (matches-map f g ns ms)

first_row-map : (f g : ℕ → ℕ) (ns : List ℕ) (rs : List Row) → first_row f (map g ns) rs ≡ first_row (λ n. f (g n)) ns rs
unfolding first_row
first_row-map f g ns [] = refl
first_row-map f g ns (r ∷ rs) = rw (matches-map f g ns r.pattern, first_row-map f g ns rs)

pub bit_const : (b : Bool) → is_cell (bit b) ≡ false
bit_const true = refl
bit_const false = refl

swap-value : (σ : Setting) (t : ℕ) (b : Bool) → is_cell t ≡ true → (n : ℕ) → value σ (swap t (bit b) n) ≡ value (update σ (t - 3) b) n
swap-value σ t b c n =
    by_bool (eqb n t)
    (λ p.
    let q : n ≡ t = eqb-true n t p in
    rw (p, q, c, bit_const b, eq-eqb (t - 3) (t - 3) refl))
    (λ p. by_bool (is_cell n)
    (λ d.
    let h : 3 ≤ n = leb-true 3 n d in
    let g : 3 ≤ t = leb-true 3 t c in
    let q : n ≡ t → ⊥ = eqb-false n t p in
    let s : n - 3 ≡ t - 3 → ⊥ = λ e. q (omega arith) in
    rw (p, d, ne_eqb (n - 3) (t - 3) s))
    (λ d. rw (p, d)))

pub assume-first : (σ : Setting) (t : ℕ) (b : Bool) (m : Matrix) → is_cell t ≡ true → first_match σ (assume t (bit b) m) ≡ first_match (update σ (t - 3) b) m
assume-first σ t b m c =
    first_row-map (value σ) (swap t (bit b)) m.nets m.rows
    ∙ ap (λ (f : ℕ → ℕ). first_row f m.nets m.rows) (fun_ext (swap-value σ t b c))

pub update_same : (σ : Setting) (k : ℕ) → update σ k (σ k) ≡ σ
update_same σ k = fun_ext (λ j. by_bool (eqb j k) (λ p. rw p (ap σ (sym (eqb-true j k p)))) (λ p. rw p))

-- the branch that a setting takes means the same at that setting
pub taken_first : (σ : Setting) (t : ℕ) (b : Bool) (m : Matrix) → is_cell t ≡ true → bit_at σ t ≡ b → first_match σ (normalize (assume t (bit b) m)) ≡ first_match σ m
taken_first σ t b m c e =
    normalize-first σ (assume t (bit b) m) ∙ assume-first σ t b m c
    ∙ ap (λ (τ : Setting). first_match τ m) (ap (λ (x : Bool). update σ (t - 3) x) (sym e) ∙ update_same σ (t - 3))

pub covered-normalize : (m : Matrix) → Covered m → Covered (normalize m)
covered-normalize m h σ e = h σ (sym (normalize-first σ m) ∙ e)

pub covered-assume : (t : ℕ) (b : Bool) (m : Matrix) → is_cell t ≡ true → Covered m → Covered (assume t (bit b) m)
covered-assume t b m c h σ e = h (update σ (t - 3) b) (sym (assume-first σ t b m c) ∙ e)
