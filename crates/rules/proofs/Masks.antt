-- Masks: when one is X, and when it fits. Assumes nothing.
use Prim.Native.Nat.{ℕ}
use mathlib.Core.Bool.{true, not}
use mathlib.Core.Path.{◌≡◌}
use borrow.Author.Tests.{eqb-true, eqb-false, eq-eqb, ne_eqb}
use lib.Dec.{eqb}
use Rattle.lists.specs.Bools.{not_is, or_cases, or_left, or_right}
use Rattle.rules.specs.Meaning.{fits}
use Rattle.rules.specs.Trits.{is_x}

-- a mask that is not X
pub is_x_not : (m : ℕ) → not (is_x m) ≡ true → m ≡ 2 → ⊥
is_x_not m e = eqb-false m 2 (not_is (is_x m) e)

pub not_is_x : (m : ℕ) → (m ≡ 2 → ⊥) → not (is_x m) ≡ true
not_is_x m h = rw (ne_eqb m 2 h)

pub fits_is : (m v : ℕ) → fits m v ≡ true → (m ≡ 2 → ⊥) → m ≡ v
fits_is m v e h = or_cases (is_x m) (eqb m v) e (λ p. absurd (h (eqb-true m 2 p))) (λ p. eqb-true m v p)

pub fits_eq : (m v : ℕ) → m ≡ v → fits m v ≡ true
fits_eq m v e = or_right (is_x m) (eqb m v) (eq-eqb m v e)

pub fits_x : (m v : ℕ) → m ≡ 2 → fits m v ≡ true
fits_x m v e = or_left (is_x m) (eqb m v) (eq-eqb m 2 e)
