-- The laws by which a text is put together piece by piece. Assumes nothing.
use Prim.Native.Nat.{ℕ}
use mathlib.Core.List.{List, ◌++◌, append_assoc}
use mathlib.Core.Path.{◌≡◌, ap, ◌∙◌}

-- two pieces, one behind the other
pub put_then : (old xs ys : List ℕ) {mid new : List ℕ} → mid ≡ old ++ xs → new ≡ mid ++ ys → new ≡ old ++ (xs ++ ys)
put_then old xs ys p q = q ∙ ap (λ (l : List ℕ). l ++ ys) p ∙ append_assoc old xs ys

-- a piece of an equal text
pub put_as : (old : List ℕ) {new xs ys : List ℕ} → xs ≡ ys → new ≡ old ++ xs → new ≡ old ++ ys
put_as old e p = p ∙ ap (λ (l : List ℕ). old ++ l) e
