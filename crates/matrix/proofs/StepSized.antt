-- What a step of dispatch makes is within the bounds. Assumes nothing.
use lib.Dec.{eqb}
use lib.ListN.{length, length-append, length-map, length-replicate, replicate}
use mathlib.Core.Bool.{false}
use mathlib.Core.List.{[], ◌++◌, ◌∷◌, List, map}
use mathlib.Core.Path.{◌∙◌, ◌≡◌, ap, subst, sym}
use native.Mathlib.Omega.{arith}
use Prim.Native.Nat.{◌+◌, ◌<◌, ℕ}
use Rattle.lists.specs.Bools.{by_bool}
use Rattle.rules.specs.Bounds.{columns_max, rows_max}
use Rattle.rules.specs.Given.{Sized, SizedRows}
use Rattle.rules.specs.Matrix.{add_enable, assume, Matrix, off, Row, swap, widened}

pub sized_assume : (t b : ℕ) (m : Matrix) → Sized m → Sized (assume t b m)
sized_assume t b m s =
    let l : length (map (swap t b) m.nets) ≡ length m.nets = length-map m.nets (swap t b) in
    record { wide = omega (arith, s.wide); tall = s.tall; each = rw l s.each }

-- of the pattern of X with the enable's 0
pub length-off : (n : ℕ) → length {A = ℕ} (replicate n 2 ++ (0 ∷ [])) ≡ n + 1
length-off n = length-append {A = ℕ} (replicate n 2) (0 ∷ []) ∙ ap (λ (i : ℕ). i + 1) (length-replicate {A = ℕ} n 2)

sized_widened : (w : ℕ) (rs : List Row) → SizedRows w rs → SizedRows (w + 1) (map widened rs)
unfolding SizedRows
sized_widened w [] s = tt
sized_widened w (r ∷ rs) s = (length-append r.pattern (1 ∷ []) ∙ ap (λ (n : ℕ). n + 1) s.0, s.1, sized_widened w rs s.2)

pub sized_enable : (e : ℕ) (m : Matrix) → Sized m → (eqb e 1 ≡ false → (length m.nets < columns_max) × (length m.rows < rows_max)) → Sized (add_enable e m)
unfolding SizedRows
sized_enable e m s h =
    by_bool (eqb e 1) (λ p. rw p s)
    (λ p.
    let b = h p in
    let n : length (m.nets ++ (e ∷ [])) ≡ length m.nets + 1 = length-append m.nets (e ∷ []) in
    let k : length (map widened m.rows) ≡ length m.rows = length-map m.rows widened in
    let w = length-off (length m.nets) in
    let rest : SizedRows (length (m.nets ++ (e ∷ []))) (map widened m.rows) = subst (λ (i : ℕ). SizedRows i (map widened m.rows)) (sym n) (sized_widened (length m.nets) m.rows s.each) in
    let each : SizedRows (length (m.nets ++ (e ∷ []))) (off m ∷ map widened m.rows) = (w ∙ sym n, omega arith, rest) in
    rw p record { wide = omega (arith, b.0); tall = omega (arith, b.1); each = each })
