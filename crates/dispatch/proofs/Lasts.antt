-- The last row in use, in a matrix with anything in its slots and counts. Assumes nothing.
use Rattle.std.proofs.Common.{◌≡◌, ◌∙◌, ◌-◌, false, List, [], ◌∷◌, ap, arith, get_or, length, map, refl, suc, sym, take, zero, ℕ, ltb, ltb-false, ltb-true}
use Rattle.std.specs.Prelude.{None, Option, Some, slice_get}
use Rattle.std.proofs.lemmas.Option.{get_or_from_slice_get, slice_get-get_or, slice_get_within}
use Rattle.lists.specs.Bools.{by_bool}
use Rattle.matrix.proofs.Checks.{rows_viewed}
use Rattle.matrix.proofs.StepHeld.{past}
use Rattle.matrix.specs.declared.Matrix.{Matrix}
use Rattle.matrix.specs.Mat.{view}
use Rattle.rows.specs.declared.Row.{Row}
use Rattle.rows.specs.Rows as rows
use Rattle.rules.specs.Dispatch.{catch_all}
use Rattle.rules.specs.Matrix.{all_x}

catch_none : (l : List Row) → length l ≡ 0 → catch_all (map rows.view l) ≡ false
unfolding catch_all
catch_none [] e = refl
catch_none (r ∷ l) e = absurd (omega arith)

catch-last : (l : List Row) (n : ℕ) → length l ≡ suc n → catch_all (map rows.view l) ≡ all_x (rows.view (get_or l n past)).pattern
unfolding catch_all
catch-last [] n e = absurd (omega arith)
catch-last (r ∷ []) zero e = refl
catch-last (r ∷ []) (suc n) e = absurd (omega arith)
catch-last (r ∷ s ∷ l) zero e = absurd (omega arith)
catch-last (r ∷ s ∷ l) (suc n) e = catch-last (s ∷ l) n (omega arith)

-- l is the rows in use
module _ (m : Matrix) (l : List Row) (e : l ≡ take m.count m.rows) where
  seen : catch_all (view m).rows ≡ catch_all (map rows.view l)
  seen = ap catch_all (rows_viewed m) ∙ ap (λ (k : List Row). catch_all (map rows.view k)) (sym e)

  pub catches_none : None ≡ slice_get l (length l - 1) → false ≡ catch_all (view m).rows
  catches_none q =
      by_bool (ltb 0 (length l))
      (λ p.
      let z : ◌≡◌ {A = Option Row} None (Some (get_or l (length l - 1) past)) = q ∙ slice_get-get_or l (length l - 1) past (omega (arith, ltb-true 0 (length l) p)) in
      let c : ◌≡◌ {A = ℕ} 0 1 = cc in
      absurd (omega arith))
      (λ p. sym (seen ∙ catch_none l (omega (arith, ltb-false 0 (length l) p))))

  pub catches_last : (x : Row) → Some x ≡ slice_get l (length l - 1) → all_x (rows.view x).pattern ≡ catch_all (view m).rows
  catches_last x q =
      let b = slice_get_within l (length l - 1) x (sym q) in
      let v : length l ≡ suc (length l - 1) = omega (arith, b) in
      sym (seen ∙ catch-last l (length l - 1) v ∙ ap (λ (r : Row). all_x (rows.view r).pattern) (get_or_from_slice_get l (length l - 1) x past (sym q)))
