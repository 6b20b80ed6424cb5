-- A net made a constant, and the enable's column and row, in the arrays of a clean matrix. Assumes nothing.
use lib.Dec.{eqb}
use lib.ListN.{drop, get_or, length, length-append, length-map, replicate, set, take}
use lib.Seq.{take_all}
use mathlib.Core.Bool.{false}
use mathlib.Core.List.{[], ◌++◌, ◌∷◌, List, map}
use mathlib.Core.Path.{◌∙◌, ◌≡◌, ap, ap₂, refl, sym}
use native.Mathlib.Numerals.{add-one}
use native.Mathlib.Omega.{arith}
use Prim.Native.Nat.{◌+◌, ◌<◌, suc, zero, ℕ}
use Rattle.lists.specs.Lists.{map_to}
use Rattle.lists.specs.Vec.{fill, map_to-vec, push, vec, vec_none}
use Rattle.matrix.proofs.StepHeld.{clean_held, held_is, none_row, past, row-view, zero_row}
use Rattle.matrix.proofs.StepSized.{length-off}
use Rattle.matrix.specs.declared.Matrix.{Matrix}
use Rattle.matrix.specs.Mat.{Clean, matrix_from, view}
use Rattle.rows.proofs.Laws.{get_d_map}
use Rattle.rows.specs.declared.Row.{Row}
use Rattle.rows.specs.Rows as rows
use Rattle.rows.specs.Rows.{row_from}
use Rattle.rules.specs.Bounds.{columns_max, rows_max}
use Rattle.rules.specs.Matrix.{add_enable, assume, off, Row as RowOf, swap, widened}
use Rattle.sets.specs.declared.Rules.{Rules}
use Rattle.sets.specs.Sets.{rules_from}

pub assumed : (m : Matrix) (t b : ℕ) (v : List ℕ) → Clean m → v ≡ map_to (swap t b) m.columns m.value
    → record { value = v; columns = m.columns; rows = m.rows; count = m.count } ≡ matrix_from (assume t b (view m))
assumed m t b v c e =
    let h = clean_held m c in
    let ns : List ℕ = (view m).nets in
    held_is (record { value = v; columns = m.columns; rows = m.rows; count = m.count }) (map (swap t b) ns) (view m).rows
    record {
      value = e ∙ ap₂ (map_to (swap t b)) h.columns h.value ∙ map_to-vec (swap t b) columns_max 0 ns c.sized.wide;
      columns = h.columns ∙ sym (length-map ns (swap t b));
      rows = h.rows;
      count = h.count;
    }

pub map_all : {A : Type 0} (f : A → A) (l : List A) → map_to f (length l) l ≡ map f l
map_all f [] = refl
map_all {A = A} f (x ∷ l) = ap (λ (r : List A). f x ∷ r) (map_all f l)

-- what a call made of the first n of an array that were lent to it, with the others behind
pub map_front : {A : Type 0} (f : A → A) (n : ℕ) (l : List A) → map f (take n l) ++ drop n l ≡ map_to f n l
map_front f zero l = refl
map_front f (suc n) [] = refl
map_front {A = A} f (suc n) (x ∷ l) = ap (λ (r : List A). f x ∷ r) (map_front f n l)

pub row_path : (r s : Row) → r.pattern ≡ s.pattern → r.len ≡ s.len → r.rules ≡ s.rules → r ≡ s
row_path r s p q u = λ i. record { pattern = p i; len = q i; rules = u i }

pub widened_is : (r : Row) → rows.Tidy r → r.len < columns_max → record { pattern = set r.pattern r.len 1; len = r.len + 1; rules = r.rules } ≡ row_from (widened (rows.view r))
widened_is r e h =
    let q : RowOf = rows.view r in
    let l : r.len ≡ length q.pattern = ap (λ (x : Row). x.len) e in
    row_path (record { pattern = set r.pattern r.len 1; len = r.len + 1; rules = r.rules }) (row_from (widened q))
    (ap₂ (λ (p : List ℕ) (n : ℕ). set p n 1) (ap (λ (x : Row). x.pattern) e) l ∙ push columns_max 0 q.pattern 1 (omega arith))
    (ap (λ (n : ℕ). n + 1) l ∙ sym (length-append q.pattern (1 ∷ [])))
    (ap (λ (x : Row). x.rules) e)

module _ (m : Matrix) (c : Clean m) where
  -- the enable's own row, and the others
  abbrev pub enabled_rows : List RowOf
  enabled_rows = off (view m) ∷ map widened (view m).rows

  length_enabled : length (map row_from enabled_rows) ≡ m.count + 1
  length_enabled =
      let k = (clean_held m c).count in
      let l : length (map widened (view m).rows) ≡ length (view m).rows = length-map (view m).rows widened in
      length-map enabled_rows row_from ∙ omega arith

  pub enabled_first : (p : List ℕ) (s : Rules) (n : ℕ) → n ≡ m.columns → p ≡ vec columns_max 0 (replicate n 2 ++ (0 ∷ [])) → s ≡ rules_from []
      → record { pattern = p; len = n + 1; rules = s } ≡ row_from (off (view m))
  enabled_first p s n w e f =
      let h : n ≡ length (view m).nets = w ∙ (clean_held m c).columns in
      row_path (record { pattern = p; len = n + 1; rules = s }) (row_from (off (view m)))
      (e ∙ ap (λ (k : ℕ). vec columns_max 0 (replicate k 2 ++ (0 ∷ []))) h)
      (ap (λ (k : ℕ). k + 1) h ∙ sym (length-off (length (view m).nets)))
      f

  pub enabled_start : (z x : Row) → z ≡ zero_row → x ≡ row_from (off (view m)) → set (replicate rows_max z) 0 x ≡ vec rows_max zero_row (take 1 (map row_from enabled_rows))
  enabled_start z x e f =
      ap₂ (λ (a b : Row). set (replicate rows_max a) 0 b) e f ∙ ap (λ (l : List Row). set l 0 (row_from (off (view m)))) (vec_none rows_max zero_row)
      ∙ push rows_max zero_row [] (row_from (off (view m))) (omega arith)

  pub enabled_turn : (a : List Row) (i : ℕ) (y : Row) → i < m.count → m.count < rows_max → a ≡ vec rows_max zero_row (take (i + 1) (map row_from enabled_rows))
      → y ≡ row_from (widened (rows.view (get_or m.rows i past))) → set a (i + 1) y ≡ vec rows_max zero_row (take (i + 1 + 1) (map row_from enabled_rows))
  enabled_turn a i y h k e f =
      let l = length_enabled in
      let n = (clean_held m c).count in
      let w : length (map widened (view m).rows) ≡ length (view m).rows = length-map (view m).rows widened in
      let q : y ≡ get_or (map row_from enabled_rows) (suc i) zero_row =
      f ∙ ap (λ (r : RowOf). row_from (widened r)) (row-view m c i h)
      ∙ ap row_from (sym (get_d_map widened (view m).rows i none_row none_row (omega arith)))
      ∙ sym (get_d_map row_from (map widened (view m).rows) i none_row zero_row (omega arith)) in
      let g : y ≡ get_or (map row_from enabled_rows) (i + 1) zero_row = q ∙ ap (λ (j : ℕ). get_or (map row_from enabled_rows) j zero_row) (sym (add-one i)) in
      ap₂ (λ (b : List Row) (x : Row). set b (i + 1) x) e g ∙ fill rows_max zero_row (map row_from enabled_rows) (i + 1) (omega arith) (omega arith)

  pub enabled_is : (enable i : ℕ) (a : List Row) → i ≡ m.count → m.columns < columns_max → m.count < rows_max → eqb enable 1 ≡ false
      → a ≡ vec rows_max zero_row (take (i + 1) (map row_from enabled_rows))
      → record { value = set m.value m.columns enable; columns = m.columns + 1; rows = a; count = m.count + 1 } ≡ matrix_from (add_enable enable (view m))
  enabled_is enable i a e w t f s =
      let h = clean_held m c in
      let l = length_enabled in
      let k = h.columns in
      rw f (held_is (record { value = set m.value m.columns enable; columns = m.columns + 1; rows = a; count = m.count + 1 }) ((view m).nets ++ (enable ∷ [])) enabled_rows
      record {
        value = ap₂ (λ (v : List ℕ) (n : ℕ). set v n enable) h.value k ∙ push columns_max 0 (view m).nets enable (omega arith);
        columns = ap (λ (n : ℕ). n + 1) k ∙ sym (length-append (view m).nets (enable ∷ []));
        rows = s ∙ ap (vec rows_max zero_row) (take_all (i + 1) (map row_from enabled_rows) (omega arith));
        count = omega (arith, length-map enabled_rows row_from);
      })
