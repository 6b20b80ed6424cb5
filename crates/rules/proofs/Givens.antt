-- A matrix as it is handed in: what is in use of one that a call made, and what follows where no number applies. Assumes nothing.
use Prim.Native.Nat.{ℕ, zero, suc, ◌≤◌}
use mathlib.Core.Bool.{Bool, true, false, not}
use mathlib.Core.List.{List, [], ◌∷◌, map}
use mathlib.Core.Path.{◌≡◌, refl, sym, ◌∙◌}
use native.Mathlib.Omega.{arith}
use borrow.Author.Tests.{eqb-true, leb-true, ltb-false}
use lib.Dec.{eqb, leb}
use lib.ListN.{length, length-map, take}
use lib.Seq.{length-take-le}
use Rattle.lists.specs.Bools.{and_left, and_right, clash}
use Rattle.lists.specs.Lists.{all, mem}
use Rattle.lists.specs.Vec.{take-vec, vec}
use Rattle.rules.proofs.Picks.{none_applies}
use Rattle.rules.specs.Bounds.{columns_max, rows_max, rules_max}
use Rattle.rules.specs.Given.{Given, GivenRow, Sized, SizedRows, SlotRows, Slots, bad_columns, bad_rows, bad_rules, bad_shape, matrix_table, spread, spread_row, view, view_row, zero_given}
use Rattle.rules.specs.Matrix.{Matrix, Row}
use Rattle.rules.specs.Meaning.{Shaped}
use Rattle.rules.specs.Refuse.{COLUMNS, ROWS, RULES, SHAPE, refusal}

-- ---- there and back

row_back : (r : Row) → length r.pattern ≤ columns_max → length r.rules ≤ rules_max → view_row (spread_row r) ≡ r
row_back r h k = λ i. record { pattern = take-vec columns_max 0 r.pattern h i; rules = take-vec rules_max 0 r.rules k i }

rows_back : (w : ℕ) (rs : List Row) → w ≤ columns_max → SizedRows w rs → map view_row (map spread_row rs) ≡ rs
unfolding SizedRows
rows_back w [] h s = refl
rows_back w (r ∷ rs) h s =
    let p : view_row (spread_row r) ≡ r = row_back r (omega (arith, s.0)) s.1 in
    let q : map view_row (map spread_row rs) ≡ rs = rows_back w rs h s.2 in
    cc

-- what is in use of a matrix that a call made is that matrix
pub view-spread : (m : Matrix) → Sized m → view (spread m) ≡ m
view-spread m s =
    let l : length (map spread_row m.rows) ≡ length m.rows = length-map m.rows spread_row in
    let t : take (length m.rows) (vec rows_max zero_given (map spread_row m.rows)) ≡ map spread_row m.rows =
    rw (← l) (take-vec rows_max zero_given (map spread_row m.rows) (rw l s.tall)) in
    let w : map view_row (take (length m.rows) (vec rows_max zero_given (map spread_row m.rows))) ≡ m.rows =
    rw t (rows_back (length m.nets) m.rows s.wide s.each) in
    λ i. record { nets = take-vec columns_max 0 m.nets s.wide i; rows = w i }

-- ---- where no number applies

-- a row of slots that has its columns' count and a count of rules within the bound
unfoldable pub Fair : ℕ → List GivenRow → Type 0
Fair n [] = Unit {0}
Fair n (r ∷ rs) = (r.len ≡ n) × (r.count ≤ rules_max) × Fair n rs

fair-from : (n : ℕ) (rs : List GivenRow) → all (λ (r : GivenRow). eqb r.len n) rs ≡ true → all (λ (r : GivenRow). leb r.count rules_max) rs ≡ true → Fair n rs
unfolding Fair
fair-from n [] h k = tt
fair-from n (r ∷ rs) h k =
    let a = and_left (eqb r.len n) (all (λ (x : GivenRow). eqb x.len n) rs) h in
    let b = and_left (leb r.count rules_max) (all (λ (x : GivenRow). leb x.count rules_max) rs) k in (
      eqb-true r.len n a,
      leb-true r.count rules_max b,
      fair-from n rs (and_right (eqb r.len n) (all (λ (x : GivenRow). eqb x.len n) rs) h) (and_right (leb r.count rules_max) (all (λ (x : GivenRow). leb x.count rules_max) rs) k),
    )

slot_take : (k : ℕ) (rs : List GivenRow) → SlotRows rs → SlotRows (take k rs)
unfolding SlotRows
slot_take zero rs s = tt
slot_take (suc k) [] s = tt
slot_take (suc k) (r ∷ rs) s = (s.0, s.1, slot_take k rs s.2)

sized_from : (n : ℕ) (rs : List GivenRow) → n ≤ columns_max → SlotRows rs → Fair n rs → SizedRows n (map view_row rs)
unfolding SlotRows Fair SizedRows
sized_from n [] h s f = tt
sized_from n (r ∷ rs) h s f =
    let a : length (take r.len r.pattern) ≡ r.len = length-take-le r.len r.pattern (omega (arith, s.0, f.0)) in
    let b : length (take r.count r.rules) ≡ r.count = length-take-le r.count r.rules (omega (arith, s.1, f.1)) in
    (a ∙ f.0, omega (arith, b, f.1), sized_from n rs h s.2 f.2)

sized_shaped : (n : ℕ) (rs : List Row) → SizedRows n rs → Shaped n rs
unfolding SizedRows Shaped
sized_shaped n [] s = tt
sized_shaped n (r ∷ rs) s = (s.0, sized_shaped n rs s.2)

pub sized_means_shaped : (m : Matrix) → Sized m → Shaped (length m.nets) m.rows
sized_means_shaped m s = sized_shaped (length m.nets) m.rows s.each

-- the four tests of size say that what is in use is within the bounds
pub sized_by_tests : (g : Given) → Slots g → bad_columns g ≡ false → bad_rows g ≡ false → bad_shape g ≡ false → bad_rules g ≡ false → Sized (view g)
sized_by_tests g s c r h k =
    let cs = ltb-false columns_max g.columns c in
    let rs = ltb-false rows_max g.count r in
    let a : length (take g.columns g.value) ≡ g.columns = length-take-le g.columns g.value (omega (arith, s.value)) in
    let l : length (map view_row (take g.count g.rows)) ≡ g.count = length-map (take g.count g.rows) view_row ∙ length-take-le g.count g.rows (omega (arith, s.rows)) in
    let f = fair-from g.columns (take g.count g.rows) (is_not _ h) (is_not _ k) in
    record {
      wide = omega (arith, a);
      tall = omega (arith, l);
      each = rw a (sized_from g.columns (take g.count g.rows) cs (slot_take g.count g.rows s.each) f);
    }
  where
    is_not : (b : Bool) → not b ≡ false → b ≡ true
    is_not true e = refl
    is_not false e = absurd (clash (sym e))

-- so where a table with these six tests gives no number
pub sized_unrefused : (g : Given) → Slots g → refusal (matrix_table g) ≡ 0 → Sized (view g)
unfolding mem
sized_unrefused g s e =
    let none = none_applies (matrix_table g) e in
    sized_by_tests g s (none COLUMNS refl) (none ROWS refl) (none SHAPE refl) (none RULES refl)
