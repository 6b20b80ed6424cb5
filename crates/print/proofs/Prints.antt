-- The public printer: which number is given, and what the check says of the matrix. Assumes nothing.
use Prim.Native.Nat.{ℕ, zero, suc, ◌≤◌, ◌<◌}
use borrow.Author.Tests.{eqb-true, le-ltb, leb-true, lt-ltb, ltb-false, ne_eqb}
use lib.Dec.{eqb, leb, ltb}
use lib.ListN.{drop, length, take}
use mathlib.Core.Bool.{Bool, true, false, not, cond}
use mathlib.Core.List.{List, [], ◌∷◌, ◌++◌, map}
use mathlib.Core.Path.{◌≡◌, refl, sym, ap, ◌∙◌}
use native.Mathlib.Omega.{arith}
use Rattle.lists.specs.Bools.{and_left, and_right, clash}
use Rattle.lists.specs.Lists.{all, mem}
use Rattle.matrix.specs.Mat as mat
use Rattle.matrix.specs.declared.Matrix.{Matrix}
use Rattle.print.specs.Texts.{Fits, RowsFit}
use Rattle.rows.specs.Rows as rows
use Rattle.rows.specs.declared.Row.{Row}
use Rattle.rules.proofs.Goods.{good-view}
use Rattle.rules.proofs.Longest.{printed-length, text_max}
use Rattle.rules.proofs.Picks.{none_applies}
use Rattle.rules.proofs.Words.{names-low}
use Rattle.rules.specs.Answers.{print_after, print_answer}
use Rattle.rules.specs.Bounds.{columns_max, rows_max, rules_max}
use Rattle.rules.specs.Given.{Given, GivenRow, Slots, bad_columns, bad_form, bad_net, bad_rows, bad_rules, bad_shape, matrix_table, view, view_row}
use Rattle.rules.specs.Matrix.{Row as RowOf}
use Rattle.rules.specs.Nets.{is_name, over}
use Rattle.rules.specs.Print.{printed}
use Rattle.rules.specs.Refusals.{print_table}
use Rattle.rules.specs.Refuse.{Table, COLUMNS, FORM, NET, ROOM, ROWS, RULES, SHAPE, done, refusal, refused}

-- ---- the number: the check's, and else the room

abbrev six : Bool → Bool → Bool → Bool → Bool → Bool → Table
six f c r s n u = (FORM, f) ∷ (COLUMNS, c) ∷ (ROWS, r) ∷ (SHAPE, s) ∷ (NET, n) ∷ (RULES, u) ∷ []

abbrev seven : Bool → Bool → Bool → Bool → Bool → Bool → Bool → Table
seven f c r s n u z = (FORM, f) ∷ (COLUMNS, c) ∷ (ROWS, r) ∷ (SHAPE, s) ∷ (NET, n) ∷ (RULES, u) ∷ (ROOM, z) ∷ []

other : (f c r s n u z : Bool) → (refusal (six f c r s n u) ≡ 0 → ⊥) → refusal (seven f c r s n u z) ≡ refusal (six f c r s n u)
other true c r s n u z h = refl
other false true r s n u z h = refl
other false false true s n u z h = refl
other false false false true n u z h = refl
other false false false false true u z h = refl
other false false false false false true z h = refl
other false false false false false false z h = absurd (h refl)

last : (f c r s n u z : Bool) → refusal (six f c r s n u) ≡ 0 → refusal (seven f c r s n u z) ≡ cond z ROOM 0
last true c r s n u z h = absurd (omega arith)
last false true r s n u z h = absurd (omega arith)
last false false true s n u z h = absurd (omega arith)
last false false false true n u z h = absurd (omega arith)
last false false false false true u z h = absurd (omega arith)
last false false false false false true z h = absurd (omega arith)
last false false false false false false true h = refl
last false false false false false false false h = refl

module _ (g : Given) (out : List ℕ) where
  refuses : (n : ℕ) → refusal (print_table g out) ≡ n → (n ≡ 0 → ⊥) → (refused n ≡ print_answer g out) × (out ≡ print_after g out)
  unfolding print_answer print_after
  refuses n e h = rw (e, ne_eqb n 0 h) (refl, refl)

  pub by_check : (n : ℕ) → n ≡ refusal (matrix_table g) → (n ≡ 0 → ⊥) → (refused n ≡ print_answer g out) × (out ≡ print_after g out)
  by_check n e h =
      refuses n (other (bad_form g) (bad_columns g) (bad_rows g) (bad_shape g) (bad_net g) (bad_rules g) (ltb (length out) (length (printed (view g)))) (λ q. h (e ∙ q)) ∙ sym e) h

  room_is : refusal (matrix_table g) ≡ 0 → refusal (print_table g out) ≡ cond (ltb (length out) (length (printed (view g)))) ROOM 0
  room_is e = last (bad_form g) (bad_columns g) (bad_rows g) (bad_shape g) (bad_net g) (bad_rules g) (ltb (length out) (length (printed (view g)))) e

  pub by_room : refusal (matrix_table g) ≡ 0 → length out < length (printed (view g)) → (refused ROOM ≡ print_answer g out) × (out ≡ print_after g out)
  by_room e h =
      let q : refusal (print_table g out) ≡ ROOM = room_is e ∙ ap (λ (b : Bool). cond b ROOM 0) (lt-ltb (length out) (length (printed (view g))) h) in
      refuses ROOM q (λ z. omega arith)

  pub by_text : refusal (matrix_table g) ≡ 0 → length (printed (view g)) ≤ length out
      → (done (length (printed (view g))) ≡ print_answer g out) × (printed (view g) ++ drop (length (printed (view g))) out ≡ print_after g out)
  unfolding print_answer print_after
  by_text e h =
      let q : refusal (print_table g out) ≡ 0 = room_is e ∙ ap (λ (b : Bool). cond b ROOM 0) (le-ltb (length out) (length (printed (view g))) h) in
      rw q (refl, refl)

-- ---- a matrix that no number applies to

abbrev shaped : ℕ → GivenRow → Bool
shaped w r = eqb r.len w

abbrev few : GivenRow → Bool
few r = leb r.count rules_max

abbrev named : RowOf → Bool
named r = all is_name r.rules

rows_fit : (w n : ℕ) (rs : List Row) → w ≤ columns_max → all (shaped w) (take n (map rows.given rs)) ≡ true → all few (take n (map rows.given rs)) ≡ true
    → all named (map view_row (take n (map rows.given rs))) ≡ true → RowsFit (take n rs)
unfolding RowsFit
rows_fit w zero rs h a b c = tt
rows_fit w (suc n) [] h a b c = tt
rows_fit w (suc n) (r ∷ rs) h a b c =
    let g = rows.given r in
    let l = take n (map rows.given rs) in (
      record {
        wide = omega (arith, h, eqb-true r.len w (and_left (shaped w g) (all (shaped w) l) a));
        few = leb-true r.rules.count rules_max (and_left (few g) (all few l) b);
        low = names-low (take r.rules.count r.rules.items) (and_left (named (view_row g)) (all named (map view_row l)) c);
      },
      rows_fit w n rs h (and_right (shaped w g) (all (shaped w) l) a) (and_right (few g) (all few l) b) (and_right (named (view_row g)) (all named (map view_row l)) c),
    )

is_not : (b : Bool) → not b ≡ false → b ≡ true
is_not true e = refl
is_not false e = absurd (clash (sym e))

module _ (m : Matrix) (e : refusal (matrix_table (mat.given m)) ≡ 0) where
  pub fits : Fits m
  unfolding mem
  fits =
      let g = mat.given m in
      let none = none_applies (matrix_table g) e in
      let w = ltb-false columns_max m.columns (none COLUMNS refl) in
      let t = ltb-false rows_max m.count (none ROWS refl) in
      let n = is_not _ (none NET refl) in
      record {
        wide = w;
        tall = t;
        low = and_left (all (λ (k : ℕ). not (over k)) (view g).nets) (all named (view g).rows) n;
        each = rows_fit m.columns m.count m.rows w (is_not _ (none SHAPE refl)) (is_not _ (none RULES refl)) (and_right (all (λ (k : ℕ). not (over k)) (view g).nets) (all named (view g).rows) n);
      }

  pub text-few : Slots (mat.given m) → length (printed (mat.view m)) ≤ text_max
  text-few s = printed-length (mat.view m) (good-view (mat.given m) s e)
