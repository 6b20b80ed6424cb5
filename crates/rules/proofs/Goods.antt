-- `good` is acceptance: what is in use of a matrix that is not refused is good, and a good matrix that a call made is not refused. Assumes nothing.
use Prim.Native.Nat.{ℕ, ◌≤◌}
use mathlib.Core.Bool.{Bool, true, false, not, ◌&&◌}
use mathlib.Core.List.{List, [], ◌∷◌, map}
use mathlib.Core.Path.{◌≡◌, refl, ap, ◌∙◌}
use native.Mathlib.Omega.{arith}
use borrow.Author.Tests.{eq-eqb, eqb-true, le-leb, le-ltb, leb-false, leb-true}
use lib.Dec.{eqb, leb}
use lib.ListN.{length, length-map, take}
use Rattle.lists.specs.Bools.{and_both, and_left, and_right, not_is}
use Rattle.lists.specs.Lists.{all, mem}
use Rattle.lists.specs.Vec.{take-vec, vec}
use Rattle.rules.proofs.Accepts.{fine-row, is_not, names-cells}
use Rattle.rules.proofs.Givens.{sized_unrefused, view-spread}
use Rattle.rules.proofs.Picks.{none_applies}
use Rattle.rules.specs.Bounds.{columns_max, net_max, rows_max, rules_max}
use Rattle.rules.specs.Given.{Given, GivenRow, Sized, SizedRows, Slots, ascends, bad_columns, bad_form, bad_net, bad_rows, bad_rules, bad_shape, cells, formed_row, good, good_row, matrix_table, spread, spread_row, view, zero_given}
use Rattle.rules.specs.Matrix.{Matrix, Row}
use Rattle.rules.specs.Nets.{cell, first_mux, is_cell, is_name, is_net, over}
use Rattle.rules.specs.Refuse.{FORM, NET, refusal}
use Rattle.rules.specs.Tree.{fine_leaf}
use Rattle.rules.specs.Trits.{is_trit}

abbrev low : ℕ → Bool
low n = not (over n)

abbrev named : Row → Bool
named r = all is_name r.rules

-- ---- accepted, so good

good-rows : (w : ℕ) (rs : List Row) → SizedRows w rs → all formed_row rs ≡ true → all named rs ≡ true → all (good_row w) rs ≡ true
unfolding SizedRows
good-rows w [] s f n = refl
good-rows w (r ∷ rs) s f n =
    let fr = and_left (formed_row r) (all formed_row rs) f in
    let nr = and_left (named r) (all named rs) n in
    and_both (good_row w r) (all (good_row w) rs)
    (and_both (eqb (length r.pattern) w) (all is_trit r.pattern && fine_leaf r.rules) (eq-eqb (length r.pattern) w s.0)
    (and_both (all is_trit r.pattern) (fine_leaf r.rules) (and_left (all is_trit r.pattern) (all is_net r.rules && ascends (cells r.rules)) fr) (fine-row r fr nr s.1)))
    (good-rows w rs s.2 (and_right (formed_row r) (all formed_row rs) f) (and_right (named r) (all named rs) n))

pub good-view : (g : Given) → Slots g → refusal (matrix_table g) ≡ 0 → good (view g) ≡ true
unfolding mem
good-view g s e =
    let none = none_applies (matrix_table g) e in
    let z = sized_unrefused g s e in
    let f : (all is_net (view g).nets && all formed_row (view g).rows) ≡ true = is_not _ (none FORM refl) in
    let n : (all low (view g).nets && all named (view g).rows) ≡ true = is_not _ (none NET refl) in
    let rs = good-rows (length (view g).nets) (view g).rows z.each (and_right (all is_net (view g).nets) (all formed_row (view g).rows) f) (and_right (all low (view g).nets) (all named (view g).rows) n) in
    and_both (leb (length (view g).nets) columns_max) (all low (view g).nets && (leb (length (view g).rows) rows_max && all (good_row (length (view g).nets)) (view g).rows))
    (le-leb (length (view g).nets) columns_max z.wide)
    (and_both (all low (view g).nets) (leb (length (view g).rows) rows_max && all (good_row (length (view g).nets)) (view g).rows)
    (and_left (all low (view g).nets) (all named (view g).rows) n)
    (and_both (leb (length (view g).rows) rows_max) (all (good_row (length (view g).nets)) (view g).rows) (le-leb (length (view g).rows) rows_max z.tall) rs))

-- ---- good, so accepted

-- the parts of a good row
module _ (w : ℕ) (r : Row) (h : good_row w r ≡ true) where
  wide_is : length r.pattern ≡ w
  wide_is = eqb-true (length r.pattern) w (and_left (eqb (length r.pattern) w) (all is_trit r.pattern && fine_leaf r.rules) h)

  trits_are : all is_trit r.pattern ≡ true
  trits_are = and_left (all is_trit r.pattern) (fine_leaf r.rules) (and_right (eqb (length r.pattern) w) (all is_trit r.pattern && fine_leaf r.rules) h)

  leaf_is : fine_leaf r.rules ≡ true
  leaf_is = and_right (all is_trit r.pattern) (fine_leaf r.rules) (and_right (eqb (length r.pattern) w) (all is_trit r.pattern && fine_leaf r.rules) h)

  few_are : length r.rules ≤ rules_max
  few_are = leb-true (length r.rules) rules_max (and_left (leb (length r.rules) rules_max) (all is_name r.rules && ascends r.rules) leaf_is)

  names_are : all is_name r.rules ≡ true
  names_are = and_left (all is_name r.rules) (ascends r.rules) (and_right (leb (length r.rules) rules_max) (all is_name r.rules && ascends r.rules) leaf_is)

  ascend_is : ascends r.rules ≡ true
  ascend_is = and_right (all is_name r.rules) (ascends r.rules) (and_right (leb (length r.rules) rules_max) (all is_name r.rules && ascends r.rules) leaf_is)

low-net : (n : ℕ) → low n ≡ true → is_net n ≡ true
low-net n h = le-leb n (cell net_max) (omega (arith, leb-false first_mux n (not_is (over n) h)))

lows_nets : (ns : List ℕ) → all low ns ≡ true → all is_net ns ≡ true
lows_nets [] h = refl
lows_nets (n ∷ ns) h = and_both (is_net n) (all is_net ns) (low-net n (and_left (low n) (all low ns) h)) (lows_nets ns (and_right (low n) (all low ns) h))

names-nets : (ns : List ℕ) → all is_name ns ≡ true → all is_net ns ≡ true
names-nets [] h = refl
names-nets (n ∷ ns) h =
    and_both (is_net n) (all is_net ns) (low-net n (and_right (is_cell n) (low n) (and_left (is_name n) (all is_name ns) h))) (names-nets ns (and_right (is_name n) (all is_name ns) h))

-- what each row of a good matrix has
pub record GoodRows (w : ℕ) (rs : List Row) : Type 0 where
  pub sized : SizedRows w rs
  pub formed : all formed_row rs ≡ true
  pub names : all named rs ≡ true
  pub lens : all (λ (r : GivenRow). eqb r.len w) (map spread_row rs) ≡ true
  pub counts : all (λ (r : GivenRow). leb r.count rules_max) (map spread_row rs) ≡ true

rows_are : (w : ℕ) (rs : List Row) → all (good_row w) rs ≡ true → GoodRows w rs
unfolding SizedRows
rows_are w [] h = record { sized = tt; formed = refl; names = refl; lens = refl; counts = refl }
rows_are w (r ∷ rs) h =
    let g = and_left (good_row w r) (all (good_row w) rs) h in
    let t = rows_are w rs (and_right (good_row w r) (all (good_row w) rs) h) in
    let a : ascends (cells r.rules) ≡ true = ap ascends (names-cells r.rules (names_are w r g)) ∙ ascend_is w r g in
    let f : formed_row r ≡ true = and_both (all is_trit r.pattern) (all is_net r.rules && ascends (cells r.rules)) (trits_are w r g)
    (and_both (all is_net r.rules) (ascends (cells r.rules)) (names-nets r.rules (names_are w r g)) a) in
    record {
      sized = (wide_is w r g, few_are w r g, t.sized);
      formed = and_both (formed_row r) (all formed_row rs) f t.formed;
      names = and_both (named r) (all named rs) (names_are w r g) t.names;
      lens = and_both (eqb (length r.pattern) w) (all (λ (x : GivenRow). eqb x.len w) (map spread_row rs)) (eq-eqb (length r.pattern) w (wide_is w r g)) t.lens;
      counts = and_both (leb (length r.rules) rules_max) (all (λ (x : GivenRow). leb x.count rules_max) (map spread_row rs)) (le-leb (length r.rules) rules_max (few_are w r g)) t.counts;
    }

module _ (m : Matrix) (h : good m ≡ true) where
  nets-few : length m.nets ≤ columns_max
  nets-few = leb-true (length m.nets) columns_max (and_left (leb (length m.nets) columns_max) (all low m.nets && (leb (length m.rows) rows_max && all (good_row (length m.nets)) m.rows)) h)

  rest : (all low m.nets && (leb (length m.rows) rows_max && all (good_row (length m.nets)) m.rows)) ≡ true
  rest = and_right (leb (length m.nets) columns_max) (all low m.nets && (leb (length m.rows) rows_max && all (good_row (length m.nets)) m.rows)) h

  nets-low : all low m.nets ≡ true
  nets-low = and_left (all low m.nets) (leb (length m.rows) rows_max && all (good_row (length m.nets)) m.rows) rest

  last : (leb (length m.rows) rows_max && all (good_row (length m.nets)) m.rows) ≡ true
  last = and_right (all low m.nets) (leb (length m.rows) rows_max && all (good_row (length m.nets)) m.rows) rest

  rows_few : length m.rows ≤ rows_max
  rows_few = leb-true (length m.rows) rows_max (and_left (leb (length m.rows) rows_max) (all (good_row (length m.nets)) m.rows) last)

  rows-good : GoodRows (length m.nets) m.rows
  rows-good = rows_are (length m.nets) m.rows (and_right (leb (length m.rows) rows_max) (all (good_row (length m.nets)) m.rows) last)

  pub good_sized : Sized m
  good_sized = record { wide = nets-few; tall = rows_few; each = rows-good.sized }

  slots_are : take (length m.rows) (vec rows_max zero_given (map spread_row m.rows)) ≡ map spread_row m.rows
  slots_are =
      let l : length (map spread_row m.rows) ≡ length m.rows = length-map m.rows spread_row in
      rw (← l) (take-vec rows_max zero_given (map spread_row m.rows) (rw l rows_few))

  pub good-spread : refusal (matrix_table (spread m)) ≡ 0
  good-spread =
      let v = view-spread m good_sized in
      let form : bad_form (spread m) ≡ false = ap (λ (x : Matrix). not (all is_net x.nets && all formed_row x.rows)) v ∙ rw (lows_nets m.nets nets-low, rows-good.formed) in
      let columns : bad_columns (spread m) ≡ false = le-ltb columns_max (length m.nets) nets-few in
      let rows : bad_rows (spread m) ≡ false = le-ltb rows_max (length m.rows) rows_few in
      let shape : bad_shape (spread m) ≡ false = ap (λ (l : List GivenRow). not (all (λ (r : GivenRow). eqb r.len (length m.nets)) l)) slots_are ∙ ap not rows-good.lens in
      let net : bad_net (spread m) ≡ false = ap (λ (x : Matrix). not (all low x.nets && all named x.rows)) v ∙ rw (nets-low, rows-good.names) in
      let rules : bad_rules (spread m) ≡ false = ap (λ (l : List GivenRow). not (all (λ (r : GivenRow). leb r.count rules_max) l)) slots_are ∙ ap not rows-good.counts in
      rw (form, columns, rows, shape, net, rules)
