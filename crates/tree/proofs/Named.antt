-- The rules of a leaf as a loop tests them: each from the one after the last up to the last allowed. Assumes nothing.
use Prim.Native.Nat.{ℕ, ◌+◌, ◌≤◌, ◌<◌}
use mathlib.Core.Bool.{Bool, true, false, not, ◌&&◌, and_assoc}
use mathlib.Core.List.{List, [], ◌∷◌, map}
use mathlib.Core.Path.{◌≡◌, refl, sym}
use native.Mathlib.Numerals.{add-one}
use native.Mathlib.Omega.{arith}
use borrow.Author.Tests.{le-leb, le-ltb, leb-false, leb-true, lt-leb, lt-ltb, ltb-false, ltb-true}
use lib.Dec.{leb, ltb}
use lib.ListN.{drop, drop_of_length-le, get_or, length}
use lib.Seq.{drop-cons}
use Rattle.lists.specs.Bools.{by_bool}
use Rattle.lists.specs.Lists.{all}
use Rattle.rules.specs.Bounds.{cell_max}
use Rattle.rules.specs.Given.{above, ascends}
use Rattle.rules.specs.Nets.{cell, first_mux, is_name}

-- from b on
unfoldable pub named : ℕ → List ℕ → Bool
named b [] = true
named b (n ∷ ns) = not (ltb n b) && (leb n cell_max && named (n + 1) ns)

pub name_cell : (n : ℕ) → is_name (cell n) ≡ leb n cell_max
name_cell n =
    let c : leb 3 (cell n) ≡ true = le-leb 3 (cell n) (omega arith) in
    by_bool (leb n cell_max)
    (λ e. let o : leb first_mux (cell n) ≡ false = lt-leb first_mux (cell n) (omega (arith, leb-true n cell_max e)) in rw (c, o, e))
    (λ e. let o : leb first_mux (cell n) ≡ true = le-leb first_mux (cell n) (omega (arith, leb-false n cell_max e)) in rw (c, o, e))

over_last : (b n : ℕ) → not (ltb n (b + 1)) ≡ ltb (cell b) (cell n)
over_last b n =
    by_bool (ltb n (b + 1))
    (λ e. let o : ltb (cell b) (cell n) ≡ false = le-ltb (cell b) (cell n) (omega (arith, ltb-true n (b + 1) e)) in rw (e, o))
    (λ e. let o : ltb (cell b) (cell n) ≡ true = lt-ltb (cell b) (cell n) (omega (arith, ltb-false n (b + 1) e)) in rw (e, o))

turn : (a b c d : Bool) → (a && (b && (c && d))) ≡ ((b && c) && (a && d))
turn true true c d = refl
turn true false c d = refl
turn false true true d = refl
turn false true false d = refl
turn false false c d = refl

named-above : (b : ℕ) (l : List ℕ) → named (b + 1) l ≡ (all is_name (map cell l) && above (cell b) (map cell l))
unfolding named above
named-above b [] = refl
named-above b (n ∷ l) =
    rw (over_last b n, sym (name_cell n), named-above n l)
    (turn (ltb (cell b) (cell n)) (is_name (cell n)) (all is_name (map cell l)) (above (cell n) (map cell l)))

pub named_is : (l : List ℕ) → named 0 l ≡ (all is_name (map cell l) && ascends (map cell l))
unfolding named ascends above
named_is [] = refl
named_is (n ∷ l) =
    let z : ltb n 0 ≡ false = le-ltb n 0 (omega arith) in
    rw (z, sym (name_cell n), named-above n l) (sym (and_assoc (is_name (cell n)) (all is_name (map cell l)) (above (cell n) (map cell l))))

-- ---- a turn of the loop, a stop, the end

module _ (l : List ℕ) (i b n : ℕ) (h : i < length l) (e : n ≡ get_or l i 0) where
  pub named_more : b ≤ n → n ≤ cell_max → named b (drop i l) ≡ named (n + 1) (drop (i + 1) l)
  unfolding named
  named_more p q =
      let x : ltb n b ≡ false = le-ltb n b p in
      let y : leb n cell_max ≡ true = le-leb n cell_max q in
      rw (add-one i, drop-cons l i 0 h, sym e, x, y)

  pub named-low : n < b → named b (drop i l) ≡ false
  unfolding named
  named-low p = let x : ltb n b ≡ true = lt-ltb n b p in rw (drop-cons l i 0 h, sym e, x)

  pub named_high : cell_max < n → named b (drop i l) ≡ false
  unfolding named
  named_high p =
      let y : leb n cell_max ≡ false = lt-leb n cell_max p in
      rw (drop-cons l i 0 h, sym e, y) (stop (not (ltb n b)))
    where
      stop : (t : Bool) → (t && false) ≡ false
      stop true = refl
      stop false = refl

pub named_end : (l : List ℕ) (i b : ℕ) → length l ≤ i → named b (drop i l) ≡ true
unfolding named
named_end l i b h = rw (drop_of_length-le l h)
