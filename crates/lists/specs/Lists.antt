-- Functions on lists, each with the laws that a loop over it asks for: what is left of the list decides (all, same), a front is done (mapTo),
-- what is not gone is kept (kept). Assumes nothing.
use Rattle.std.specs.Prelude.{◌≡◌, Bool, ◌&&◌, ◌||◌, eqb, length, get_or, take, drop, set}
use Rattle.std.proofs.Math.Path.{refl, ap}
use Rattle.std.proofs.Common.{sym, ◌∙◌, le_of_suc-le-suc, not-suc-le-zero, le_antisymm, add-one, drop_of_length-le, drop-cons}
use Rattle.std.proofs.Math.Bool.{true, false, cond}
use mathlib.Core.List.{List, [], ◌∷◌, ◌++◌, map}
use Prim.Native.Nat.{ℕ, zero, suc, ◌+◌, ◌≤◌, ◌<◌}
use native.Mathlib.Omega.{arith}
use borrow.Author.Tests.{eq-eqb, ne_eqb, eqb-true}
use Rattle.lists.specs.Bools.{by_bool, clash}
use Rattle.std.proofs.Math.Seq.{slice, slice-cons, slice_empty}

-- an element if the test says so, in front of a list
abbrev pub front : {A : Type 0} → Bool → A → List A → List A
front true x l = x ∷ l
front false x l = l

-- the number is in the list
unfoldable pub mem : ℕ → List ℕ → Bool
mem n [] = false
mem n (x ∷ xs) = eqb x n || mem n xs

-- ---- a test at each element

abbrev pub all : {A : Type 0} → (A → Bool) → List A → Bool
all f [] = true
all f (x ∷ xs) = f x && all f xs

module _ {A : Type 0} (f : A → Bool) (l : List A) (d : A) (i n : ℕ) where
  pub all_more : i < n → n ≤ length l → f (get_or l i d) ≡ true → all f (slice i n l) ≡ all f (slice (i + 1) n l)
  all_more h k e = rw (add-one, slice-cons i n l d h k, e)

  pub all_stop : i < n → n ≤ length l → f (get_or l i d) ≡ false → all f (slice i n l) ≡ false
  all_stop h k e = rw (slice-cons i n l d h k, e)

  pub all_done : i ≤ n → n ≤ i → all f (slice i n l) ≡ true
  all_done h k = rw (le_antisymm h k, slice_empty n l)

-- the same where what is left is to the end, as of a slice
module _ {A : Type 0} (f : A → Bool) (l : List A) (d : A) (i : ℕ) where
  pub rest_more : i < length l → f (get_or l i d) ≡ true → all f (drop i l) ≡ all f (drop (i + 1) l)
  rest_more h e = rw (add-one, drop-cons l i d h, e)

  pub rest_stop : i < length l → f (get_or l i d) ≡ false → all f (drop i l) ≡ false
  rest_stop h e = rw (drop-cons l i d h, e)

  pub rest-done : length l ≤ i → all f (drop i l) ≡ true
  rest-done h = rw (drop_of_length-le l h)

-- ---- two lists of numbers are equal

unfoldable pub same : List ℕ → List ℕ → Bool
same [] [] = true
same [] (y ∷ ys) = false
same (x ∷ xs) [] = false
same (x ∷ xs) (y ∷ ys) = eqb x y && same xs ys

module _ (a b : List ℕ) (i n : ℕ) (h : i < n) (ka : n ≤ length a) (kb : n ≤ length b) where
  pub same_more : get_or a i 0 ≡ get_or b i 0 → same (slice i n a) (slice i n b) ≡ same (slice (i + 1) n a) (slice (i + 1) n b)
  unfolding same
  same_more e = rw (add-one, slice-cons i n a 0 h ka, slice-cons i n b 0 h kb, eq-eqb _ _ e)

  pub same_stop : (get_or a i 0 ≡ get_or b i 0 → ⊥) → same (slice i n a) (slice i n b) ≡ false
  unfolding same
  same_stop e = rw (slice-cons i n a 0 h ka, slice-cons i n b 0 h kb, ne_eqb _ _ e)

pub same-done : (a b : List ℕ) (i n : ℕ) → i ≤ n → n ≤ i → same (slice i n a) (slice i n b) ≡ true
unfolding same
same-done a b i n h k = rw (le_antisymm h k, slice_empty n a, slice_empty n b)

-- what it means
pub same_true : (a b : List ℕ) → same a b ≡ true → a ≡ b
unfolding same
same_true [] [] h = refl
same_true [] (y ∷ ys) h = absurd (clash h)
same_true (x ∷ xs) [] h = absurd (clash h)
same_true (x ∷ xs) (y ∷ ys) h =
    let r = same_true xs ys in
    by_bool (eqb x y)
    (λ e. let p : x ≡ y = eqb-true x y e in let q : xs ≡ ys = r (rw e at h) in cc)
    (λ e. absurd (clash (rw e at h)))

pub same_refl : (xs : List ℕ) → same xs xs ≡ true
unfolding same
same_refl [] = refl
same_refl (x ∷ xs) = rw (eq-eqb x x refl, same_refl xs)

-- ---- a function at each of the first n elements: what a loop that rewrites an array in place has done after n turns

abbrev pub map_to : {A : Type 0} → (A → A) → ℕ → List A → List A
map_to f zero l = l
map_to f (suc n) [] = []
map_to f (suc n) (x ∷ l) = f x ∷ map_to f n l

module _ {A : Type 0} (f : A → A) where
  pub length-map_to : (n : ℕ) (l : List A) → length (map_to f n l) ≡ length l
  length-map_to zero l = refl
  length-map_to (suc n) [] = refl
  length-map_to (suc n) (x ∷ l) = ap suc (length-map_to n l)

  -- the element that a turn reads is not yet changed
  pub get_or-map_to : (n : ℕ) (l : List A) (d : A) → get_or (map_to f n l) n d ≡ get_or l n d
  get_or-map_to zero l d = refl
  get_or-map_to (suc n) [] d = refl
  get_or-map_to (suc n) (x ∷ l) d = get_or-map_to n l d

  -- a turn
  pub map_to-set : (n : ℕ) (l : List A) (d : A) → n < length l → set (map_to f n l) n (f (get_or l n d)) ≡ map_to f (suc n) l
  map_to-set n [] d h = absurd (not-suc-le-zero h)
  map_to-set zero (x ∷ l) d h = refl
  map_to-set (suc n) (x ∷ l) d h = ap (λ (r : List A). f x ∷ r) (map_to-set n l d (le_of_suc-le-suc h))

  -- a turn that writes nothing, since the function changes nothing there
  pub map_to-keep : (n : ℕ) (l : List A) (d : A) → n < length l → f (get_or l n d) ≡ get_or l n d → map_to f n l ≡ map_to f (suc n) l
  map_to-keep n [] d h e = absurd (not-suc-le-zero h)
  map_to-keep zero (x ∷ l) d h e = ap (λ (y : A). y ∷ l) (sym e)
  map_to-keep (suc n) (x ∷ l) d h e = ap (λ (r : List A). f x ∷ r) (map_to-keep n l d (le_of_suc-le-suc h) e)

  -- the same, as a loop has it: the array v so far, and y, which a call made of the element read
  pub map_turn : (l v : List A) (d : A) (i : ℕ) (y : A) → i < length l → v ≡ map_to f i l → y ≡ f (get_or v i d) → set v i y ≡ map_to f (i + 1) l
  map_turn l v d i y h e q =
      let x : get_or v i d ≡ get_or l i d = ap (λ (u : List A). get_or u i d) e ∙ get_or-map_to i l d in
      rw (q, x, e, add-one) (map_to-set i l d h)

  -- what it is for a reader
  pub take-map_to : (n : ℕ) (l : List A) → take n (map_to f n l) ≡ map f (take n l)
  take-map_to zero l = refl
  take-map_to (suc n) [] = refl
  take-map_to (suc n) (x ∷ l) = ap (λ (r : List A). f x ∷ r) (take-map_to n l)

-- ---- the elements that are not gone, in order

unfoldable pub kept : {A : Type 0} → List Bool → List A → List A
kept [] l = []
kept (g ∷ gs) [] = []
kept (g ∷ gs) (x ∷ l) = cond g (kept gs l) (x ∷ kept gs l)

module _ {A : Type 0} where
  -- a turn, at an element that goes and at one that stays
  pub kept_goes : (gs : List Bool) (l : List A) (i : ℕ) → i < length l → get_or gs i false ≡ true → kept (take (suc i) gs) (take (suc i) l) ≡ kept (take i gs) (take i l)
  unfolding kept
  kept_goes gs [] i h e = absurd (not-suc-le-zero h)
  kept_goes [] (x ∷ l) i h e = absurd (clash e)
  kept_goes (g ∷ gs) (x ∷ l) zero h e = rw e
  kept_goes (g ∷ gs) (x ∷ l) (suc i) h e = ap (λ (r : List A). cond g r (x ∷ r)) (kept_goes gs l i (le_of_suc-le-suc h) e)

  pub kept_stays : (gs : List Bool) (l : List A) (d : A) (i : ℕ) → i < length gs → i < length l → get_or gs i false ≡ false
      → kept (take (suc i) gs) (take (suc i) l) ≡ kept (take i gs) (take i l) ++ (get_or l i d ∷ [])
  unfolding kept
  kept_stays gs [] d i k h e = absurd (not-suc-le-zero h)
  kept_stays [] (x ∷ l) d i k h e = absurd (not-suc-le-zero k)
  kept_stays (g ∷ gs) (x ∷ l) d zero k h e = rw e
  kept_stays (g ∷ gs) (x ∷ l) d (suc i) k h e = ap (λ (r : List A). cond g r (x ∷ r)) (kept_stays gs l d i (le_of_suc-le-suc k) (le_of_suc-le-suc h) e) ∙ cond-append g
    where
      cond-append : (b : Bool) → cond b (kept (take i gs) (take i l) ++ (get_or l i d ∷ [])) (x ∷ (kept (take i gs) (take i l) ++ (get_or l i d ∷ [])))
          ≡ cond b (kept (take i gs) (take i l)) (x ∷ kept (take i gs) (take i l)) ++ (get_or l i d ∷ [])
      cond-append true = refl
      cond-append false = refl

  pub length-kept : (gs : List Bool) (l : List A) → length (kept gs l) ≤ length l
  unfolding kept
  length-kept [] l = omega arith
  length-kept (g ∷ gs) [] = omega arith
  length-kept (g ∷ gs) (x ∷ l) =
      let r = length-kept gs l in
      by_bool g (λ e. rw e (omega arith)) (λ e. rw e (omega arith))
