-- What the loops over one row cite, on plain lists. Assumes nothing.
use borrow.Rule.Slice.PartMut.{put_mid}
use lib.ListN.{length, get_or, take, drop, set, replicate, length-append, length-map}
use mathlib.Core.Bool.{Bool, true, false, cond, not, ◌&&◌}
use mathlib.Core.List.{List, [], ◌∷◌, ◌++◌, map, append_assoc}
use mathlib.Core.Path.{◌≡◌, refl, sym, ap, ap₂, ◌∙◌}
use native.Mathlib.Nat.{sub-zero, le_of_suc-le-suc, not-suc-le-zero}
use native.Mathlib.Omega.{arith}
use Prim.Native.Nat.{ℕ, zero, suc, ◌+◌, ◌-◌, ◌≤◌, ◌<◌, min}
use Rattle.lists.specs.Bools.{by_bool}
use Rattle.lists.specs.Keep.{goes, Kept, stays}
use Rattle.lists.specs.Lists.{all, front, kept}
use Rattle.lists.specs.Vec.{vec, fill, length-vec, vec_none}
use Rattle.rows.specs.Rows.{flags, flags_from, places}
use Rattle.rules.specs.Matrix.{all_x}
use Rattle.rules.specs.Steps.{place, strip}
use Rattle.rules.specs.Trits.{is_x}
use Rattle.std.proofs.lemmas.Bool.{ltb-false}
use Rattle.std.proofs.lemmas.List.{drop_at, drop-replicate, take_at}
use Rattle.std.proofs.lemmas.List.Recursion.{is_position_or_len, same_from_clauses}
use Rattle.std.specs.List.{list_all, position_or_len}
use Rattle.std.specs.Option.{unwrap_or}
use Rattle.std.specs.Prelude.{eqb, ltb, Option, None, Some}

-- what `all` of a slice answers
pub all_is : {A : Type 0} (p : A → Bool) (xs : List A) → list_all p xs ≡ all p xs
all_is p xs = same_from_clauses (list_all p) (all p) (λ x r. p x && r) refl (λ _ _. refl) (λ _ _. refl) xs

pub all_x_is : (ms : List ℕ) → list_all is_x ms ≡ all_x ms
unfolding all_x
all_x_is ms = same_from_clauses (list_all is_x) all_x (λ m r. is_x m && r) refl (λ _ _. refl) (λ _ _. refl) ms

-- ---- the first place of a net

place_len : (x : ℕ) (ns : List ℕ) → position_or_len (λ y. eqb y x) ns ≡ place x ns
unfolding place
place_len x ns = sym (is_position_or_len (place x) (λ y. eqb y x) refl (λ y ys. ap (cond (eqb y x) 0) (omega arith)) ns)

place_most : (x : ℕ) (ns : List ℕ) → place x ns ≤ length ns
unfolding place
place_most x [] = omega arith
place_most x (n ∷ ns) = let r = place_most x ns in by_bool (eqb n x) (λ e. rw e (omega arith)) (λ e. rw e (omega arith))

-- what `position` of a slice answers, or the length
pub place_or_len : (x : ℕ) (ns : List ℕ) (r : Option ℕ) (u : ℕ) → r ≡ cond (ltb (position_or_len (λ y. eqb y x) ns) (length ns)) (Some (position_or_len (λ y. eqb y x) ns)) None
    → u ≡ unwrap_or r (length ns) → u ≡ place x ns
place_or_len x ns r u e f =
    let p = place_len x ns in
    let m = place_most x ns in
    by_bool (ltb (place x ns) (length ns))
    (λ b. let g = rw (p, b) at e in rw g at f)
    (λ b. let g = rw (p, b) at e in let h = rw g at f in let l = ltb-false (place x ns) (length ns) b in h ∙ omega arith)

-- ---- arrays that are made

module _ {A : Type 0} where
  pub length-take_most : (n : ℕ) (l : List A) → (length (take n l) ≤ n) × (length (take n l) ≤ length l)
  length-take_most zero l = (omega arith, omega arith)
  length-take_most (suc n) [] = (omega arith, omega arith)
  length-take_most (suc n) (x ∷ l) = let r = length-take_most n l in (omega arith, omega arith)

  pub take-replicate : (k n : ℕ) (x : A) → k ≤ n → take k (replicate n x) ≡ replicate k x
  take-replicate zero n x h = refl
  take-replicate (suc k) zero x h = absurd (not-suc-le-zero h)
  take-replicate (suc k) (suc n) x h = ap (λ (r : List A). x ∷ r) (take-replicate k n x (le_of_suc-le-suc h))

  -- a 0 more at the end is the 0 that stands there
  pub vec-last : (n : ℕ) (d : A) (l : List A) → vec n d l ≡ vec n d (l ++ (d ∷ []))
  unfolding vec
  vec-last zero d l = refl
  vec-last (suc n) d [] = refl
  vec-last (suc n) d (x ∷ l) = ap (λ (r : List A). x ∷ r) (vec-last n d l)

  pub set_vec : (n : ℕ) (d : A) (l : List A) (i : ℕ) (x : A) → i < length l → set (vec n d l) i x ≡ vec n d (set l i x)
  unfolding vec
  set_vec n d [] i x h = absurd (not-suc-le-zero h)
  set_vec zero d (y ∷ l) zero x h = refl
  set_vec zero d (y ∷ l) (suc i) x h = refl
  set_vec (suc n) d (y ∷ l) zero x h = refl
  set_vec (suc n) d (y ∷ l) (suc i) x h = ap (λ (r : List A). y ∷ r) (set_vec n d l i x (le_of_suc-le-suc h))

  -- an array is its list, and then the filler
  pub vec_split : (n : ℕ) (d : A) (l : List A) → length l ≤ n → vec n d l ≡ l ++ replicate (n - length l) d
  unfolding vec
  vec_split zero d [] h = refl
  vec_split zero d (x ∷ l) h = absurd (not-suc-le-zero h)
  vec_split (suc n) d [] h = rw sub-zero (sym (vec_none (suc n) d))
  vec_split (suc n) d (x ∷ l) h = ap (λ (r : List A). x ∷ r) (vec_split n d l (le_of_suc-le-suc h) ∙ ap (λ (i : ℕ). l ++ replicate i d) (omega arith))

  -- two lists copied one after the other into a fresh array
  pub join_copied : (n : ℕ) (d : A) (a b s t : List A) → length a + length b ≤ n → s ≡ a → t ≡ b
      → put_mid (length a) (length a + length b - length a) (s ++ drop (length a) (replicate n d)) t ≡ vec n d (a ++ b)
  join_copied n d a b s t h e f =
      let k : length a + length b - length a ≡ length b = omega arith in
      let w : length (a ++ b) ≡ length a + length b = length-append a b in
      let r : n - length a - length b ≡ n - length (a ++ b) = omega arith in
      rw (e, f, k) (
      ap₂ (λ (x y : List A). x ++ (b ++ y)) (take_at a (drop (length a) (replicate n d)) _ refl) (ap (drop (length b)) (drop_at a (drop (length a) (replicate n d)) _ refl ∙ drop-replicate (length a) n d) ∙ drop-replicate (length b) (n - length a) d)
      ∙ sym (append_assoc a b _) ∙ ap (λ (i : ℕ). a ++ b ++ replicate i d) r ∙ sym (vec_split n d (a ++ b) (omega arith)))

module _ {A B : Type 0} (f : A → B) where
  pub get_d_map : (l : List A) (i : ℕ) (d : A) (e : B) → i < length l → get_or (map f l) i e ≡ f (get_or l i d)
  get_d_map [] i d e h = absurd (not-suc-le-zero h)
  get_d_map (x ∷ l) zero d e h = refl
  get_d_map (x ∷ l) (suc i) d e h = get_d_map l i d e (le_of_suc-le-suc h)

-- ---- a turn of a loop that strips: i pairs of a flag and an element went by

module _ {A : Type 0} (n : ℕ) (d : A) (gs : List Bool) (l : List A) where
  pub kept_room : (i : ℕ) (a : List A) (k : ℕ) → Kept n d gs l i a k → i < length l → length l ≤ n → k < length a
  kept_room i a k v h m =
      let e : length a ≡ n = ap length v.array ∙ length-vec n d (kept (take i gs) (take i l)) in
      omega (arith, v.below)

  module _ {B : Type 0} (xs : List B) (z : B) (a : List A) (k : ℕ) (v : Kept n d gs l (length xs) a k) (g : Bool) where
    more : length (xs ++ (z ∷ [])) ≡ length xs + 1
    more = length-append xs (z ∷ [])

    pub kept_turn-goes : length xs < length l → ((e : Bool) → g ≡ get_or gs (length xs) e) → g ≡ true → Kept n d gs l (length (xs ++ (z ∷ []))) a k
    kept_turn-goes h e b = rw more (goes n d gs l (length xs) a k v h (sym (e false) ∙ b))

    pub kept_turn-stays : (x : A) → length xs < length gs → length xs < length l → ((e : Bool) → g ≡ get_or gs (length xs) e) → ((e : A) → x ≡ get_or l (length xs) e)
        → length l ≤ n → g ≡ false → Kept n d gs l (length (xs ++ (z ∷ []))) (set a k x) (k + 1)
    kept_turn-stays x q h e f m b =
        rw (more, f d) (stays n d gs l (length xs) a k v d q h (omega arith) (sym (e false) ∙ b))

  -- every pair went by
  pub kept_end : (i : ℕ) (a : List A) (k : ℕ) → Kept n d gs l i a k → i ≡ min (length gs) (length l) → a ≡ vec n d (kept gs l)
  unfolding kept
  kept_end i a k v e = v.array ∙ ap (vec n d) (kept_fronts i gs l (omega arith))
    where
      kept_fronts : (i : ℕ) (gs : List Bool) (l : List A) → min (length gs) (length l) ≤ i → kept (take i gs) (take i l) ≡ kept gs l
      kept_fronts zero [] l h = refl
      kept_fronts (suc i) [] l h = refl
      kept_fronts zero (g ∷ gs) [] h = refl
      kept_fronts (suc i) (g ∷ gs) [] h = refl
      kept_fronts zero (g ∷ gs) (x ∷ l) h = absurd (omega arith)
      kept_fronts (suc i) (g ∷ gs) (x ∷ l) h = ap (λ (r : List A). cond g r (x ∷ r)) (kept_fronts i gs l (omega arith))

-- the first column of each column's net
module _ (ns : List ℕ) where
  pub length-places : length (places ns) ≡ length ns
  length-places = length-map ns (λ (x : ℕ). place x ns)

  pub places-at : (i : ℕ) → i < length ns → get_or (places ns) i 0 ≡ place (get_or ns i 0) ns
  places-at i k = get_d_map (λ (x : ℕ). place x ns) ns i 0 0 k

  pub places_fill : (N i y : ℕ) → length ns ≤ N → i < length ns → y ≡ place (get_or ns i 0) ns
      → set (vec N 0 (take i (places ns))) i y ≡ vec N 0 (take (i + 1) (places ns))
  places_fill N i y b k e =
      let l = length-places in
      let q : y ≡ get_or (places ns) i 0 = e ∙ sym (places-at i k) in
      ap (set (vec N 0 (take i (places ns))) i) q ∙ fill N 0 (places ns) i (omega arith) (omega arith)

-- ---- the columns that stay, by a flag a column

strip-from : (go : ℕ → ℕ → Bool) (j : ℕ) (ns xs : List ℕ) → strip go j ns xs ≡ kept (flags_from go j ns) xs
unfolding strip kept flags_from
strip-from go j [] xs = refl
strip-from go j (n ∷ ns) [] = refl
strip-from go j (n ∷ ns) (x ∷ xs) = rw (strip-from go (suc j) ns xs) (flip (go j n) (kept (flags_from go (suc j) ns) xs))
  where
    flip : (b : Bool) (l : List ℕ) → front (not b) x l ≡ cond b l (x ∷ l)
    flip true l = refl
    flip false l = refl

pub strip-kept : (go : ℕ → ℕ → Bool) (ns xs : List ℕ) → strip go 0 ns xs ≡ kept (flags go ns) xs
strip-kept go ns xs = strip-from go 0 ns xs

pub length-flags : (go : ℕ → ℕ → Bool) (j : ℕ) (ns : List ℕ) → length (flags_from go j ns) ≡ length ns
unfolding flags_from
length-flags go j [] = refl
length-flags go j (n ∷ ns) = ap suc (length-flags go (suc j) ns)
