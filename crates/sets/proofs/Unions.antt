-- How long a set is that takes more in, what a loop from the last rule to the first has made, and the structs that hold sets.
-- Assumes nothing.
use borrow.Author.Tests.{le-ltb, leb-false, leb-true, lt-ltb}
use Rattle.std.proofs.Common.{◌≡◌, ◌∙◌, ap, append_assoc, arith, drop, eqb, is_some, le_of_suc-le-suc, leb, length, length-append, List, [], ◌∷◌, ◌++◌, ltb, not-suc-le-zero, None, refl, replicate, Some, suc, sym, take, zero, ℕ, ◌+◌, ◌*◌, ◌≤◌, ◌<◌}
use Rattle.std.proofs.lemmas.List.{append-nil, nil_from_length}
use Rattle.std.specs.List.{push}
use Rattle.lists.specs.Bools.{by_bool}
use Rattle.lists.specs.Vec.{length-vec, take-vec, vec, vec_none}
use Rattle.rules.specs.Bounds.{rules_max}
use Rattle.rules.specs.Matrix.{ins, union}
use Rattle.sets.specs.Insert.{Inserted}
use Rattle.sets.specs.Sets.{fitted, list_of, rules_from, wide_from}
use Rattle.sets.specs.declared.Rules.{Rules}
use Rattle.sets.specs.declared.Wide.{Wide}

pub ins_grows : (x : ℕ) (l : List ℕ) → length l ≤ length (ins x l)
unfolding ins
ins_grows x [] = omega arith
ins_grows x (y ∷ l) =
    let r = ins_grows x l in
    by_bool (ltb x y) (λ t. rw t (omega arith)) (λ t. by_bool (eqb x y) (λ u. rw (t, u) (omega arith)) (λ u. rw (t, u) (omega arith)))

pub ins_by_one : (x : ℕ) (l : List ℕ) → length (ins x l) ≤ length l + 1
unfolding ins
ins_by_one x [] = omega arith
ins_by_one x (y ∷ l) =
    let r = ins_by_one x l in
    by_bool (ltb x y) (λ t. rw t (omega arith)) (λ t. by_bool (eqb x y) (λ u. rw (t, u) (omega arith)) (λ u. rw (t, u) (omega arith)))

pub union-length : (xs ys : List ℕ) → length (union xs ys) ≤ length xs + length ys
unfolding union
union-length [] ys = omega arith
union-length (x ∷ xs) ys = omega (arith, ins_by_one x (union xs ys), union-length xs ys)

-- once too many, always
pub union_longer : (xs ts ys : List ℕ) → length (union ts ys) ≤ length (union (xs ++ ts) ys)
unfolding union
union_longer [] ts ys = omega arith
union_longer (x ∷ xs) ts ys = omega (arith, union_longer xs ts ys, ins_grows x (union (xs ++ ts) ys))

-- ---- a loop from the last of xs to the first: `left` are still to come, and v, of n slots, holds the union of ys with the others, c in number

pub record Holds (n : ℕ) (xs ys left v : List ℕ) (c : ℕ) : Type 0 where
  pub taken : List ℕ
  pub parts : xs ≡ left ++ taken
  pub array : v ≡ vec n 0 (union taken ys)
  pub count : c ≡ length (union taken ys)

pub holds_start : (n : ℕ) (xs ys left v : List ℕ) (c : ℕ) → left ≡ xs → v ≡ vec n 0 ys → c ≡ length ys → Holds n xs ys left v c
unfolding union
holds_start n xs ys left v c p e q = record { taken = []; parts = rw p (sym (append-nil xs)); array = e; count = q }

module _ (n : ℕ) (xs ys left v : List ℕ) (c : ℕ) (h : Holds n xs ys left v c) where
  pub holds_slots : length v ≡ n
  holds_slots = ap (λ (l : List ℕ). length l) h.array ∙ length-vec n 0 (union h.taken ys)

  pub holds_turn : (next w : List ℕ) (y r : ℕ) → left ≡ push next y → Inserted v c y w r → Holds n xs ys next w r
  unfolding union
  holds_turn next w y r p f =
      let t = f (union h.taken ys) (rw holds_slots h.array) h.count in
      record {
        taken = y ∷ h.taken;
        parts = h.parts ∙ rw p (append_assoc next (y ∷ []) h.taken);
        array = rw (← holds_slots) t.0;
        count = t.1;
      }

  pub holds_end : length left ≡ 0 → (v ≡ vec n 0 (union xs ys)) × (c ≡ length (union xs ys))
  holds_end z =
      let e : xs ≡ h.taken = h.parts ∙ ap (λ (l : List ℕ). l ++ h.taken) (nil_from_length left z) in
      rw e (h.array, h.count)

  -- as many slots as there are rules at the most
  pub holds-room : c + length left ≤ length xs + length ys
  holds-room =
      let e : length xs ≡ length left + length h.taken = ap (λ (l : List ℕ). length l) h.parts ∙ length-append left h.taken in
      omega (arith, union-length h.taken ys, h.count)

  pub holds_longer : c ≤ length (union xs ys)
  holds_longer = let k = union_longer left h.taken ys in rw h.parts (omega (arith, h.count))

-- ---- structs

pub rules_path : (r s : Rules) → r.items ≡ s.items → r.count ≡ s.count → r ≡ s
rules_path r s p q = λ i. record { items = p i; count = q i }

pub wide_path : (r s : Wide) → r.items ≡ s.items → r.count ≡ s.count → r ≡ s
wide_path r s p q = λ i. record { items = p i; count = q i }

-- what a struct with 0 past its count holds
pub wide_list : (w : Wide) (l : List ℕ) → w ≡ wide_from l → length l ≤ 2 * rules_max → take w.count w.items ≡ l
wide_list w l e h = rw e (take-vec (2 * rules_max) 0 l h)

pub list_of-rules_from : (l : List ℕ) → length l ≤ rules_max → list_of (rules_from l) ≡ l
list_of-rules_from l h = take-vec rules_max 0 l h

-- a list copied to the front of a fresh array
pub copied : (n : ℕ) (l : List ℕ) → length l ≤ n → l ++ drop (length l) (replicate n 0) ≡ vec n 0 l
unfolding vec
copied n [] h = vec_none n 0
copied zero (x ∷ l) h = absurd (not-suc-le-zero h)
copied (suc n) (x ∷ l) h = ap (λ (r : List ℕ). x ∷ r) (copied n l (le_of_suc-le-suc h))

-- the front of an array that has more slots
pub front-vec : (n m : ℕ) (l : List ℕ) → n ≤ m → length l ≤ n → take n (vec m 0 l) ≡ vec n 0 l
unfolding vec
front-vec zero m [] h k = refl
front-vec zero m (x ∷ l) h k = absurd (not-suc-le-zero k)
front-vec (suc n) zero l h k = absurd (not-suc-le-zero h)
front-vec (suc n) (suc m) [] h k = ap (λ (r : List ℕ). 0 ∷ r) (front-vec n m [] (le_of_suc-le-suc h) (omega arith))
front-vec (suc n) (suc m) (x ∷ l) h k = ap (λ (r : List ℕ). x ∷ r) (front-vec n m l (le_of_suc-le-suc h) (le_of_suc-le-suc k))

-- a list that is no set has too many, and a set is one that holds the list

pub is_some-fitted : (l : List ℕ) → is_some (fitted l) ≡ leb (length l) rules_max
is_some-fitted l =
    by_bool (leb (length l) rules_max)
    (λ t. let h = leb-true (length l) rules_max t in rw (t, le-ltb rules_max (length l) h))
    (λ t. let h = leb-false (length l) rules_max t in rw (t, lt-ltb rules_max (length l) h))

pub fitted_some : (l : List ℕ) → length l ≤ rules_max → fitted l ≡ Some (rules_from l)
fitted_some l h = rw (le-ltb rules_max (length l) h)

pub fitted_is : (l : List ℕ) (r : Rules) → fitted l ≡ Some r → r ≡ rules_from l
fitted_is l r e =
    by_bool (ltb rules_max (length l))
    (λ t. let d : None ≡ Some r = rw t at e in cc)
    (λ t. let d : Some (rules_from l) ≡ Some r = rw t at e in cc)

pub fitted_many : (l : List ℕ) → rules_max < length l → None ≡ fitted l
fitted_many l h = rw (lt-ltb rules_max (length l) h)
