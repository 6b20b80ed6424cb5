-- The one insertion: the place that is found, and the array once x is put there. Assumes nothing.
use Rattle.std.proofs.Common.{◌≡◌, refl, sym, ap, ◌∙◌, ℕ, zero, suc, ◌+◌, ◌-◌, ◌≤◌, ◌<◌, add-one, arith, Bool, true, false, cond, ◌&&◌, eqb, leb, ltb, List, [], ◌∷◌, ◌++◌, drop, get_or, length, set, take, Option, Some, None, unwrap_or}
use borrow.Author.Tests.{eqb-false, eqb-true, eq-eqb, le-leb, le-ltb, lt-leb, lt-ltb, ltb-false, ltb-true, ne_eqb}
use Rattle.std.proofs.Common.{get_or-take, le_of_suc-le-suc, not-suc-le-zero}
use Rattle.std.proofs.lemmas.List.Edits.{length-insert}
use Rattle.std.proofs.lemmas.List.Recursion.{is_position_or_len}
use Rattle.std.specs.List.{copy_within, insert, position_or_len}
use Rattle.lists.specs.Bools.{by_bool, clash}
use Rattle.lists.specs.Vec.{take-vec, vec}
use Rattle.rules.specs.Matrix.{ins}

-- ---- the place

-- the place of the first that is not below x
unfoldable pub spot : ℕ → List ℕ → ℕ
spot x [] = 0
spot x (y ∷ ys) = cond (ltb y x) (suc (spot x ys)) 0

pub spot_within : (x : ℕ) (l : List ℕ) → spot x l ≤ length l
unfolding spot
spot_within x [] = omega arith
spot_within x (y ∷ ys) =
    let one = spot_within x ys in
    by_bool (ltb y x) (λ p. rw p (omega arith)) (λ p. rw p (omega arith))

-- `position`, and the count where nothing is found
pub spot_is : (x : ℕ) (l : List ℕ) (n : ℕ) (o : Option ℕ) → length l ≡ n
    → o ≡ cond (ltb (position_or_len (λ (y : ℕ). leb x y) l) (length l)) (Some (position_or_len (λ (y : ℕ). leb x y) l)) None → unwrap_or o n ≡ spot x l
unfolding spot
spot_is x l n o m e =
    let p : spot x l ≡ position_or_len (λ (y : ℕ). leb x y) l = is_position_or_len (spot x) (λ (y : ℕ). leb x y) none more l in
    let k = spot_within x l in
    rw (e, ← p)
    (by_bool (ltb (spot x l) (length l))
    (λ t. rw t)
    (λ t. let h = ltb-false (spot x l) (length l) t in rw t (omega arith)))
  where
    none : spot x [] ≡ 0
    none = refl

    more : (y : ℕ) (ys : List ℕ) → spot x (y ∷ ys) ≡ cond (leb x y) 0 (1 + spot x ys)
    more y ys =
        by_bool (ltb y x)
        (λ t. let h = ltb-true y x t in rw (t, lt-leb x y (omega arith)) (omega arith))
        (λ t. let h = ltb-false y x t in rw (t, le-leb x y (omega arith)))

-- a native test computes at literals alone
ltb_suc : (a b : ℕ) → ltb (suc a) (suc b) ≡ ltb a b
ltb_suc a b =
    by_bool (ltb a b)
    (λ p. let k = ltb-true a b p in rw (p, lt-ltb (suc a) (suc b) (omega arith)))
    (λ p. let k = ltb-false a b p in rw (p, le-ltb (suc a) (suc b) (omega arith)))

-- x is in the list at its place, or is put there
abbrev there : ℕ → List ℕ → Bool
there x l = ltb (spot x l) (length l) && eqb (get_or l (spot x l) 0) x

ins-there : (x : ℕ) (l : List ℕ) → there x l ≡ true → ins x l ≡ l
unfolding ins spot
ins-there x [] h = absurd (clash h)
ins-there x (y ∷ ys) h =
    let one = ins-there x ys in
    by_bool (ltb y x)
    (λ p.
    let k = ltb-true y x p in
    let q = rw (p, ltb_suc (spot x ys) (length ys)) at h in
    rw (le-ltb x y (omega arith), ne_eqb x y (omega arith)) (ap (λ (r : List ℕ). y ∷ r) (one q)))
    (λ p. let q = rw (p, lt-ltb 0 (suc (length ys)) (omega arith)) at h in let e = eqb-true y x q in rw (le-ltb x y (omega arith), eq-eqb x y (sym e)))

ins_fresh : (x : ℕ) (l : List ℕ) → there x l ≡ false → ins x l ≡ insert l (spot x l) x
unfolding ins spot
ins_fresh x [] h = refl
ins_fresh x (y ∷ ys) h =
    let one = ins_fresh x ys in
    by_bool (ltb y x)
    (λ p.
    let k = ltb-true y x p in
    let q = rw (p, ltb_suc (spot x ys) (length ys)) at h in
    rw (p, le-ltb x y (omega arith), ne_eqb x y (omega arith)) (ap (λ (r : List ℕ). y ∷ r) (one q)))
    (λ p.
    let q = rw (p, lt-ltb 0 (suc (length ys)) (omega arith)) at h in
    let k = ltb-false y x p in
    let e = eqb-false y x q in
    rw (p, lt-ltb x y (omega arith)))

-- ---- in an array with 0 after what is in use, that is the array of the list with x in it

vec-rest : (n : ℕ) (l : List ℕ) → length l < suc n → l ++ drop (suc (length l)) (vec (suc n) 0 l) ≡ vec n 0 l
unfolding vec
vec-rest n [] h = refl
vec-rest zero (y ∷ l) h = absurd (not-suc-le-zero (le_of_suc-le-suc h))
vec-rest (suc n) (y ∷ l) h = ap (λ (r : List ℕ). y ∷ r) (vec-rest n l (le_of_suc-le-suc h))

-- the k from place p on have moved up by one, and x stands in front of them
put-vec : (n p k x : ℕ) (l : List ℕ) → p + k ≡ length l → length l < n
    → set (take (suc p) (vec n 0 l) ++ take k (drop p (vec n 0 l)) ++ drop (suc (length l)) (vec n 0 l)) p x ≡ vec n 0 (insert l p x)
unfolding vec
put-vec zero p k x l e h = absurd (not-suc-le-zero h)
put-vec (suc n) zero k x [] e h = let z : k ≡ 0 = omega arith in rw z
put-vec (suc n) zero k x (y ∷ l) e h =
    let z : k ≡ length (y ∷ l) = omega arith in
    rw z
    (ap (λ (r : List ℕ). x ∷ (r ++ drop (suc (length (y ∷ l))) (vec (suc n) 0 (y ∷ l)))) (take-vec (suc n) 0 (y ∷ l) (omega arith))
    ∙ ap (λ (r : List ℕ). x ∷ r) (vec-rest n (y ∷ l) h))
put-vec (suc n) (suc p) k x [] e h = absurd (omega arith)
put-vec (suc n) (suc p) k x (y ∷ l) e h = ap (λ (r : List ℕ). y ∷ r) (put-vec n p k x l (omega arith) (le_of_suc-le-suc h))

-- ---- what the insertion says: v is the array, of which n are in use, and p the place that was found

module _ (v : List ℕ) (n x p : ℕ) (h : n < length v) (at : p ≡ spot x (take n v)) (l : List ℕ) (e : v ≡ vec (length v) 0 l) (c : n ≡ length l) where
  front_is : take n v ≡ l
  front_is =
      ap (λ (u : List ℕ). take n u) e ∙ ap (λ (m : ℕ). take m (vec (length v) 0 l)) c
      ∙ take-vec (length v) 0 l (omega arith)

  place_is : spot x l ≡ p
  place_is = sym (at ∙ ap (λ (u : List ℕ). spot x u) front_is)

  there_is : there x l ≡ (ltb p n && eqb (get_or v p 0) x)
  there_is =
      rw (place_is, ← c)
      (by_bool (ltb p n)
      (λ t.
      let q : get_or l p 0 ≡ get_or v p 0 = ap (λ (u : List ℕ). get_or u p 0) (sym front_is) ∙ get_or-take n v p 0 (ltb-true p n t) in
      rw (t, q))
      (λ t. rw t))

  pub insert_kept : (ltb p n && eqb (get_or v p 0) x) ≡ true → (v ≡ vec (length v) 0 (ins x l)) × (n ≡ length (ins x l))
  insert_kept t =
      let k : ins x l ≡ l = ins-there x l (there_is ∙ t) in
      (e ∙ ap (λ (u : List ℕ). vec (length v) 0 u) (sym k), c ∙ ap (λ (u : List ℕ). length u) (sym k))

  pub insert_put : (ltb p n && eqb (get_or v p 0) x) ≡ false → (w : List ℕ) → w ≡ copy_within v p n (p + 1)
      → (set w p x ≡ vec (length v) 0 (ins x l)) × (n + 1 ≡ length (ins x l))
  insert_put t w m =
      let q : p ≤ length l = omega (arith, spot_within x l, place_is) in
      let k : ins x l ≡ insert l p x = ins_fresh x l (there_is ∙ t) ∙ ap (λ (j : ℕ). insert l j x) place_is in
      let j : (p + 1) + (n - p) ≡ suc (length l) = omega arith in
      let z : copy_within v p n (p + 1) ≡ take (suc p) (vec (length v) 0 l) ++ take (n - p) (drop p (vec (length v) 0 l)) ++ drop (suc (length l)) (vec (length v) 0 l) =
      rw (j, add-one) (ap (λ (u : List ℕ). take (suc p) u ++ take (n - p) (drop p u) ++ drop (suc (length l)) u) e) in
      (rw (k, m, z) (put-vec (length v) p (n - p) x l (omega arith) (omega arith)), rw k (omega (arith, length-insert l p x q)))
