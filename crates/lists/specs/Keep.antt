-- A loop that writes the elements that are not gone, one after the other, into a fresh array.
-- Assumes nothing.
use Rattle.std.specs.Prelude.{◌≡◌, refl, Bool, true, false, List, [], ◌∷◌, ◌++◌, ℕ, ◌+◌, ◌≤◌, ◌<◌, length, get_or, take, set}
use Rattle.std.proofs.Common.{add-one, arith, length-append}
use Rattle.lists.specs.Lists.{kept, kept_goes, kept_stays}
use Rattle.lists.specs.Vec.{vec, push}

-- after i turns the array a holds what is kept of the first i, k of them
pub record Kept {A : Type 0} (n : ℕ) (d : A) (gs : List Bool) (l : List A) (i : ℕ) (a : List A) (k : ℕ) : Type 0 where
  pub array : a ≡ vec n d (kept (take i gs) (take i l))
  pub count : k ≡ length (kept (take i gs) (take i l))
  pub below : k ≤ i

module _ {A : Type 0} (n : ℕ) (d : A) (gs : List Bool) (l : List A) (i : ℕ) (a : List A) (k : ℕ) (v : Kept n d gs l i a k) where
  pub goes : i < length l → get_or gs i false ≡ true → Kept n d gs l (i + 1) a k
  goes h e =
      let q : kept (take (i + 1) gs) (take (i + 1) l) ≡ kept (take i gs) (take i l) = rw add-one (kept_goes gs l i h e) in
      record { array = rw q v.array; count = rw q v.count; below = omega arith }

  pub stays : (z : A) → i < length gs → i < length l → i < n → get_or gs i false ≡ false → Kept n d gs l (i + 1) (set a k (get_or l i z)) (k + 1)
  stays z g h r e =
      let q : kept (take (i + 1) gs) (take (i + 1) l) ≡ kept (take i gs) (take i l) ++ (get_or l i z ∷ []) = rw add-one (kept_stays gs l z i g h e) in
      record {
        array = rw (q, v.array, v.count) (push n d (kept (take i gs) (take i l)) (get_or l i z) (omega arith));
        count = rw (q, length-append (kept (take i gs) (take i l)) (get_or l i z ∷ [])) (omega arith);
        below = omega arith;
      }

pub starts : {A : Type 0} (n : ℕ) (d : A) (gs : List Bool) (l : List A) (a : List A) → a ≡ vec n d [] → Kept n d gs l 0 a 0
unfolding kept
starts n d gs l a e = record { array = e; count = refl; below = omega arith }
