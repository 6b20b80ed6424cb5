-- What a chain over the rules in use asks: std's tests of a list are ours. Assumes nothing.
use Rattle.std.proofs.Common.{◌≡◌, ◌∙◌, ap, Bool, Bor, Iter, MatchOption, Option, true, false, ◌&&◌, ◌||◌, eqb, List, [], ◌∷◌, refl, ℕ}
use denote.Param.Members.{Mut}
use Rattle.std.proofs.iter.Yields.{fronts}
use Rattle.std.proofs.lemmas.Iterator.{YieldsList-from_slice}
use Rattle.std.proofs.lemmas.Iterator.Search.{all_from_yields_List}
use Rattle.std.specs.Fn.{Called}
use Rattle.std.specs.Iterator.{YieldsThen}
use Rattle.std.specs.Slice.Iter.{iter_rest}
use Rattle.std.specs.List.{FoldsTo, list_all, list_any}
use Rattle.lists.specs.Lists.{all, mem}

-- ---- a test of each, and a number that is sought

pub all_from_list : {A : Type 0} (f : A → Bool) (xs l : List A) (r : Bool) → r ≡ list_all f xs → xs ≡ l → r ≡ all f l
all_from_list f xs l r e h = e ∙ is xs ∙ ap (all f) h
  where
    is : (l : List _) → list_all f l ≡ all f l
    is [] = refl
    is (x ∷ l) = ap (λ (b : Bool). f x && b) (is l)

-- the same of `all` over a slice, where the closure computes f
pub all_from_slice : {A F : Type 0} {g : Mut F (Bor A × Unit {0}) Bool} {s : Iter A} (f : A → Bool) (xs l : List A) (u : Iter A) (j : F) (r : Bool)
    → (ys : List (Bor A)) × (o : Option (Bor A)) × (k : F) × YieldsThen fronts s ys o u × FoldsTo (λ p x q. Called g p (x, tt) true q) j ys k × MatchOption o (r ≡ true) (λ x. (r ≡ false) × ((h : F) × Called g k (x, tt) false h))
    → iter_rest s ≡ xs → ((x : Bor A) (b : Bool) (q : F) → Called g j (x, tt) b q → (q ≡ j) × (b ≡ f x.now)) → xs ≡ l → r ≡ all f l
all_from_slice f xs l u j r d e k h = all_from_list f xs l r (all_from_yields_List f u j r d (YieldsList-from_slice xs e) k) h

pub mem_from_list : (n : ℕ) (xs l : List ℕ) (r : Bool) → r ≡ list_any (λ (x : ℕ). eqb x n) xs → xs ≡ l → r ≡ mem n l
unfolding mem
mem_from_list n xs l r e h = e ∙ is xs ∙ ap (mem n) h
  where
    is : (l : List ℕ) → list_any (λ (x : ℕ). eqb x n) l ≡ mem n l
    is [] = refl
    is (x ∷ l) = ap (λ (b : Bool). eqb x n || b) (is l)
