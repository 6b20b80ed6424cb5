-- Ascending sets, and the outputs. Assumes nothing.
use Prim.Native.Nat.{ℕ, ◌<◌}
use mathlib.Core.Bool.{Bool, true, false, ◌||◌, or_assoc}
use mathlib.Core.List.{List, [], ◌∷◌, ◌++◌, map}
use mathlib.Core.Path.{◌≡◌, refl, sym, ap, ◌∙◌}
use native.Mathlib.Omega.{arith}
use lib.Dec.{eqb, ltb}
use borrow.Author.Tests.{eqb-true, eqb-false, ltb-false, ltb-true}
use Rattle.lists.specs.Bools.{and_left, and_right, by_bool}
use Rattle.lists.specs.Lists.{mem}
use Rattle.rules.proofs.Leafs.{Named}
use Rattle.rules.specs.Given.{above, ascends}
use Rattle.rules.specs.Matrix.{Above, Ascends, Matrix, Row, ins, joined, merge_rows, names, outputs_of, union}

above-less : (a b : ℕ) → a < b → (xs : List ℕ) → Above b xs → Above a xs
unfolding Above
above-less a b h [] k = tt
above-less a b h (x ∷ xs) k = (omega (arith, k.0), above-less a b h xs k.1)

-- ---- what the test that a list ascends says

above_says : (b : ℕ) (xs : List ℕ) → above b xs ≡ true → Above b xs × Ascends xs
unfolding above Above Ascends
above_says b [] e = (tt, tt)
above_says b (x ∷ xs) e =
    let h = ltb-true b x (and_left (ltb b x) (above x xs) e) in
    let r = above_says x xs (and_right (ltb b x) (above x xs) e) in
    ((h, above-less b x h xs r.0), r)

pub ascends_says : (xs : List ℕ) → ascends xs ≡ true → Ascends xs
unfolding ascends Ascends
ascends_says [] e = tt
ascends_says (x ∷ xs) e = above_says x xs e

ins-above : (b x : ℕ) → b < x → (ys : List ℕ) → Above b ys → Above b (ins x ys)
unfolding Above ins
ins-above b x h [] k = (h, tt)
ins-above b x h (y ∷ ys) k =
    let one = ins-above b x h ys k.1 in
    by_bool (ltb x y) (λ p. rw p (h, k)) (λ p. by_bool (eqb x y) (λ q. rw (p, q) k) (λ q. rw (p, q) (k.0, one)))

pub ins-ascends : (x : ℕ) (ys : List ℕ) → Ascends ys → Ascends (ins x ys)
unfolding Ascends Above ins
ins-ascends x [] k = (tt, tt)
ins-ascends x (y ∷ ys) k =
    let one = ins-ascends x ys k.1 in
    by_bool (ltb x y)
    (λ p. let l = ltb-true x y p in rw p ((l, above-less x y l ys k.0), k))
    (λ p. by_bool (eqb x y) (λ q. rw (p, q) k)
    (λ q.
    let l = ltb-false x y p in
    let n = eqb-false x y q in
    let m : y < x = omega arith in
    rw (p, q) (ins-above y x m ys k.0, one)))

pub union-ascends : (xs ys : List ℕ) → Ascends ys → Ascends (union xs ys)
unfolding union
union-ascends [] ys k = k
union-ascends (x ∷ xs) ys k = ins-ascends x (union xs ys) (union-ascends xs ys k)

pub ins-mem : (x : ℕ) (ys : List ℕ) (q : ℕ) → mem q (ins x ys) ≡ (eqb x q || mem q ys)
unfolding ins mem
ins-mem x [] q = refl
ins-mem x (y ∷ ys) q =
    let one = ins-mem x ys q in
    by_bool (ltb x y) (λ p. rw p)
    (λ p. by_bool (eqb x y)
    (λ e. rw (p, e, eqb-true x y e) (again (eqb y q) (mem q ys)))
    (λ e. rw (p, e, one) (swap (eqb y q) (eqb x q) (mem q ys))))
  where
    again : (a b : Bool) → (a || b) ≡ (a || (a || b))
    again true b = refl
    again false b = refl

    swap : (a b c : Bool) → (a || (b || c)) ≡ (b || (a || c))
    swap true true c = refl
    swap true false c = refl
    swap false true c = refl
    swap false false c = refl

pub union-mem : (xs ys : List ℕ) (q : ℕ) → mem q (union xs ys) ≡ (mem q xs || mem q ys)
unfolding union mem
union-mem [] ys q = refl
union-mem (x ∷ xs) ys q = ins-mem x (union xs ys) q ∙ ap (λ (b : Bool). eqb x q || b) (union-mem xs ys q) ∙ sym (or_assoc (eqb x q) (mem q xs) (mem q ys))

pub outputs_ascend : (rs : List Row) → Ascends (outputs_of rs)
unfolding outputs_of Ascends
outputs_ascend [] = tt
outputs_ascend (r ∷ rs) = union-ascends r.rules (outputs_of rs) (outputs_ascend rs)

pub outputs-named : (rs : List Row) (q : ℕ) → mem q (outputs_of rs) ≡ names rs q
unfolding outputs_of mem names
outputs-named [] q = refl
outputs-named (r ∷ rs) q = union-mem r.rules (outputs_of rs) q ∙ ap (λ (b : Bool). mem q r.rules || b) (outputs-named rs q)

-- a merge of rows with ascending rules has such rows
named-join : (P : List ℕ → Type 0) (xs ys : List Row) → Named P xs → Named P ys → Named P (xs ++ ys)
unfolding Named
named-join P [] ys h k = k
named-join P (x ∷ xs) ys h k = (h.0, named-join P xs ys h.1 k)

joined-named : (r : Row) (cs : List Row) → Named Ascends cs → Named Ascends (map (joined r) cs)
unfolding Named
joined-named r [] h = tt
joined-named r (c ∷ cs) h = (union-ascends r.rules c.rules h.0, joined-named r cs h.1)

pub merge-ascends : (t : ℕ) (child : Matrix) (rs : List Row) → Named Ascends child.rows → Named Ascends rs → Named Ascends (merge_rows t child rs)
unfolding merge_rows Named
merge-ascends t child [] h k = tt
merge-ascends t child (r ∷ rs) h k =
    let one = merge-ascends t child rs h k.1 in
    by_bool (mem t r.rules)
    (λ p. rw p (named-join Ascends (map (joined r) child.rows) (merge_rows t child rs) (joined-named r child.rows h) one))
    (λ p. rw p (k.0, one))
