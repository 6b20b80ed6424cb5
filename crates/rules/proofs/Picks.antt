-- What the number that is given says: it applies, and none before it in the order does; 0 says that none applies. Assumes nothing.
use Prim.Native.Nat.{ℕ, ◌<◌}
use mathlib.Core.Bool.{true, false, true≢false}
use mathlib.Core.List.{List, [], ◌∷◌, ◌++◌}
use mathlib.Core.Path.{◌≡◌, refl, sym, ap, ◌∙◌, subst}
use native.Mathlib.Omega.{arith}
use borrow.Author.Tests.{eqb-true, eqb-false, ltb-true}
use lib.Dec.{eqb, ltb}
use Rattle.lists.specs.Bools.{and_left, and_right, by_bool, clash, or_cases}
use Rattle.lists.specs.Lists.{all, mem}
use Rattle.rules.specs.Refuse.{Table, applies, first_of, order, refusal}

none_of : (ns : List ℕ) (fs : Table) → all (ltb 0) ns ≡ true → first_of ns fs ≡ 0 → (k : ℕ) → mem k ns ≡ true → applies k fs ≡ false
unfolding mem
none_of [] fs h e k i = absurd (clash i)
none_of (n ∷ ns) fs h e k i =
    let r = none_of ns fs (and_right (ltb 0 n) (all (ltb 0) ns) h) in
    by_bool (applies n fs)
    (λ p. let q : n ≡ 0 = rw p at e in absurd (omega (arith, ltb-true 0 n (and_left (ltb 0 n) (all (ltb 0) ns) h))))
    (λ p. or_cases (eqb n k) (mem k ns) i
    (λ q. subst (λ (x : ℕ). applies x fs ≡ false) (eqb-true n k q) p)
    (λ q. r (rw p at e) k q))

first_of_lem : (ns : List ℕ) (fs : Table) (k : ℕ) → first_of ns fs ≡ k → 0 < k → applies k fs ≡ true
first_of_lem [] fs k e h = absurd (omega arith)
first_of_lem (n ∷ ns) fs k e h =
    let r = first_of_lem ns fs k in
    by_bool (applies n fs)
    (λ p. let q : n ≡ k = rw p at e in subst (λ (x : ℕ). applies x fs ≡ true) q p)
    (λ p. r (rw p at e) h)

-- none of these applies
unfoldable pub Silent : List ℕ → Table → Type 0
Silent [] fs = Unit {0}
Silent (n ∷ ns) fs = (applies n fs ≡ false) × Silent ns fs

silent-first : (ms : List ℕ) (n : ℕ) (rest : List ℕ) (fs : Table) → Silent ms fs → applies n fs ≡ true → first_of (ms ++ (n ∷ rest)) fs ≡ n
unfolding Silent
silent-first [] n rest fs s p = rw p
silent-first (m ∷ ms) n rest fs s p = rw s.0 (silent-first ms n rest fs s.1 p)

first-silent : (ms : List ℕ) (n : ℕ) (rest : List ℕ) (fs : Table) → mem n ms ≡ false → first_of (ms ++ (n ∷ rest)) fs ≡ n → Silent ms fs
unfolding Silent mem
first-silent [] n rest fs o e = tt
first-silent (m ∷ ms) n rest fs o e =
    let r = first-silent ms n rest fs in
    by_bool (eqb m n)
    (λ q. absurd (true≢false (rw q at o)))
    (λ q. by_bool (applies m fs)
    (λ p. let z : m ≡ n = rw p at e in absurd (eqb-false m n q z))
    (λ p. (p, r (rw q at o) (rw p at e))))

-- ---- of the order of all calls

pub none_applies : (fs : Table) → refusal fs ≡ 0 → (k : ℕ) → mem k order ≡ true → applies k fs ≡ false
none_applies fs e = none_of order fs refl e

pub given-applies : (fs : Table) (k : ℕ) → refusal fs ≡ k → 0 < k → applies k fs ≡ true
given-applies fs = first_of_lem order fs

-- exactly: a number is given if and only if it applies and none before it does
pub given-first : (ms : List ℕ) (n : ℕ) (rest : List ℕ) (fs : Table) → order ≡ ms ++ (n ∷ rest) → mem n ms ≡ false → refusal fs ≡ n → Silent ms fs
given-first ms n rest fs o p e = first-silent ms n rest fs p (ap (λ (l : List ℕ). first_of l fs) (sym o) ∙ e)

pub first-given : (ms : List ℕ) (n : ℕ) (rest : List ℕ) (fs : Table) → order ≡ ms ++ (n ∷ rest) → Silent ms fs → applies n fs ≡ true → refusal fs ≡ n
first-given ms n rest fs o s p = ap (λ (l : List ℕ). first_of l fs) o ∙ silent-first ms n rest fs s p
