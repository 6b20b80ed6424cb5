-- The disjoint prefix is the longest. Assumes nothing.
use Prim.Native.Nat.{ℕ, zero, suc, ◌≤◌}
use mathlib.Core.Bool.{Bool, true, false, not}
use mathlib.Core.List.{List, [], ◌∷◌, ◌++◌, append_assoc, append-nil}
use mathlib.Core.Path.{◌≡◌, refl, sym, ap, subst}
use native.Mathlib.Omega.{arith}
use lib.ListN.{length, take}
use borrow.Author.Tests.{le-leb, leb-true}
use Rattle.lists.specs.Bools.{and_both, and_left, and_right, by_bool, contra, not_is, or_cases, or_left, or_right}
use Rattle.lists.specs.Lists.{mem}
use Rattle.rules.specs.Prefix.{among, crowded, disjoint_all, hits, prefix, prefix_from}
use Rattle.rules.specs.Tree.{Tree, leaf, node, some_leaf}

hits_more : (xs ys rs : List ℕ) → hits xs rs ≤ hits (xs ++ ys) rs
unfolding hits
hits_more [] ys rs = omega arith
hits_more (x ∷ xs) ys rs = omega (arith, hits_more xs ys rs)

crowded_more : (xs ys rs : List ℕ) → crowded xs rs ≡ true → crowded (xs ++ ys) rs ≡ true
crowded_more xs ys rs e = le-leb 2 (hits (xs ++ ys) rs) (omega (arith, leb-true 2 (hits xs rs) e, hits_more xs ys rs))

some_more : (p q : List ℕ → Bool) → ((rs : List ℕ) → p rs ≡ true → q rs ≡ true) → (t : Tree) → some_leaf p t ≡ true → some_leaf q t ≡ true
unfolding some_leaf
some_more p q h (leaf rs) e = h rs e
some_more p q h (node t z o) e =
    let a = some_more p q h z in
    let b = some_more p q h o in
    or_cases (some_leaf p z) (some_leaf p o) e (λ y. or_left (some_leaf q z) (some_leaf q o) (a y)) (λ y. or_right (some_leaf q z) (some_leaf q o) (b y))

among-less : (outs xs ys : List ℕ) → among outs (xs ++ ys) ≡ true → among outs xs ≡ true
unfolding among
among-less outs [] ys e = refl
among-less outs (x ∷ xs) ys e = and_both (mem x outs) (among outs xs) (and_left (mem x outs) (among outs (xs ++ ys)) e) (among-less outs xs ys (and_right (mem x outs) (among outs (xs ++ ys)) e))

-- a front of what is disjoint is disjoint
pub disjoint-less : (outs : List ℕ) (t : Tree) (xs ys : List ℕ) → disjoint_all outs t (xs ++ ys) ≡ true → disjoint_all outs t xs ≡ true
disjoint-less outs t xs ys e =
    let a = and_left (among outs (xs ++ ys)) (not (some_leaf (crowded (xs ++ ys)) t)) e in
    let b = not_is (some_leaf (crowded (xs ++ ys)) t) (and_right (among outs (xs ++ ys)) (not (some_leaf (crowded (xs ++ ys)) t)) e) in
    and_both (among outs xs) (not (some_leaf (crowded xs) t)) (among-less outs xs ys a)
    (ap not (contra (some_leaf (crowded xs) t) (some_leaf (crowded (xs ++ ys)) t) (some_more (crowded xs) (crowded (xs ++ ys)) (crowded_more xs ys) t) b))

front-good : (outs : List ℕ) (t : Tree) (before es : List ℕ) → disjoint_all outs t before ≡ true → disjoint_all outs t (before ++ take (prefix_from outs t before es) es) ≡ true
unfolding prefix_from
front-good outs t before [] h = subst (λ (l : List ℕ). disjoint_all outs t l ≡ true) (sym (append-nil before)) h
front-good outs t before (e ∷ es) h =
    let one = front-good outs t (before ++ (e ∷ [])) es in
    by_bool (disjoint_all outs t (before ++ (e ∷ [])))
    (λ p.
    let k : ℕ = prefix_from outs t (before ++ (e ∷ [])) es in
    let j : (before ++ (e ∷ [])) ++ take k es ≡ before ++ (e ∷ take k es) = append_assoc before (e ∷ []) (take k es) in
    rw p (subst (λ (l : List ℕ). disjoint_all outs t l ≡ true) j (one p)))
    (λ p. rw p (subst (λ (l : List ℕ). disjoint_all outs t l ≡ true) (sym (append-nil before)) h))

front_most : (outs : List ℕ) (t : Tree) (before es : List ℕ) (k : ℕ) → k ≤ length es → disjoint_all outs t (before ++ take k es) ≡ true → k ≤ prefix_from outs t before es
unfolding prefix_from
front_most outs t before [] k l h = omega arith
front_most outs t before (e ∷ es) zero l h = omega arith
front_most outs t before (e ∷ es) (suc k) l h =
    let one = front_most outs t (before ++ (e ∷ [])) es k (omega arith) in
    let g : disjoint_all outs t ((before ++ (e ∷ [])) ++ take k es) ≡ true = subst (λ (x : List ℕ). disjoint_all outs t x ≡ true) (sym (append_assoc before (e ∷ []) (take k es))) h in
    let p : disjoint_all outs t (before ++ (e ∷ [])) ≡ true = disjoint-less outs t (before ++ (e ∷ [])) (take k es) g in
    rw p (omega (arith, one g))

front_fits : (outs : List ℕ) (t : Tree) (before es : List ℕ) → prefix_from outs t before es ≤ length es
unfolding prefix_from
front_fits outs t before [] = omega arith
front_fits outs t before (e ∷ es) =
    let one = front_fits outs t (before ++ (e ∷ [])) es in
    by_bool (disjoint_all outs t (before ++ (e ∷ []))) (λ p. rw p (omega (arith, one))) (λ p. rw p (omega arith))

some_none : (p : List ℕ → Bool) → ((rs : List ℕ) → p rs ≡ false) → (t : Tree) → some_leaf p t ≡ false
unfolding some_leaf
some_none p h (leaf rs) = h rs
some_none p h (node t z o) = rw (some_none p h z, some_none p h o)

pub prefix-good : (outs : List ℕ) (t : Tree) (es : List ℕ) → disjoint_all outs t (take (prefix outs t es) es) ≡ true
unfolding hits among
prefix-good outs t es = front-good outs t [] es (ap not (some_none (crowded []) (λ rs. refl) t))

pub prefix_most : (outs : List ℕ) (t : Tree) (es : List ℕ) (k : ℕ) → k ≤ length es → disjoint_all outs t (take k es) ≡ true → k ≤ prefix outs t es
prefix_most outs t es k l h = front_most outs t [] es k l h

pub prefix-fits : (outs : List ℕ) (t : Tree) (es : List ℕ) → prefix outs t es ≤ length es
prefix-fits outs t es = front_fits outs t [] es
