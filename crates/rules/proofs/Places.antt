-- Columns by their places. Assumes nothing.
use Prim.Native.Nat.{ℕ, zero, suc, ◌≤◌, ◌<◌}
use mathlib.Core.Path.{◌≡◌, refl, ap}
use mathlib.Core.List.{List, [], ◌∷◌}
use mathlib.Core.Bool.{true, false, not, ◌&&◌, true≢false, false≢true}
use native.Mathlib.Omega.{arith}
use lib.Dec.{eqb}
use lib.ListN.{length, get_or, take}
use borrow.Author.Tests.{eqb-true, eq-eqb, ne_eqb}
use Rattle.lists.specs.Bools.{and_both, and_left, and_right, by_bool}
use Rattle.lists.specs.Lists.{mem}
use Rattle.rules.proofs.Masks.{is_x_not}
use Rattle.rules.specs.Meaning.{fits, matches}
use Rattle.rules.specs.Normalize.{wanted}
use Rattle.rules.specs.Steps.{place}
use Rattle.rules.specs.Trits.{is_x}

pub place_lt : (n : ℕ) (ns : List ℕ) → mem n ns ≡ true → place n ns < length ns
unfolding place mem
place_lt n [] i = absurd (false≢true i)
place_lt n (x ∷ ns) i =
    let one = place_lt n ns in
    by_bool (eqb x n) (λ p. rw p (omega arith)) (λ p. let l = one (rw p at i) in rw p (omega arith))

pub place_at : (n : ℕ) (ns : List ℕ) → mem n ns ≡ true → get_or ns (place n ns) 0 ≡ n
unfolding place mem
place_at n [] i = absurd (false≢true i)
place_at n (x ∷ ns) i =
    let one = place_at n ns in
    by_bool (eqb x n) (λ p. rw p (eqb-true x n p)) (λ p. rw p (one (rw p at i)))

pub place_le : (ns : List ℕ) (j n : ℕ) → j < length ns → get_or ns j 0 ≡ n → place n ns ≤ j
unfolding place
place_le [] j n h e = absurd (omega arith)
place_le (x ∷ ns) zero n h e = rw (eq-eqb x n e) (omega arith)
place_le (x ∷ ns) (suc j) n h e =
    let one = place_le ns j n (omega arith) e in
    by_bool (eqb x n) (λ p. rw p (omega arith)) (λ p. rw p (omega arith))

-- the place of a net that stands at j: j itself if none before is it
pub place-new : (ns : List ℕ) (j n : ℕ) → j < length ns → get_or ns j 0 ≡ n → mem n (take j ns) ≡ false → place n ns ≡ j
unfolding place mem
place-new [] j n h e i = absurd (omega arith)
place-new (x ∷ ns) zero n h e i = rw (eq-eqb x n e)
place-new (x ∷ ns) (suc j) n h e i =
    let one = place-new ns j n (omega arith) e in
    by_bool (eqb x n) (λ p. absurd (true≢false (rw p at i))) (λ p. rw p (ap suc (one (rw p at i))))

pub place-old : (ns : List ℕ) (j n : ℕ) → mem n (take j ns) ≡ true → place n ns < j
unfolding place mem
place-old [] zero n i = absurd (false≢true i)
place-old [] (suc j) n i = absurd (false≢true i)
place-old (x ∷ ns) zero n i = absurd (false≢true i)
place-old (x ∷ ns) (suc j) n i =
    let one = place-old ns j n in
    by_bool (eqb x n) (λ p. rw p (omega arith)) (λ p. let l = one (rw p at i) in rw p (omega arith))

-- the first mask that is no X is what is asked
pub wanted_is : (ns ms : List ℕ) (n j : ℕ) → j < length ns → j < length ms → get_or ns j 0 ≡ n → (get_or ms j 2 ≡ 2 → ⊥)
    → ((i : ℕ) → i < j → get_or ns i 0 ≡ n → get_or ms i 2 ≡ 2) → wanted ns ms n ≡ get_or ms j 2
unfolding wanted
wanted_is [] ms n j h l e g b = absurd (omega arith)
wanted_is (x ∷ ns) [] n j h l e g b = absurd (omega arith)
wanted_is (x ∷ ns) (m ∷ ms) n zero h l e g b = rw (eq-eqb x n e, ne_eqb m 2 g)
wanted_is (x ∷ ns) (m ∷ ms) n (suc j) h l e g b =
    let one = wanted_is ns ms n j (omega arith) (omega arith) e g (λ i k. b (suc i) (omega arith)) in
    by_bool (eqb x n && not (is_x m))
    (λ p. absurd (is_x_not m (and_right (eqb x n) (not (is_x m)) p) (b 0 (omega arith) (eqb-true x n (and_left (eqb x n) (not (is_x m)) p)))))
    (λ p. rw p one)

-- it depends on the net's own columns alone
pub wanted_ext : (ns ms ms' : List ℕ) (n : ℕ) → length ms ≡ length ms' → ((i : ℕ) → i < length ns → get_or ns i 0 ≡ n → get_or ms i 2 ≡ get_or ms' i 2)
    → wanted ns ms n ≡ wanted ns ms' n
unfolding wanted
wanted_ext [] ms ms' n l h = refl
wanted_ext (x ∷ ns) [] [] n l h = refl
wanted_ext (x ∷ ns) [] (m' ∷ ms') n l h = absurd (omega arith)
wanted_ext (x ∷ ns) (m ∷ ms) [] n l h = absurd (omega arith)
wanted_ext (x ∷ ns) (m ∷ ms) (m' ∷ ms') n l h =
    let one = wanted_ext ns ms ms' n (omega arith) (λ i k. h (suc i) (omega arith)) in
    by_bool (eqb x n)
    (λ p.
    let e : m ≡ m' = h 0 (omega arith) (eqb-true x n p) in
    rw (p, e, one))
    (λ p. rw (p, one))

-- matching, column by column
pub matches-at : (f : ℕ → ℕ) (ns ms : List ℕ) → matches f ns ms ≡ true → (i : ℕ) → i < length ns → fits (get_or ms i 2) (f (get_or ns i 0)) ≡ true
unfolding matches
matches-at f [] ms e i h = absurd (omega arith)
matches-at f (n ∷ ns) [] e i h = refl
matches-at f (n ∷ ns) (m ∷ ms) e zero h = and_left (fits m (f n)) (matches f ns ms) e
matches-at f (n ∷ ns) (m ∷ ms) e (suc i) h = matches-at f ns ms (and_right (fits m (f n)) (matches f ns ms) e) i (omega arith)

pub at-matches : (f : ℕ → ℕ) (ns ms : List ℕ) → ((i : ℕ) → i < length ns → fits (get_or ms i 2) (f (get_or ns i 0)) ≡ true) → matches f ns ms ≡ true
unfolding matches
at-matches f [] ms h = refl
at-matches f (n ∷ ns) [] h = refl
at-matches f (n ∷ ns) (m ∷ ms) h = and_both (fits m (f n)) (matches f ns ms) (h 0 (omega arith)) (at-matches f ns ms (λ i k. h (suc i) (omega arith)))
