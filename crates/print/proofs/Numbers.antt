-- The texts of numbers, nets and trits as their printers put them together. Assumes nothing.
use Prim.Native.Nat.{ℕ, zero, suc, ◌+◌, ◌%◌, ◌≤◌, ◌<◌}
use borrow.Author.Tests.{eq-eqb, le-leb, lt-leb, ltb-false, ne_eqb}
use lib.Dec.{eqb, ltb}
use lib.ListN.{get_or, length, length-append, take}
use lib.Seq.{take_all}
use mathlib.Core.Bool.{true, false, not}
use mathlib.Core.List.{List, [], ◌∷◌, ◌++◌, append_assoc, append-nil}
use mathlib.Core.Path.{◌≡◌, refl, sym, ap, ap₂, ◌∙◌}
use native.Mathlib.Numerals.{add-one}
use native.Mathlib.Omega.{arith}
use Rattle.lists.specs.Bools.{and_left, and_right, by_bool}
use Rattle.lists.specs.Lists.{all}
use Rattle.print.proofs.Laws.{put_as, put_then}
use Rattle.print.specs.Texts.{lead, marked, spaced}
use Rattle.rules.proofs.Accepts.{not_over}
use Rattle.rules.proofs.Digits.{by_order, digits_1, digits_2, digits_3, digits_4, net-cell}
use Rattle.rules.specs.Bytes.{byte, bytes}
use Rattle.rules.specs.Codes.{trit_code}
use Rattle.rules.specs.Nets.{cell, first_mux, is_cell, number, over}
use Rattle.rules.specs.Print.{digit, digits, grouped, net, nets, rule_text, trit}
use Rattle.rules.specs.declared.Trit.TheVariants.{Zero, One, Undef}
use Rattle.rules.specs.declared.Trit.{Trit}
use Rattle.std.specs.List.{enumerate_from}
use Rattle.trits.specs.Codes.{cut}

-- ---- numbers

-- its figures, from those of its thousands on
pub digits_are : (n : ℕ) → lead n 1000 ++ (lead n 100 ++ (lead n 10 ++ digit n ∷ [])) ≡ digits n
digits_are n =
    by_order n 10
    (λ h. rw (digits_1 n h, lt-leb 1000 n (omega arith), lt-leb 100 n (omega arith), lt-leb 10 n h))
    (λ h. by_order n 100
    (λ k. rw (digits_2 n h k, lt-leb 1000 n (omega arith), lt-leb 100 n k, le-leb 10 n h))
    (λ k. by_order n 1000
    (λ l. rw (digits_3 n k l, lt-leb 1000 n l, le-leb 100 n k, le-leb 10 n h))
    (λ l. rw (digits_4 n l, le-leb 1000 n l, le-leb 100 n k, le-leb 10 n h))))

pub digits_long : (n : ℕ) → length (lead n 1000) + (length (lead n 100) + (length (lead n 10) + 1)) ≡ length (digits n)
digits_long n = sym (simp length-append) ∙ ap length (digits_are n)

-- ---- nets

pub net_const : (n : ℕ) (t : Trit) → trit_code t ≡ n → trit (trit_code t) ∷ [] ≡ net n
unfolding net
net_const n Zero e = ap net e
net_const n One e = ap net e
net_const n Undef e = ap net e

pub net_is : (n k : ℕ) → cell k ≡ n → byte "%" ∷ digits k ≡ net n
net_is n k e =
    let c : is_cell n ≡ true = le-leb 3 n (omega arith) in
    let q : k ≡ number n = omega arith in
    ap (λ (i : ℕ). byte "%" ∷ digits i) q ∙ sym (net-cell n c)

pub rules_none : (ns : List ℕ) → length ns ≡ 0 → rule_text ns ≡ bytes " (empty)"
unfolding rule_text
rules_none [] h = refl
rules_none (n ∷ ns) h = absurd (omega arith)

pub rules_some : (ns : List ℕ) → (length ns ≡ 0 → ⊥) → rule_text ns ≡ nets ns
unfolding rule_text
rules_some [] h = absurd (h refl)
rules_some (n ∷ ns) h = refl

-- ---- nets that are all low, one by one

pub low-at : (ns : List ℕ) (i : ℕ) → all (λ (n : ℕ). not (over n)) ns ≡ true → i < length ns → get_or ns i 0 < first_mux
low-at [] i h k = absurd (omega arith)
low-at (n ∷ ns) zero h k = not_over n (and_left (not (over n)) (all (λ (j : ℕ). not (over j)) ns) h)
low-at (n ∷ ns) (suc i) h k = low-at ns i (and_right (not (over n)) (all (λ (j : ℕ). not (over j)) ns) h) (omega arith)

-- ---- a loop over nets that has put the first i

nets_next : (ns : List ℕ) (i : ℕ) → i < length ns → nets (take (suc i) ns) ≡ nets (take i ns) ++ spaced (get_or ns i 0)
unfolding nets spaced
nets_next [] i h = absurd (omega arith)
nets_next (n ∷ ns) zero h = append-nil (spaced n)
nets_next (n ∷ ns) (suc i) h = ap (λ (l : List ℕ). spaced n ++ l) (nets_next ns i (omega arith)) ∙ sym (append_assoc (spaced n) (nets (take i ns)) (spaced (get_or ns i 0)))

nets_turn : (ns : List ℕ) (i : ℕ) → i < length ns → nets (take (i + 1) ns) ≡ nets (take i ns) ++ spaced (get_or ns i 0)
nets_turn ns i h = rw add-one (nets_next ns i h)

nets_room : (ns : List ℕ) (i : ℕ) → i < length ns → length (nets (take i ns)) + length (spaced (get_or ns i 0)) ≤ length (nets ns)
unfolding nets spaced
nets_room [] i h = absurd (omega arith)
nets_room (n ∷ ns) zero h = omega (arith, length-append (spaced n) (nets ns))
nets_room (n ∷ ns) (suc i) h = omega (arith, nets_room ns i (omega arith), length-append (spaced n) (nets ns), length-append (spaced n) (nets (take i ns)))

-- n is the i-th net, and old with the first i behind it is now
module _ (ns : List ℕ) (i n : ℕ) (h : i < length ns) (e : n ≡ get_or ns i 0) (old now : List ℕ) (p : now ≡ old ++ nets (take i ns)) where
  pub nets_free : (m : ℕ) → length old + length (nets ns) ≤ m → length now + length (spaced n) ≤ m
  nets_free m r = omega (arith, ap length p, length-append old (nets (take i ns)), nets_room ns i h, ap (λ (k : ℕ). length (spaced k)) e)

  pub nets_put : (new : List ℕ) → new ≡ now ++ spaced n → new ≡ old ++ nets (take (i + 1) ns)
  nets_put new q = put_as old (sym (nets_turn ns i h)) (put_then old (nets (take i ns)) (spaced (get_or ns i 0)) p (put_as now (ap spaced e) q))

-- ---- trits and their marks

pub trit-cut : (x : ℕ) → trit (cut x) ≡ trit x
trit-cut x =
    by_bool (ltb x 2)
    (λ p. rw p)
    (λ p. let k = ltb-false x 2 p in
    let a : eqb x 0 ≡ false = ne_eqb x 0 (λ q. omega arith) in
    let b : eqb x 1 ≡ false = ne_eqb x 1 (λ q. omega arith) in
    rw (p, a, b))

module _ (i x : ℕ) where
  pub marked_first : i ≡ 0 → marked i x ≡ trit x ∷ []
  unfolding marked
  marked_first e = rw e

  pub marked_no : (i % 4 ≡ 0 → ⊥) → marked i x ≡ trit x ∷ []
  unfolding marked
  marked_no e = rw (ne_eqb (i % 4) 0 e) (by_bool (eqb i 0) (λ p. rw p) (λ p. rw p))

  pub marked_yes : (i ≡ 0 → ⊥) → i % 4 ≡ 0 → marked i x ≡ byte "_" ∷ trit x ∷ []
  unfolding marked
  marked_yes h e = rw (ne_eqb i 0 h, eq-eqb (i % 4) 0 e)

-- ---- a loop over trits, of which j stand before the first, that has put the first i

trits_next : (j : ℕ) (ts : List ℕ) (i : ℕ) → i < length ts → grouped j (take (suc i) ts) ≡ grouped j (take i ts) ++ marked (j + i) (get_or ts i 0)
unfolding grouped marked
trits_next j [] i h = absurd (omega arith)
trits_next j (t ∷ ts) zero h = let e : j ≡ j + 0 = omega arith in append-nil (marked j t) ∙ ap (λ (k : ℕ). marked k t) e
trits_next j (t ∷ ts) (suc i) h =
    let e : suc j + i ≡ j + suc i = omega arith in
    ap (λ (l : List ℕ). marked j t ++ l) (trits_next (suc j) ts i (omega arith) ∙ ap (λ (k : ℕ). grouped (suc j) (take i ts) ++ marked k (get_or ts i 0)) e)
    ∙ sym (append_assoc (marked j t) (grouped (suc j) (take i ts)) (marked (j + suc i) (get_or ts i 0)))

trits_left : (j : ℕ) (ts : List ℕ) (i : ℕ) → i < length ts → length (grouped j (take i ts)) + length (marked (j + i) (get_or ts i 0)) ≤ length (grouped j ts)
unfolding grouped marked
trits_left j [] i h = absurd (omega arith)
trits_left j (t ∷ ts) zero h =
    let e : j + 0 ≡ j = omega arith in
    omega (arith, length-append (marked j t) (grouped (suc j) ts), ap (λ (k : ℕ). length (marked k t)) e)
trits_left j (t ∷ ts) (suc i) h =
    let e : suc j + i ≡ j + suc i = omega arith in
    omega (arith, trits_left (suc j) ts i (omega arith), length-append (marked j t) (grouped (suc j) ts), length-append (marked j t) (grouped (suc j) (take i ts)), ap (λ (k : ℕ). length (marked k (get_or ts i 0))) e)

numbered_long : (j : ℕ) (ts : List ℕ) → length (enumerate_from j ts) ≡ length ts
numbered_long j [] = refl
numbered_long j (t ∷ ts) = ap suc (numbered_long (j + 1) ts)

numbered_at : (j : ℕ) (ts : List ℕ) (k : ℕ) (d : ℕ × ℕ) → k < length ts → ((get_or (enumerate_from j ts) k d).0 ≡ j + k) × ((get_or (enumerate_from j ts) k d).1 ≡ get_or ts k 0)
numbered_at j [] k d h = absurd (omega arith)
numbered_at j (t ∷ ts) zero d h = (omega arith, refl)
numbered_at j (t ∷ ts) (suc k) d h = let r = numbered_at (j + 1) ts k d (omega arith) in (omega (arith, r.0), r.1)

-- a pair that a loop over numbered trits gives in its k-th turn
pub numbered : (ts : List ℕ) (k : ℕ) (d : ℕ × ℕ) → (k < length (enumerate_from 0 ts)) × (d ≡ get_or (enumerate_from 0 ts) k d) → (k < length ts) × (d.0 ≡ k) × (d.1 ≡ get_or ts k 0)
numbered ts k d h =
    let l : k < length ts = omega (arith, h.0, numbered_long 0 ts) in
    let r = numbered_at 0 ts k d l in
    (l, omega (arith, r.0, ap (λ (p : ℕ × ℕ). p.0) h.1), ap (λ (p : ℕ × ℕ). p.1) h.1 ∙ r.1)

pub numbered_end : (ts : List ℕ) (k : ℕ) → k ≡ length (enumerate_from 0 ts) → take k ts ≡ ts
numbered_end ts k e = take_all k ts (omega (arith, numbered_long 0 ts))

-- t is the k-th trit, numbered i, and old with the first k behind it is now
module _ (ts : List ℕ) (k i t : ℕ) (h : k < length ts) (e : i ≡ k) (f : t ≡ get_or ts k 0) (old now : List ℕ) (p : now ≡ old ++ grouped 0 (take k ts)) where
  this : marked (0 + k) (get_or ts k 0) ≡ marked i t
  this = let z : 0 + k ≡ i = omega arith in ap₂ marked z (sym f)

  pub trits_free : (m : ℕ) → length old + length (grouped 0 ts) ≤ m → length now + length (marked i t) ≤ m
  trits_free m r = omega (arith, ap length p, length-append old (grouped 0 (take k ts)), trits_left 0 ts k h, ap length this)

  pub trits_put : (new : List ℕ) → new ≡ now ++ marked i t → new ≡ old ++ grouped 0 (take (k + 1) ts)
  trits_put new q =
      let n : grouped 0 (take k ts) ++ marked i t ≡ grouped 0 (take (k + 1) ts) = ap (λ (l : List ℕ). grouped 0 (take k ts) ++ l) (sym this) ∙ sym (rw add-one (trits_next 0 ts k h)) in
      put_as old n (put_then old (grouped 0 (take k ts)) (marked i t) p q)
