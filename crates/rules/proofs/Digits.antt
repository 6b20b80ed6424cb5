-- Nets and trits as they are printed: solid bytes, and read back loosely. Assumes nothing.
use Prim.Native.Nat.{ℕ, zero, suc, ◌+◌, ◌*◌, ◌/◌, ◌%◌, ◌≤◌, ◌<◌}
use mathlib.Core.Bool.{true, false, not}
use mathlib.Core.List.{List, [], ◌∷◌, map}
use mathlib.Core.Path.{◌≡◌, refl, ap, ◌∙◌}
use native.Mathlib.Omega.{arith}
use borrow.Author.Tests.{le-ltb, leb-false, leb-true, lt-ltb, ltb-false, ltb-true}
use lib.Dec.{eqb, ltb}
use Rattle.lists.specs.Bools.{and_left, and_right, by_bool}
use Rattle.lists.specs.Lists.{all}
use Rattle.rules.proofs.Accepts.{not_over}
use Rattle.rules.specs.Bounds.{mux_first}
use Rattle.rules.specs.Bytes.{byte}
use Rattle.rules.specs.Matrix.{Above}
use Rattle.rules.specs.Nets.{first_mux, is_cell, number, over}
use Rattle.rules.specs.Print.{digit, digits, gap, grouped, net, trit}
use Rattle.rules.specs.Read.{decimal, net_of_word, trits_in}
use Rattle.rules.specs.Trits.{is_trit}

-- by cases on an order
pub by_order : {C : Type 0} (a b : ℕ) → (a < b → C) → (b ≤ a → C) → C
by_order a b f g = by_bool (ltb a b) (λ p. f (ltb-true a b p)) (λ p. g (ltb-false a b p))

-- ---- numbers

module _ (n : ℕ) where
  pub digits_1 : n < 10 → digits n ≡ digit n ∷ []
  unfolding digits
  digits_1 h = simp (lt-ltb _ _ h)

  pub digits_2 : 10 ≤ n → n < 100 → digits n ≡ digit (n / 10) ∷ digit n ∷ []
  unfolding digits
  digits_2 l h = simp (le-ltb _ _ l, lt-ltb _ _ h)

  pub digits_3 : 100 ≤ n → n < 1000 → digits n ≡ digit (n / 100) ∷ digit (n / 10) ∷ digit n ∷ []
  unfolding digits
  digits_3 l h = let k : 10 ≤ n = omega arith in simp (le-ltb _ _ k, le-ltb _ _ l, lt-ltb _ _ h)

  pub digits_4 : 1000 ≤ n → digits n ≡ digit (n / 1000) ∷ digit (n / 100) ∷ digit (n / 10) ∷ digit n ∷ []
  unfolding digits
  digits_4 l =
      let k : 10 ≤ n = omega arith in
      let j : 100 ≤ n = omega arith in
      simp (le-ltb _ _ k, le-ltb _ _ j, le-ltb _ _ l)

  by_size : {C : Type 0} → (n < 10 → C) → (10 ≤ n → n < 100 → C) → (100 ≤ n → n < 1000 → C) → (1000 ≤ n → C) → C
  by_size f g h k = by_order n 10 f (λ a. by_order n 100 (λ b. g a b) (λ b. by_order n 1000 (λ c. h b c) k))

digit-solid : (n : ℕ) → byte " " < digit n
digit-solid n = omega arith

digits-solid : (n : ℕ) → Above (byte " ") (digits n)
unfolding Above
digits-solid n =
    by_size n
    (λ l. rw (digits_1 n l) (digit-solid n, tt))
    (λ l h. rw (digits_2 n l h) (digit-solid (n / 10), (digit-solid n, tt)))
    (λ l h. rw (digits_3 n l h) (digit-solid (n / 100), (digit-solid (n / 10), (digit-solid n, tt))))
    (λ l. rw (digits_4 n l) (digit-solid (n / 1000), (digit-solid (n / 100), (digit-solid (n / 10), (digit-solid n, tt)))))

-- the figures of a number make it up again
module _ (n : ℕ) where
  back_1 : n < 10 → decimal 0 (digit n ∷ []) ≡ n
  unfolding decimal
  back_1 h = omega arith

  back_2 : n < 100 → decimal 0 (digit (n / 10) ∷ digit n ∷ []) ≡ n
  unfolding decimal
  back_2 h = omega arith

  back_3 : n < 1000 → decimal 0 (digit (n / 100) ∷ digit (n / 10) ∷ digit n ∷ []) ≡ n
  unfolding decimal
  back_3 h =
      let a : n / 10 ≡ 10 * (n / 100) + n / 10 % 10 = omega arith in
      let b : n / 100 % 10 ≡ n / 100 = omega arith in
      omega arith

  back_4 : n < mux_first → decimal 0 (digit (n / 1000) ∷ digit (n / 100) ∷ digit (n / 10) ∷ digit n ∷ []) ≡ n
  unfolding decimal
  back_4 h =
      let a : n / 10 ≡ 10 * (n / 100) + n / 10 % 10 = omega arith in
      let b : n / 100 ≡ 10 * (n / 1000) + n / 100 % 10 = omega arith in
      let c : n / 1000 % 10 ≡ n / 1000 = omega arith in
      omega arith

digits_back : (n : ℕ) → n < mux_first → decimal 0 (digits n) ≡ n
digits_back n h =
    by_size n
    (λ l. ap (decimal 0) (digits_1 n l) ∙ back_1 n l)
    (λ l k. ap (decimal 0) (digits_2 n l k) ∙ back_2 n k)
    (λ l k. ap (decimal 0) (digits_3 n l k) ∙ back_3 n k)
    (λ l. ap (decimal 0) (digits_4 n l) ∙ back_4 n h)

-- ---- nets

pub net-cell : (n : ℕ) → is_cell n ≡ true → net n ≡ byte "%" ∷ digits (number n)
unfolding net
net-cell n p = rw p

net-trit : (n : ℕ) → is_cell n ≡ false → net n ≡ trit n ∷ []
unfolding net
net-trit n p = rw p

trit-solid : (t : ℕ) → byte " " < trit t
trit-solid t = by_bool (eqb t 0) (λ p. rw p (omega arith)) (λ p. rw p (by_bool (eqb t 1) (λ q. rw q (omega arith)) (λ q. rw q (omega arith))))

pub net-solid : (n : ℕ) → Above (byte " ") (net n)
unfolding Above
net-solid n = by_bool (is_cell n) (λ p. rw (net-cell n p) (omega arith, digits-solid (number n))) (λ p. rw (net-trit n p) (trit-solid n, tt))

trit_word : (n : ℕ) → n < 3 → net_of_word (trit n ∷ []) ≡ n
trit_word zero h = refl
trit_word (suc zero) h = refl
trit_word (suc (suc zero)) h = refl
trit_word (suc (suc (suc n))) h = absurd (omega arith)

net_back : (n : ℕ) → n < first_mux → net_of_word (net n) ≡ n
net_back n h =
    by_bool (is_cell n)
    (λ p. let c = leb-true 3 n p in let d = digits_back (number n) (omega arith) in ap net_of_word (net-cell n p) ∙ omega (arith, c, d))
    (λ p. ap net_of_word (net-trit n p) ∙ trit_word n (leb-false 3 n p))

pub nets_back : (ns : List ℕ) → all (λ (n : ℕ). not (over n)) ns ≡ true → map net_of_word (map net ns) ≡ ns
nets_back [] h = refl
nets_back (n ∷ ns) h =
    let p : net_of_word (net n) ≡ n = net_back n (not_over n (and_left (not (over n)) (all (λ (k : ℕ). not (over k)) ns) h)) in
    let q : map net_of_word (map net ns) ≡ ns = nets_back ns (and_right (not (over n)) (all (λ (k : ℕ). not (over k)) ns) h) in
    cc

-- ---- trits in groups

trit-front : (t : ℕ) (cs : List ℕ) → t < 3 → trits_in (trit t ∷ cs) ≡ t ∷ trits_in cs
unfolding trits_in
trit-front zero cs h = refl
trit-front (suc zero) cs h = refl
trit-front (suc (suc zero)) cs h = refl
trit-front (suc (suc (suc t))) cs h = absurd (omega arith)

pub grouped-solid : (i : ℕ) (ts : List ℕ) → Above (byte " ") (grouped i ts)
unfolding Above grouped
grouped-solid i [] = tt
grouped-solid i (t ∷ ts) =
    let r = grouped-solid (suc i) ts in
    by_bool (gap i) (λ p. rw p (omega arith, (trit-solid t, r))) (λ p. rw p (trit-solid t, r))

pub grouped_back : (i : ℕ) (ts : List ℕ) → all is_trit ts ≡ true → trits_in (grouped i ts) ≡ ts
unfolding grouped trits_in
grouped_back i [] h = refl
grouped_back i (t ∷ ts) h =
    let f = trit-front t (grouped (suc i) ts) (ltb-true t 3 (and_left (is_trit t) (all is_trit ts) h)) in
    let r = f ∙ ap (λ (l : List ℕ). t ∷ l) (grouped_back (suc i) ts (and_right (is_trit t) (all is_trit ts) h)) in
    by_bool (gap i) (λ p. rw p r) (λ p. rw p r)
