-- One row: what it asks of each net says when it matches. Assumes nothing.
use Prim.Native.Nat.{ℕ}
use mathlib.Core.Path.{◌≡◌, refl, sym, ◌∙◌}
use mathlib.Core.List.{List, [], ◌∷◌, map}
use mathlib.Core.Bool.{true, false, not, ◌&&◌, false≢true}
use lib.Dec.{eqb}
use borrow.Author.Tests.{eqb-true, eqb-false, eq-eqb, ne_eqb}
use Rattle.lists.specs.Bools.{and_both, and_left, and_right, by_bool, iff, or_left, or_right}
use Rattle.lists.specs.Lists.{mem}
use Rattle.rules.proofs.Masks.{fits_x, fits_eq, fits_is, is_x_not}
use Rattle.rules.specs.Meaning.{fits, matches}
use Rattle.rules.specs.Nets.{is_cell}
use Rattle.rules.specs.Normalize.{sound, target, wanted}
use Rattle.rules.specs.Trits.{is_x}

-- a constant's value is itself
abbrev pub Consts : (ℕ → ℕ) → Type 0
Consts f = (n : ℕ) → is_cell n ≡ false → f n ≡ n

-- what a row asks is one of its masks
pub wanted-fits : (f : ℕ → ℕ) (ns ms : List ℕ) (n : ℕ) → matches f ns ms ≡ true → fits (wanted ns ms n) (f n) ≡ true
unfolding matches wanted
wanted-fits f [] ms n e = refl
wanted-fits f (x ∷ ns) [] n e = refl
wanted-fits f (x ∷ ns) (m ∷ ms) n e =
    let r = wanted-fits f ns ms n (and_right (fits m (f x)) (matches f ns ms) e) in
    by_bool (eqb x n && not (is_x m))
    (λ p.
    let q : x ≡ n = eqb-true x n (and_left (eqb x n) (not (is_x m)) p) in
    rw (p, ← q) (and_left (fits m (f x)) (matches f ns ms) e))
    (λ p. rw p r)

pub wanted-head : (x m : ℕ) (ns ms : List ℕ) → (m ≡ 2 → ⊥) → wanted (x ∷ ns) (m ∷ ms) x ≡ 2 → ⊥
unfolding wanted
wanted-head x m ns ms h = rw (eq-eqb x x refl, ne_eqb m 2 h) h

pub wanted-tail : (x m : ℕ) (ns ms : List ℕ) (n : ℕ) → (wanted ns ms n ≡ 2 → ⊥) → wanted (x ∷ ns) (m ∷ ms) n ≡ 2 → ⊥
unfolding wanted
wanted-tail x m ns ms n h =
    by_bool (eqb x n && not (is_x m))
    (λ p. rw p (is_x_not m (and_right (eqb x n) (not (is_x m)) p)))
    (λ p. rw p h)

pub wanted-mem : (ns ms : List ℕ) (n : ℕ) → (wanted ns ms n ≡ 2 → ⊥) → mem n ns ≡ true
unfolding wanted mem
wanted-mem [] ms n h = absurd (h refl)
wanted-mem (x ∷ ns) [] n h = absurd (h refl)
wanted-mem (x ∷ ns) (m ∷ ms) n h =
    let r = wanted-mem ns ms n in
    by_bool (eqb x n && not (is_x m))
    (λ p. or_left (eqb x n) (mem n ns) (and_left (eqb x n) (not (is_x m)) p))
    (λ p. or_right (eqb x n) (mem n ns) (r (rw p at h)))

module _ (f : ℕ → ℕ) (consts : Consts f) (NS MS : List ℕ) where
  -- a row that matches is sound: each mask is the value of its net, and so is the first
  sound-step : matches f NS MS ≡ true → (ns ms : List ℕ) → ((n : ℕ) → (wanted ns ms n ≡ 2 → ⊥) → wanted NS MS n ≡ 2 → ⊥)
      → matches f ns ms ≡ true → matches (target NS MS) ns ms ≡ true
  unfolding matches
  sound-step w [] ms s e = refl
  sound-step w (n ∷ ns) [] s e = refl
  sound-step w (n ∷ ns) (m ∷ ms) s e =
      let r = sound-step w ns ms (λ k h. s k (wanted-tail n m ns ms k h)) (and_right (fits m (f n)) (matches f ns ms) e) in
      let a = and_left (fits m (f n)) (matches f ns ms) e in
      and_both (fits m (target NS MS n)) (matches (target NS MS) ns ms) (column n m a (λ h. s n (wanted-head n m ns ms h))) r
    where
      column : (n m : ℕ) → fits m (f n) ≡ true → ((m ≡ 2 → ⊥) → wanted NS MS n ≡ 2 → ⊥) → fits m (target NS MS n) ≡ true
      column n m a h =
          by_bool (is_x m) (λ p. fits_x m (target NS MS n) (eqb-true m 2 p))
          (λ p.
          let g : m ≡ 2 → ⊥ = eqb-false m 2 p in
          let q : m ≡ f n = fits_is m (f n) a g in
          by_bool (is_cell n)
          (λ c. rw c (fits_eq m (wanted NS MS n) (q ∙ sym (fits_is (wanted NS MS n) (f n) (wanted-fits f NS MS n w) (h g)))))
          (λ c. rw c (fits_eq m n (q ∙ consts n c))))

  pub match_sound : matches f NS MS ≡ true → sound NS MS ≡ true
  match_sound w = sound-step w NS MS (λ n h. h) w

  -- a sound row matches where what it asks of each cell is so
  pub sound_match : ((n : ℕ) → is_cell n ≡ true → fits (wanted NS MS n) (f n) ≡ true) → (ns ms : List ℕ) → matches (target NS MS) ns ms ≡ true → matches f ns ms ≡ true
  unfolding matches
  sound_match w [] ms e = refl
  sound_match w (n ∷ ns) [] e = refl
  sound_match w (n ∷ ns) (m ∷ ms) e =
      let r = sound_match w ns ms (and_right (fits m (target NS MS n)) (matches (target NS MS) ns ms) e) in
      let a = and_left (fits m (target NS MS n)) (matches (target NS MS) ns ms) e in
      and_both (fits m (f n)) (matches f ns ms) (column n m a) r
    where
      column : (n m : ℕ) → fits m (target NS MS n) ≡ true → fits m (f n) ≡ true
      column n m a =
          by_bool (is_x m) (λ p. fits_x m (f n) (eqb-true m 2 p))
          (λ p.
          let g : m ≡ 2 → ⊥ = eqb-false m 2 p in
          let q : m ≡ target NS MS n = fits_is m (target NS MS n) a g in
          by_bool (is_cell n)
          (λ c.
          let t : m ≡ wanted NS MS n = rw c at q in
          rw t (w n c))
          (λ c.
          let t : m ≡ n = rw c at q in
          fits_eq m (f n) (t ∙ sym (consts n c))))

  -- at some columns, what is asked
  asked-all : matches f NS MS ≡ true → (cs : List ℕ) → matches f cs (map (wanted NS MS) cs) ≡ true
  unfolding matches
  asked-all w [] = refl
  asked-all w (c ∷ cs) = and_both (fits (wanted NS MS c) (f c)) (matches f cs (map (wanted NS MS) cs)) (wanted-fits f NS MS c w) (asked-all w cs)

  asked-one : (cs : List ℕ) → matches f cs (map (wanted NS MS) cs) ≡ true → (n : ℕ) → mem n cs ≡ true → fits (wanted NS MS n) (f n) ≡ true
  unfolding matches mem
  asked-one [] e n i = absurd (false≢true i)
  asked-one (c ∷ cs) e n i =
      let r = asked-one cs (and_right (fits (wanted NS MS c) (f c)) (matches f cs (map (wanted NS MS) cs)) e) n in
      let a = and_left (fits (wanted NS MS c) (f c)) (matches f cs (map (wanted NS MS) cs)) e in
      by_bool (eqb c n)
      (λ p. rw (← eqb-true c n p) a)
      (λ p. r (rw p at i))

  -- so a sound row may be taken to any columns that have all that it asks of
  pub row_moved : (cs : List ℕ) → sound NS MS ≡ true → ((n : ℕ) → is_cell n ≡ true → (wanted NS MS n ≡ 2 → ⊥) → mem n cs ≡ true)
      → matches f cs (map (wanted NS MS) cs) ≡ matches f NS MS
  row_moved cs s cover =
      iff (matches f cs (map (wanted NS MS) cs)) (matches f NS MS)
      (λ e. sound_match (λ n c. by_bool (is_x (wanted NS MS n)) (λ p. fits_x (wanted NS MS n) (f n) (eqb-true _ 2 p)) (λ p. asked-one cs e n (cover n c (eqb-false _ 2 p)))) NS MS s)
      (λ e. asked-all e cs)
