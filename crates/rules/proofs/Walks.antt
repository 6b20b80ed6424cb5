-- One row, its columns gone through one by one: it is dropped if it is not sound, and else has in each net's first column what it asks. Assumes nothing.
use Prim.Native.Nat.{ℕ, zero, suc, ◌+◌, ◌<◌}
use mathlib.Core.Path.{◌≡◌, refl, sym, ap, ◌∙◌, subst, fun_ext}
use mathlib.Core.List.{List, [], ◌∷◌}
use mathlib.Core.Bool.{true, false, not, cond, ◌&&◌, true≢false}
use mathlib.Core.Option.{Option, none, some}
use native.Mathlib.Omega.{arith}
use lib.Dec.{eqb}
use lib.ListN.{length, get_or, set, length-set}
use lib.Seq.{get_or-set_same, get_or-set_other, set-get_or}
use borrow.Author.Tests.{eqb-true, eqb-false, not-false}
use Rattle.lists.specs.Bools.{and_left, and_right, by_bool, contra, iff, not_is}
use Rattle.lists.specs.Lists.{mem}
use Rattle.rules.proofs.Masks.{fits_x, fits_eq, fits_is, is_x_not}
use Rattle.rules.proofs.Columns.{get_or-mem}
use Rattle.rules.proofs.Places.{at-matches, matches-at, place_at, place_le, place_lt, wanted_ext, wanted_is}
use Rattle.rules.specs.Meaning.{fits, matches}
use Rattle.rules.specs.Nets.{is_cell}
use Rattle.rules.specs.Normalize.{sound, target, wanted}
use Rattle.rules.specs.Steps.{drops, place, walk}
use Rattle.rules.specs.Trits.{is_x}

wanted_none : (ns ms : List ℕ) (n : ℕ) → ((i : ℕ) → i < length ns → get_or ns i 0 ≡ n → get_or ms i 2 ≡ 2) → wanted ns ms n ≡ 2
unfolding wanted
wanted_none [] ms n h = refl
wanted_none (x ∷ ns) [] n h = refl
wanted_none (x ∷ ns) (m ∷ ms) n h =
    let one = wanted_none ns ms n (λ i k. h (suc i) (omega arith)) in
    by_bool (eqb x n && not (is_x m))
    (λ p. absurd (is_x_not m (and_right (eqb x n) (not (is_x m)) p) (h 0 (omega arith) (eqb-true x n (and_left (eqb x n) (not (is_x m)) p)))))
    (λ p. rw p one)

module _ (NS : List ℕ) where
  -- the net of a column, and that net's first column
  abbrev N : ℕ → ℕ
  N i = get_or NS i 0

  abbrev F : ℕ → ℕ
  F i = place (N i) NS

  F-lt : (i : ℕ) → i < length NS → F i < length NS
  F-lt i h = place_lt (N i) NS (get_or-mem NS i 0 h)

  F-at : (i : ℕ) → i < length NS → N (F i) ≡ N i
  F-at i h = place_at (N i) NS (get_or-mem NS i 0 h)

  -- the columns before the j-th have been gone through
  record Settled (p : List ℕ) (j : ℕ) : Type 0 where
    cells : (i : ℕ) → i < j → is_cell (N i) ≡ true → (get_or p i 2 ≡ 2 → ⊥) → get_or p (F i) 2 ≡ get_or p i 2
    consts : (i : ℕ) → i < j → is_cell (N i) ≡ false → fits (get_or p i 2) (N i) ≡ true

  -- a first mask that is no X is what is asked
  first-wanted : (p : List ℕ) → length p ≡ length NS → (n : ℕ) → mem n NS ≡ true → (get_or p (place n NS) 2 ≡ 2 → ⊥) → wanted NS p n ≡ get_or p (place n NS) 2
  first-wanted p l n i g =
      let h = place_lt n NS i in
      wanted_is NS p n (place n NS) h (omega arith) (place_at n NS i) g
      (λ k b e. let c = place_le NS k n (omega arith) e in absurd (omega arith))

  settled-wanted : (p : List ℕ) → length p ≡ length NS → Settled p (length NS) → (n : ℕ) → is_cell n ≡ true → mem n NS ≡ true → wanted NS p n ≡ get_or p (place n NS) 2
  settled-wanted p l s n c i =
      by_bool (is_x (get_or p (place n NS) 2))
      (λ x.
      let e : get_or p (place n NS) 2 ≡ 2 = eqb-true (get_or p (place n NS) 2) 2 x in
      wanted_none NS p n (λ k h q. by_bool (is_x (get_or p k 2)) (λ y. eqb-true (get_or p k 2) 2 y)
      (λ y. sym (s.cells k h (ap is_cell q ∙ c) (eqb-false (get_or p k 2) 2 y)) ∙ ap (λ (z : ℕ). get_or p (place z NS) 2) q ∙ e))
      ∙ sym e)
      (λ x. first-wanted p l n i (eqb-false (get_or p (place n NS) 2) 2 x))

  settled-sound : (p : List ℕ) → length p ≡ length NS → Settled p (length NS) → sound NS p ≡ true
  settled-sound p l s =
      at-matches (target NS p) NS p
      (λ i h. by_bool (is_cell (N i))
      (λ c. rw c (by_bool (is_x (get_or p i 2)) (λ x. fits_x (get_or p i 2) (wanted NS p (N i)) (eqb-true (get_or p i 2) 2 x))
      (λ x. fits_eq (get_or p i 2) (wanted NS p (N i))
      (sym (settled-wanted p l s (N i) c (get_or-mem NS i 0 h) ∙ s.cells i h c (eqb-false (get_or p i 2) 2 x))))))
      (λ c. rw c (s.consts i h c)))

  -- a column that drops the row
  drop-unsound : (p : List ℕ) → length p ≡ length NS → (j : ℕ) → j < length NS → drops (N j) (get_or p (F j) 2) (get_or p j 2) ≡ true → sound NS p ≡ false
  drop-unsound p l j h d =
      contra (sound NS p) (fits (get_or p j 2) (target NS p (N j))) (λ s. matches-at (target NS p) NS p s j h)
      (by_bool (is_cell (N j))
      (λ c.
      let e : (not (is_x (get_or p (F j) 2)) && not (fits (get_or p j 2) (get_or p (F j) 2))) ≡ true = rw c at d in
      let g = is_x_not (get_or p (F j) 2) (and_left (not (is_x (get_or p (F j) 2))) (not (fits (get_or p j 2) (get_or p (F j) 2))) e) in
      let w : wanted NS p (N j) ≡ get_or p (F j) 2 = first-wanted p l (N j) (get_or-mem NS j 0 h) g in
      rw (c, w) (not_is (fits (get_or p j 2) (get_or p (F j) 2)) (and_right (not (is_x (get_or p (F j) 2))) (not (fits (get_or p j 2) (get_or p (F j) 2))) e)))
      (λ c.
      let e : not (fits (get_or p j 2) (N j)) ≡ true = rw c at d in
      rw c (not_is (fits (get_or p j 2) (N j)) e)))

  -- before j, or j
  upto : {P : Type 0} (i j : ℕ) → i < suc j → (i < j → P) → (i ≡ j → P) → P
  upto i j h f g = by_bool (eqb i j) (λ p. g (eqb-true i j p)) (λ p. let q = eqb-false i j p in f (omega arith))

  -- a column that changes nothing
  settled_same : (p : List ℕ) (j : ℕ) → drops (N j) (get_or p (F j) 2) (get_or p j 2) ≡ false → (is_cell (N j) && is_x (get_or p (F j) 2)) ≡ false → Settled p j → Settled p (suc j)
  settled_same p j d x s =
      record {
        cells = λ i h c g. upto i j h (λ l. s.cells i l c g)
            (λ e.
            let c' : is_cell (N j) ≡ true = ap (λ (k : ℕ). is_cell (N k)) (sym e) ∙ c in
            let g' : get_or p j 2 ≡ 2 → ⊥ = λ q. g (ap (λ (k : ℕ). get_or p k 2) e ∙ q) in
            let x' : is_x (get_or p (F j) 2) ≡ false = rw c' at x in
            let d' : not (fits (get_or p j 2) (get_or p (F j) 2)) ≡ false = rw (c', x') at d in
            let m : get_or p j 2 ≡ get_or p (F j) 2 = fits_is (get_or p j 2) (get_or p (F j) 2) (not-false (fits (get_or p j 2) (get_or p (F j) 2)) d') g' in
            ap (λ (k : ℕ). get_or p (F k) 2) e ∙ sym m ∙ ap (λ (k : ℕ). get_or p k 2) (sym e));
        consts = λ i h c. upto i j h (λ l. s.consts i l c)
            (λ e.
            let c' : is_cell (N j) ≡ false = ap (λ (k : ℕ). is_cell (N k)) (sym e) ∙ c in
            let d' : not (fits (get_or p j 2) (N j)) ≡ false = rw c' at d in
            rw e (not-false (fits (get_or p j 2) (N j)) d'));
      }

  -- a first X that takes the mask of column j
  module _ (p : List ℕ) (l : length p ≡ length NS) (j : ℕ) (h : j < length NS) (c : is_cell (N j) ≡ true) (x : get_or p (F j) 2 ≡ 2) (s : Settled p j) where
    abbrev q : List ℕ
    q = set p (F j) (get_or p j 2)

    at_first : get_or q (F j) 2 ≡ get_or p j 2
    at_first = let a = F-lt j h in get_or-set_same p (F j) (get_or p j 2) 2 (omega arith)

    at_other : (i : ℕ) → (i ≡ F j → ⊥) → get_or q i 2 ≡ get_or p i 2
    at_other i n = get_or-set_other p (F j) i (get_or p j 2) 2 n

    -- the net's columns before j are X
    before_x : (i : ℕ) → i < j → N i ≡ N j → get_or p i 2 ≡ 2
    before_x i k e =
        by_bool (is_x (get_or p i 2)) (λ y. eqb-true (get_or p i 2) 2 y)
        (λ y. sym (s.cells i k (ap is_cell e ∙ c) (eqb-false (get_or p i 2) 2 y)) ∙ ap (λ (n : ℕ). get_or p (place n NS) 2) e ∙ x)

    -- a column of another net is another column
    other_net : (i : ℕ) → (N i ≡ N j → ⊥) → i ≡ F j → ⊥
    other_net i n e = n (ap N e ∙ F-at j h)

    settled_move : Settled q (suc j)
    settled_move =
        record {
          cells = λ i k ci g.
              by_bool (eqb (N i) (N j))
              (λ y.
              let e : N i ≡ N j = eqb-true (N i) (N j) y in
              let fe : F i ≡ F j = ap (λ (n : ℕ). place n NS) e in
              let to : get_or q (F i) 2 ≡ get_or p j 2 = ap (λ (z : ℕ). get_or q z 2) fe ∙ at_first in
              by_bool (eqb i (F j))
              (λ z. to ∙ sym (ap (λ (w : ℕ). get_or q w 2) (eqb-true i (F j) z) ∙ at_first))
              (λ z.
              let o : get_or q i 2 ≡ get_or p i 2 = at_other i (eqb-false i (F j) z) in
              upto i j k (λ b. absurd (g (o ∙ before_x i b e))) (λ b. to ∙ sym (o ∙ ap (λ (w : ℕ). get_or p w 2) b))))
              (λ y.
              let ne : N i ≡ N j → ⊥ = eqb-false (N i) (N j) y in
              let o : get_or q i 2 ≡ get_or p i 2 = at_other i (other_net i ne) in
              upto i j k
              (λ b.
              let fi : N (F i) ≡ N i = F-at i (omega arith) in
              let of : get_or q (F i) 2 ≡ get_or p (F i) 2 = at_other (F i) (other_net (F i) (λ w. ne (sym fi ∙ w))) in
              of ∙ s.cells i b ci (λ w. g (o ∙ w)) ∙ sym o)
              (λ b. absurd (ne (ap N b))));
          consts = λ i k ci.
              let ne : N i ≡ N j → ⊥ = λ e. true≢false (sym c ∙ ap is_cell (sym e) ∙ ci) in
              rw (at_other i (other_net i ne)) (upto i j k (λ b. s.consts i b ci) (λ b. absurd (ne (ap N b))));
        }

    wanted_move : (k : ℕ) → wanted NS q k ≡ wanted NS p k
    wanted_move k =
        by_bool (is_x (get_or p j 2))
        (λ y.
        let e : get_or p j 2 ≡ get_or p (F j) 2 = eqb-true (get_or p j 2) 2 y ∙ sym x in
        let same : q ≡ p = ap (λ (m : ℕ). set p (F j) m) e ∙ set-get_or p (F j) 2 in
        ap (λ (r : List ℕ). wanted NS r k) same)
        (λ y.
        let g : get_or p j 2 ≡ 2 → ⊥ = eqb-false (get_or p j 2) 2 y in
        by_bool (eqb (N j) k)
        (λ z.
        let e : N j ≡ k = eqb-true (N j) k z in
        let a : wanted NS q (N j) ≡ get_or q (F j) 2 = first-wanted q (length-set p (F j) (get_or p j 2) ∙ l) (N j) (get_or-mem NS j 0 h) (λ w. g (sym at_first ∙ w)) in
        let b : wanted NS p (N j) ≡ get_or p j 2 = wanted_is NS p (N j) j h (omega arith) refl g before_x in
        ap (wanted NS q) (sym e) ∙ a ∙ at_first ∙ sym b ∙ ap (wanted NS p) e)
        (λ z. wanted_ext NS q p k (length-set p (F j) (get_or p j 2)) (λ i b e. at_other i (other_net i (λ w. eqb-false (N j) k z (sym w ∙ e))))))

    sound_move : sound NS q ≡ sound NS p
    sound_move =
        let T : ℕ → ℕ = target NS p in
        let e : target NS q ≡ T = fun_ext (λ n. ap (λ (v : ℕ). cond (is_cell n) v n) (wanted_move n)) in
        ap (λ (f : ℕ → ℕ). matches f NS q) e
        ∙ iff (matches T NS q) (matches T NS p)
        (λ m. at-matches T NS p (λ i k. by_bool (eqb i (F j))
        (λ y. fits_x (get_or p i 2) (T (N i)) (ap (λ (w : ℕ). get_or p w 2) (eqb-true i (F j) y) ∙ x))
        (λ y. rw (← at_other i (eqb-false i (F j) y)) (matches-at T NS q m i k))))
        (λ m. at-matches T NS q (λ i k. by_bool (eqb i (F j))
        (λ y.
        let e : i ≡ F j = eqb-true i (F j) y in
        let v : get_or q i 2 ≡ get_or p j 2 = ap (λ (w : ℕ). get_or q w 2) e ∙ at_first in
        let n : N i ≡ N j = ap N e ∙ F-at j h in
        subst (λ (w : ℕ). fits (get_or q i 2) (T w) ≡ true) (sym n) (subst (λ (w : ℕ). fits w (T (N j)) ≡ true) (sym v) (matches-at T NS p m j h)))
        (λ y. subst (λ (w : ℕ). fits w (T (N i)) ≡ true) (sym (at_other i (eqb-false i (F j) y))) (matches-at T NS p m i k))))

  -- what a walk answers of a row
  abbrev pub Walked : List ℕ → Option (List ℕ) → Type 0
  Walked p none = sound NS p ≡ false
  Walked p (some q) = (sound NS p ≡ true) × (length q ≡ length NS) × ((n : ℕ) → is_cell n ≡ true → mem n NS ≡ true → get_or q (place n NS) 2 ≡ wanted NS p n)

  walked_move : (p q : List ℕ) → sound NS q ≡ sound NS p → ((n : ℕ) → wanted NS q n ≡ wanted NS p n) → (o : Option (List ℕ)) → Walked q o → Walked p o
  walked_move p q s w none h = sym s ∙ h
  walked_move p q s w (some r) h = (sym s ∙ h.0, h.1, (λ n c i. h.2 n c i ∙ w n))

  walk-right : (k j : ℕ) (p : List ℕ) → j + k ≡ length NS → length p ≡ length NS → Settled p j → Walked p (walk NS k j p)
  unfolding walk
  walk-right zero j p e l s =
      let f : Settled p (length NS) = subst (Settled p) (omega arith) s in
      (settled-sound p l f, l, (λ n c i. sym (settled-wanted p l f n c i)))
  walk-right (suc k) j p e l s =
      let h : j < length NS = omega arith in
      let same = walk-right k (suc j) p (omega arith) l in
      let move = walk-right k (suc j) (set p (F j) (get_or p j 2)) (omega arith) (length-set p (F j) (get_or p j 2) ∙ l) in
      by_bool (drops (N j) (get_or p (F j) 2) (get_or p j 2))
      (λ d. rw d (drop-unsound p l j h d))
      (λ d. by_bool (is_cell (N j) && is_x (get_or p (F j) 2))
      (λ t.
      let c = and_left (is_cell (N j)) (is_x (get_or p (F j) 2)) t in
      let x = eqb-true (get_or p (F j) 2) 2 (and_right (is_cell (N j)) (is_x (get_or p (F j) 2)) t) in
      rw (d, t) (walked_move p (set p (F j) (get_or p j 2)) (sound_move p l j h c x s) (wanted_move p l j h c x s) (walk NS k (suc j) (set p (F j) (get_or p j 2)))
      (move (settled_move p l j h c x s))))
      (λ t. rw (d, t, set-get_or p (F j) 2) (same (settled_same p j d t s))))

  pub walked : (p : List ℕ) → length p ≡ length NS → Walked p (walk NS (length NS) 0 p)
  walked p l = walk-right (length NS) 0 p none_before l (record { cells = λ i h c g. absurd (omega arith); consts = λ i h c. absurd (omega arith) })
    where
      none_before : 0 + length NS ≡ length NS
      none_before = omega arith
