-- normalize is what 01's steps make. Assumes nothing.
use Prim.Native.Nat.{ℕ, zero, suc, ◌+◌, ◌≤◌, ◌<◌}
use mathlib.Core.Path.{◌≡◌, refl, sym, ap, ap₂, ◌∙◌}
use mathlib.Core.List.{List, [], ◌∷◌, map}
use mathlib.Core.Bool.{Bool, true, false, not, ◌&&◌, ◌||◌}
use mathlib.Core.Option.{Option, none, some}
use native.Mathlib.Omega.{arith}
use lib.Dec.{eqb}
use lib.ListN.{length, get_or, take, drop, drop_of_length-le}
use lib.Seq.{drop-cons}
use borrow.Author.Tests.{eqb-true, eq-eqb, ne_eqb, not-false}
use Rattle.lists.specs.Bools.{by_bool, or_no}
use Rattle.lists.specs.Lists.{front, mem}
use Rattle.rules.proofs.Columns.{get_or-mem}
use Rattle.rules.proofs.Places.{place-new, place-old}
use Rattle.rules.proofs.Walks.{Walked, walked}
use Rattle.rules.specs.Matrix.{Matrix, Row}
use Rattle.rules.specs.Meaning.{Shaped}
use Rattle.rules.specs.Nets.{is_cell}
use Rattle.rules.specs.Normalize.{again, asked, columns, keep, kept, moved, normalize, sound, stay, wanted}
use Rattle.rules.specs.Steps.{goes, place, row_if, steps, strip, strip_row, walk, walk_rows, x_at}
use Rattle.rules.specs.Trits.{is_x}

-- the rows that the steps leave beside those that normalize keeps: in each net's first column stands what is asked
unfoldable Pairs : List ℕ → List Row → List Row → Type 0
Pairs ns [] [] = Unit {0}
Pairs ns [] (r ∷ rs) = ⊥
Pairs ns (s ∷ ss) [] = ⊥
Pairs ns (s ∷ ss) (r ∷ rs) =
    (s.rules ≡ r.rules) × (length s.pattern ≡ length ns) × ((n : ℕ) → is_cell n ≡ true → mem n ns ≡ true → get_or s.pattern (place n ns) 2 ≡ wanted ns r.pattern n)
    × Pairs ns ss rs

row-pair : (ns : List ℕ) (r : Row) (o : Option (List ℕ)) (ss rs : List Row) → Walked ns r.pattern o → Pairs ns ss rs
    → Pairs ns (row_if o r.rules ss) (front (sound ns r.pattern) r rs)
unfolding Pairs
row-pair ns r none ss rs w h = rw w h
row-pair ns r (some q) ss rs w h = rw w.0 (refl, w.1, w.2, h)

rows-pair : (ns : List ℕ) (last : Option (List ℕ)) (rs : List Row) → Shaped (length ns) rs → Pairs ns (walk_rows ns last rs) (keep ns last rs)
unfolding walk_rows keep Shaped Pairs
rows-pair ns last [] s = tt
rows-pair ns last (r ∷ rs) s =
    let one = rows-pair ns last rs s.1 in
    let two = rows-pair ns (some r.pattern) rs s.1 in
    by_bool (again last r.pattern) (λ p. rw p one)
    (λ p. rw p (row-pair ns r (walk ns (length ns) 0 r.pattern) (walk_rows ns (some r.pattern) rs) (keep ns (some r.pattern) rs) (walked ns r.pattern s.0) two))

-- a first column is X in every row exactly if no row asks anything of its net
x_asked : (ns : List ℕ) (ss rs : List Row) → Pairs ns ss rs → (n : ℕ) → is_cell n ≡ true → mem n ns ≡ true → x_at ss (place n ns) ≡ not (asked ns rs n)
unfolding Pairs x_at asked
x_asked ns [] [] h n c i = refl
x_asked ns [] (r ∷ rs) h n c i = absurd h
x_asked ns (s ∷ ss) [] h n c i = absurd h
x_asked ns (s ∷ ss) (r ∷ rs) h n c i = rw (h.2 n c i, x_asked ns ss rs h.3 n c i) (deep (is_x (wanted ns r.pattern n)) (asked ns rs n))
  where
    deep : (a b : Bool) → (a && not b) ≡ not (not a || b)
    deep true b = refl
    deep false b = refl

mem-take : (ns : List ℕ) (j n : ℕ) → j < length ns → mem n (take (suc j) ns) ≡ (eqb (get_or ns j 0) n || mem n (take j ns))
unfolding mem
mem-take [] j n h = absurd (omega arith)
mem-take (x ∷ ns) zero n h = refl
mem-take (x ∷ ns) (suc j) n h = rw (mem-take ns j n (omega arith)) (swap (eqb x n) (eqb (get_or ns j 0) n) (mem n (take j ns)))
  where
    swap : (a b c : Bool) → (a || (b || c)) ≡ (b || (a || c))
    swap true true c = refl
    swap true false c = refl
    swap false true c = refl
    swap false false c = refl

module _ (ns : List ℕ) (ss rs : List Row) (pairs : Pairs ns ss rs) where
  abbrev go : ℕ → ℕ → Bool
  go = goes ns ss

  -- a column goes exactly if it is not among those that stay
  goes_is : (j : ℕ) (before : List ℕ) → j < length ns → ((k : ℕ) → mem k before ≡ mem k (take j ns))
      → go j (get_or ns j 0) ≡ not (is_cell (get_or ns j 0) && (not (mem (get_or ns j 0) before) && asked ns rs (get_or ns j 0)))
  goes_is j before h b =
      let n : ℕ = get_or ns j 0 in
      by_bool (is_cell n)
      (λ c. by_bool (mem n (take j ns))
      (λ i.
      let l = place-old ns j n i in
      rw (c, b n, i, ne_eqb (place n ns) j (λ e. absurd (omega arith))))
      (λ i.
      let e : place n ns ≡ j = place-new ns j n h refl i in
      let x : x_at ss j ≡ not (asked ns rs n) = ap (x_at ss) (sym e) ∙ x_asked ns ss rs pairs n c (get_or-mem ns j 0 h) in
      rw (c, b n, i, eq-eqb (place n ns) j e, x)))
      (λ c. rw c)

  -- a column that stays is its net's first
  stays_first : (j : ℕ) → j < length ns → go j (get_or ns j 0) ≡ false → (is_cell (get_or ns j 0) ≡ true) × (place (get_or ns j 0) ns ≡ j)
  stays_first j h e =
      let n : ℕ = get_or ns j 0 in
      let a = or_no (not (is_cell n)) (not (eqb (place n ns) j) || x_at ss j) e in
      (not-false (is_cell n) a.0, eqb-true (place n ns) j (not-false (eqb (place n ns) j) (or_no (not (eqb (place n ns) j)) (x_at ss j) a.1).0))

  -- the nets that stay
  nets-strip : (k j : ℕ) (before : List ℕ) → j + k ≡ length ns → ((n : ℕ) → mem n before ≡ mem n (take j ns))
      → strip go j (drop j ns) (drop j ns) ≡ columns (asked ns rs) before (drop j ns)
  unfolding strip columns
  nets-strip zero j before e b = rw (drop_of_length-le ns (let h : length ns ≤ j = omega arith in h))
  nets-strip (suc k) j before e b =
      let h : j < length ns = omega arith in
      let n : ℕ = get_or ns j 0 in
      let one = nets-strip k (suc j) (n ∷ before) (omega arith) (λ i. unfold mem in (ap (λ (z : Bool). eqb n i || z) (b i) ∙ sym (mem-take ns j i h))) in
      let d = drop-cons ns j 0 h in
      rw (d, goes_is j before h b, one) (flip (is_cell n && (not (mem n before) && asked ns rs n)) n (columns (asked ns rs) (n ∷ before) (drop (suc j) ns)))
    where
      flip : (b : Bool) (x : ℕ) (l : List ℕ) → front (not (not b)) x l ≡ front b x l
      flip true x l = refl
      flip false x l = refl

  -- a mask at those columns
  mask_strip : (W : ℕ → ℕ) (q : List ℕ) → length q ≡ length ns → ((n : ℕ) → is_cell n ≡ true → mem n ns ≡ true → get_or q (place n ns) 2 ≡ W n)
      → (k j : ℕ) → j + k ≡ length ns → strip go j (drop j ns) (drop j q) ≡ map W (strip go j (drop j ns) (drop j ns))
  unfolding strip
  mask_strip W q l w zero j e = rw (drop_of_length-le ns (let h : length ns ≤ j = omega arith in h))
  mask_strip W q l w (suc k) j e =
      let h : j < length ns = omega arith in
      let g : j < length q = omega arith in
      let n : ℕ = get_or ns j 0 in
      let one = mask_strip W q l w k (suc j) (omega arith) in
      by_bool (go j n)
      (λ p. rw (drop-cons ns j 0 h, drop-cons q j 2 g, p, one))
      (λ p.
      let f = stays_first j h p in
      let v : get_or q j 2 ≡ W n = ap (λ (i : ℕ). get_or q i 2) (sym f.1) ∙ w n f.0 (get_or-mem ns j 0 h) in
      rw (drop-cons ns j 0 h, drop-cons q j 2 g, p, one, v))

row_path : (r s : Row) → r.pattern ≡ s.pattern → r.rules ≡ s.rules → r ≡ s
row_path r s p q = λ i. record { pattern = p i; rules = q i }

rows-strip : (ns : List ℕ) (go : ℕ → ℕ → Bool) (cs : List ℕ) (ss rs : List Row) → Pairs ns ss rs
    → ((W : ℕ → ℕ) (q : List ℕ) → length q ≡ length ns → ((n : ℕ) → is_cell n ≡ true → mem n ns ≡ true → get_or q (place n ns) 2 ≡ W n) → strip go 0 ns q ≡ map W cs)
    → map (strip_row go ns) ss ≡ map (moved ns cs) rs
unfolding Pairs
rows-strip ns go cs [] [] h f = refl
rows-strip ns go cs [] (r ∷ rs) h f = absurd h
rows-strip ns go cs (s ∷ ss) [] h f = absurd h
rows-strip ns go cs (s ∷ ss) (r ∷ rs) h f =
    ap₂ ◌∷◌ (row_path (strip_row go ns s) (moved ns cs r) (f (wanted ns r.pattern) s.pattern h.1 h.2) h.0) (rows-strip ns go cs ss rs h.3 f)

pub steps_are : (m : Matrix) → Shaped (length m.nets) m.rows → steps m ≡ normalize m
unfolding steps normalize mem
steps_are m s =
    let ns : List ℕ = m.nets in
    let ss : List Row = walk_rows ns none m.rows in
    let h = rows-pair ns none m.rows s in
    let z : 0 + length ns ≡ length ns = omega arith in
    let cs : strip (goes ns ss) 0 ns ns ≡ stay m = nets-strip ns ss (kept m) h (length ns) 0 [] z (λ n. refl) in
    let rows : map (strip_row (goes ns ss) ns) ss ≡ map (moved ns (stay m)) (kept m) =
    rows-strip ns (goes ns ss) (stay m) ss (kept m) h (λ W q l w. mask_strip ns ss (kept m) h W q l w (length ns) 0 z ∙ ap (map W) cs) in
    λ i. record { nets = cs i; rows = rows i }
