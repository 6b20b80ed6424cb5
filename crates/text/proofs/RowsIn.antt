-- A row's line is taken exactly if it is one: its trits and rules, taken loosely, print back to it. Assumes nothing.
use Prim.Native.Nat.{ℕ, zero, suc, ◌+◌, ◌-◌, ◌/◌, ◌≤◌, ◌<◌}
use borrow.Author.Tests.{eq-eqb, eqb-true, le-leb, leb-true, ltb-true}
use lib.Dec.{eqb, leb}
use lib.ListN.{get_or-append, get_or, length, length-append, length-reverse, take}
use lib.Seq.{get_or-append-add, get_or-append_seam}
use mathlib.Core.Bool.{true, false, ◌&&◌}
use mathlib.Core.List.{List, [], ◌∷◌, ◌++◌, append_assoc, reverse, reverse-cons}
use mathlib.Core.Path.{◌≡◌, refl, sym, ap, ◌∙◌, subst}
use native.Mathlib.Omega.{arith}
use Rattle.lists.specs.Bools.{and_both, and_left, and_right, by_bool}
use Rattle.lists.specs.Lists.{all, same, same_refl, same_true}
use Rattle.lists.specs.Vec.{take-vec, vec}
use Rattle.print.proofs.Rows.{arrow, margin, row_is}
use Rattle.print.specs.Texts.{RowFits, trits}
use Rattle.rows.specs.Rows.{row_from, view}
use Rattle.rows.specs.declared.Row.{Row as Struct}
use Rattle.rules.proofs.Accepts.{names-cells}
use Rattle.rules.proofs.Longest.{gap_no, gap_yes, grouped_long, row-few as line_few, row_max}
use Rattle.rules.proofs.Words.{names-low, row_in_lem}
use Rattle.rules.specs.Bounds.{columns_max, rules_max}
use Rattle.rules.specs.Bytes.{LF, byte, bytes}
use Rattle.rules.specs.Given.{ascends, cells, good_row}
use Rattle.rules.specs.Matrix.{Row}
use Rattle.rules.specs.Nets.{is_name}
use Rattle.rules.specs.Print.{gap, grouped, row_line, rule_text, trit}
use Rattle.rules.specs.Read.{is_row_line, row_in, trit_in}
use Rattle.rules.specs.Trits.{is_trit}
use Rattle.sets.specs.Sets.{list_of}
use Rattle.text.proofs.Nets.{scan_few, scan_printed, scan_stop, word_front}
use Rattle.text.specs.Scan.{figure_of, loose_row, pattern_at, rules_at, scanned, word_at}
use Rattle.std.proofs.Common.{Some, None}
use Rattle.std.proofs.lemmas.Bool.{ne_eqb}
use Rattle.text.specs.Taken.{row_taken}

-- ---- the trits, whatever the line

pub pattern_long : (w : ℕ) (l : List ℕ) → length (pattern_at w l) ≡ w
unfolding pattern_at
pattern_long zero l = refl
pattern_long (suc w) l = ap suc (pattern_long w l)

pub pattern_at_lem : (w : ℕ) (l : List ℕ) (i : ℕ) → i < w → trit_in (get_or l (2 + (w - 1 - i) + (w - 1 - i) / 4) 0) ≡ get_or (pattern_at w l) i 0
unfolding pattern_at
pattern_at_lem zero l i h = absurd (omega arith)
pattern_at_lem (suc k) l zero h =
    let e : suc k - 1 - 0 ≡ k = omega arith in
    ap (λ (j : ℕ). trit_in (get_or l (2 + j + j / 4) 0)) e
pattern_at_lem (suc k) l (suc i) h =
    let e : suc k - 1 - suc i ≡ k - 1 - i = omega arith in
    ap (λ (j : ℕ). trit_in (get_or l (2 + j + j / 4) 0)) e ∙ pattern_at_lem k l i (omega arith)

-- column i's trit, from the byte where it stands
pub trit_at : (w : ℕ) (l : List ℕ) (i b : ℕ) → i < w → get_or l (2 + (w - 1 - i) + (w - 1 - i) / 4) 0 ≡ b → trit_in b ≡ get_or (pattern_at w l) i 0
trit_at w l i b h e = ap trit_in (sym e) ∙ pattern_at_lem w l i h

pub trit_else : (w : ℕ) (l : List ℕ) (i : ℕ) {b : ℕ} → i < w → (b ≡ 48 → ⊥) → (b ≡ 49 → ⊥) → get_or l (2 + (w - 1 - i) + (w - 1 - i) / 4) 0 ≡ b → 2 ≡ get_or (pattern_at w l) i 0
trit_else w l i {b} h p q e = let n : trit_in b ≡ 2 = rw (ne_eqb b 48 p, ne_eqb b 49 q) refl in sym n ∙ trit_at w l i b h e

trit_in_lem : (b : ℕ) → is_trit (trit_in b) ≡ true
trit_in_lem b = by_bool (eqb b (byte "0")) (λ p. rw p) (λ p. rw p (by_bool (eqb b (byte "1")) (λ q. rw q) (λ q. rw q)))

pattern_trits : (w : ℕ) (l : List ℕ) → all is_trit (pattern_at w l) ≡ true
unfolding pattern_at
pattern_trits zero l = refl
pattern_trits (suc k) l = and_both (is_trit (trit_in (get_or l (2 + k + k / 4) 0))) (all is_trit (pattern_at k l)) (trit_in_lem (get_or l (2 + k + k / 4) 0)) (pattern_trits k l)

-- ---- the trits of a printed row

below : (i j : ℕ) → i / 4 ≤ (suc i + j) / 4
below i j = omega arith

past_mark : (k j p q r : ℕ) → k + p ≡ suc j + r → q ≡ p + 1 → q ≤ r → (k ≡ suc (suc (k - 2))) × ((k - 2) + q ≡ j + r)
past_mark k j p q r e g h = (omega arith, omega arith)

past-trit : (k j p q r : ℕ) → k + p ≡ suc j + r → q ≡ p → q ≤ r → (k ≡ suc (k - 1)) × ((k - 1) + q ≡ j + r)
past-trit k j p q r e g h = (omega arith, omega arith)

grouped-at : (ts rest : List ℕ) (i j k : ℕ) → j < length ts → k + (i - 1) / 4 ≡ j + (i + j) / 4 → get_or (grouped i ts ++ rest) k 0 ≡ trit (get_or ts j 0)
unfolding grouped
grouped-at [] rest i j k h e = absurd (omega arith)
grouped-at (t ∷ ts) rest i zero k h e =
    let z : (i + 0) / 4 ≡ i / 4 = omega arith in
    by_bool (gap i)
    (λ p. let g = gap_yes i p in let q : k ≡ 1 = omega (arith, g) in rw (p, q))
    (λ p. let g = gap_no i p in let q : k ≡ 0 = omega (arith, g) in rw (p, q))
grouped-at (t ∷ ts) rest i (suc j) k h e =
    let r = grouped-at ts rest (suc i) j in
    let n : i + suc j ≡ suc i + j = omega arith in
    let d : k + (i - 1) / 4 ≡ suc j + (suc i + j) / 4 = e ∙ ap (λ (m : ℕ). suc j + m / 4) n in
    let y : suc i - 1 ≡ i = omega arith in
    let z : i / 4 ≤ (suc i + j) / 4 = below i j in
    let l : j < length ts = omega arith in
    by_bool (gap i)
    (λ p. let f = past_mark k j ((i - 1) / 4) (i / 4) ((suc i + j) / 4) d (gap_yes i p) z in
    rw (p, f.0) (r (k - 2) l (ap (λ (m : ℕ). (k - 2) + m / 4) y ∙ f.1)))
    (λ p. let f = past-trit k j ((i - 1) / 4) (i / 4) ((suc i + j) / 4) d (gap_no i p) z in
    rw (p, f.0) (r (k - 1) l (ap (λ (m : ℕ). (k - 1) + m / 4) y ∙ f.1)))

trit_back : (t : ℕ) → is_trit t ≡ true → trit_in (trit t) ≡ t
trit_back zero h = refl
trit_back (suc zero) h = refl
trit_back (suc (suc zero)) h = refl
trit_back (suc (suc (suc t))) h = absurd (omega (arith, ltb-true (suc (suc (suc t))) 3 h))

pattern_back : (l p : List ℕ) → all is_trit p ≡ true → ((j : ℕ) → j < length p → get_or l (2 + j + j / 4) 0 ≡ trit (get_or (reverse p) j 0)) → pattern_at (length p) l ≡ p
unfolding pattern_at
pattern_back l [] h f = refl
pattern_back l (x ∷ p) h f =
    let k = length p in
    let n : length (reverse p) ≡ k = length-reverse p in
    let e : get_or (reverse (x ∷ p)) k 0 ≡ x =
    ap (λ (r : List ℕ). get_or r k 0) (reverse-cons x p) ∙ ap (λ (j : ℕ). get_or (reverse p ++ (x ∷ [])) j 0) (sym n) ∙ get_or-append_seam (reverse p) x [] 0 in
    let a : trit_in (get_or l (2 + k + k / 4) 0) ≡ x =
    ap trit_in (f k (omega arith) ∙ ap trit e) ∙ trit_back x (and_left (is_trit x) (all is_trit p) h) in
    let b : pattern_at k l ≡ p =
    pattern_back l p (and_right (is_trit x) (all is_trit p) h)
    (λ j q. f j (omega arith) ∙ ap (λ (r : List ℕ). trit (get_or r j 0)) (reverse-cons x p) ∙ ap trit (get_or-append (reverse p) (x ∷ []) 0 j (omega (arith, n, q)))) in
    λ i. a i ∷ b i

-- ---- a printed row

module _ (p rs : List ℕ) where
  abbrev line : List ℕ
  line = row_line (record { pattern = p; rules = rs })

  abbrev tail : List ℕ
  tail = rule_text rs ++ (LF ∷ [])

  abbrev head : List ℕ
  head = margin ++ (trits p ++ arrow)

  head_is : line ≡ head ++ tail
  head_is =
      row_is p rs
      ∙ ap (λ (k : List ℕ). margin ++ k) (sym (append_assoc (trits p) arrow tail))
      ∙ sym (append_assoc margin (trits p ++ arrow) tail)

  head_long : length head ≡ rules_at (length p)
  unfolding trits
  head_long = omega (arith, length-append margin (trits p ++ arrow), length-append (trits p) arrow, grouped_long 0 (reverse p), length-reverse p)

  row-trit : (j : ℕ) → j < length p → get_or line (2 + j + j / 4) 0 ≡ trit (get_or (reverse p) j 0)
  unfolding trits
  row-trit j h =
      let rest = arrow ++ tail in
      let e : 2 + j + j / 4 ≡ length margin + (j + j / 4) = omega arith in
      ap (λ (l : List ℕ). get_or l (2 + j + j / 4) 0) (row_is p rs)
      ∙ ap (λ (k : ℕ). get_or (margin ++ (trits p ++ rest)) k 0) e
      ∙ get_or-append-add margin (trits p ++ rest) (j + j / 4) 0
      ∙ grouped-at (reverse p) rest 0 j (j + j / 4) (omega (arith, length-reverse p)) (omega arith)

names_back : (h rs : List ℕ) → length rs ≤ rules_max → all is_name rs ≡ true → scanned rules_max (h ++ (rule_text rs ++ (LF ∷ []))) (length h) ≡ rs
unfolding rule_text bytes word_at figure_of
names_back h [] f a =
    let t : List ℕ = rule_text [] ++ (LF ∷ []) in
    scan_stop rules_max (h ++ t) (length h) (word_front h t)
names_back h (n ∷ ns) f a = scan_printed rules_max h (n ∷ ns) (LF ∷ []) f (names-low (n ∷ ns) a) refl refl

loose_back : (w : ℕ) (q : Row) → length q.pattern ≡ w → all is_trit q.pattern ≡ true → length q.rules ≤ rules_max → all is_name q.rules ≡ true → loose_row w (row_line q) ≡ q
unfolding loose_row
loose_back w q e t f n =
    let p = q.pattern in
    let rs = q.rules in
    let a : pattern_at w (row_line q) ≡ p = ap (λ (k : ℕ). pattern_at k (row_line q)) (sym e) ∙ pattern_back (row_line q) p t (row-trit p rs) in
    let l : rules_at w ≡ length (head p rs) = ap rules_at (sym e) ∙ sym (head_long p rs) in
    let b : scanned rules_max (row_line q) (rules_at w) ≡ rs =
    ap (scanned rules_max (row_line q)) l ∙ ap (λ (k : List ℕ). scanned rules_max k (length (head p rs))) (head_is p rs) ∙ names_back (head p rs) rs f n in
    λ i. record { pattern = a i; rules = b i }

-- ---- taken or not

module _ (w : ℕ) (l : List ℕ) where
  is_row : row_line (loose_row w l) ≡ l → all is_name (loose_row w l).rules ≡ true → ascends (loose_row w l).rules ≡ true → (is_row_line w l ≡ true) × (row_in l ≡ loose_row w l)
  unfolding is_row_line loose_row
  is_row e n c =
      let q = loose_row w l in
      let rs = q.rules in
      let t = pattern_trits w l in
      let r : row_in l ≡ q = ap row_in (sym e) ∙ row_in_lem q t n in
      let s : same (row_line q) l ≡ true = subst (λ (k : List ℕ). same (row_line q) k ≡ true) e (same_refl (row_line q)) in
      let g : good_row w q ≡ true =
      and_both (eqb (length q.pattern) w) (all is_trit q.pattern && (leb (length rs) rules_max && (all is_name rs && ascends rs))) (eq-eqb (length q.pattern) w (pattern_long w l))
      (and_both (all is_trit q.pattern) (leb (length rs) rules_max && (all is_name rs && ascends rs)) t
      (and_both (leb (length rs) rules_max) (all is_name rs && ascends rs) (le-leb (length rs) rules_max (scan_few rules_max l (rules_at w)))
      (and_both (all is_name rs) (ascends rs) n c))) in
      (ap (λ (k : Row). same (row_line k) l && good_row w k) r ∙ and_both (same (row_line q) l) (good_row w q) s g, r)

  row_back : is_row_line w l ≡ true → (row_line (loose_row w l) ≡ l) × (all is_name (loose_row w l).rules ≡ true) × (ascends (loose_row w l).rules ≡ true)
  unfolding is_row_line
  row_back h =
      let q = row_in l in
      let rs = q.rules in
      let e : row_line q ≡ l = same_true (row_line q) l (and_left (same (row_line q) l) (good_row w q) h) in
      let g = and_right (same (row_line q) l) (good_row w q) h in
      let a = eqb-true (length q.pattern) w (and_left (eqb (length q.pattern) w) (all is_trit q.pattern && (leb (length rs) rules_max && (all is_name rs && ascends rs))) g) in
      let g2 = and_right (eqb (length q.pattern) w) (all is_trit q.pattern && (leb (length rs) rules_max && (all is_name rs && ascends rs))) g in
      let t = and_left (all is_trit q.pattern) (leb (length rs) rules_max && (all is_name rs && ascends rs)) g2 in
      let g3 = and_right (all is_trit q.pattern) (leb (length rs) rules_max && (all is_name rs && ascends rs)) g2 in
      let f = leb-true (length rs) rules_max (and_left (leb (length rs) rules_max) (all is_name rs && ascends rs) g3) in
      let g4 = and_right (leb (length rs) rules_max) (all is_name rs && ascends rs) g3 in
      let n = and_left (all is_name rs) (ascends rs) g4 in
      let c = and_right (all is_name rs) (ascends rs) g4 in
      let r : loose_row w l ≡ q = ap (loose_row w) (sym e) ∙ loose_back w q a t f n in
      (ap row_line r ∙ e, ap (λ (k : Row). all is_name k.rules) r ∙ n, ap (λ (k : Row). ascends k.rules) r ∙ c)

  pub row_made : (s : Struct) → s.pattern ≡ vec columns_max 0 (pattern_at w l) → s.len ≡ w → s.rules.items ≡ vec rules_max 0 (scanned rules_max l (rules_at w))
      → s.rules.count ≡ length (scanned rules_max l (rules_at w)) → s ≡ row_from (loose_row w l)
  unfolding loose_row
  row_made s p n r c =
      let m = n ∙ sym (pattern_long w l) in
      λ i. record { pattern = p i; len = m i; rules = record { items = r i; count = c i } }

-- the struct of what was taken
module _ (w : ℕ) (l : List ℕ) (s : Struct) (few : w ≤ columns_max) (e : s ≡ row_from (loose_row w l)) where
  pub struct_row : view s ≡ loose_row w l
  unfolding loose_row
  struct_row =
      let q = loose_row w l in
      let p : take (length q.pattern) (vec columns_max 0 q.pattern) ≡ q.pattern = take-vec columns_max 0 q.pattern (omega (arith, pattern_long w l)) in
      let r : take (length q.rules) (vec rules_max 0 q.rules) ≡ q.rules = take-vec rules_max 0 q.rules (scan_few rules_max l (rules_at w)) in
      ap view e ∙ (λ i. record { pattern = p i; rules = r i })

  pub struct_names : list_of s.rules ≡ (loose_row w l).rules
  struct_names = ap (λ (q : Row). q.rules) struct_row

  pub row-fits-found : all is_name (list_of s.rules) ≡ true → RowFits s
  unfolding loose_row
  row-fits-found n =
      record {
        wide = omega (arith, pattern_long w l, ap (λ (x : Struct). x.len) e);
        few = omega (arith, scan_few rules_max l (rules_at w), ap (λ (x : Struct). x.rules.count) e);
        low = names-low (list_of s.rules) n;
      }

  pub row-few : length (row_line (view s)) ≤ row_max
  unfolding loose_row
  row-few = subst (λ (q : Row). length (row_line q) ≤ row_max) (sym struct_row) (line_few (loose_row w l) (omega (arith, pattern_long w l)) (scan_few rules_max l (rules_at w)))

  pub row_yes : all is_name (list_of s.rules) ≡ true → ascends (cells (list_of s.rules)) ≡ true → row_line (view s) ≡ l → Some s ≡ row_taken w l
  row_yes n c p =
      let names : all is_name (loose_row w l).rules ≡ true = ap (all is_name) (sym struct_names) ∙ n in
      let up : ascends (loose_row w l).rules ≡ true =
      ap ascends (sym (names-cells (loose_row w l).rules names)) ∙ ap (λ (k : List ℕ). ascends (cells k)) (sym struct_names) ∙ c in
      let t = is_row w l (ap row_line (sym struct_row) ∙ p) names up in
      let q : s ≡ row_from (row_in l) = e ∙ ap row_from (sym t.1) in
      rw t.0 (ap Some q)

  -- a test that a row's line passes, and this one does not
  pub row_no : (all is_name (list_of s.rules) ≡ true → ascends (cells (list_of s.rules)) ≡ true → row_line (view s) ≡ l → ⊥) → None ≡ row_taken w l
  row_no h =
      let f : is_row_line w l ≡ false = by_bool (is_row_line w l)
      (λ b. let r = row_back w l b in
      let names = ap (all is_name) struct_names ∙ r.1 in
      absurd (h names (ap (λ (k : List ℕ). ascends (cells k)) struct_names ∙ ap ascends (names-cells (loose_row w l).rules r.1) ∙ r.2) (ap row_line struct_row ∙ r.0)))
      (λ b. b) in
      rw f
