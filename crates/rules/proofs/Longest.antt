-- How long a printed matrix is at most, by a law over the bounds, and one that is so long. Assumes nothing.
use Prim.Native.Nat.{ℕ, zero, suc, ◌+◌, ◌-◌, ◌*◌, ◌/◌, ◌%◌, ◌≤◌, ◌<◌}
use mathlib.Core.Bool.{true, false, not}
use mathlib.Core.List.{List, [], ◌∷◌, ◌++◌, map, reverse}
use mathlib.Core.Path.{◌≡◌, refl}
use native.Mathlib.Omega.{arith}
use borrow.Author.Tests.{eqb-false, eqb-true}
use lib.Dec.{eqb, ltb}
use lib.ListN.{length, length-append, length-reverse, replicate}
use Rattle.lists.specs.Bools.{and_left, and_right, by_bool, not_is}
use Rattle.rules.proofs.Goods.{good_sized}
use Rattle.rules.specs.Bounds.{cell_max, columns_max, rows_max, rules_max}
use Rattle.rules.specs.Bytes.{LF, byte, bytes}
use Rattle.rules.specs.Given.{SizedRows, ascends, good}
use Rattle.rules.specs.Matrix.{Matrix, Row}
use Rattle.rules.specs.Nets.{cell, is_cell, number}
use Rattle.rules.specs.Print.{digits, gap, grouped, net, nets, printed, row_line, rule_text, together, value_line}

-- a space, the percent sign and four figures
abbrev pub net_long : ℕ
net_long = 6

-- the rules of a line
abbrev pub rules_long : ℕ
rules_long = net_long * rules_max

-- the bracket, the nets, and what closes the line
abbrev pub value_max : ℕ
value_max = 1 + net_long * columns_max + 4

-- two spaces, the trits with a mark before every fourth, the arrow, the rules, LF
abbrev pub row_max : ℕ
row_max = 2 + columns_max + (columns_max - 1) / 4 + 3 + rules_long + 1

abbrev pub text_max : ℕ
text_max = value_max + rows_max * row_max

pub text_max_is : text_max ≡ 4773
text_max_is = refl

-- ---- none is longer

digits-few : (n : ℕ) → length (digits n) ≤ 4
unfolding digits
digits-few n =
    by_bool (ltb n 10) (λ p. rw p (omega arith))
    (λ p. rw p (by_bool (ltb n 100) (λ q. rw q (omega arith))
    (λ q. rw q (by_bool (ltb n 1000) (λ r. rw r (omega arith)) (λ r. rw r (omega arith))))))

pub net-few : (n : ℕ) → length (net n) < net_long
unfolding net
net-few n = let d = digits-few (number n) in by_bool (is_cell n) (λ p. rw p (omega arith)) (λ p. rw p (omega arith))

nets-few : (ns : List ℕ) → length (nets ns) ≤ net_long * length ns
unfolding nets
nets-few [] = omega arith
nets-few (n ∷ ns) = omega (arith, net-few n, nets-few ns, length-append (byte " " ∷ net n) (nets ns))

pub value-few : (ns : List ℕ) → length ns ≤ columns_max → length (value_line ns) ≤ value_max
unfolding bytes value_line
value-few ns h =
    omega (arith, nets-few (reverse ns), length-reverse ns, length-append (byte "[" ∷ nets (reverse ns)) (bytes " ]:" ++ (LF ∷ [])))

-- marks before a place: one for each fourth before it
pub gap_yes : (i : ℕ) → gap i ≡ true → i / 4 ≡ (i - 1) / 4 + 1
gap_yes i h =
    let a = eqb-true (i % 4) 0 (and_right (not (eqb i 0)) (eqb (i % 4) 0) h) in
    let b = eqb-false i 0 (not_is (eqb i 0) (and_left (not (eqb i 0)) (eqb (i % 4) 0) h)) in
    omega (arith, a, b)

pub gap_no : (i : ℕ) → gap i ≡ false → i / 4 ≡ (i - 1) / 4
gap_no i h =
    by_bool (eqb i 0)
    (λ p. let a = eqb-true i 0 p in omega (arith, a))
    (λ p. let a = eqb-false (i % 4) 0 (rw p at h) in omega (arith, a))

pub grouped_long : (i : ℕ) (ts : List ℕ) → length (grouped i ts) + (i - 1) / 4 ≡ length ts + (i + length ts - 1) / 4
unfolding grouped
grouped_long i [] = omega arith
grouped_long i (t ∷ ts) =
    let r = grouped_long (suc i) ts in
    by_bool (gap i)
    (λ p. let g = gap_yes i p in rw p (omega (arith, g, r)))
    (λ p. let g = gap_no i p in rw p (omega (arith, g, r)))

pub rules-few : (rs : List ℕ) → length rs ≤ rules_max → length (rule_text rs) ≤ rules_long
unfolding bytes rule_text
rules-few [] h = omega arith
rules-few (n ∷ ns) h = omega (arith, nets-few (n ∷ ns))

pub row-few : (r : Row) → length r.pattern ≤ columns_max → length r.rules ≤ rules_max → length (row_line r) ≤ row_max
unfolding bytes row_line
row-few r h k =
    let p = reverse r.pattern in
    let g = grouped_long 0 p in
    let l = length-reverse r.pattern in
    let t = rules-few r.rules k in
    simp length-append (omega arith)

rows_few : (w : ℕ) (rs : List Row) → w ≤ columns_max → SizedRows w rs → length (together (map row_line rs)) ≤ length rs * row_max
unfolding SizedRows
rows_few w [] h s = omega arith
rows_few w (r ∷ rs) h s =
    let a = row-few r (omega (arith, s.0)) s.1 in
    let b = rows_few w rs h s.2 in
    omega (arith, length-append (row_line r) (together (map row_line rs)))

pub printed-length : (m : Matrix) → good m ≡ true → length (printed m) ≤ text_max
unfolding printed
printed-length m h =
    let s = good_sized m h in
    let a = value-few m.nets s.wide in
    let b = rows_few (length m.nets) m.rows s.wide s.each in
    omega (arith, s.tall, length-append (value_line m.nets) (together (map row_line m.rows)))

-- ---- one that is so long

-- the last k cells, ascending
unfoldable last_cells : ℕ → List ℕ
last_cells zero = []
last_cells (suc k) = cell (cell_max - k) ∷ last_cells k

-- every column, row and rule that there may be, and nets of four figures
unfoldable pub fullest : Matrix
unfolding last_cells
fullest =
    record {
      nets = replicate columns_max (cell cell_max);
      rows = replicate rows_max (record { pattern = replicate columns_max 2; rules = last_cells rules_max });
    }

pub longest : (length (printed fullest) ≡ text_max) × (good fullest ≡ true)
unfolding ascends bytes digits fullest grouped last_cells net nets printed row_line rule_text value_line
longest = (refl, refl)
