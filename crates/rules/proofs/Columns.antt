-- The columns of a normal form, and the net that is tested. Assumes nothing.
use Prim.Native.Nat.{ℕ, zero, suc, ◌+◌, ◌≤◌, ◌<◌}
use mathlib.Core.Path.{◌≡◌, refl, sym, ap, ◌∙◌}
use mathlib.Core.List.{List, [], ◌∷◌, map}
use mathlib.Core.Bool.{Bool, true, false, not, ◌&&◌, ◌||◌, true≢false, false≢true}
use native.Mathlib.Omega.{arith}
use lib.Dec.{eqb, ltb}
use lib.ListN.{length, get_or, length-map}
use borrow.Author.Tests.{eqb-true, eqb-false, eq-eqb}
use Rattle.lists.specs.Bools.{and_left, by_bool, or_cases, or_left, or_no, or_right}
use Rattle.lists.specs.Lists.{mem}
use Rattle.rules.proofs.Assumes.{bit_const}
use Rattle.rules.specs.Dispatch.{best, count_x, done, sub, test}
use Rattle.rules.specs.Matrix.{Matrix, Row, assume, swap}
use Rattle.rules.specs.Nets.{is_cell}
use Rattle.rules.specs.Normalize.{asked, columns, kept, normalize}
use Rattle.rules.specs.Trits.{bit}

-- what stays is a cell, and was there
pub columns-from : (ask : ℕ → Bool) (before ns : List ℕ) (n : ℕ) → mem n (columns ask before ns) ≡ true → (is_cell n ≡ true) × (mem n ns ≡ true)
unfolding columns mem
columns-from ask before [] n i = absurd (false≢true i)
columns-from ask before (x ∷ ns) n i =
    let one = columns-from ask (x ∷ before) ns n in
    by_bool (is_cell x && (not (mem x before) && ask x))
    (λ g. or_cases (eqb x n) (mem n (columns ask (x ∷ before) ns)) (rw g at i)
    (λ p.
    let c : is_cell n ≡ true = rw (← eqb-true x n p) (and_left (is_cell x) (not (mem x before) && ask x) g) in
    (c, or_left (eqb x n) (mem n ns) p))
    (λ p. ((one p).0, or_right (eqb x n) (mem n ns) (one p).1)))
    (λ g. let p = one (rw g at i) in (p.0, or_right (eqb x n) (mem n ns) p.1))

columns_le : (ask : ℕ → Bool) (before ns : List ℕ) → length (columns ask before ns) ≤ length ns
unfolding columns
columns_le ask before [] = omega arith
columns_le ask before (x ∷ ns) =
    let one = columns_le ask (x ∷ before) ns in
    by_bool (is_cell x && (not (mem x before) && ask x)) (λ g. rw g (omega arith)) (λ g. rw g (omega arith))

-- where a constant is among them, fewer stay
columns_lt : (ask : ℕ → Bool) (before ns : List ℕ) (n : ℕ) → is_cell n ≡ false → mem n ns ≡ true → length (columns ask before ns) < length ns
unfolding columns mem
columns_lt ask before [] n c i = absurd (false≢true i)
columns_lt ask before (x ∷ ns) n c i =
    let one = columns_le ask (x ∷ before) ns in
    let two = columns_lt ask (x ∷ before) ns n c in
    by_bool (eqb x n)
    (λ p. rw (eqb-true x n p, c) (omega (arith, columns_le ask (n ∷ before) ns)))
    (λ p.
    let three = two (rw p at i) in
    by_bool (is_cell x && (not (mem x before) && ask x)) (λ g. rw g (omega arith)) (λ g. rw g (omega arith)))

-- a net that is set is not among the cells
pub swap_in : (t k : ℕ) (ns : List ℕ) → mem t ns ≡ true → mem k (map (swap t k) ns) ≡ true
unfolding mem
swap_in t k [] i = absurd (false≢true i)
swap_in t k (x ∷ ns) i =
    let one = swap_in t k ns in
    by_bool (eqb x t) (λ p. rw p (or_left (eqb k k) (mem k (map (swap t k) ns)) (eq-eqb k k refl)))
    (λ p. rw p (or_right (eqb x k) (mem k (map (swap t k) ns)) (one (rw p at i))))

pub swap-from : (t k : ℕ) (ns : List ℕ) (n : ℕ) → (k ≡ n → ⊥) → mem n (map (swap t k) ns) ≡ true → (mem n ns ≡ true) × (t ≡ n → ⊥)
unfolding mem
swap-from t k [] n h i = absurd (false≢true i)
swap-from t k (x ∷ ns) n h i =
    let one = swap-from t k ns n h in
    by_bool (eqb x t)
    (λ p.
    let j : (eqb k n || mem n (map (swap t k) ns)) ≡ true = rw p at i in
    or_cases (eqb k n) (mem n (map (swap t k) ns)) j (λ q. absurd (h (eqb-true k n q))) (λ q. (or_right (eqb x n) (mem n ns) (one q).0, (one q).1)))
    (λ p.
    let j : (eqb x n || mem n (map (swap t k) ns)) ≡ true = rw p at i in
    or_cases (eqb x n) (mem n (map (swap t k) ns)) j
    (λ q. (or_left (eqb x n) (mem n ns) q, (λ e. eqb-false x t p (eqb-true x n q ∙ sym e))))
    (λ q. (or_right (eqb x n) (mem n ns) (one q).0, (one q).1)))

-- the lowest of the fewest is a column
pub best_in : (rows : List Row) (ns : List ℕ) (i b n : ℕ) → b < n → i + length ns ≤ n → best rows ns i b < n
unfolding best
best_in rows [] i b n h l = h
best_in rows (x ∷ ns) i b n h l =
    let one = best_in rows ns (i + 1) i n (omega arith) (omega arith) in
    let two = best_in rows ns (i + 1) b n h (omega arith) in
    by_bool (ltb (count_x rows i) (count_x rows b)) (λ p. rw p one) (λ p. rw p two)

pub get_or-mem : (ns : List ℕ) (j d : ℕ) → j < length ns → mem (get_or ns j d) ns ≡ true
unfolding mem
get_or-mem [] j d h = absurd (omega arith)
get_or-mem (n ∷ ns) zero d h = or_left (eqb n n) (mem n ns) (eq-eqb n n refl)
get_or-mem (n ∷ ns) (suc j) d h = or_right (eqb n (get_or ns j d)) (mem (get_or ns j d) ns) (get_or-mem ns j d (omega arith))

pub test-mem : (m : Matrix) → done m ≡ false → mem (test m) m.nets ≡ true
unfolding test
test-mem m e =
    let ne : length m.nets ≡ 0 → ⊥ = eqb-false (length m.nets) 0 (or_no (eqb (length m.nets) 0) (eqb (length m.rows) 1) e).0 in
    get_or-mem m.nets (best m.rows m.nets 0 0) 0 (best_in m.rows m.nets 0 0 (length m.nets) (omega arith) (omega arith))

-- a matrix that is split has fewer columns
pub falls : (m : Matrix) (b : Bool) → done m ≡ false → length (sub b m).nets < length m.nets
unfolding sub normalize
falls m b e =
    let ns : List ℕ = map (swap (test m) (bit b)) m.nets in
    let l : length ns ≡ length m.nets = length-map m.nets (swap (test m) (bit b)) in
    let h = columns_lt (asked ns (kept (assume (test m) (bit b) m))) [] ns (bit b) (bit_const b) (swap_in (test m) (bit b) m.nets (test-mem m e)) in
    omega arith

-- a net of the split matrix was there, and is not the one tested
pub sub-from : (m : Matrix) (b : Bool) (n : ℕ) → mem n (sub b m).nets ≡ true → (mem n m.nets ≡ true) × (test m ≡ n → ⊥)
unfolding sub normalize
sub-from m b n i =
    let ns : List ℕ = map (swap (test m) (bit b)) m.nets in
    let p = columns-from (asked ns (kept (assume (test m) (bit b) m))) [] ns n i in
    swap-from (test m) (bit b) m.nets n (λ q. true≢false (sym p.0 ∙ ap is_cell (sym q) ∙ bit_const b)) p.1

-- every column of a normal form is a cell
pub normal_cells : (m : Matrix) (n : ℕ) → mem n (normalize m).nets ≡ true → is_cell n ≡ true
unfolding normalize
normal_cells m n i = (columns-from (asked m.nets (kept m)) [] m.nets n i).0
