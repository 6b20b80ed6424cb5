-- The column with fewest X, by counts in an array. Assumes nothing.
use borrow.Author.Tests.{eqb-false, le-ltb, leb-true, lt-ltb, ltb-false, ltb-true}
use lib.Dec.{eqb, ltb}
use lib.ListN.{drop, drop_of_length-le, get_or, length, length-append, length-drop, get_or-append, set, take}
use lib.Seq.{drop-cons, get_or-append_seam, get_or-take, take-take, take_at}
use mathlib.Core.Bool.{Bool, cond, false, true}
use mathlib.Core.List.{[], ◌++◌, ◌∷◌, List}
use mathlib.Core.Path.{◌∙◌, ◌≡◌, ap, ap₂, refl, sym}
use native.Mathlib.Nat.{not-suc-le-zero}
use native.Mathlib.Numerals.{add-one}
use native.Mathlib.Omega.{arith}
use Prim.Native.Nat.{◌+◌, ◌-◌, ◌<◌, ◌≤◌, suc, zero, ℕ}
use Rattle.dispatch.specs.Choice.{least, upto}
use Rattle.lists.specs.Bools.{by_bool, or_no}
use Rattle.lists.specs.Vec.{get_or-vec, push, vec}
use Rattle.matrix.proofs.StepHeld.{get_d_any, none_row}
use Rattle.rows.proofs.Laws.{vec-last}
use Rattle.rules.proofs.Columns.{best_in, test-mem}
use Rattle.rules.proofs.Evals.{Cells}
use Rattle.rules.specs.Dispatch.{best, column, count_x, done, test}
use Rattle.rules.specs.Matrix.{Matrix, Row}
use Rattle.rules.specs.Trits.{bit, is_x}

-- ---- a number for each of the first n

pub length-upto : (f : ℕ → ℕ) (n : ℕ) → length (upto f n) ≡ n
unfolding upto
length-upto f zero = refl
length-upto f (suc n) = length-append (upto f n) (f n ∷ []) ∙ ap (λ (k : ℕ). k + 1) (length-upto f n) ∙ add-one n

upto-at : (f : ℕ → ℕ) (n j : ℕ) → j < n → get_or (upto f n) j 0 ≡ f j
unfolding upto
upto-at f zero j h = absurd (not-suc-le-zero h)
upto-at f (suc n) j h =
    let l = length-upto f n in
    let r = upto-at f n j in
    by_bool (ltb j n)
    (λ p. let b : j < n = ltb-true j n p in get_or-append (upto f n) (f n ∷ []) 0 j (omega arith) ∙ r b)
    (λ p.
    let b = ltb-false j n p in
    let e : j ≡ n = omega arith in
    rw e (ap (λ (k : ℕ). get_or (upto f n ++ (f n ∷ [])) k 0) (sym l) ∙ get_or-append_seam (upto f n) (f n) [] 0))

upto-same : (f g : ℕ → ℕ) (n : ℕ) → ((j : ℕ) → j < n → f j ≡ g j) → upto f n ≡ upto g n
unfolding upto
upto-same f g zero h = refl
upto-same f g (suc n) h = ap₂ (λ (l : List ℕ) (x : ℕ). l ++ (x ∷ [])) (upto-same f g n (λ j b. h j (omega arith))) (h n (omega arith))

-- a turn of a loop that writes them into a fresh array
pub upto_turn : (N : ℕ) (f : ℕ → ℕ) (a : List ℕ) (i y : ℕ) → i < N → a ≡ vec N 0 (upto f i) → y ≡ f i → set a i y ≡ vec N 0 (upto f (i + 1))
unfolding upto
upto_turn N f a i y h e q =
    let l = length-upto f i in
    ap₂ (λ (v : List ℕ) (x : ℕ). set v i x) e q ∙ ap (λ (k : ℕ). set (vec N 0 (upto f i)) k (f i)) (sym l) ∙ push N 0 (upto f i) (f i) (omega arith)
    ∙ ap (λ (k : ℕ). vec N 0 (upto f k)) (sym (add-one i))

-- an array of them holds each
pub vec-at : (N : ℕ) (f : ℕ → ℕ) (n j : ℕ) → n ≤ N → j < n → get_or (vec N 0 (upto f n)) j 0 ≡ f j
vec-at N f n j h b = get_or-vec N 0 (upto f n) j (omega arith) ∙ upto-at f n j b

-- ---- the X of each column, from the last row to the first

none_counted : (N n : ℕ) → vec N 0 [] ≡ vec N 0 (upto (count_x []) n)
unfolding upto count_x
none_counted N zero = refl
none_counted N (suc n) = none_counted N n ∙ vec-last N 0 (upto (count_x []) n)

pub count_start : (N n i : ℕ) (rows : List Row) → length rows ≤ i → vec N 0 [] ≡ vec N 0 (upto (count_x (drop i rows)) n)
count_start N n i rows h = none_counted N n ∙ ap (λ (l : List Row). vec N 0 (upto (count_x l) n)) (sym (drop_of_length-le rows h))

count_most : (rows : List Row) (j : ℕ) → count_x rows j ≤ length rows
unfolding count_x
count_most [] j = omega arith
count_most (r ∷ rows) j = let h = count_most rows j in by_bool (is_x (get_or r.pattern j 2)) (λ p. rw p (omega arith)) (λ p. rw p (omega arith))

pub count_below : (rows : List Row) (N n i j k : ℕ) (a : List ℕ) → n ≤ N → j < n → 0 < i → i ≤ length rows → length rows ≤ k → a ≡ vec N 0 (upto (count_x (drop i rows)) n) → get_or a j 0 < k
count_below rows N n i j k a w b p h l e =
    let c = ap (λ (v : List ℕ). get_or v j 0) e ∙ vec-at N (count_x (drop i rows)) n j w b in
    let m = count_most (drop i rows) j in
    let d = length-drop i rows in
    omega arith

-- what comes last of the first elements of a list is the one at their number
pub last_taken : {A : Type 0} (xs ns : List A) (x d : A) (rest : List A) → rest ≡ ns ++ (x ∷ []) → rest ≡ take (length rest) xs → length rest ≤ length xs
    → (length rest ≡ length ns + 1) × ((ns ≡ take (length ns) xs) × (x ≡ get_or xs (length rest - 1) d))
last_taken {A} xs ns x d rest e t h =
    let l : length rest ≡ length ns + 1 = ap length e ∙ length-append ns (x ∷ []) in
    let k : length rest - 1 ≡ length ns = omega arith in
    let p : ns ≡ take (length ns) xs = sym (take_at ns (x ∷ []) (length ns) refl) ∙ ap (take (length ns)) (sym e ∙ t) ∙ take-take (length ns) (length rest) xs (omega arith) in
    let q : get_or rest (length ns) d ≡ x = ap (λ (w : List A). get_or w (length ns) d) e ∙ get_or-append_seam ns x [] d in
    let r : get_or rest (length ns) d ≡ get_or xs (length ns) d = ap (λ (w : List A). get_or w (length ns) d) t ∙ get_or-take (length rest) xs (length ns) d (omega arith) in
    (l, (p, sym q ∙ r ∙ ap (λ (i : ℕ). get_or xs i d) (sym k)))

-- a row more, p its masks
pub count_turn : (rows : List Row) (N n i : ℕ) (a p : List ℕ) → n ≤ N → 0 < i → i ≤ length rows → p ≡ (get_or rows (i - 1) none_row).pattern → length p ≡ n
    → a ≡ vec N 0 (upto (count_x (drop i rows)) n)
    → upto (λ (j : ℕ). bit (is_x (get_or p j 0)) + get_or a j 0) n ≡ upto (count_x (drop (i - 1) rows)) n
unfolding count_x
count_turn rows N n i a p w z h q l e =
    let s : suc (i - 1) ≡ i = omega arith in
    let d : drop (i - 1) rows ≡ get_or rows (i - 1) none_row ∷ drop i rows =
    drop-cons rows (i - 1) none_row (omega arith) ∙ ap (λ (k : ℕ). get_or rows (i - 1) none_row ∷ drop k rows) s in
    upto-same (λ (j : ℕ). bit (is_x (get_or p j 0)) + get_or a j 0) (count_x (drop (i - 1) rows)) n
    (λ j b.
    let c : get_or a j 0 ≡ count_x (drop i rows) j = ap (λ (v : List ℕ). get_or v j 0) e ∙ vec-at N (count_x (drop i rows)) n j w b in
    let m : get_or p j 0 ≡ get_or (get_or rows (i - 1) none_row).pattern j 2 =
    get_d_any p j 0 2 (omega arith) ∙ ap (λ (v : List ℕ). get_or v j 2) q in
    ap₂ (λ (x y : ℕ). bit (is_x x) + y) m c ∙ sym (ap (λ (v : List Row). count_x v j) d))

-- ---- the least count, the lowest on a tie

pub least_more : (cs : List ℕ) (n i b : ℕ) → i < n → get_or cs i 0 < get_or cs b 0 → least cs (n - i) i b ≡ least cs (n - (i + 1)) (i + 1) i
unfolding least
least_more cs n i b h l =
    let s : n - i ≡ suc (n - (i + 1)) = omega arith in
    ap (λ (k : ℕ). least cs k i b) s ∙ ap (λ (t : Bool). least cs (n - (i + 1)) (i + 1) (cond t i b)) (lt-ltb (get_or cs i 0) (get_or cs b 0) l)

pub least-keep : (cs : List ℕ) (n i b : ℕ) → i < n → get_or cs b 0 ≤ get_or cs i 0 → least cs (n - i) i b ≡ least cs (n - (i + 1)) (i + 1) b
unfolding least
least-keep cs n i b h l =
    let s : n - i ≡ suc (n - (i + 1)) = omega arith in
    ap (λ (k : ℕ). least cs k i b) s ∙ ap (λ (t : Bool). least cs (n - (i + 1)) (i + 1) (cond t i b)) (le-ltb (get_or cs i 0) (get_or cs b 0) l)

pub least_end : (cs : List ℕ) (n i b : ℕ) → n ≤ i → least cs (n - i) i b ≡ b
unfolding least
least_end cs n i b h = let s : n - i ≡ 0 = omega arith in rw s

-- by the counts of an array
pub least-best : (rows : List Row) (cs ns : List ℕ) (i b n : ℕ) → ((j : ℕ) → j < n → get_or cs j 0 ≡ count_x rows j) → b < n → i + length ns ≤ n
    → least cs (length ns) i b ≡ best rows ns i b
unfolding least best
least-best rows cs [] i b n h k l = refl
least-best rows cs (x ∷ ns) i b n h k l =
    let one = least-best rows cs ns (i + 1) i n h (omega arith) (omega arith) in
    let two = least-best rows cs ns (i + 1) b n h k (omega arith) in
    ap₂ (λ (y z : ℕ). least cs (length ns) (i + 1) (cond (ltb y z) i b)) (h i (omega arith)) (h b k)
    ∙ either (ltb (count_x rows i) (count_x rows b)) one two
  where
    either : (t : Bool) → least cs (length ns) (i + 1) i ≡ best rows ns (i + 1) i → least cs (length ns) (i + 1) b ≡ best rows ns (i + 1) b
        → least cs (length ns) (i + 1) (cond t i b) ≡ best rows ns (i + 1) (cond t i b)
    either true p q = p
    either false p q = q

-- ---- of a matrix

-- the counts in the columns in use
pub counted : (rows : List Row) (a : List ℕ) (n N : ℕ) → n ≤ N → a ≡ vec N 0 (upto (count_x rows) n) → (j : ℕ) → j < n → get_or (take n a) j 0 ≡ count_x rows j
counted rows a n N w e j b = get_or-take n a j 0 b ∙ ap (λ (v : List ℕ). get_or v j 0) e ∙ vec-at N (count_x rows) n j w b

pub column_is : (rows : List Row) (ns cs : List ℕ) (n : ℕ) → n ≡ length ns → ((j : ℕ) → j < n → get_or cs j 0 ≡ count_x rows j) → least cs n 0 0 ≡ best rows ns 0 0
unfolding least best
column_is rows [] cs n e h = ap (λ (k : ℕ). least cs k 0 0) e
column_is rows (x ∷ ns) cs n e h = ap (λ (k : ℕ). least cs k 0 0) e ∙ least-best rows cs (x ∷ ns) 0 0 n h (omega arith) (omega arith)

pub column_in : (m : Matrix) → done m ≡ false → column m < length m.nets
column_in m e =
    let ne : length m.nets ≡ 0 → ⊥ = eqb-false (length m.nets) 0 (or_no (eqb (length m.nets) 0) (eqb (length m.rows) 1) e).0 in
    best_in m.rows m.nets 0 0 (length m.nets) (omega arith) (omega arith)

-- the net of that column, in an array v of which n are in use
pub test_is : (m : Matrix) (v : List ℕ) (n k : ℕ) → take n v ≡ m.nets → n ≡ length m.nets → done m ≡ false → k ≡ column m → get_or v k 0 ≡ test m
unfolding test
test_is m v n k e l d q =
    let b = column_in m d in
    ap (λ (i : ℕ). get_or v i 0) q ∙ sym (get_or-take n v (column m) 0 (omega arith)) ∙ ap (λ (ns : List ℕ). get_or ns (column m) 0) e

pub test-cell : (m : Matrix) → Cells m → done m ≡ false → 3 ≤ test m
test-cell m c d = leb-true 3 (test m) (c (test m) (test-mem m d))
