-- The reader: what it reads is a good matrix that prints back to the text, and where it reads none the line is the first that no printed matrix has. Assumes nothing.
use Prim.Native.Nat.{ℕ, suc, ◌+◌, ◌≤◌, ◌<◌}
use mathlib.Core.Bool.{Bool, true, false, not, ◌&&◌}
use mathlib.Core.List.{List, [], ◌∷◌, ◌++◌, append-nil, map}
use mathlib.Core.Path.{◌≡◌, refl, sym, ap, ◌∙◌, subst}
use native.Mathlib.Omega.{arith}
use borrow.Author.Tests.{le-leb, leb-true, lt-ltb, ltb-true}
use lib.Dec.{eqb, leb, ltb}
use lib.ListN.{drop, get_or, length, length-append, length-map, take}
use lib.Seq.{take_all, take-append-add, take_at, take-take}
use Rattle.lists.specs.Bools.{and_both, and_left, and_right, by_bool, clash}
use Rattle.lists.specs.Lists.{all, same, same_refl, same_true}
use Rattle.rules.proofs.Digits.{by_order}
use Rattle.rules.proofs.Lines.{Lines, lines-together, together-lines}
use Rattle.rules.proofs.Words.{nets_in_lem, row_in_lem, row_line_lem, value_line_lem}
use Rattle.rules.specs.Bounds.{columns_max, rows_max, rules_max}
use Rattle.rules.specs.Given.{ascends, good, good_row}
use Rattle.rules.specs.Matrix.{Matrix, Row, new, none_yet}
use Rattle.rules.specs.Nets.{is_name, over}
use Rattle.rules.specs.Print.{matrix_lines, printed, row_line, together, value_line}
use Rattle.rules.specs.Read.{FirstWrong, Read, ReadIs, is_row_line, is_value_line, lines, nets_in, read, read_lines, read_rows, row_in, whole, wrong}
use Rattle.rules.specs.Tree.{fine_leaf}
use Rattle.rules.specs.Trits.{is_trit}

abbrev low : ℕ → Bool
low n = not (over n)

-- ---- the parts of a good matrix

abbrev good_rest : Matrix → Bool
good_rest m = leb (length m.rows) rows_max && all (good_row (length m.nets)) m.rows

module _ (m : Matrix) (h : good m ≡ true) where
  wide_is : leb (length m.nets) columns_max ≡ true
  wide_is = and_left (leb (length m.nets) columns_max) (all low m.nets && good_rest m) h

  nets-low : all low m.nets ≡ true
  nets-low = and_left (all low m.nets) (good_rest m) (and_right (leb (length m.nets) columns_max) (all low m.nets && good_rest m) h)

  rest_is : good_rest m ≡ true
  rest_is = and_right (all low m.nets) (good_rest m) (and_right (leb (length m.nets) columns_max) (all low m.nets && good_rest m) h)

  rows_few : length m.rows ≤ rows_max
  rows_few = leb-true (length m.rows) rows_max (and_left (leb (length m.rows) rows_max) (all (good_row (length m.nets)) m.rows) rest_is)

  rows-good : all (good_row (length m.nets)) m.rows ≡ true
  rows-good = and_right (leb (length m.rows) rows_max) (all (good_row (length m.nets)) m.rows) rest_is

good-from : (m : Matrix) → leb (length m.nets) columns_max ≡ true → all low m.nets ≡ true → length m.rows ≤ rows_max → all (good_row (length m.nets)) m.rows ≡ true → good m ≡ true
good-from m w l f g =
    and_both (leb (length m.nets) columns_max) (all low m.nets && good_rest m) w
    (and_both (all low m.nets) (good_rest m) l
    (and_both (leb (length m.rows) rows_max) (all (good_row (length m.nets)) m.rows) (le-leb (length m.rows) rows_max f) g))

-- ---- printed lines are read back, and are lines

row_back : (w : ℕ) (r : Row) → good_row w r ≡ true → row_in (row_line r) ≡ r
row_back w r h =
    let a = and_right (eqb (length r.pattern) w) (all is_trit r.pattern && fine_leaf r.rules) h in
    let b = and_right (leb (length r.rules) rules_max) (all is_name r.rules && ascends r.rules) (and_right (all is_trit r.pattern) (fine_leaf r.rules) a) in
    row_in_lem r (and_left (all is_trit r.pattern) (fine_leaf r.rules) a) (and_left (all is_name r.rules) (ascends r.rules) b)

rows_back : (w : ℕ) (rs : List Row) → all (good_row w) rs ≡ true → map row_in (map row_line rs) ≡ rs
rows_back w [] h = refl
rows_back w (r ∷ rs) h =
    let p : row_in (row_line r) ≡ r = row_back w r (and_left (good_row w r) (all (good_row w) rs) h) in
    let q : map row_in (map row_line rs) ≡ rs = rows_back w rs (and_right (good_row w r) (all (good_row w) rs) h) in
    cc

rows-lines : (rs : List Row) → Lines (map row_line rs)
unfolding Lines
rows-lines [] = tt
rows-lines (r ∷ rs) = (row_line_lem r, rows-lines rs)

printed-lines : (m : Matrix) → lines (printed m) ≡ matrix_lines m
unfolding Lines printed
printed-lines m = lines-together (matrix_lines m) (value_line_lem m.nets, rows-lines m.rows)

-- ---- the lines of a printed matrix tell the matrix

matrix_in : List (List ℕ) → Matrix
matrix_in [] = none_yet
matrix_in (l ∷ ls) = record { nets = nets_in l; rows = map row_in ls }

matrix_in_lem : (m : Matrix) → good m ≡ true → matrix_in (matrix_lines m) ≡ m
unfolding matrix_in
matrix_in_lem m h =
    let p : nets_in (value_line m.nets) ≡ m.nets = nets_in_lem m.nets (nets-low m h) in
    let q : map row_in (map row_line m.rows) ≡ m.rows = rows_back (length m.nets) m.rows (rows-good m h) in
    λ i. record { nets = p i; rows = q i }

pub printed_inj : (m n : Matrix) → good m ≡ true → good n ≡ true → printed m ≡ printed n → m ≡ n
printed_inj m n h k e =
    sym (matrix_in_lem m h) ∙ ap matrix_in (sym (printed-lines m) ∙ ap lines e ∙ printed-lines n) ∙ matrix_in_lem n k

-- ---- no two answers

not_before : (s : List ℕ) (j i : ℕ) → FirstWrong s j → FirstWrong s i → j < i → ⊥
not_before s j i a b h =
    a.no_other b.matrix b.fine
    (sym (take-take (suc j) i (matrix_lines b.matrix) h) ∙ ap (take (suc j)) b.earlier ∙ take-take (suc j) i (lines s) h)

not_whole : (s : List ℕ) (j : ℕ) (m : Matrix) → FirstWrong s j → good m ≡ true → s ≡ printed m → ⊥
not_whole s j m a h e = a.no_other m h (ap (take (suc j)) (sym (ap lines e ∙ printed-lines m)))

pub read_one : (s : List ℕ) (r q : Read) → ReadIs s r → ReadIs s q → r ≡ q
read_one s (whole m) (whole n) a b = ap whole (printed_inj m n a.0 b.0 (sym a.1 ∙ b.1))
read_one s (whole m) (wrong k) a (j, q, b) = absurd (not_whole s j m b a.0 a.1)
read_one s (wrong k) (whole m) (j, q, b) a = absurd (not_whole s j m b a.0 a.1)
read_one s (wrong k) (wrong l) (j, p, a) (i, q, b) =
    by_order j i
    (λ h. absurd (not_before s j i a b h))
    (λ h. by_order i j
    (λ g. absurd (not_before s i j b a g))
    (λ g. ap wrong (omega arith)))

-- ---- which lines are a row's, and which a value line

row_is : (w : ℕ) (l : List ℕ) → is_row_line w l ≡ true → (row_line (row_in l) ≡ l) × (good_row w (row_in l) ≡ true)
unfolding is_row_line
row_is w l h = (
  same_true (row_line (row_in l)) l (and_left (same (row_line (row_in l)) l) (good_row w (row_in l)) h),
  and_right (same (row_line (row_in l)) l) (good_row w (row_in l)) h,
)

row_true : (w : ℕ) (r : Row) → good_row w r ≡ true → is_row_line w (row_line r) ≡ true
unfolding is_row_line
row_true w r h =
    subst (λ (q : Row). (same (row_line q) (row_line r) && good_row w q) ≡ true) (sym (row_back w r h))
    (and_both (same (row_line r) (row_line r)) (good_row w r) (same_refl (row_line r)) h)

abbrev few_low : List ℕ → Bool
few_low ns = leb (length ns) columns_max && all low ns

value_true : (m : Matrix) → good m ≡ true → is_value_line (value_line m.nets) ≡ true
unfolding is_value_line
value_true m h =
    rw (nets_in_lem m.nets (nets-low m h))
    (and_both (same (value_line m.nets) (value_line m.nets)) (few_low m.nets) (same_refl (value_line m.nets))
    (and_both (leb (length m.nets) columns_max) (all low m.nets) (wide_is m h) (nets-low m h)))

value_is : (l : List ℕ) → is_value_line l ≡ true → (value_line (nets_in l) ≡ l) × (good (new (nets_in l)) ≡ true)
unfolding is_value_line
value_is l h =
    let f = and_right (same (value_line (nets_in l)) l) (few_low (nets_in l)) h in (
      same_true (value_line (nets_in l)) l (and_left (same (value_line (nets_in l)) l) (few_low (nets_in l)) h),
      good-from (new (nets_in l)) (and_left (leb (length (nets_in l)) columns_max) (all low (nets_in l)) f) (and_right (leb (length (nets_in l)) columns_max) (all low (nets_in l)) f) (omega arith) refl,
    )

-- ---- a row more

all_snoc : (p : Row → Bool) (rs : List Row) (r : Row) → all p rs ≡ true → p r ≡ true → all p (rs ++ (r ∷ [])) ≡ true
all_snoc p [] r h k = and_both (p r) true k refl
all_snoc p (x ∷ rs) r h k = and_both (p x) (all p (rs ++ (r ∷ []))) (and_left (p x) (all p rs) h) (all_snoc p rs r (and_right (p x) (all p rs) h) k)

abbrev with : Matrix → Row → Matrix
with m r = record { nets = m.nets; rows = m.rows ++ (r ∷ []) }

good_snoc : (m : Matrix) (r : Row) → good m ≡ true → good_row (length m.nets) r ≡ true → length m.rows < rows_max → good (with m r) ≡ true
good_snoc m r h k f =
    good-from (with m r) (wide_is m h) (nets-low m h) (omega (arith, length-append m.rows (r ∷ []))) (all_snoc (good_row (length m.nets)) m.rows r (rows-good m h) k)

lines_snoc : (rs : List Row) (r : Row) (ls : List (List ℕ)) → map row_line rs ++ (row_line r ∷ ls) ≡ map row_line (rs ++ (r ∷ [])) ++ ls
lines_snoc [] r ls = refl
lines_snoc (x ∷ rs) r ls = ap (λ (k : List (List ℕ)). row_line x ∷ k) (lines_snoc rs r ls)

-- ---- a row less: another matrix with the same rows and this line more has a row there

rows_next : (w : ℕ) (rs qs : List Row) (l : List ℕ) → all (good_row w) qs ≡ true → take (suc (length rs)) (map row_line qs) ≡ map row_line rs ++ (l ∷ []) → (is_row_line w l ≡ true) × (length rs < length qs)
rows_next w rs [] l h e = absurd (omega (arith, ap length e, length-append (map row_line rs) (l ∷ [])))
rows_next w [] (q ∷ qs) l h e =
    let p : row_line q ≡ l = ap (λ (k : List (List ℕ)). get_or k 0 l) e in
    (subst (λ (k : List ℕ). is_row_line w k ≡ true) p (row_true w q (and_left (good_row w q) (all (good_row w) qs) h)), omega arith)
rows_next w (r ∷ rs) (q ∷ qs) l h e =
    let n = rows_next w rs qs l (and_right (good_row w q) (all (good_row w) qs) h) (ap (drop 1) e) in
    (n.0, omega (arith, n.1))

take_more : (xs : List (List ℕ)) (l : List ℕ) (ls : List (List ℕ)) (k : ℕ) → k ≡ length xs + 1 → take k (xs ++ (l ∷ ls)) ≡ xs ++ (l ∷ [])
take_more xs l ls k h = rw (h, take-append-add xs (l ∷ ls) 1)

-- the line is a row's, and there is room for a row
abbrev pub fits : List ℕ → List Row → List ℕ → Bool
fits ns rs l = is_row_line (length ns) l && ltb (length rs) rows_max

-- a line after those of a good matrix
module _ (s : List ℕ) (m : Matrix) (l : List ℕ) (ls : List (List ℕ)) (h : good m ≡ true) (e : lines s ≡ matrix_lines m ++ (l ∷ ls)) where
  row_fits : (n : Matrix) → good n ≡ true → take (suc (suc (length m.rows))) (matrix_lines n) ≡ take (suc (suc (length m.rows))) (lines s) → fits m.nets m.rows l ≡ true
  row_fits n g q =
      let k : suc (suc (length m.rows)) ≡ length (matrix_lines m) + 1 = omega (arith, length-map m.rows row_line) in
      let a : take (suc (suc (length m.rows))) (matrix_lines n) ≡ matrix_lines m ++ (l ∷ []) =
      q ∙ ap (take (suc (suc (length m.rows)))) e ∙ take_more (matrix_lines m) l ls (suc (suc (length m.rows))) k in
      let v : value_line n.nets ≡ value_line m.nets = ap (λ (x : List (List ℕ)). get_or x 0 []) a in
      let w : n.nets ≡ m.nets = sym (nets_in_lem n.nets (nets-low n g)) ∙ ap nets_in v ∙ nets_in_lem m.nets (nets-low m h) in
      let r : all (good_row (length m.nets)) n.rows ≡ true = subst (λ (ns : List ℕ). all (good_row (length ns)) n.rows ≡ true) w (rows-good n g) in
      let x = rows_next (length m.nets) m.rows n.rows l r (ap (drop 1) a) in
      let f = rows_few n g in
      and_both (is_row_line (length m.nets) l) (ltb (length m.rows) rows_max) x.0 (lt-ltb (length m.rows) rows_max (omega (arith, x.1)))

  row_wrong : fits m.nets m.rows l ≡ false → FirstWrong s (suc (length m.rows))
  row_wrong f =
      let k : length (matrix_lines m) ≡ suc (length m.rows) = omega (arith, length-map m.rows row_line) in
      record {
        matrix = m;
        fine = h;
        earlier =
            take_all (suc (length m.rows)) (matrix_lines m) (omega arith)
            ∙ sym (ap (take (suc (length m.rows))) e ∙ take_at (matrix_lines m) (l ∷ ls) (suc (length m.rows)) k);
        no_other = λ n g q. clash (sym f ∙ row_fits n g q);
      }

  row_more : is_row_line (length m.nets) l ≡ true → lines s ≡ matrix_lines (with m (row_in l)) ++ ls
  row_more f =
      e ∙ ap (λ (k : List ℕ). value_line m.nets ∷ (map row_line m.rows ++ (k ∷ ls))) (sym (row_is (length m.nets) l f).0)
      ∙ ap (λ (k : List (List ℕ)). value_line m.nets ∷ k) (lines_snoc m.rows (row_in l) ls)

-- ---- line by line

module _ (ns : List ℕ) (rs : List Row) (l : List ℕ) (ls : List (List ℕ)) where
  pub rows_on : fits ns rs l ≡ true → read_rows ns rs (l ∷ ls) ≡ read_rows ns (rs ++ (row_in l ∷ [])) ls
  unfolding read_rows
  rows_on f = rw f

  pub rows-off : fits ns rs l ≡ false → read_rows ns rs (l ∷ ls) ≡ wrong (length rs + 2)
  unfolding read_rows
  rows-off f = rw f

rows-read : (s : List ℕ) (ns : List ℕ) (rs : List Row) (ls : List (List ℕ)) → good (record { nets = ns; rows = rs }) ≡ true
    → lines s ≡ matrix_lines (record { nets = ns; rows = rs }) ++ ls → ReadIs s (read_rows ns rs ls)
unfolding printed read_rows
rows-read s ns rs [] h e = (h, sym (together-lines s) ∙ ap together (e ∙ append-nil (matrix_lines (record { nets = ns; rows = rs }))))
rows-read s ns rs (l ∷ ls) h e =
    let m : Matrix = record { nets = ns; rows = rs } in
    let more = rows-read s ns (rs ++ (row_in l ∷ [])) ls in
    by_bool (fits ns rs l)
    (λ f. let a = and_left (is_row_line (length ns) l) (ltb (length rs) rows_max) f in
    let b = ltb-true (length rs) rows_max (and_right (is_row_line (length ns) l) (ltb (length rs) rows_max) f) in
    subst (λ (r : Read). ReadIs s r) (sym (rows_on ns rs l ls f)) (more (good_snoc m (row_in l) h (row_is (length ns) l a).1 b) (row_more s m l ls h e a)))
    (λ f. subst (λ (r : Read). ReadIs s r) (sym (rows-off ns rs l ls f)) (suc (length rs), omega arith, row_wrong s m l ls h e f))

pub first_on : (l : List ℕ) (ls : List (List ℕ)) → is_value_line l ≡ true → read_lines (l ∷ ls) ≡ read_rows (nets_in l) [] ls
unfolding read_lines
first_on l ls f = rw f

pub first_off : (l : List ℕ) (ls : List (List ℕ)) → is_value_line l ≡ false → read_lines (l ∷ ls) ≡ wrong 1
unfolding read_lines
first_off l ls f = rw f

-- a text of which no printed matrix has the first line
first_wrong : (s : List ℕ) → ((m : Matrix) → good m ≡ true → take 1 (matrix_lines m) ≡ take 1 (lines s) → ⊥) → ReadIs s (wrong 1)
first_wrong s f = (0, refl, record { matrix = none_yet; fine = refl; earlier = refl; no_other = f })

lines-read : (s : List ℕ) (ls : List (List ℕ)) → lines s ≡ ls → ReadIs s (read_lines ls)
unfolding read_lines
lines-read s [] e = first_wrong s (λ m h q. omega (arith, ap length (q ∙ ap (take 1) e)))
lines-read s (l ∷ ls) e =
    by_bool (is_value_line l)
    (λ f. let v = value_is l f in
    subst (λ (r : Read). ReadIs s r) (sym (first_on l ls f)) (rows-read s (nets_in l) [] ls v.1 (e ∙ ap (λ (k : List ℕ). k ∷ ls) (sym v.0))))
    (λ f. subst (λ (r : Read). ReadIs s r) (sym (first_off l ls f)) (first_wrong s (λ m h q.
    let p : value_line m.nets ≡ l = ap (λ (k : List (List ℕ)). get_or k 0 []) (q ∙ ap (take 1) e) in
    clash (sym f ∙ subst (λ (k : List ℕ). is_value_line k ≡ true) p (value_true m h)))))

pub read_is : (s : List ℕ) → ReadIs s (read s)
unfolding read
read_is s = lines-read s (lines s) refl

pub read-printed : (m : Matrix) → good m ≡ true → read (printed m) ≡ whole m
read-printed m h = read_one (printed m) (read (printed m)) (whole m) (read_is (printed m)) (h, refl)
