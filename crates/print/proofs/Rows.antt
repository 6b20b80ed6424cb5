-- Lines of rows and of a matrix as their printers put them together. Assumes nothing.
use Prim.Native.Nat.{ℕ, zero, suc, ◌+◌, ◌≤◌, ◌<◌}
use lib.ListN.{get_or, length, length-append, take}
use mathlib.Core.List.{List, [], ◌∷◌, ◌++◌, append_assoc, append-nil, map, reverse}
use mathlib.Core.Path.{◌≡◌, refl, sym, ap, ◌∙◌}
use native.Mathlib.Numerals.{add-one}
use native.Mathlib.Omega.{arith}
use Rattle.matrix.specs.Mat as mat
use Rattle.matrix.specs.declared.Matrix.{Matrix}
use Rattle.print.proofs.Laws.{put_as, put_then}
use Rattle.print.specs.Texts.{RowFits, RowsFit, rows_text, trits}
use Rattle.rows.specs.Rows.{given, view}
use Rattle.rows.specs.declared.Row.{Row}
use Rattle.rules.specs.Bytes.{LF, byte, bytes}
use Rattle.rules.specs.Given.{view_row}
use Rattle.rules.specs.Print.{nets, printed, row_line, rule_text, together, value_line}

-- ---- one line

abbrev pub arrow : List ℕ
arrow = byte " " ∷ byte "=" ∷ byte ">" ∷ []

abbrev pub margin : List ℕ
margin = byte " " ∷ byte " " ∷ []

abbrev pub closing : List ℕ
closing = byte " " ∷ byte "]" ∷ byte ":" ∷ LF ∷ []

module _ (p rs : List ℕ) where
  pub row_is : row_line (record { pattern = p; rules = rs }) ≡ margin ++ (trits p ++ (arrow ++ (rule_text rs ++ (LF ∷ []))))
  unfolding row_line trits bytes
  row_is = refl

  pub row_long : length (row_line (record { pattern = p; rules = rs })) ≡ 2 + (length (trits p) + (3 + (length (rule_text rs) + 1)))
  row_long = ap length row_is ∙ simp length-append (omega arith)

pub value_is : (ns : List ℕ) → value_line ns ≡ (byte "[" ∷ []) ++ (nets (reverse ns) ++ closing)
unfolding value_line bytes
value_is ns = refl

pub value_long : (ns : List ℕ) → length (value_line ns) ≡ 1 + (length (nets (reverse ns)) + 4)
value_long ns = ap length (value_is ns) ∙ simp length-append (omega arith)

-- ---- lines together

rows_are : (n : ℕ) (rs : List Row) → together (map row_line (map view_row (take n (map given rs)))) ≡ rows_text (take n rs)
unfolding rows_text
rows_are zero rs = refl
rows_are (suc n) [] = refl
rows_are (suc n) (r ∷ rs) = ap (λ (l : List ℕ). row_line (view r) ++ l) (rows_are n rs)

pub printed_is : (m : Matrix) → printed (mat.view m) ≡ value_line (take m.columns m.value) ++ rows_text (take m.count m.rows)
unfolding printed
printed_is m = ap (λ (l : List ℕ). value_line (take m.columns m.value) ++ l) (rows_are m.count m.rows)

pub row_at : (rs : List Row) (i : ℕ) (d : Row) → i < length rs → RowsFit rs → RowFits (get_or rs i d)
unfolding RowsFit
row_at [] i d h ok = absurd (omega arith)
row_at (r ∷ rs) zero d h ok = ok.0
row_at (r ∷ rs) (suc i) d h ok = row_at rs i d (omega arith) ok.1

-- ---- a loop over rows that has put the first i

rows_next : (rs : List Row) (i : ℕ) (d : Row) → i < length rs → rows_text (take (suc i) rs) ≡ rows_text (take i rs) ++ row_line (view (get_or rs i d))
unfolding rows_text
rows_next [] i d h = absurd (omega arith)
rows_next (r ∷ rs) zero d h = append-nil (row_line (view r))
rows_next (r ∷ rs) (suc i) d h =
    let l = row_line (view r) in
    ap (λ (k : List ℕ). l ++ k) (rows_next rs i d (omega arith)) ∙ sym (append_assoc l (rows_text (take i rs)) (row_line (view (get_or rs i d))))

rows_left : (rs : List Row) (i : ℕ) (d : Row) → i < length rs → length (rows_text (take i rs)) + length (row_line (view (get_or rs i d))) ≤ length (rows_text rs)
unfolding rows_text
rows_left [] i d h = absurd (omega arith)
rows_left (r ∷ rs) zero d h = omega (arith, length-append (row_line (view r)) (rows_text rs))
rows_left (r ∷ rs) (suc i) d h =
    let l = row_line (view r) in
    omega (arith, rows_left rs i d (omega arith), length-append l (rows_text rs), length-append l (rows_text (take i rs)))

-- old with the lines of the first i rows behind it is now
module _ (rs : List Row) (i : ℕ) (d : Row) (h : i < length rs) (old now : List ℕ) (p : now ≡ old ++ rows_text (take i rs)) where
  pub rows_free : (m : ℕ) → length old + length (rows_text rs) ≤ m → length now + length (row_line (view (get_or rs i d))) ≤ m
  rows_free m q = omega (arith, ap length p, length-append old (rows_text (take i rs)), rows_left rs i d h)

  pub rows_put : (new : List ℕ) → new ≡ now ++ row_line (view (get_or rs i d)) → new ≡ old ++ rows_text (take (i + 1) rs)
  rows_put new q = put_as old (sym (rw add-one (rows_next rs i d h))) (put_then old (rows_text (take i rs)) (row_line (view (get_or rs i d))) p q)

pub printed_long : (m : Matrix) → length (printed (mat.view m)) ≡ length (value_line (take m.columns m.value)) + length (rows_text (take m.count m.rows))
printed_long m = ap length (printed_is m) ∙ length-append (value_line (take m.columns m.value)) (rows_text (take m.count m.rows))

-- what an index past the end would read
abbrev pub nothing : Row
nothing = record { pattern = []; len = 0; rules = record { items = []; count = 0 } }
