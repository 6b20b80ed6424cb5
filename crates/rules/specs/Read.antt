-- 01, "Print and reader": what is read, and the line that is not. A line is taken apart loosely and counts only if it prints back to itself.
-- Assumes nothing: these are definitions.
use Rattle.std.specs.Prelude.{ℕ, suc, ◌+◌, ◌-◌, ◌*◌, Bool, true, false, not, cond, ◌&&◌, List, [], ◌∷◌, ◌++◌, map, reverse, ◌≡◌, eqb, leb, ltb, length, take, drop, get_or}
use Rattle.lists.specs.Lists.{all, front, same}
use Rattle.rules.specs.Bounds.{columns_max, rows_max}
use Rattle.rules.specs.Bytes.{LF, byte, bytes}
use Rattle.rules.specs.Given.{ascends, good, good_row}
use Rattle.rules.specs.Matrix.{Row, Matrix}
use Rattle.rules.specs.Nets.{cell, over}
use Rattle.rules.specs.Print.{matrix_lines, printed, row_line, value_line}

-- ---- a text in pieces: each line with its LF, and "a last piece without LF is such a line"

abbrev pub grown : ℕ → List (List ℕ) → List (List ℕ)
grown x [] = (x ∷ []) ∷ []
grown x (l ∷ ls) = (x ∷ l) ∷ ls

unfoldable pub lines : List ℕ → List (List ℕ)
lines [] = []
lines (x ∷ xs) = cond (eqb x LF) ((x ∷ []) ∷ lines xs) (grown x (lines xs))

-- what stands between spaces, in a line without its last byte
unfoldable pub words : List ℕ → List (List ℕ)
words [] = [] ∷ []
words (x ∷ []) = [] ∷ []
words (x ∷ y ∷ xs) = cond (eqb x (byte " ")) ([] ∷ words (y ∷ xs)) (grown x (words (y ∷ xs)))

-- ---- loosely

unfoldable pub decimal : ℕ → List ℕ → ℕ
decimal a [] = a
decimal a (d ∷ ds) = decimal (a * 10 + (d - byte "0")) ds

abbrev pub trit_in : ℕ → ℕ
trit_in c = cond (eqb c (byte "0")) 0 (cond (eqb c (byte "1")) 1 2)

abbrev pub net_of_word : List ℕ → ℕ
net_of_word [] = 0
net_of_word (c ∷ cs) = cond (eqb c (byte "%")) (cell (decimal 0 cs)) (trit_in c)

unfoldable pub trits_in : List ℕ → List ℕ
trits_in [] = []
trits_in (c ∷ cs) = front (not (eqb c (byte "_"))) (trit_in c) (trits_in cs)

-- the words of a value line between the first and the last
unfoldable pub nets_in : List ℕ → List ℕ
unfolding words decimal
nets_in l = reverse (map net_of_word (take (length (words l) - 2) (drop 1 (words l))))

-- the words of a row's line: two of nothing, the trits, the arrow, the rules
unfoldable pub row_in : List ℕ → Row
unfolding words decimal trits_in same bytes
row_in l =
    record {
      pattern = reverse (trits_in (get_or (words l) 2 []));
      rules = cond (same (get_or (words l) 4 []) (bytes "(empty)")) [] (map net_of_word (drop 4 (words l)));
    }

-- ---- strictly

unfoldable pub is_value_line : List ℕ → Bool
unfolding nets_in same value_line
is_value_line l = same (value_line (nets_in l)) l && (leb (length (nets_in l)) columns_max && all (λ (n : ℕ). not (over n)) (nets_in l))

unfoldable pub is_row_line : ℕ → List ℕ → Bool
unfolding row_in same row_line ascends
is_row_line w l = same (row_line (row_in l)) l && good_row w (row_in l)

-- the matrix, or the number of the line that is wrong, from 1
pub data Read : Type 0 where
  whole : Matrix → Read
  wrong : ℕ → Read

-- line by line, after the value line and these rows
unfoldable pub read_rows : List ℕ → List Row → List (List ℕ) → Read
unfolding is_row_line row_in
read_rows ns rs [] = whole (record { nets = ns; rows = rs })
read_rows ns rs (l ∷ ls) =
    elim (is_row_line (length ns) l && ltb (length rs) rows_max) [ true ↦ read_rows ns (rs ++ (row_in l ∷ [])) ls | false ↦ wrong (length rs + 2) ]

unfoldable pub read_lines : List (List ℕ) → Read
unfolding is_value_line nets_in read_rows
read_lines [] = wrong 1
read_lines (l ∷ ls) = elim (is_value_line l) [ true ↦ read_rows (nets_in l) [] ls | false ↦ wrong 1 ]

unfoldable pub read : List ℕ → Read
unfolding read_lines lines
read s = read_lines (lines s)

-- ---- what 01 says of it

-- line suc j is "the first line, from 1, that no printed matrix with the same earlier lines has"
pub record FirstWrong (s : List ℕ) (j : ℕ) : Type 0 where
  pub matrix : Matrix
  pub fine : good matrix ≡ true
  pub earlier : take j (matrix_lines matrix) ≡ take j (lines s)
  pub no_other : (m : Matrix) → good m ≡ true → take (suc j) (matrix_lines m) ≡ take (suc j) (lines s) → ⊥

-- "Printed matrices read back to themselves, and nothing else is read."
abbrev pub ReadIs : List ℕ → Read → Type 0
ReadIs s (whole m) = (good m ≡ true) × (s ≡ printed m)
ReadIs s (wrong k) = (j : ℕ) × (k ≡ suc j) × FirstWrong s j
