-- 01, "Print and reader": the printed matrix and the printed tree, as bytes. Assumes nothing: these are definitions.
use Rattle.std.specs.Prelude.{ℕ, zero, suc, ◌+◌, ◌/◌, ◌%◌, Bool, not, cond, ◌&&◌, List, [], ◌∷◌, ◌++◌, map, reverse, eqb, ltb}
use Rattle.rules.specs.Bytes.{LF, byte, bytes}
use Rattle.rules.specs.Matrix.{Row, Matrix}
use Rattle.rules.specs.Nets.{is_cell, number}
use Rattle.rules.specs.Tree.{Tree, leaf, node}

-- ---- nets: "`0`, `1`, `X` or `%` and the number without leading zeros"

abbrev pub digit : ℕ → ℕ
digit n = byte "0" + n % 10

-- a number up to 9,999
unfoldable pub digits : ℕ → List ℕ
digits n =
    cond (ltb n 10) (digit n ∷ [])
    (cond (ltb n 100) (digit (n / 10) ∷ digit n ∷ [])
    (cond (ltb n 1000) (digit (n / 100) ∷ digit (n / 10) ∷ digit n ∷ [])
    (digit (n / 1000) ∷ digit (n / 100) ∷ digit (n / 10) ∷ digit n ∷ [])))

abbrev pub trit : ℕ → ℕ
trit t = cond (eqb t 0) (byte "0") (cond (eqb t 1) (byte "1") (byte "X"))

unfoldable pub net : ℕ → List ℕ
unfolding digits
net n = cond (is_cell n) (byte "%" ∷ digits (number n)) (trit n ∷ [])

-- a space and a net, each
unfoldable pub nets : List ℕ → List ℕ
unfolding net
nets [] = []
nets (n ∷ ns) = (byte " " ∷ net n) ++ nets ns

-- ---- a matrix

-- "`[`, then a space and a net per column from highest to lowest, then ` ]:` and LF"
unfoldable pub value_line : List ℕ → List ℕ
unfolding nets bytes
value_line ns = (byte "[" ∷ nets (reverse ns)) ++ (bytes " ]:" ++ (LF ∷ []))

-- "`_` before every fourth, counted from the left": the trits from the i-th on
abbrev pub gap : ℕ → Bool
gap i = not (eqb i 0) && eqb (i % 4) 0

unfoldable pub grouped : ℕ → List ℕ → List ℕ
grouped i [] = []
grouped i (t ∷ ts) = cond (gap i) (byte "_" ∷ trit t ∷ []) (trit t ∷ []) ++ grouped (suc i) ts

-- "a space and each rule, or the fixed bytes ` (empty)` when a row has no rules"
unfoldable pub rule_text : List ℕ → List ℕ
unfolding nets bytes
rule_text [] = bytes " (empty)"
rule_text (n ∷ ns) = nets (n ∷ ns)

-- "two spaces, trits from highest column to lowest ..., then ` =>`, then" the rules; LF
unfoldable pub row_line : Row → List ℕ
unfolding grouped rule_text bytes
row_line r = bytes "  " ++ (grouped 0 (reverse r.pattern) ++ (bytes " =>" ++ (rule_text r.rules ++ (LF ∷ []))))

abbrev pub matrix_lines : Matrix → List (List ℕ)
matrix_lines m = value_line m.nets ∷ map row_line m.rows

abbrev pub together : List (List ℕ) → List ℕ
together [] = []
together (l ∷ ls) = l ++ together ls

unfoldable pub printed : Matrix → List ℕ
unfolding value_line row_line
printed m = together (matrix_lines m)

-- ---- a tree: "as `Decision::format` in 000"

-- "two spaces a level"
unfoldable pub indent : ℕ → List ℕ
unfolding bytes
indent zero = []
indent (suc k) = bytes "  " ++ indent k

-- where an arm hangs: the tested net and the arm's bit
unfoldable pub arm_head : ℕ → ℕ → ℕ → List ℕ
unfolding indent net bytes
arm_head level t b = indent level ++ (net t ++ (bytes " = " ++ (trit b ∷ bytes " =>")))

-- "an arm that is an empty leaf is omitted"
unfoldable pub arm : ℕ → ℕ → ℕ → Tree → List ℕ
unfolding arm_head rule_text
arm level t b (leaf []) = []
arm level t b (leaf (r ∷ rs)) = arm_head level t b ++ (rule_text (r ∷ rs) ++ (LF ∷ []))
arm level t b (node u z o) = arm_head level t b ++ (LF ∷ (arm (suc level) u 0 z ++ arm (suc level) u 1 o))

unfoldable pub printed_tree : Tree → List ℕ
unfolding arm rule_text bytes
printed_tree (leaf rs) = bytes "=>" ++ (rule_text rs ++ (LF ∷ []))
printed_tree (node t z o) = arm 0 t 0 z ++ arm 0 t 1 o
