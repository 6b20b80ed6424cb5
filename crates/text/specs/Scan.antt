-- What is taken from a line, loosely: it counts only if it prints back to the line. Assumes nothing: these are definitions.
use Rattle.std.specs.Prelude.{ℕ, zero, suc, ◌+◌, ◌-◌, ◌*◌, ◌/◌, eqb, ltb, get_or, cond, List, [], ◌∷◌, reverse, Option, Some, None}
use Rattle.rules.specs.Bounds.{columns_max, rules_max}
use Rattle.rules.specs.Bytes.{byte}
use Rattle.rules.specs.Matrix.{Row}
use Rattle.rules.specs.Nets.{cell}
use Rattle.rules.specs.Read.{trit_in}
use Rattle.text.specs.declared.inner.scan.Word.{Word}

-- the figure that a byte stands for
unfoldable pub figure_of : ℕ → Option ℕ
figure_of b = cond (ltb b (byte "0")) None (cond (ltb (byte "9") b) None (Some (b - byte "0")))

-- the cell whose number has these figures up to the first that is none; its length with the space and the sign
abbrev pub cell_of : Option ℕ → Option ℕ → Option ℕ → Option ℕ → Option Word
cell_of None b c d = None
cell_of (Some a) None c d = Some (record { code = cell a; len = 3 })
cell_of (Some a) (Some b) None d = Some (record { code = cell (a * 10 + b); len = 4 })
cell_of (Some a) (Some b) (Some c) None = Some (record { code = cell (a * 100 + b * 10 + c); len = 5 })
cell_of (Some a) (Some b) (Some c) (Some d) = Some (record { code = cell (a * 1000 + b * 100 + c * 10 + d); len = 6 })

unfoldable pub cell_at : List ℕ → ℕ → Option Word
cell_at s at = cell_of (figure_of (get_or s at 0)) (figure_of (get_or s (at + 1) 0)) (figure_of (get_or s (at + 2) 0)) (figure_of (get_or s (at + 3) 0))

-- a space and a net: the net, and the length of both
unfoldable pub word_at : List ℕ → ℕ → Option Word
word_at s at =
    cond (eqb (get_or s at 0) (byte " "))
    (cond (eqb (get_or s (at + 1) 0) (byte "%")) (cell_at s (at + 2))
    (cond (eqb (get_or s (at + 1) 0) (byte "0")) (Some (record { code = 0; len = 2 }))
    (cond (eqb (get_or s (at + 1) 0) (byte "1")) (Some (record { code = 1; len = 2 }))
    (cond (eqb (get_or s (at + 1) 0) (byte "X")) (Some (record { code = 2; len = 2 })) None))))
    None

-- the nets from a place on, up to k of them
unfoldable pub scanned : ℕ → List ℕ → ℕ → List ℕ
scanned zero s at = []
scanned (suc k) s at = elim (word_at s at) [ None ↦ [] | Some w ↦ w.code ∷ scanned k s (at + w.len) ]

-- a value line's nets
unfoldable pub loose_nets : List ℕ → List ℕ
loose_nets l = reverse (scanned columns_max l 1)

-- the trits of a row's line, from column 0 up: the k-th from the left stands after its k and the marks before it
unfoldable pub pattern_at : ℕ → List ℕ → List ℕ
pattern_at zero l = []
pattern_at (suc k) l = trit_in (get_or l (2 + k + k / 4) 0) ∷ pattern_at k l

-- where a row's rules start
abbrev pub rules_at : ℕ → ℕ
rules_at w = 5 + w + (w - 1) / 4

unfoldable pub loose_row : ℕ → List ℕ → Row
loose_row w l = record { pattern = pattern_at w l; rules = scanned rules_max l (rules_at w) }
