-- 01, "Nets, trits, sizes": nets as numbers. Assumes nothing: these are definitions.
use Rattle.std.specs.Prelude.{ℕ, ◌+◌, ◌-◌, Bool, not, ◌&&◌, leb}
use Rattle.rules.specs.Bounds.{mux_first, net_max}

-- "A net is either a constant holding a trit or a cell with a number": 0, 1, 2 code the constants, 3 + k the cell k
abbrev pub cell : ℕ → ℕ
cell k = 3 + k

abbrev pub number : ℕ → ℕ
number n = n - 3

abbrev pub is_cell : ℕ → Bool
is_cell n = leb 3 n

-- the last number that codes a net is that of the last mux
abbrev pub is_net : ℕ → Bool
is_net n = leb n (cell net_max)

-- the net that the first entry of a mux table drives: "a cell number over 9,999" is this one or a later one
abbrev pub first_mux : ℕ
first_mux = cell mux_first

abbrev pub over : ℕ → Bool
over n = leb first_mux n

-- what may be a rule, merge point, one-hot output or assign enable: no constant, and no cell over 9,999
abbrev pub is_name : ℕ → Bool
is_name n = is_cell n && not (over n)
