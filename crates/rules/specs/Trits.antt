-- 01, "Nets, trits, sizes" and "Trits and constants": trits as numbers, and the mux. Assumes nothing: these are definitions.
use Rattle.std.specs.Prelude.{ℕ, Bool, true, false, cond, eqb, ltb}

-- "A trit is 0, 1 or X": coded 0, 1 and 2, and no other number codes one
abbrev pub is_trit : ℕ → Bool
is_trit t = ltb t 3

abbrev pub is_x : ℕ → Bool
is_x t = eqb t 2

-- a bit as a trit
abbrev pub bit : Bool → ℕ
bit false = 0
bit true = 1

-- "The mux of select s, one-arm a, zero-arm b is a if s is 1, b if s is 0, and for X: a if a equals b, else X."
abbrev pub mux : ℕ → ℕ → ℕ → ℕ
mux s a b = cond (eqb s 1) a (cond (eqb s 0) b (cond (eqb a b) a 2))
