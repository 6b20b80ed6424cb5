-- 01, "Refusal numbers": the numbers by name, and which of those that apply is given. Assumes nothing: these are definitions.
use Rattle.std.specs.Prelude.{ℕ, Bool, false, cond, List, [], ◌∷◌, eqb}

abbrev pub COLUMNS : ℕ
COLUMNS = 1

abbrev pub ROWS : ℕ
ROWS = 2

abbrev pub SHAPE : ℕ
SHAPE = 3

abbrev pub NET : ℕ
NET = 4

abbrev pub RULES : ℕ
RULES = 5

abbrev pub CATCH : ℕ
CATCH = 6

abbrev pub NODES : ℕ
NODES = 7

abbrev pub WIDTH : ℕ
WIDTH = 8

abbrev pub OVERLAP : ℕ
OVERLAP = 9

abbrev pub ROOM : ℕ
ROOM = 10

abbrev pub LINE : ℕ
LINE = 11

abbrev pub FORM : ℕ
FORM = 12

-- "12 is tested first; among the rest the lowest number that applies is given."
abbrev pub order : List ℕ
order = FORM ∷ COLUMNS ∷ ROWS ∷ SHAPE ∷ NET ∷ RULES ∷ CATCH ∷ NODES ∷ WIDTH ∷ OVERLAP ∷ ROOM ∷ LINE ∷ []

-- a call's table: the numbers that it may give, each once, with when it applies; a number that is not there never applies
abbrev pub Table : Type 0
Table = List (ℕ × Bool)

abbrev pub applies : ℕ → Table → Bool
applies n [] = false
applies n (f ∷ fs) = cond (eqb f.0 n) f.1 (applies n fs)

abbrev pub first_of : List ℕ → Table → ℕ
first_of [] fs = 0
first_of (n ∷ ns) fs = cond (applies n fs) n (first_of ns fs)

-- the number that is given, and 0 where none applies
abbrev pub refusal : Table → ℕ
refusal fs = first_of order fs

-- an answer: what the call is for, or the number
pub data Outcome (A : Type 0) : Type 0 where
  done : A → Outcome A
  refused : ℕ → Outcome A

abbrev pub or_refused : {A : Type 0} → ℕ → A → Outcome A
or_refused n a = cond (eqb n 0) (done a) (refused n)
