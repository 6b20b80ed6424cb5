-- Answers as plain numbers. Assumes nothing: these are definitions.
use Rattle.std.specs.Prelude.{ℕ, cond}
use Rattle.abi.specs.declared.Answered.{Answered}
use Rattle.abi.specs.declared.Dispatched.{Dispatched}
use Rattle.rules.specs.Answers.{Made, assume_answer}
use Rattle.rules.specs.Given.{Given}
use Rattle.rules.specs.Refuse.{FORM, Outcome, done, refused}
use Rattle.rules.specs.Trits.{is_trit}

-- the code of the last cell that a 16-bit number has
abbrev pub last : ℕ
last = 65538

-- root place and size, or the number with zeros beside it
abbrev pub dispatched : Outcome (ℕ × ℕ) → Dispatched
dispatched (done a) = record { no = 0; root = a.0; size = a.1 }
dispatched (refused n) = record { no = n; root = 0; size = 0 }

-- what is answered, or the number with a zero beside it
abbrev pub answered : Outcome ℕ → Answered
answered (done a) = record { no = 0; value = a }
answered (refused n) = record { no = n; value = 0 }

-- a value that codes no trit is refused, and the matrix handed back
abbrev pub assumed : ℕ → ℕ → Given → Made
assumed t b g = cond (is_trit b) (assume_answer t b g) (record { number = FORM; matrix = g })
