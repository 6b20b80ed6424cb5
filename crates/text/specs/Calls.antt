-- What the answers of this crate say. Assumes nothing: these are definitions.
use Rattle.std.specs.Prelude.{ℕ, Result}
use Rattle.matrix.specs.Mat.{from}
use Rattle.rules.specs.Answers.{ReadMade as ReadMadeOf}
use Rattle.rules.specs.Refuse.{Outcome}
use Rattle.rules.specs.Refused.{told}
use Rattle.rules.specs.declared.refusal.Refusal.{Refusal}
use Rattle.text.specs.declared.ReadMade.{ReadMade}

-- how many bytes, or the number
abbrev pub printed_read : Result ℕ Refusal → Outcome ℕ
printed_read r = told (λ n. n) r

abbrev pub read_from : ReadMadeOf → ReadMade
read_from a = record { no = a.number; line = a.line; matrix = from a.matrix }
