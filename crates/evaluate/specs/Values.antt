-- What the evaluator's answer says, and how it reads constants and given cells. Assumes nothing: these are definitions.
use Rattle.std.specs.Prelude.{ℕ, List, Result}
use Rattle.rules.specs.Codes.{trit_code}
use Rattle.rules.specs.Evaluate.{trits_of}
use Rattle.rules.specs.Meaning.{value_at}
use Rattle.rules.specs.Refuse.{Outcome}
use Rattle.rules.specs.Refused.{told}
use Rattle.rules.specs.declared.Trit.{Trit}
use Rattle.rules.specs.declared.refusal.Refusal.{Refusal}

-- its trit's code, or the number
abbrev pub value_read : Result Trit Refusal → Outcome ℕ
value_read r = told trit_code r

abbrev pub reads : List ℕ → ℕ → ℕ
reads ts n = value_at (trits_of ts) n
