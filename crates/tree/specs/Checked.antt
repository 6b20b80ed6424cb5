-- The answer of the check of a tree as 01 gives it. Assumes nothing: these are definitions.
use Rattle.std.specs.Prelude.{ℕ, Result}
use Rattle.rules.specs.Refuse.{Outcome}
use Rattle.rules.specs.Refused.{told}
use Rattle.rules.specs.declared.refusal.Refusal.{Refusal}

-- its size, or the number
abbrev pub check_read : Result ℕ Refusal → Outcome ℕ
check_read r = told (λ n. n) r
