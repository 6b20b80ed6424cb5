-- What the answers of this crate say, and the trit of a number that is known to code one. Assumes nothing.
use Rattle.std.specs.Prelude.{ℕ, ◌<◌, ltb, cond, ◌≡◌, Result, Ok, Err}
use Rattle.std.proofs.Common.{ltb-false, arith}
use Rattle.lists.specs.Bools.{by_bool}
use Rattle.rules.specs.Refuse.{Outcome, done, refused}
use Rattle.rules.specs.Refused.{number_of}
use Rattle.rules.specs.declared.Net.{Net}
use Rattle.rules.specs.declared.Trit.{Trit}
use Rattle.rules.specs.declared.refusal.Refusal.{Refusal}

abbrev pub trit_read : Result Trit Refusal → Outcome Trit
trit_read (Ok t) = done t
trit_read (Err why) = refused (number_of why)

abbrev pub net_read : Result Net Refusal → Outcome Net
net_read (Ok n) = done n
net_read (Err why) = refused (number_of why)

abbrev pub code_read : Result ℕ Refusal → Outcome ℕ
code_read (Ok x) = done x
code_read (Err why) = refused (number_of why)

-- a number over the last trit's is taken for that
abbrev pub cut : ℕ → ℕ
cut x = cond (ltb x 2) x 2

pub cut-trit : (x : ℕ) → x < 3 → cut x ≡ x
cut-trit x h = by_bool (ltb x 2) (λ p. rw p) (λ p. let k = ltb-false x 2 p in rw p (omega arith))
