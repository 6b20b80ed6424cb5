-- What each public call of this crate promises leaves no choice. Assumes nothing.
use mathlib.Core.Path.{refl, sym, ◌∙◌}
use Rattle.evaluate.proofs.evaluate.Kinds as evaluate-kinds
use Rattle.evaluate.proofs.evaluate.Reads as evaluate-reads
use Rattle.evaluate.specs.Values.{value_read}
use Rattle.lists.specs.One.{One}
use Rattle.rules.proofs.Told.{read_one}
use Rattle.rules.specs.Codes.{trit_code}
use Rattle.trits.proofs.Ones.{code_inj}

pub evaluate_one : One 2 evaluate-kinds.ps evaluate-kinds.r evaluate-reads.Post
evaluate_one κs a x y ws vs e f = (read_one trit_code code_inj value_read (λ t. refl) (λ why. refl) x y (e ∙ sym f), refl)
