-- What each public call of this crate promises leaves no choice. Assumes nothing.
use mathlib.Core.Path.{refl, sym, ◌∙◌}
use Rattle.lists.specs.One.{One}
use Rattle.rules.proofs.Told.{read_one}
use Rattle.tree.proofs.check.Kinds as check-kinds
use Rattle.tree.proofs.check.Reads as check-reads
use Rattle.tree.specs.Checked.{check_read}

pub check_one : One 1 check-kinds.ps check-kinds.r check-reads.Post
check_one κs a x y ws vs e f = (read_one (λ n. n) (λ m n h. h) check_read (λ n. refl) (λ why. refl) x y (e ∙ sym f), refl)
