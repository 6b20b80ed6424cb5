-- What each public call of this crate promises leaves no choice. Assumes nothing.
use Prim.Native.Nat.{ℕ}
use mathlib.Core.List.{List}
use mathlib.Core.Path.{◌≡◌, ap, refl, sym, ◌∙◌}
use Rattle.lists.specs.One.{One}
use Rattle.rules.proofs.Told.{read_one as result_one}
use Rattle.rules.specs.declared.refusal.Refusal.{Refusal}
use Rattle.std.specs.Prelude.{Result}
use Rattle.text.proofs.print.Kinds as print-kinds
use Rattle.text.proofs.print.Reads as print-reads
use Rattle.text.proofs.print_tree.Kinds as print-tree-kinds
use Rattle.text.proofs.print_tree.Reads as print-tree-reads
use Rattle.text.proofs.read.Kinds as read-kinds
use Rattle.text.proofs.read.Reads as read-reads
use Rattle.text.specs.Calls.{printed_read}

printed_read_lem : (r q : Result ℕ Refusal) → printed_read r ≡ printed_read q → r ≡ q
printed_read_lem r q e = result_one (λ n. n) (λ a b i. i) printed_read (λ a. refl) (λ w. refl) r q e

pub print_one : One 1 print-kinds.ps print-kinds.r print-reads.Post
print_one κs a x y ws vs e f = (printed_read_lem x y (e.0 ∙ sym f.0), ap (λ (s : List ℕ). (tt, (s, tt))) (e.1 ∙ sym f.1))

pub print_tree-one : One 2 print-tree-kinds.ps print-tree-kinds.r print-tree-reads.Post
print_tree-one κs a x y ws vs e f = (printed_read_lem x y (e.0 ∙ sym f.0), ap (λ (s : List ℕ). (tt, (tt, (s, tt)))) (e.1 ∙ sym f.1))

pub read_one : One 1 read-kinds.ps read-kinds.r read-reads.Post
read_one κs a x y ws vs e f = (e ∙ sym f, refl)
