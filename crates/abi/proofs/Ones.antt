-- What each public call of this crate promises leaves no choice. Assumes nothing.
use Prim.Native.Nat.{ℕ}
use mathlib.Core.List.{List}
use mathlib.Core.Path.{ap, refl, sym, ◌∙◌}
use Rattle.abi.proofs.doorpigeon_new.Kinds as new-kinds
use Rattle.abi.proofs.doorpigeon_new.Reads as new-reads
use Rattle.abi.proofs.doorpigeon_add.Kinds as add-kinds
use Rattle.abi.proofs.doorpigeon_add.Reads as add_reads
use Rattle.abi.proofs.doorpigeon_merge.Kinds as merge-kinds
use Rattle.abi.proofs.doorpigeon_merge.Reads as merge-reads
use Rattle.abi.proofs.doorpigeon_add_enable.Kinds as add-enable-kinds
use Rattle.abi.proofs.doorpigeon_add_enable.Reads as add-enable-reads
use Rattle.abi.proofs.doorpigeon_assume.Kinds as assume-kinds
use Rattle.abi.proofs.doorpigeon_assume.Reads as assume-reads
use Rattle.abi.proofs.doorpigeon_normalize.Kinds as normalize-kinds
use Rattle.abi.proofs.doorpigeon_normalize.Reads as normalize-reads
use Rattle.abi.proofs.doorpigeon_outputs.Kinds as outputs-kinds
use Rattle.abi.proofs.doorpigeon_outputs.Reads as outputs-reads
use Rattle.abi.proofs.doorpigeon_dispatch.Kinds as dispatch-kinds
use Rattle.abi.proofs.doorpigeon_dispatch.Reads as dispatch-reads
use Rattle.abi.proofs.doorpigeon_check.Kinds as check-kinds
use Rattle.abi.proofs.doorpigeon_check.Reads as check-reads
use Rattle.abi.proofs.doorpigeon_one_hot.Kinds as one-hot-kinds
use Rattle.abi.proofs.doorpigeon_one_hot.Reads as one-hot-reads
use Rattle.abi.proofs.doorpigeon_disjoint.Kinds as disjoint-kinds
use Rattle.abi.proofs.doorpigeon_disjoint.Reads as disjoint-reads
use Rattle.abi.proofs.doorpigeon_prefix.Kinds as prefix-kinds
use Rattle.abi.proofs.doorpigeon_prefix.Reads as prefix-reads
use Rattle.abi.proofs.doorpigeon_evaluate.Kinds as evaluate-kinds
use Rattle.abi.proofs.doorpigeon_evaluate.Reads as evaluate-reads
use Rattle.abi.proofs.doorpigeon_print.Kinds as print-kinds
use Rattle.abi.proofs.doorpigeon_print.Reads as print-reads
use Rattle.abi.proofs.doorpigeon_print_tree.Kinds as print-tree-kinds
use Rattle.abi.proofs.doorpigeon_print_tree.Reads as print-tree-reads
use Rattle.abi.proofs.doorpigeon_read.Kinds as read-kinds
use Rattle.abi.proofs.doorpigeon_read.Reads as read-reads
use Rattle.lists.specs.One.{One}

pub new-one : One 1 new-kinds.ps new-kinds.r new-reads.Post
new-one κs a x y ws vs e f = (e ∙ sym f, refl)

pub add-one : One 2 add-kinds.ps add-kinds.r add_reads.Post
add-one κs a x y ws vs e f = (e ∙ sym f, refl)

pub merge-one : One 0 merge-kinds.ps merge-kinds.r merge-reads.Post
merge-one κs a x y ws vs e f = (e ∙ sym f, refl)

pub add_enable-one : One 0 add-enable-kinds.ps add-enable-kinds.r add-enable-reads.Post
add_enable-one κs a x y ws vs e f = (e ∙ sym f, refl)

pub assume-one : One 0 assume-kinds.ps assume-kinds.r assume-reads.Post
assume-one κs a x y ws vs e f = (e ∙ sym f, refl)

pub normalize-one : One 0 normalize-kinds.ps normalize-kinds.r normalize-reads.Post
normalize-one κs a x y ws vs e f = (e ∙ sym f, refl)

pub outputs-one : One 0 outputs-kinds.ps outputs-kinds.r outputs-reads.Post
outputs-one κs a x y ws vs e f = (e ∙ sym f, refl)

pub dispatch-one : One 1 dispatch-kinds.ps dispatch-kinds.r dispatch-reads.Post
dispatch-one κs a x y ws vs e f = (e.0 ∙ sym f.0, ap (λ (s : List ℕ). (tt, (tt, (s, tt)))) (e.1 ∙ sym f.1))

pub check_one : One 1 check-kinds.ps check-kinds.r check-reads.Post
check_one κs a x y ws vs e f = (e ∙ sym f, refl)

pub one_hot-one : One 3 one-hot-kinds.ps one-hot-kinds.r one-hot-reads.Post
one_hot-one κs a x y ws vs e f = (e.0 ∙ sym f.0, ap (λ (s : List ℕ). (tt, (tt, (tt, (tt, (s, tt)))))) (e.1 ∙ sym f.1))

pub disjoint-one : One 6 disjoint-kinds.ps disjoint-kinds.r disjoint-reads.Post
disjoint-one κs a x y ws vs e f = (e.0 ∙ sym f.0, ap (λ (s : List ℕ). (tt, (tt, (tt, (tt, (tt, (tt, (tt, (s, tt))))))))) (e.1 ∙ sym f.1))

pub prefix-one : One 3 prefix-kinds.ps prefix-kinds.r prefix-reads.Post
prefix-one κs a x y ws vs e f = (e ∙ sym f, refl)

pub evaluate_one : One 2 evaluate-kinds.ps evaluate-kinds.r evaluate-reads.Post
evaluate_one κs a x y ws vs e f = (e ∙ sym f, refl)

pub print_one : One 1 print-kinds.ps print-kinds.r print-reads.Post
print_one κs a x y ws vs e f = (e.0 ∙ sym f.0, ap (λ (s : List ℕ). (tt, (s, tt))) (e.1 ∙ sym f.1))

pub print_tree-one : One 2 print-tree-kinds.ps print-tree-kinds.r print-tree-reads.Post
print_tree-one κs a x y ws vs e f = (e.0 ∙ sym f.0, ap (λ (s : List ℕ). (tt, (tt, (s, tt)))) (e.1 ∙ sym f.1))

pub read_one : One 1 read-kinds.ps read-kinds.r read-reads.Post
read_one κs a x y ws vs e f = (e ∙ sym f, refl)
