use Rattle.std.proofs.Common.{◌≡◌, ◌+◌, ◌*◌, sym, arith}
use lib.Seq.{length-take-le}
use Rattle.rules.specs.Bounds.{node_run}
use mathlib.Core.Option.{some}
use Rattle.rules.specs.Refusals.{tree_in}
use Rattle.rules.specs.Store.{tree_at}
use Rattle.text.proofs.Trees.{can_walk, root_in, tree-done, tree-full, tree-unfit, tree_in_lem}
use Rattle.tree.proofs.Handed.{checked, handed_ends}
use Rattle.rules.specs.Refused.{number_of}
use Rattle.std.proofs.lemmas.Result.{err_from_is_err_and}
use Rattle.text.proofs.print_tree.Goals as goal

pub returns-in_err-check : goal.returns-in_err-check
returns-in_err-check c =
    let why = c.in_err-check.field-0.0 in
    let p = err_from_is_err_and c.from_residual.result c.from_residual.ensures.1 in
    let q = tree-unfit c.args.store.now c.args.root.0 c.args.out.now (number_of why) (sym c.in_err-check.ensures) in
    record { result_value = rw (p.1, p.2) q.0; out_after = q.1 }

pub overflow_add-entries : goal.overflow_add-entries
overflow_add-entries c =
    let there : tree_at c.args.store.now c.args.root.0 ≡ some (tree_in c.args.store.now c.args.root.0) = checked c.args.store.now c.args.root.0 c.in_ok-check.field-0 (sym c.in_ok-check.ensures) in
    omega (arith, root_in c.args.store.now c.args.root.0 c.args.out.now there)

pub overflow_mul-entries : goal.overflow_mul-entries
overflow_mul-entries c =
    let there : tree_at c.args.store.now c.args.root.0 ≡ some (tree_in c.args.store.now c.args.root.0) = checked c.args.store.now c.args.root.0 c.in_ok-check.field-0 (sym c.in_ok-check.ensures) in
    omega (arith, root_in c.args.store.now c.args.root.0 c.args.out.now there)

pub slice_bounds-entries-end : goal.slice_bounds-entries-end
slice_bounds-entries-end c =
    let there : tree_at c.args.store.now c.args.root.0 ≡ some (tree_in c.args.store.now c.args.root.0) = checked c.args.store.now c.args.root.0 c.in_ok-check.field-0 (sym c.in_ok-check.ensures) in
    sym (length-take-le (node_run * (c.args.root.0 + 1)) c.args.store.now (tree_in_lem c.args.store.now c.args.root.0 c.args.out.now there))

pub whole-need-requires : goal.whole-need-requires
whole-need-requires c =
    let there : tree_at c.args.store.now c.args.root.0 ≡ some (tree_in c.args.store.now c.args.root.0) = checked c.args.store.now c.args.root.0 c.in_ok-check.field-0 (sym c.in_ok-check.ensures) in
    can_walk c.args.store.now c.args.root.0 c.args.out.now there

pub returns-then-out-need : goal.returns-then-out-need
returns-then-out-need c =
    let there : tree_at c.args.store.now c.args.root.0 ≡ some (tree_in c.args.store.now c.args.root.0) = checked c.args.store.now c.args.root.0 c.in_ok-check.field-0 (sym c.in_ok-check.ensures) in
    let ends = handed_ends c.args.store.now c.args.root.0 (tree_in c.args.store.now c.args.root.0) there in
    let q = tree-full c.args.store.now c.args.root.0 c.args.out.now there _ _ _ (c.whole-need.ensures (tree_in c.args.store.now c.args.root.0) ends) c.if-out-need.true in
    record { result_value = q.0; out_after = q.1 }

pub whole-requires : goal.whole-requires
whole-requires c =
    let there : tree_at c.args.store.now c.args.root.0 ≡ some (tree_in c.args.store.now c.args.root.0) = checked c.args.store.now c.args.root.0 c.in_ok-check.field-0 (sym c.in_ok-check.ensures) in
    can_walk c.args.store.now c.args.root.0 c.args.out.now there

pub returns : goal.returns
returns c =
    let there : tree_at c.args.store.now c.args.root.0 ≡ some (tree_in c.args.store.now c.args.root.0) = checked c.args.store.now c.args.root.0 c.in_ok-check.field-0 (sym c.in_ok-check.ensures) in
    let ends = handed_ends c.args.store.now c.args.root.0 (tree_in c.args.store.now c.args.root.0) there in
    let q = tree-done c.args.store.now c.args.root.0 c.args.out.now there _ _ _ _ _ (c.whole-need.ensures (tree_in c.args.store.now c.args.root.0) ends) c.if-out-need.false (c.whole.ensures (tree_in c.args.store.now c.args.root.0) ends) in
    record { result_value = q.0; out_after = q.1 }
