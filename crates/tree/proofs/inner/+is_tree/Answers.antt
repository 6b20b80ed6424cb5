use mathlib.Core.Bool.{true≢false}
use mathlib.Core.Path.{sym}
use native.Mathlib.Omega.{arith}
use borrow.Author.Tests.{not-false, not-true}
use lib.Seq.{length-take-le}
use Rattle.tree.proofs.Forms.{last-alone, last-bad, last_joins, part_long}
use Rattle.tree.specs.Form.{Split}
use Rattle.std.proofs.Common.{ap}
use Rattle.std.proofs.Common.{not}
use Rattle.tree.proofs.inner.+is_tree.Goals as goal

pub offset_bounds-store-zero : goal.offset_bounds-store-zero
offset_bounds-store-zero t c =
    let arms : Split c.args.store.now c.in-Some-Joins.zero c.in-Some-Joins.one = last_joins c.args.store.now c.in-Some-Joins.field-0 c.in-Some-Joins.zero c.in-Some-Joins.one c.in-Some-Joins.ensures c.in-Some-Joins.field-0-is in
    omega (arith, arms.order, arms.below)

pub slice_bounds-is_tree-count : goal.slice_bounds-is_tree-count
slice_bounds-is_tree-count t c =
    let arms : Split c.args.store.now c.in-Some-Joins.zero c.in-Some-Joins.one = last_joins c.args.store.now c.in-Some-Joins.field-0 c.in-Some-Joins.zero c.in-Some-Joins.one c.in-Some-Joins.ensures c.in-Some-Joins.field-0-is in
    arms.order

pub slice_bounds-is_tree-start : goal.slice_bounds-is_tree-start
slice_bounds-is_tree-start t c =
    let arms : Split c.args.store.now c.in-Some-Joins.zero c.in-Some-Joins.one = last_joins c.args.store.now c.in-Some-Joins.field-0 c.in-Some-Joins.zero c.in-Some-Joins.one c.in-Some-Joins.ensures c.in-Some-Joins.field-0-is in
    arms.order

pub slice_bounds-is_tree-end : goal.slice_bounds-is_tree-end
slice_bounds-is_tree-end t c =
    let arms : Split c.args.store.now c.in-Some-Joins.zero c.in-Some-Joins.one = last_joins c.args.store.now c.in-Some-Joins.field-0 c.in-Some-Joins.zero c.in-Some-Joins.one c.in-Some-Joins.ensures c.in-Some-Joins.field-0-is in
    omega (arith, arms.below)

pub is_tree-requires : goal.is_tree-requires
is_tree-requires t c =
    let arms : Split c.args.store.now c.in-Some-Joins.zero c.in-Some-Joins.one = last_joins c.args.store.now c.in-Some-Joins.field-0 c.in-Some-Joins.zero c.in-Some-Joins.one c.in-Some-Joins.ensures c.in-Some-Joins.field-0-is in
    let l = part_long c.in-Some-Joins.zero c.in-Some-Joins.one c.args.store.now in
    (omega (arith, l, arms.order, arms.below), tt)

pub returns-then-not-is_tree : goal.returns-then-not-is_tree
returns-then-not-is_tree t c =
    let arms : Split c.args.store.now c.in-Some-Joins.zero c.in-Some-Joins.one = last_joins c.args.store.now c.in-Some-Joins.field-0 c.in-Some-Joins.zero c.in-Some-Joins.one c.in-Some-Joins.ensures c.in-Some-Joins.field-0-is in
    record { yes = λ q. absurd (true≢false (sym q)); no = λ q w. c.is_tree.ensures.no (not-true _ (ap not c.if-not-is_tree.true)) (arms.one_arm w) }

pub slice_bounds-is_tree-end-in-Some-Joins : goal.slice_bounds-is_tree-end-in-Some-Joins
slice_bounds-is_tree-end-in-Some-Joins t c =
    let arms : Split c.args.store.now c.in-Some-Joins.zero c.in-Some-Joins.one = last_joins c.args.store.now c.in-Some-Joins.field-0 c.in-Some-Joins.zero c.in-Some-Joins.one c.in-Some-Joins.ensures c.in-Some-Joins.field-0-is in
    sym (length-take-le c.in-Some-Joins.zero c.args.store.now (omega (arith, arms.order, arms.below)))

pub is_tree-requires-in-Some-Joins : goal.is_tree-requires-in-Some-Joins
is_tree-requires-in-Some-Joins t c =
    let arms : Split c.args.store.now c.in-Some-Joins.zero c.in-Some-Joins.one = last_joins c.args.store.now c.in-Some-Joins.field-0 c.in-Some-Joins.zero c.in-Some-Joins.one c.in-Some-Joins.ensures c.in-Some-Joins.field-0-is in
    let l = length-take-le c.in-Some-Joins.zero c.args.store.now (omega (arith, arms.order, arms.below)) in
    (omega (arith, l, arms.order, arms.below), tt)

pub returns-in-None : goal.returns-in-None
returns-in-None t c = record { yes = λ q. absurd (true≢false (sym q)); no = λ q. last-bad c.args.store.now c.last_of.result c.last_of.ensures c.in-None.is }

pub returns-in-Some-Alone : goal.returns-in-Some-Alone
returns-in-Some-Alone t c = record { yes = λ q. last-alone c.args.store.now c.in-Some-Alone.field-0 c.in-Some-Alone.ensures c.in-Some-Alone.field-0-is; no = λ q. absurd (true≢false q) }

pub returns-else-not-is_tree : goal.returns-else-not-is_tree
returns-else-not-is_tree t c =
    let arms : Split c.args.store.now c.in-Some-Joins.zero c.in-Some-Joins.one = last_joins c.args.store.now c.in-Some-Joins.field-0 c.in-Some-Joins.zero c.in-Some-Joins.one c.in-Some-Joins.ensures c.in-Some-Joins.field-0-is in
    record {
      yes = λ q. arms.whole (c.is_tree-in-Some-Joins.ensures.yes q) (c.is_tree.ensures.yes (not-false _ (ap not c.if-not-is_tree.false)));
      no = λ q v. c.is_tree-in-Some-Joins.ensures.no q (arms.zero_arm v);
    }
