use mathlib.Core.Bool.{false, true}
use mathlib.Core.List.{List}
use native.Mathlib.Omega.{arith}
use Prim.Native.Nat.{◌*◌, ℕ}
use Rattle.dispatch.proofs.Splits.{after, after_length, put_length, split_of, with_front, front_assumed, arm_falls, arm-good, arms_stand, arms_tree, leaf_columns, leaf_rows, normal_clean, normal_open, normal_tests, nets_used, split_low, zero_tree}
use Rattle.matrix.proofs.StepHeld.{clean_wide}
use Rattle.matrix.specs.Mat.{view}
use Rattle.rules.specs.Bounds.{node_run}
use Rattle.rules.specs.Dispatch.{raw_of}
use Rattle.rules.specs.Tree.{reduce}
use Rattle.tree.proofs.Grows.{gave_up, took, up-join, up_one, up_zero}
use Rattle.dispatch.proofs.+grow.Goals as goal

pub leaf_of-requires : goal.leaf_of-requires
leaf_of-requires t c = normal_clean c.args.m c.normalize-w.result c.requires.0 c.normalize-w.ensures

pub returns-then-n-eq0 : goal.returns-then-n-eq0
returns-then-n-eq0 t c = rw (leaf_columns c.args.m c.normalize-w.result c.requires.0 c.normalize-w.ensures c.if-n-eq0.true) c.leaf_of.ensures

pub leaf_of-requires-then-k-eq1 : goal.leaf_of-requires-then-k-eq1
leaf_of-requires-then-k-eq1 t c = normal_clean c.args.m c.normalize-w.result c.requires.0 c.normalize-w.ensures

pub returns-then-k-eq1 : goal.returns-then-k-eq1
returns-then-k-eq1 t c = rw (leaf_rows c.args.m c.normalize-w.result c.requires.0 c.normalize-w.ensures c.if-k-eq1.true) c.leaf_of-then-k-eq1.ensures

pub test_of-test-requires : goal.test_of-test-requires
test_of-test-requires t c =
    let m = c.args.m in
    let w = c.normalize-w.result in
    let g = c.requires.0 in
    let e = c.normalize-w.ensures in
    (normal_clean m w g e, normal_tests m w g e, normal_open m w g e c.if-n-eq0.false c.if-k-eq1.false)

pub slice_bounds-zeros-end : goal.slice_bounds-zeros-end
slice_bounds-zeros-end t c =
    let split = split_of c.args.m c.normalize-w.result c.test_of-test.result c.requires.0 c.normalize-w.ensures c.if-n-eq0.false c.if-k-eq1.false c.test_of-test.ensures in
    omega (arith, clean_wide _ split.good.clean)

pub slice_bounds-set-end : goal.slice_bounds-set-end
slice_bounds-set-end t c =
    let split = split_of c.args.m c.normalize-w.result c.test_of-test.result c.requires.0 c.normalize-w.ensures c.if-n-eq0.false c.if-k-eq1.false c.test_of-test.ensures in
    omega (arith, nets_used _ split.good.clean)

pub set-requires : goal.set-requires
set-requires t c =
    let split = split_of c.args.m c.normalize-w.result c.test_of-test.result c.requires.0 c.normalize-w.ensures c.if-n-eq0.false c.if-k-eq1.false c.test_of-test.ensures in
    split_low _ _ _ split

pub grow-requires : goal.grow-requires
grow-requires t c =
    let split = split_of c.args.m c.normalize-w.result c.test_of-test.result c.requires.0 c.normalize-w.ensures c.if-n-eq0.false c.if-k-eq1.false c.test_of-test.ensures in
    let zeros = with_front c.normalize-w.result c.set.new.nets in
    let zero_is = front_assumed c.normalize-w.result _ 0 _ split.good.clean c.set.ensures in
    let a = split in (
      omega (arith, arm_falls _ _ zeros _ false a zero_is),
      (arm-good _ _ zeros _ false a zero_is, c.requires.1),
    )

pub returns-in_default : goal.returns-in_default
returns-in_default t c =
    let split = split_of c.args.m c.normalize-w.result c.test_of-test.result c.requires.0 c.normalize-w.ensures c.if-n-eq0.false c.if-k-eq1.false c.test_of-test.ensures in
    let zeros = with_front c.normalize-w.result c.set.new.nets in
    let zero_is = front_assumed c.normalize-w.result _ 0 _ split.good.clean c.set.ensures in
    rw (zero_tree _ _ _ split zeros zero_is)
    (up_zero _ _ _ c.args.store.now c.grow.new.store
    (gave_up (raw_of (view zeros)) c.args.store.now c.grow.new.store c.grow.result _ c.grow.ensures c.in_default.is))

pub overflow_mul-at : goal.overflow_mul-at
overflow_mul-at t c =
    let zeros = with_front c.normalize-w.result c.set.new.nets in
    let zero-took = took (raw_of (view zeros)) c.args.store.now c.grow.new.store c.grow.result _ c.grow.ensures c.in-Ok.is in
    omega (arith, zero-took.within, c.requires.1)

pub slice_bounds-ones-end : goal.slice_bounds-ones-end
slice_bounds-ones-end t c =
    let split = split_of c.args.m c.normalize-w.result c.test_of-test.result c.requires.0 c.normalize-w.ensures c.if-n-eq0.false c.if-k-eq1.false c.test_of-test.ensures in
    omega (arith, clean_wide _ split.good.clean)

pub slice_bounds-set-end-2 : goal.slice_bounds-set-end-2
slice_bounds-set-end-2 t c =
    let split = split_of c.args.m c.normalize-w.result c.test_of-test.result c.requires.0 c.normalize-w.ensures c.if-n-eq0.false c.if-k-eq1.false c.test_of-test.ensures in
    omega (arith, nets_used _ split.good.clean)

pub set-requires-2 : goal.set-requires-2
set-requires-2 t c =
    let split = split_of c.args.m c.normalize-w.result c.test_of-test.result c.requires.0 c.normalize-w.ensures c.if-n-eq0.false c.if-k-eq1.false c.test_of-test.ensures in
    split_low _ _ _ split

pub offset_bounds-store-at : goal.offset_bounds-store-at
offset_bounds-store-at t c =
    let zeros = with_front c.normalize-w.result c.set.new.nets in
    let zero-took = took (raw_of (view zeros)) c.args.store.now c.grow.new.store c.grow.result _ c.grow.ensures c.in-Ok.is in
    omega (arith, zero-took.within, c.requires.1)

pub slice_bounds-grow-count : goal.slice_bounds-grow-count
slice_bounds-grow-count t c =
    let zeros = with_front c.normalize-w.result c.set.new.nets in
    let zero-took = took (raw_of (view zeros)) c.args.store.now c.grow.new.store c.grow.result _ c.grow.ensures c.in-Ok.is in
    omega (arith, zero-took.within, c.grow.auto.store)

pub slice_bounds-grow-start : goal.slice_bounds-grow-start
slice_bounds-grow-start t c =
    let zeros = with_front c.normalize-w.result c.set.new.nets in
    let zero-took = took (raw_of (view zeros)) c.args.store.now c.grow.new.store c.grow.result _ c.grow.ensures c.in-Ok.is in
    omega (arith, zero-took.within, c.grow.auto.store)

pub grow-requires-2 : goal.grow-requires-2
grow-requires-2 t c =
    let split = split_of c.args.m c.normalize-w.result c.test_of-test.result c.requires.0 c.normalize-w.ensures c.if-n-eq0.false c.if-k-eq1.false c.test_of-test.ensures in
    let ones = with_front c.normalize-w.result c.set-2.new.nets in
    let one_is = front_assumed c.normalize-w.result _ 1 _ split.good.clean c.set-2.ensures in
    let ws : List ℕ = after (node_run * c.in-Ok.zero.size) c.grow.new.store in
    let ws-length = after_length (node_run * c.in-Ok.zero.size) c.args.store.now c.grow.new.store c.grow.auto.store in
    let a = split in (
      omega (arith, arm_falls _ _ ones _ true a one_is),
      (arm-good _ _ ones _ true a one_is, omega (arith, ws-length, c.requires.1)),
    )

pub returns-in_default-grow : goal.returns-in_default-grow
returns-in_default-grow t c =
    let split = split_of c.args.m c.normalize-w.result c.test_of-test.result c.requires.0 c.normalize-w.ensures c.if-n-eq0.false c.if-k-eq1.false c.test_of-test.ensures in
    let zeros = with_front c.normalize-w.result c.set.new.nets in
    let zero_is = front_assumed c.normalize-w.result _ 0 _ split.good.clean c.set.ensures in
    let ones = with_front c.normalize-w.result c.set-2.new.nets in
    let one_is = front_assumed c.normalize-w.result _ 1 _ split.good.clean c.set-2.ensures in
    let zero-took = took (raw_of (view zeros)) c.args.store.now c.grow.new.store c.grow.result _ c.grow.ensures c.in-Ok.is in
    let ws : List ℕ = after (node_run * c.in-Ok.zero.size) c.grow.new.store in
    let ws-length = after_length (node_run * c.in-Ok.zero.size) c.args.store.now c.grow.new.store c.grow.auto.store in
    rw (arms_tree _ _ _ split zeros ones zero_is one_is)
    (up_one _ _ _ c.args.store.now c.grow.new.store ws _ c.in-Ok.zero.size zero-took ws-length
    (gave_up (raw_of (view ones)) ws c.grow-2.new.store c.grow-2.result _ c.grow-2.ensures c.in_default-grow.is))

pub join-requires : goal.join-requires
join-requires t c =
    let zeros = with_front c.normalize-w.result c.set.new.nets in
    let ones = with_front c.normalize-w.result c.set-2.new.nets in
    let zero-took = took (raw_of (view zeros)) c.args.store.now c.grow.new.store c.grow.result _ c.grow.ensures c.in-Ok.is in
    let ws : List ℕ = after (node_run * c.in-Ok.zero.size) c.grow.new.store in
    let ws-length = after_length (node_run * c.in-Ok.zero.size) c.args.store.now c.grow.new.store c.grow.auto.store in
    let one-took = took (raw_of (view ones)) ws c.grow-2.new.store c.grow-2.result _ c.grow-2.ensures c.in-Ok-grow.is in
    let vs-length = put_length (node_run * c.in-Ok.zero.size) c.args.store.now c.grow.new.store c.grow-2.new.store c.grow-2.auto.store c.grow.auto.store in
    let z = zero-took in
    omega (arith, vs-length, z.within, z.pos, one-took.within, ws-length, c.requires.1)

pub returns : goal.returns
returns t c =
    let split = split_of c.args.m c.normalize-w.result c.test_of-test.result c.requires.0 c.normalize-w.ensures c.if-n-eq0.false c.if-k-eq1.false c.test_of-test.ensures in
    let zeros = with_front c.normalize-w.result c.set.new.nets in
    let zero_is = front_assumed c.normalize-w.result _ 0 _ split.good.clean c.set.ensures in
    let ones = with_front c.normalize-w.result c.set-2.new.nets in
    let one_is = front_assumed c.normalize-w.result _ 1 _ split.good.clean c.set-2.ensures in
    let zero-took = took (raw_of (view zeros)) c.args.store.now c.grow.new.store c.grow.result _ c.grow.ensures c.in-Ok.is in
    let ws : List ℕ = after (node_run * c.in-Ok.zero.size) c.grow.new.store in
    let ws-length = after_length (node_run * c.in-Ok.zero.size) c.args.store.now c.grow.new.store c.grow.auto.store in
    let one-took = took (raw_of (view ones)) ws c.grow-2.new.store c.grow-2.result _ c.grow-2.ensures c.in-Ok-grow.is in
    let vs-length = put_length (node_run * c.in-Ok.zero.size) c.args.store.now c.grow.new.store c.grow-2.new.store c.grow-2.auto.store c.grow.auto.store in
    let s = split in
    let z = zeros in
    let o = ones in
    let xs = c.args.store.now in
    let ys = c.grow.new.store in
    let us = c.grow-2.new.store in
    let a = zero-took in
    let d = one-took in
    let l = ws-length in
    let k = arms_stand z o xs ys ws us _ _ (arm-good _ _ z _ false s zero_is) (arm-good _ _ o _ true s one_is) a d c.grow.auto.store l c.grow-2.auto.store in
    rw (arms_tree _ _ _ s z o zero_is one_is)
    (up-join _ (raw_of (view z)) (raw_of (view o)) xs ys ws us _ c.join.new.store _ _ c.join.result a d l vs-length (c.join.ensures (reduce (raw_of (view z))) (reduce (raw_of (view o))) k))
