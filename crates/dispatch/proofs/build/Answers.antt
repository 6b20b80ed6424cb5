use lib.ListN.{take}
use lib.Seq.{length-take-le}
use mathlib.Core.Path.{sym}
use native.Mathlib.Omega.{arith}
use Rattle.dispatch.proofs.Stored.{front_length, placed, whole_root}
use Rattle.matrix.specs.Mat.{view}
use Rattle.rules.specs.Dispatch.{raw_of}
use Rattle.tree.proofs.Builds.{whole_refused}
use Rattle.tree.proofs.Grows.{gave_up}
use Rattle.dispatch.proofs.build.Goals as goal

pub overflow_mul-e : goal.overflow_mul-e
overflow_mul-e c =
    let p = placed (raw_of (view c.args.m)) c.args.store.now c.grow.new.store c.in_use-used.result c.grow.result c.in-Ok.built c.grow.ensures c.in-Ok.is c.in_use-used.ensures.1 in
    omega (arith, p)

pub offset_bounds-store-e : goal.offset_bounds-store-e
offset_bounds-store-e c =
    let p = placed (raw_of (view c.args.m)) c.args.store.now c.grow.new.store c.in_use-used.result c.grow.result c.in-Ok.built c.grow.ensures c.in-Ok.is c.in_use-used.ensures.1 in
    omega (arith, p)

pub slice_bounds-clear-count : goal.slice_bounds-clear-count
slice_bounds-clear-count c =
    let p = placed (raw_of (view c.args.m)) c.args.store.now c.grow.new.store c.in_use-used.result c.grow.result c.in-Ok.built c.grow.ensures c.in-Ok.is c.in_use-used.ensures.1 in
    omega (arith, p)

pub slice_bounds-clear-start : goal.slice_bounds-clear-start
slice_bounds-clear-start c =
    let p = placed (raw_of (view c.args.m)) c.args.store.now c.grow.new.store c.in_use-used.result c.grow.result c.in-Ok.built c.grow.ensures c.in-Ok.is c.in_use-used.ensures.1 in
    omega (arith, p)

pub returns : goal.returns
returns c =
    let t = raw_of (view c.args.m) in
    let xs = c.args.store.now in
    let ys = c.grow.new.store in
    let k = c.in_use-used.result in
    let p = placed t xs ys k c.grow.result c.in-Ok.built c.grow.ensures c.in-Ok.is c.in_use-used.ensures.1 in
    whole_root t xs ys c.clear-2.new.store k c.in_use-used.ensures.0 c.in_use-used.ensures.1 c.grow.auto.store
    c.grow.result _ _ c.grow.ensures c.in-Ok.is p.0 c.clear-2.ensures
