use Prim.Native.Nat.{◌≤◌}
use mathlib.Core.Path.{refl, sym, ◌∙◌}
use native.Mathlib.Omega.{arith}
use lib.ListN.{length}
use Rattle.rules.specs.Bounds.{node_run}
use Rattle.tree.proofs.Tails.{count_room, ends_run, root_leaf, root_node}
use Rattle.tree.proofs.inner.root_of.Goals as goal

pub overflow_sub-e : goal.overflow_sub-e
overflow_sub-e c =
    let run-there : node_run ≤ length c.args.store.now = ends_run c.requires.tree c.args.store.now c.requires.ends in
    run-there

pub bounds-store-e : goal.bounds-store-e
bounds-store-e c =
    let run-there : node_run ≤ length c.args.store.now = ends_run c.requires.tree c.args.store.now c.requires.ends in
    omega (arith, run-there)

pub returns-then-head-ne-NODE_RUN : goal.returns-then-head-ne-NODE_RUN
returns-then-head-ne-NODE_RUN c = λ t e. root_leaf t c.args.store.now c.from-head.result e c.from-head.ensures c.if-head-ne-NODE_RUN.true

pub bounds-store-e-2 : goal.bounds-store-e-2
bounds-store-e-2 c =
    let run-there : node_run ≤ length c.args.store.now = ends_run c.requires.tree c.args.store.now c.requires.ends in
    omega (arith, run-there)

pub bounds-store-e-3 : goal.bounds-store-e-3
bounds-store-e-3 c =
    let run-there : node_run ≤ length c.args.store.now = ends_run c.requires.tree c.args.store.now c.requires.ends in
    omega (arith, run-there)

pub overflow_sub-result : goal.overflow_sub-result
overflow_sub-result c = omega (arith, count_room c.requires.tree c.args.store.now c.requires.ends (sym c.from-head.ensures ∙ c.if-head-ne-NODE_RUN.false), c.from-k.ensures)

pub returns : goal.returns
returns c = λ t e. root_node t c.args.store.now _ c.from-k.result e (sym c.from-head.ensures ∙ c.if-head-ne-NODE_RUN.false) refl c.from-k.ensures
