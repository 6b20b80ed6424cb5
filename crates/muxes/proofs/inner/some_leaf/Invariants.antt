use Rattle.muxes.specs.Leaves.{any_leaf}
use Rattle.rules.specs.Bounds.{node_run}
use Rattle.std.proofs.Common.{length, ◌/◌, ◌≡◌}
use Rattle.std.specs.Slice.Iter.{chunks_exact_rest, chunks_exact_size}
use Rattle.muxes.proofs.inner.some_leaf.Given as goal

abbrev pub invariant-loop-entry : goal.invariant-loop-entry
invariant-loop-entry g l =
    let rest = chunks_exact_rest l.entry-iterator in
    let p = g.T.LeafTest.test l.test in
    (chunks_exact_size l.entry-iterator ≡ node_run) × (any_leaf p (length rest / node_run) rest ≡ any_leaf p (length l.store / node_run) l.store)
