use Rattle.std.specs.Prelude.{◌≡◌, ◌/◌, length}
use Rattle.rules.specs.Bounds.{node_run}
use Rattle.tree.specs.Form.{none_tests}
use Rattle.tree.proofs.inner.untested.Given as goal

abbrev pub invariant-loop-run : goal.invariant-loop-run
invariant-loop-run l =
    (l.run-iterator.size ≡ node_run) × (none_tests l.n (length l.run-iterator.rest.now / node_run) l.run-iterator.rest.now ≡ none_tests l.n (length l.store / node_run) l.store)
