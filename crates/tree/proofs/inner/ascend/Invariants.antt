use Rattle.std.specs.Prelude.{◌≡◌, drop}
use Rattle.tree.proofs.Named.{named}
use Rattle.tree.proofs.inner.ascend.Given as goal

abbrev pub invariant-loop-n : goal.invariant-loop-n
invariant-loop-n l = named l.low (drop l.n-index l.run) ≡ named 0 l.run
