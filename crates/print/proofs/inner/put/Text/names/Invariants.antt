use Rattle.std.proofs.Common.{◌≡◌, ◌++◌, take}
use Rattle.rules.specs.Print.{nets}
use Rattle.print.proofs.inner.put.Text.names.Given as goal

abbrev pub invariant-loop-n : goal.invariant-loop-n
invariant-loop-n g l = l.self ≡ l.initial.self ++ nets (take l.n-index l.ns)
