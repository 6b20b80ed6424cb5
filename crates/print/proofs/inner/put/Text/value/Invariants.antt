use Rattle.std.proofs.Common.{◌≡◌, ◌++◌, length, take, reverse}
use Rattle.rules.specs.Print.{nets}
use Rattle.print.proofs.inner.put.Text.value.Given as goal

abbrev pub invariant-loop-n : goal.invariant-loop-n
invariant-loop-n g l = l.self ≡ l.initial.self ++ nets (take (length l.yielded) (reverse l.ns))
