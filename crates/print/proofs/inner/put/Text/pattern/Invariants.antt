use Rattle.std.proofs.Common.{◌≡◌, ◌++◌, length, take, reverse}
use Rattle.rules.specs.Print.{grouped}
use Rattle.print.proofs.inner.put.Text.pattern.Given as goal

abbrev pub invariant-loop-i : goal.invariant-loop-i
invariant-loop-i g l = l.self ≡ l.initial.self ++ grouped 0 (take (length l.yielded) (reverse l.p))
