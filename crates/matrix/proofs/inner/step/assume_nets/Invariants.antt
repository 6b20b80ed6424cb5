use mathlib.Core.Path.{◌≡◌}
use Rattle.lists.specs.Lists.{map_to}
use Rattle.rules.specs.Matrix.{swap}
use Rattle.matrix.proofs.inner.step.assume_nets.Given as goal

abbrev pub invariant-loop-net : goal.invariant-loop-net
invariant-loop-net l = l.net-items ≡ map_to (swap l.target l.bit) l.net-index l.initial.net-items
