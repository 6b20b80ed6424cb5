use Rattle.std.proofs.Common.{◌≡◌, take, map}
use Rattle.lists.specs.Vec.{vec}
use Rattle.rules.specs.Bounds.{rules_max}
use Rattle.rules.specs.Nets.{cell}
use Rattle.text.proofs.inner.trees.Leaf.end.Given as goal

abbrev pub invariant-loop-i : goal.invariant-loop-i
invariant-loop-i l = l.nets ≡ vec rules_max 0 (take l.i (map cell l.self.rules.now))
