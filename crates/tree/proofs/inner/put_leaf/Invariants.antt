use Rattle.std.specs.Prelude.{◌≡◌, length, map}
use lib.Seq.{paste}
use Rattle.rules.specs.Nets.{number}
use Rattle.tree.proofs.inner.put_leaf.Given as goal

abbrev pub invariant-loop-i : goal.invariant-loop-i
invariant-loop-i l = (l.store ≡ paste l.initial.store 1 (map number l.rules) l.i) × (length l.store ≡ length l.initial.store)
