use Rattle.lists.specs.Vec.{vec}
use Rattle.rules.specs.Bounds.{width_max}
use Rattle.rules.specs.Closed.{branch, drives}
use Rattle.rules.specs.Emit.{appended}
use Rattle.std.proofs.Common.{take, ◌≡◌}
use Rattle.muxes.proofs.inner.join.Given as goal

abbrev pub invariant-loop-i : goal.invariant-loop-i
invariant-loop-i l = (l.table ≡ appended l.k (branch l.select (take l.i l.one) (take l.i l.zero)) l.initial.table) × (l.nets ≡ vec width_max 0 (drives l.k l.i))
