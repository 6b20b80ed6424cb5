use lib.ListN.{get_or, take}
use mathlib.Core.Bool.{◌||◌, false, not}
use mathlib.Core.Path.{◌≡◌}
use Prim.Native.Nat.{ℕ}
use Rattle.lists.specs.Vec.{vec}
use Rattle.rows.specs.Rows.{flags}
use Rattle.rules.specs.Bounds.{columns_max}
use Rattle.rules.specs.Trits.{is_x}
use Rattle.matrix.proofs.inner.normal.mark.Given as goal

abbrev pub invariant-loop-j : goal.invariant-loop-j
invariant-loop-j l = l.made ≡ vec columns_max false (take l.j (flags (λ (j mask : ℕ). get_or l.used j false || not (is_x mask)) l.pattern))
