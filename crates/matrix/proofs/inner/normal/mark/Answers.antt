use mathlib.Core.Bool.{◌||◌, false, not}
use mathlib.Core.Path.{◌∙◌, ◌≡◌, refl}
use native.Mathlib.Omega.{arith}
use lib.ListN.{get_or}
use Prim.Native.Nat.{ℕ}
use Rattle.lists.specs.Vec.{vec}
use Rattle.matrix.proofs.NormalFlags.{flags_end, flags_turn}
use Rattle.rules.specs.Bounds.{columns_max}
use Rattle.rules.specs.Trits.{is_x}
use Rattle.matrix.proofs.inner.normal.mark.Goals as goal
use Rattle.matrix.proofs.inner.normal.mark.Goals.{then-used-j, else-used-j}

pub loop-j-init : goal.loop-j-init
unfolding vec
loop-j-init c = refl

pub loop-j-preserved : goal.loop-j-preserved
loop-j-preserved c =
    let a = c.args in
    let j = c.loop-j.j in
    let f : c.if-used-j.made ≡ (get_or a.used j false || not (is_x (get_or a.pattern.now j 0))) =
    elim c.if-used-j.branch [ then-used-j w ↦ w.made-is ∙ (let e = w.if-used-j.true in rw e) | else-used-j w ↦ w.made-is ∙ (let e = w.if-used-j.false in rw e) ] in
    flags_turn (λ (j mask : ℕ). get_or a.used j false || not (is_x mask)) columns_max a.pattern.now _ j _ (omega arith) c.requires c.loop-j.invariant f

pub returns : goal.returns
returns c = flags_end (λ (j mask : ℕ). get_or c.args.used j false || not (is_x mask)) columns_max c.args.pattern.now _ c.loop-j.j (omega arith) c.loop-j.invariant
