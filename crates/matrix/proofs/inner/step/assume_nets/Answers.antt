use lib.ListN.{get_or, length}
use mathlib.Core.Path.{◌∙◌, ◌≡◌, ap}
use native.Mathlib.Omega.{arith}
use Prim.Native.Nat.{ℕ}
use Rattle.lists.specs.Lists.{map_to, map_turn}
use Rattle.matrix.proofs.StepLaws.{map_all}
use Rattle.rules.specs.Matrix.{swap}
use Rattle.matrix.proofs.inner.step.assume_nets.Goals as goal

pub loop-net-preserved : goal.loop-net-preserved
loop-net-preserved c =
    let a = c.args in
    map_turn (swap a.target a.bit) a.nets.now _ 0 c.loop-net.net-index _ c.loop-net-test.true c.loop-net.invariant
    (c.swap.ensures ∙ ap (λ (b : ℕ). swap a.target b (get_or c.loop-net.net-items c.loop-net.net-index 0)) c.from.ensures)

pub returns : goal.returns
returns c =
    let a = c.args in
    let f = swap a.target a.bit in
    let e : c.loop-net.net-index ≡ length a.nets.now = omega (arith, c.loop-net-test.false, c.loop-net.auto.net-index-end) in
    c.loop-net.invariant ∙ ap (λ (i : ℕ). map_to f i a.nets.now) e ∙ map_all f a.nets.now
