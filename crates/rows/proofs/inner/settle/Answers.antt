use mathlib.Core.Path.{sym, ◌∙◌}
use native.Mathlib.Omega.{arith}
use Rattle.rows.proofs.Walked.{first_is, going, going_drop, going_end, going_on}
use Rattle.rows.proofs.inner.settle.Goals as goal

pub bounds-pattern-f : goal.bounds-pattern-f
bounds-pattern-f c =
    let a = c.args in
    let f = first_is a.nets.now a.firsts c.loop-j.j c.requires.narrow (omega arith) c.requires.looked_up in
    omega (arith, f.below, c.requires.narrow)

pub returns-then-drops : goal.returns-then-drops
returns-then-drops c =
    let a = c.args in
    let d = sym c.drops.ensures ∙ c.if-drops.true in
    sym (going_drop a.nets.now a.firsts a.pattern c.loop-j.pattern c.loop-j.j _ c.requires.narrow (omega arith) c.from-net.ensures c.requires.looked_up c.loop-j.invariant d)

pub bounds-pattern-f-in-loop-j : goal.bounds-pattern-f-in-loop-j
bounds-pattern-f-in-loop-j c =
    let a = c.args in
    let f = first_is a.nets.now a.firsts c.loop-j.j c.requires.narrow (omega arith) c.requires.looked_up in
    omega (arith, f.below, c.requires.narrow)

pub loop-j-preserved : goal.loop-j-preserved
loop-j-preserved c =
    let a = c.args in
    let d = sym c.drops.ensures ∙ c.if-drops.false in
    going_on a.nets.now a.firsts a.pattern c.loop-j.pattern c.loop-j.j _ c.requires.narrow (omega arith) c.from-net.ensures c.requires.looked_up c.loop-j.invariant _ d c.takes.ensures

pub returns : goal.returns
returns c =
    let a = c.args in
    sym (going_end a.nets.now a.pattern c.loop-j.pattern c.loop-j.j (omega arith) c.loop-j.invariant)
