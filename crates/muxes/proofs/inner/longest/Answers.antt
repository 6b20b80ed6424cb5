use Rattle.muxes.proofs.Hots.{mem_held}
use Rattle.muxes.proofs.Leaves.{among_more, any_tree, from_alien, from_crowd, from_end, from_more}
use Rattle.rules.specs.Prefix.{among, crowded}
use Rattle.rules.specs.Tree.{leaf}
use Rattle.std.proofs.Common.{[], arith, get_or, refl, sym, take, ◌+◌, ◌∙◌}
use Rattle.muxes.proofs.inner.longest.Goals.{then-not-contains-via-then-not-contains, then-not-contains-via-else-not-contains+then-some_leaf}
use Rattle.muxes.proofs.inner.longest.Goals as goal

pub loop-i-init : goal.loop-i-init
unfolding among
loop-i-init c = (refl, λ t e f. omega arith)

pub returns-then-not-contains : goal.returns-then-not-contains
returns-then-not-contains c =
    let os = c.args.outputs.now in
    let es = c.args.enables.now in
    let i = c.loop-i.i in
    let v = c.loop-i.invariant in
    let held = sym (mem_held (get_or es i 0) os) ∙ sym c.contains.ensures.value in
    elim c.then-not-contains.branch [
      | then-not-contains-via-then-not-contains w ↦ λ t e f. omega (arith, v.1 t e f, from_alien os es t i c.loop-i-test.true v.0 (held ∙ w.if-not-contains.true))
      | then-not-contains-via-else-not-contains+then-some_leaf w ↦
          λ t e f.
          let q = sym (any_tree (crowded (take (i + 1) es)) t c.args.store.now e f) ∙ sym w.some_leaf.ensures ∙ w.if-some_leaf.true in
          omega (arith, v.1 t e f, from_crowd os es t i c.loop-i-test.true v.0 (held ∙ w.if-not-contains.false) q)
    ]

pub loop-i-preserved : goal.loop-i-preserved
loop-i-preserved c =
    let os = c.args.outputs.now in
    let es = c.args.enables.now in
    let i = c.loop-i.i in
    let v = c.loop-i.invariant in
    let m = sym (mem_held (get_or es i 0) os) ∙ sym c.contains.ensures.value ∙ c.if-not-contains.false in
    (among_more os es (leaf []) i c.loop-i-test.true v.0 m, λ t e f. let q = sym (any_tree (crowded (take (i + 1) es)) t c.args.store.now e f) ∙ sym c.some_leaf.ensures ∙ c.if-some_leaf.false in omega (arith, v.1 t e f, from_more os es t i c.loop-i-test.true v.0 m q))

pub returns : goal.returns
returns c = λ t e f. omega (arith, c.loop-i.invariant.1 t e f, from_end c.args.outputs.now c.args.enables.now t c.loop-i.i c.loop-i-test.false)
