use Prim.Native.Nat.{ℕ, ◌+◌}
use mathlib.Core.Bool.{true≢false}
use mathlib.Core.List.{List}
use mathlib.Core.Path.{refl, sym, ◌∙◌}
use native.Mathlib.Omega.{arith}
use borrow.Author.Tests.{not-false, not-true}
use lib.Seq.{length-take-le}
use Rattle.tree.proofs.Forms.{parts, split, zeros_of}
use Rattle.tree.specs.Form.{LastOf}
use Rattle.std.proofs.Common.{ap}
use Rattle.std.proofs.Common.{not}
use Rattle.tree.proofs.inner.branch_of.Goals as goal

pub returns-then-not-zeros : goal.returns-then-not-zeros
unfolding LastOf
returns-then-not-zeros c =
    λ w.
    let xs : List ℕ = c.args.store.now in
    let s = zeros_of c.zeros.result (c.args.e + 3) xs c.zeros.ensures in
    s.no (not-true _ (ap not c.if-not-zeros.true)) (parts xs c.args.e _ c.requires.0 c.requires.1 refl w).pad

pub returns-then-test-gt-CELL_MAX : goal.returns-then-test-gt-CELL_MAX
unfolding LastOf
returns-then-test-gt-CELL_MAX c = λ w. omega (arith, c.if-test-gt-CELL_MAX.true, (parts c.args.store.now c.args.e _ c.requires.0 c.requires.1 refl w).low)

pub returns-then-e-k : goal.returns-then-e-k
unfolding LastOf
returns-then-e-k c = λ w. omega (arith, c.if-e-k.true, (parts c.args.store.now c.args.e c.from-k.result c.requires.0 c.requires.1 c.from-k.ensures w).room)

pub returns-then-not-untested : goal.returns-then-not-untested
unfolding LastOf
returns-then-not-untested c = λ w. true≢false (sym (parts c.args.store.now c.args.e c.from-k.result c.requires.0 c.requires.1 c.from-k.ensures w).none ∙ sym c.untested.ensures ∙ not-true _ (ap not c.if-not-untested.true))

pub returns : goal.returns
unfolding LastOf
returns c =
    let xs : List ℕ = c.args.store.now in
    let s = zeros_of c.zeros.result (c.args.e + 3) xs c.zeros.ensures in
    split xs c.args.e c.from-k.result c.requires.0 c.requires.1 c.from-k.ensures
    (s.yes (not-false _ (ap not c.if-not-zeros.false))) c.if-test-gt-CELL_MAX.false c.if-e-k.false (sym c.untested.ensures ∙ not-false _ (ap not c.if-not-untested.false))
