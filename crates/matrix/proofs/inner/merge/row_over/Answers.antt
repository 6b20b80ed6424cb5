use borrow.Author.Rules.{rules}
use lib.ListN.{length}
use mathlib.Core.Path.{◌∙◌, ◌≡◌, sym}
use native.Mathlib.Omega.{arith}
use Rattle.matrix.proofs.MergeCount.{over-named, over_other}
use Rattle.matrix.specs.Mat.{view}
use Rattle.rows.proofs.Laws.{length-take_most}
use Rattle.rows.specs.Rows as rows
use Rattle.rules.specs.Bounds.{rules_max}
use Rattle.matrix.proofs.inner.merge.row_over.Goals as goal

pub returns-then-holds : goal.returns-then-holds
returns-then-holds c =
    let a = c.args in
    c.over.ensures ∙ over-named a.t (view a.child.now) (rows.view a.row) (sym c.holds.ensures ∙ c.if-holds.true)

pub returns-else-holds : goal.returns-else-holds
returns-else-holds c =
    let a = c.args in
    let k : length a.row.rules.items ≡ rules_max = search rules in
    let l = length-take_most a.row.rules.count a.row.rules.items in
    c.if-holds.false ∙ over_other a.t (view a.child.now) (rows.view a.row) (sym c.holds.ensures ∙ c.if-holds.false) (omega (arith, l.1))
