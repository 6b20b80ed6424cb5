use mathlib.Core.Path.{◌∙◌, sym}
use Rattle.matrix.proofs.MergeRows.{named-fits, named_is, other_fits, other_is, other_room}
use Rattle.matrix.proofs.inner.merge.add_row.Goals as goal

pub add_joined-requires : goal.add_joined-requires
add_joined-requires c =
    let a = c.args in
    let f = named-fits a.made a.child a.row a.t c.requires.0 c.requires.1 c.requires.2 c.requires.3 c.requires.4 (sym c.holds.ensures ∙ c.if-holds.true) in
    (c.requires.0, c.requires.1, c.requires.2, f.0, f.1)

pub returns-then-holds : goal.returns-then-holds
returns-then-holds c =
    let a = c.args in
    named_is a.made a.child a.row a.t c.requires.0 c.requires.1 c.requires.2 c.requires.3 c.requires.4 _ (sym c.holds.ensures ∙ c.if-holds.true) c.add_joined.ensures

pub alone-requires : goal.alone-requires
alone-requires c =
    let a = c.args in
    (c.requires.2, other_fits a.made a.child a.row a.t c.requires.0 c.requires.1 c.requires.2 c.requires.3 c.requires.4 (sym c.holds.ensures ∙ c.if-holds.false))

pub bounds-made-made : goal.bounds-made-made
bounds-made-made c =
    let a = c.args in
    other_room a.made a.child a.row a.t c.requires.0 c.requires.1 c.requires.2 c.requires.3 c.requires.4 (sym c.holds.ensures ∙ c.if-holds.false)

pub returns : goal.returns
returns c =
    let a = c.args in
    other_is a.made a.child a.row a.t c.requires.0 c.requires.1 c.requires.2 c.requires.3 c.requires.4 (sym c.holds.ensures ∙ c.if-holds.false) _ c.alone.ensures
