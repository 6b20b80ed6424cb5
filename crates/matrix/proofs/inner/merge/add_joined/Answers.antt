use mathlib.Core.List.{append-nil}
use mathlib.Core.Path.{◌∙◌, ap, refl, sym}
use native.Mathlib.Omega.{arith}
use Rattle.lists.specs.Vec.{vec}
use Rattle.matrix.proofs.MergeRows.{part-fits, part_turn, parts_are}
use Rattle.matrix.proofs.StepHeld.{clean_held, clean_used, front_at, past, row_tidy, zero_row}
use Rattle.rows.specs.declared.Row.{Row}
use Rattle.rows.specs.Rows as rows
use Prim.Native.Nat.{◌+◌, ℕ}
use Rattle.rules.specs.Bounds.{rows_max}
use Rattle.rules.specs.Matrix.{joined}
use Rattle.matrix.proofs.inner.merge.add_joined.Goals as goal

pub loop-i-init : goal.loop-i-init
loop-i-init c =
    record { rows = (clean_held c.args.made c.requires.0).rows ∙ ap (vec rows_max zero_row) (sym (append-nil _)); value = refl; columns = refl; count = refl }

pub joined-requires : goal.joined-requires
joined-requires c =
    let a = c.args in
    let e = front_at a.child.count a.child.rows c.loop-i.i past c.loop-i-test.true in
    let f = part-fits a.made a.child a.row c.requires.0 c.requires.1 c.requires.2 c.requires.3 c.requires.4 c.loop-i.i e.0 in
    (c.requires.2, rw e.1 (row_tidy a.child c.requires.1 c.loop-i.i e.0), rw e.1 f.0, rw e.1 f.1)

pub loop-i-preserved : goal.loop-i-preserved
loop-i-preserved c =
    let a = c.args in
    let v = c.loop-i.invariant in
    let e = front_at a.child.count a.child.rows c.loop-i.i past c.loop-i-test.true in
    let y = c.joined.ensures ∙ ap (λ (r : Row). rows.row_from (joined (rows.view a.row) (rows.view r))) e.1 in
    let t = part_turn a.made a.child a.row c.requires.0 c.requires.1 c.requires.2 c.requires.3 c.requires.4 c.loop-i.i e.0 _ _ v.rows y in
    record { rows = rw v.count t; value = v.value; columns = v.columns; count = v.count }

pub returns : goal.returns
returns c =
    let a = c.args in
    let v = c.loop-i.invariant in
    let l = clean_used a.child c.requires.1 in
    parts_are a.made a.child a.row c.requires.0 c.requires.1 c.requires.2 c.requires.3 c.requires.4 _ c.loop-i.i (omega (arith, l, c.loop-i-test.false)) v.value v.columns v.rows (ap (λ (n : ℕ). n + a.child.count) v.count)
