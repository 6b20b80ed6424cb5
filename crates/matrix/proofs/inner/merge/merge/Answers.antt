use mathlib.Core.List.{[], ◌++◌, ◌∷◌}
use mathlib.Core.Path.{◌∙◌, ap}
use Rattle.matrix.specs.Mat.{matrix_from, view}
use Rattle.rows.specs.declared.Row.{Row}
use Rattle.rows.specs.Rows as rows
use Rattle.rules.specs.Matrix.{merge_rows}
use native.Mathlib.Omega.{arith}
use Rattle.matrix.proofs.MergeRows.{merged_clean, merged_end, merged-fits, merged_next, merged_start}
use Rattle.matrix.proofs.StepHeld.{clean_used, front_at, past, row_tidy}
use Rattle.matrix.proofs.inner.merge.merge.Goals as goal

pub loop-row-init : goal.loop-row-init
loop-row-init c = merged_start c.args.m c.args.child c.args.t c.requires.0 c.requires.1 c.requires.2 _ _ c.joined.ensures c.blank.ensures

pub add_row-made-requires : goal.add_row-made-requires
add_row-made-requires c =
    let a = c.args in
    let v = c.loop-row.invariant in
    let e = front_at a.m.count a.m.rows c.loop-row.row-index past c.loop-row-test.true in
    let z = merged_clean a.m a.child a.t c.requires.0 c.requires.1 c.requires.2 _ c.loop-row.row-index e.0 v in
    let f = merged-fits a.m a.child a.t c.requires.0 c.requires.1 c.requires.2 _ c.loop-row.row-index e.0 v in
    (z.0, c.requires.1, rw e.1 (row_tidy a.m c.requires.0 c.loop-row.row-index e.0), rw e.1 f.0, rw e.1 f.1)

pub loop-row-preserved : goal.loop-row-preserved
loop-row-preserved c =
    let a = c.args in
    let made = c.loop-row.made in
    let e = front_at a.m.count a.m.rows c.loop-row.row-index past c.loop-row-test.true in
    let n = c.add_row-made.ensures ∙ ap (λ (r : Row). matrix_from (record { nets = (view made).nets; rows = (view made).rows ++ merge_rows a.t (view a.child) (rows.view r ∷ []) })) e.1 in
    merged_next a.m a.child a.t c.requires.0 c.requires.1 c.requires.2 made c.loop-row.row-index e.0 c.loop-row.invariant _ n
