use mathlib.Core.Bool.{not}
use mathlib.Core.List.{[], ◌∷◌, List, map}
use mathlib.Core.Path.{◌∙◌, ap, sym}
use Rattle.lists.specs.Lists.{all}
use Rattle.matrix.proofs.Checks.{rows_viewed}
use Rattle.matrix.proofs.MergeCount.{any_over, few}
use Rattle.matrix.specs.Mat.{view}
use Rattle.rows.specs.declared.Row.{Row}
use Rattle.rows.specs.Rows as rows
use Rattle.rules.specs.Matrix.{merge_rows, Row as RowOf}
use Rattle.std.proofs.Common.{rules, tests}
use Rattle.std.proofs.lemmas.Iterator.{YieldsList-from_slice}
use Rattle.std.proofs.lemmas.Iterator.Search.{any_from_yields_List}
use Rattle.matrix.proofs.inner.merge.too_many.Goals as goal

pub returns : goal.returns
returns c =
    let t = c.args.t in
    let child = view c.args.child.now in
    let l = c.rows_in_use.result.now in
    any_from_yields_List (λ (r : Row). not (all few (merge_rows t child (rows.view r ∷ [])))) _ _ _ c.any.ensures.ran (YieldsList-from_slice l cc) (λ x b q k. search (rules, tests))
    ∙ any_over t child l ∙ ap (λ (rs : List RowOf). not (all few (merge_rows t child rs))) (ap (map rows.view) c.rows_in_use.ensures.items ∙ sym (rows_viewed c.args.m.now))
