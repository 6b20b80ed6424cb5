use mathlib.Core.Bool.{not}
use mathlib.Core.List.{List, map}
use mathlib.Core.Path.{◌∙◌, ap, sym}
use Rattle.lists.specs.Lists.{all}
use Rattle.matrix.proofs.Checks.{rows_viewed}
use Rattle.matrix.proofs.MergeCount.{any_many, few_with}
use Rattle.rows.specs.declared.Row.{Row}
use Rattle.rows.specs.Rows as rows
use Rattle.rules.specs.Matrix.{Row as RowOf}
use Rattle.sets.specs.Sets.{list_of}
use Rattle.std.proofs.Common.{rules, tests}
use Rattle.std.proofs.lemmas.Iterator.{YieldsList-from_slice}
use Rattle.std.proofs.lemmas.Iterator.Search.{any_from_yields_List}
use Rattle.matrix.proofs.inner.merge.over.Goals as goal

pub returns : goal.returns
returns c =
    let named = list_of c.args.named in
    let l = c.rows_in_use.result.now in
    any_from_yields_List (λ (r : Row). not (few_with named (rows.view r))) _ _ _ c.any.ensures.ran (YieldsList-from_slice l cc) (λ x b q k. search (rules, tests))
    ∙ any_many named l ∙ ap (λ (rs : List RowOf). not (all (few_with named) rs)) (ap (map rows.view) c.rows_in_use.ensures.items ∙ sym (rows_viewed c.args.child.now))
