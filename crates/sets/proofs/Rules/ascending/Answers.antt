use Rattle.std.proofs.Common.{◌∙◌, ap, leb, List, rules, tests, ℕ}
use Rattle.std.proofs.lemmas.Iterator.{YieldsList-from_slice}
use Rattle.std.proofs.lemmas.Iterator.Consumers.{YieldsList-at, YieldsList-from_filter}
use Rattle.rules.specs.Given.{ascends, cells}
use Rattle.sets.proofs.Ascends.{ascends_from_is_sorted_by, filter_cells}
use Rattle.sets.proofs.Rules.ascending.Goals as goal

pub returns : goal.returns
returns c =
    let s = c.slice.result.now in
    ascends_from_is_sorted_by _ _ _ _ (λ x y b q k. search (rules, tests)) _ _ _ c.is_sorted_by.ensures.ran
    (YieldsList-from_filter _ (λ (x : ℕ). leb 3 x) (YieldsList-at c.filter.ensures.source (YieldsList-from_slice s cc)) c.filter.ensures.closure (λ x b q k. search (rules, tests)))
    ∙ ap ascends (filter_cells s) ∙ ap (λ (l : List ℕ). ascends (cells l)) c.slice.ensures.items
