use Rattle.rows.proofs.Laws.{place_or_len}
use Rattle.std.proofs.Common.{eqb, rules, tests}
use Rattle.std.proofs.lemmas.Iterator.{YieldsList-from_slice}
use Rattle.std.proofs.lemmas.Iterator.Search.{position_from_yields_List}
use Rattle.rows.proofs.inner.first_of.Goals as goal

pub returns : goal.returns
returns c =
    let a = c.args in
    let r = position_from_yields_List (λ y. eqb y a.x) _ _ _ c.position.ensures.ran (YieldsList-from_slice a.nets.now cc) (λ x b q k. search (rules, tests)) in
    place_or_len a.x a.nets.now _ _ r c.unwrap_or.ensures
