use Rattle.rows.proofs.Laws.{all_x_is}
use Rattle.rules.specs.Trits.{is_x}
use Rattle.std.proofs.Common.{◌∙◌, rules, tests}
use Rattle.std.proofs.lemmas.Iterator.{YieldsList-from_slice}
use Rattle.std.proofs.lemmas.Iterator.Search.{all_from_yields_List}
use Rattle.rows.proofs.inner.undef.Goals as goal

pub returns : goal.returns
returns c =
    let ms = c.args.pattern.now in
    all_from_yields_List is_x _ _ _ c.all.ensures.ran (YieldsList-from_slice ms cc) (λ x b q k. search (rules, tests)) ∙ all_x_is ms
