use Rattle.evaluate.proofs.Turns.{all_chain}
use Rattle.rules.specs.Bounds.{mux_first}
use Rattle.rules.specs.Trits.{is_trit}
use Rattle.std.proofs.Common.{rules, tests, ◌∙◌, take}
use Rattle.std.proofs.lemmas.Iterator.Search.{all_from_yields_List}
use Rattle.std.proofs.lemmas.Iterator.{YieldsList-from_slice, YieldsList-from_take}
use Rattle.evaluate.proofs.all_trits.Goals as goal

pub returns : goal.returns
returns c =
    all_from_yields_List is_trit _ _ _ c.all.ensures.ran (YieldsList-from_take mux_first (YieldsList-from_slice c.args.trits.now cc) cc) (λ x b q k. search (rules, tests))
    ∙ all_chain is_trit (take mux_first c.args.trits.now)
