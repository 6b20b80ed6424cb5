use Rattle.std.proofs.Common.{refl, rules, tests}
use Rattle.rules.specs.Nets.{is_name}
use Rattle.sets.proofs.Laws.{all_from_slice}
use Rattle.sets.proofs.inner.names.Goals as goal

pub returns : goal.returns
returns c = all_from_slice is_name c.args.items.now _ _ _ _ c.all.ensures.ran (cc) (λ x b q k. search (rules, tests)) refl
