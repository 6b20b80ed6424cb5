use Rattle.std.proofs.Common.{refl, rules, tests}
use Rattle.matrix.specs.Faults.{named}
use Rattle.sets.proofs.Laws.{all_from_slice}
use Rattle.matrix.proofs.inner.check.rows_named.Goals as goal

pub returns : goal.returns
returns c = all_from_slice named c.args.rows.now _ _ _ _ c.all.ensures.ran (cc) (λ x b q k. search (rules, tests)) refl
