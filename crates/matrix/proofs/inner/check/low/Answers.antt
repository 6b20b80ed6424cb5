use Rattle.std.proofs.Common.{refl, rules, tests, not, ℕ}
use Rattle.rules.specs.Nets.{over}
use Rattle.sets.proofs.Laws.{all_from_slice}
use Rattle.matrix.proofs.inner.check.low.Goals as goal

pub returns : goal.returns
returns c = all_from_slice (λ (x : ℕ). not (over x)) c.args.items.now _ _ _ _ c.all.ensures.ran (cc) (λ x b q k. search (rules, tests)) refl
