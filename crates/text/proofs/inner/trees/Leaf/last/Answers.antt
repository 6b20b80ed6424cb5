use Rattle.std.proofs.Common.{ap, ◌∙◌}
use Rattle.rules.specs.Refusals.{all_low}
use Rattle.text.proofs.Lays.{cells-few, last_is}
use Rattle.text.proofs.inner.trees.Leaf.last.Goals as goal

pub invariant_of-result : goal.invariant_of-result
invariant_of-result c =
    let xs = c.args.store.now in
    record { few = cells-few xs c.args.n c.requires; low = ap all_low (last_is xs c.args.n) ∙ c.requires.low }

pub returns : goal.returns
returns c = last_is c.args.store.now c.args.n
