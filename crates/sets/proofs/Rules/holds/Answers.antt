use Rattle.sets.proofs.Laws.{mem_from_list}
use Rattle.sets.proofs.Rules.holds.Goals as goal

pub returns : goal.returns
returns c = mem_from_list c.args.x c.slice.result.now _ _ c.contains.ensures.value c.slice.ensures.items
