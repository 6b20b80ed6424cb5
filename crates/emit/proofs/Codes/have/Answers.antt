use Rattle.emit.specs.Calls.{between}
use Rattle.evaluate.proofs.Turns.{all_chain}
use Rattle.std.proofs.Common.{rules, tests, ◌∙◌}
use Rattle.std.proofs.lemmas.Iterator.Search.{all_from_yields_List}
use Rattle.std.proofs.lemmas.Iterator.{YieldsList-from_slice}
use Rattle.emit.proofs.Codes.have.Goals as goal

pub returns : goal.returns
returns c =
    let p = between c.args.self.first c.args.self.last in
    all_from_yields_List p _ _ _ c.all.ensures.ran (YieldsList-from_slice c.args.nets.now cc) (λ x b q k. search (rules, tests)) ∙ all_chain p c.args.nets.now
