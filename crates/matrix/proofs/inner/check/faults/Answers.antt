use Rattle.std.proofs.Common.{rules, tests}
use Rattle.matrix.proofs.Checks.{faults_is}
use Rattle.matrix.specs.Faults.{few, shaped}
use Rattle.sets.proofs.Laws.{all_from_slice}
use Rattle.matrix.proofs.inner.check.faults.Goals as goal

pub returns : goal.returns
returns c =
    let m = c.args.m.now in
    let rs = c.rows_in_use-rows in
    faults_is m _ _ _ _ _ _ c.nets_in_use-nets.ensures.items rs.ensures.items c.is_formed.ensures
    (all_from_slice (shaped m.columns) rs.result.now _ _ _ _ c.all-shaped.ensures.ran (cc) (λ x b q k. search (rules, tests)) rs.ensures.items)
    c.is_low.ensures
    (all_from_slice few rs.result.now _ _ _ _ c.all-few.ensures.ran (cc) (λ x b q k. search (rules, tests)) rs.ensures.items)
