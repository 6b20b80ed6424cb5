use Rattle.std.proofs.Common.{rules, ◌≡◌, ◌∙◌, ◌*◌, ◌≤◌, ap, arith, length, sym, take}
use Rattle.matrix.proofs.MergeRows.{joined_is}
use Rattle.rules.specs.Bounds.{rules_max}
use Rattle.rules.specs.Matrix.{union}
use Rattle.sets.proofs.Unions.{fitted_is, wide_list}
use Rattle.sets.specs.Sets.{fitted, list_of, rules_from}
use Rattle.matrix.proofs.inner.merge.joined.Goals as goal

pub returns : goal.returns
returns c =
    let u = union (list_of c.args.row.rules) (list_of c.args.other.rules) in
    let k : length u ≤ 2 * rules_max = omega (arith, c.requires.3) in
    let w : take c.united.result.count c.united.result.items ≡ u = wide_list _ u c.united.ensures k in
    let f : c.unwrap.result ≡ rules_from u = fitted_is u _ (ap fitted (sym w) ∙ sym c.fit.ensures ∙ c.unwrap.ensures) in
    joined_is c.args.row c.args.other _ _ c.requires.0 c.requires.1 (search rules) f
