use Rattle.std.proofs.Common.{Some, sym, ◌≡◌, ◌∙◌, ap, arith, length, length-take-le, take}
use Rattle.rules.specs.Bounds.{rules_max}
use Rattle.sets.proofs.Unions.{copied, fitted_some, rules_path}
use Rattle.sets.specs.Sets.{rules_from}
use Rattle.sets.proofs.Wide.fit.Goals as goal

pub returns : goal.returns
returns c =
    let l = take c.args.self.count c.args.self.items in
    let k : length l ≡ c.args.self.count = length-take-le _ c.args.self.items (omega (arith, c.if-self-gt-RULES_MAX.false, c.well_formed)) in
    sym (fitted_some l (omega (arith, k, c.if-self-gt-RULES_MAX.false)) ∙ ap Some (sym (rules_path _ (rules_from l) (rw c.copy_from_slice.ensures.after (copied rules_max l (omega (arith, k)))) (sym k))))
