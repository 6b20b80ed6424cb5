use Rattle.std.proofs.Common.{◌+◌, Some, [], refl, sym, ◌≡◌, ◌∙◌, ◌≤◌, ap, arith, length, take}
use Rattle.lists.specs.Vec.{vec, vec_none}
use Rattle.rules.specs.Bounds.{rules_max}
use Rattle.rules.specs.Matrix.{union}
use Rattle.sets.proofs.Unions.{fitted_some, fitted_many, front-vec, holds_end, holds_longer, holds_start, holds_turn, rules_path}
use Rattle.sets.specs.Sets.{rules_from}
use Rattle.sets.proofs.inner.collect.Goals as goal

pub loop-x-init : goal.loop-x-init
loop-x-init c = (omega arith, holds_start _ _ _ _ _ _ (cc) (vec_none (rules_max + 1) 0) refl)

pub returns-then-count-gt-RULES_MAX : goal.returns-then-count-gt-RULES_MAX
returns-then-count-gt-RULES_MAX c =
    let t = holds_turn _ _ _ _ _ _ c.loop-x.invariant.1 _ _ _ _ c.in-Some.ensures.steps c.insert-count.ensures in
    fitted_many _ (omega (arith, holds_longer _ _ _ _ _ _ t))

pub loop-x-preserved : goal.loop-x-preserved
loop-x-preserved c = (c.if-count-gt-RULES_MAX.false, holds_turn _ _ _ _ _ _ c.loop-x.invariant.1 _ _ _ _ c.in-Some.ensures.steps c.insert-count.ensures)

pub returns : goal.returns
returns c =
    let l = c.loop-x in
    let u = union c.args.rules.now [] in
    let e : (l.items ≡ vec (rules_max + 1) 0 u) × (l.count ≡ length u) = holds_end _ _ _ _ _ _ l.invariant.1 c.in-None.ensures.steps.0 in
    let k : length u ≤ rules_max = rw (← e.1) l.invariant.0 in
    sym (fitted_some u k ∙ ap Some (sym (rules_path _ (rules_from u) (c.copy_from_slice.ensures.after ∙ ap (take rules_max) e.0 ∙ front-vec rules_max (rules_max + 1) u (omega arith) k) e.1)))
