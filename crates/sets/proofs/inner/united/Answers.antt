use Rattle.std.proofs.Common.{◌*◌, ◌∙◌, [], ◌∷◌, ap, arith, length, length-append, List, ℕ}
use Rattle.lists.specs.Vec.{vec}
use Rattle.rules.specs.Bounds.{rules_max}
use Rattle.sets.proofs.Unions.{copied, holds-room, holds_end, holds_slots, holds_start, holds_turn, wide_path}
use Rattle.rules.specs.Matrix.{union}
use Rattle.sets.specs.Sets.{list_of, wide_from}
use Rattle.sets.proofs.inner.united.Goals as goal

pub loop-x-init : goal.loop-x-init
loop-x-init c =
    let s = c.slice-used in
    let v = copied (2 * rules_max) s.result.now (omega (arith, s.ensures.few)) ∙ ap (vec (2 * rules_max) 0) s.ensures.items in
    holds_start _ _ _ _ _ _ (cc) (rw c.copy_from_slice.ensures.after v) (ap (λ (l : List ℕ). length l) s.ensures.items)

pub insert-count-requires : goal.insert-count-requires
insert-count-requires c =
    let h = c.loop-x.invariant in
    let a = ap (λ (l : List ℕ). length l) c.slice.ensures.items in
    let b = ap (λ (l : List ℕ). length l) c.slice-used.ensures.items in
    let y = ap (λ (l : List ℕ). length l) c.in-Some.ensures.steps ∙ length-append c.next.new.self.iter.rest.now (c.in-Some.x.now ∷ []) in
    omega (arith, holds_slots _ _ _ _ _ _ h, holds-room _ _ _ _ _ _ h, a, b, y, c.slice.ensures.few, c.slice-used.ensures.few)

pub loop-x-preserved : goal.loop-x-preserved
loop-x-preserved c = holds_turn _ _ _ _ _ _ c.loop-x.invariant _ _ _ _ c.in-Some.ensures.steps c.insert-count.ensures

pub returns : goal.returns
returns c =
    let u = union (list_of c.args.a) (list_of c.args.b) in
    let e = holds_end _ _ _ _ _ _ c.loop-x.invariant c.in-None.ensures.steps.0 in
    wide_path _ (wide_from u) e.0 e.1
