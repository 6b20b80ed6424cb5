use Rattle.std.proofs.Common.{rules, get_or, ◌+◌, ◌≡◌, ◌∙◌, ap, arith, drop, length, sym, ◌-◌, ℕ, List, take}
use lib.Seq.{length-take-le}
use Rattle.dispatch.proofs.Choices.{column_is, count_below, counted, count_start, count_turn, last_taken}
use Rattle.dispatch.specs.Choice.{least, upto}
use Rattle.lists.specs.Vec.{vec}
use Rattle.matrix.proofs.StepHeld.{clean_held, clean_tall, clean_wide, past, row_pattern, row_wide}
use Rattle.matrix.specs.Mat.{view}
use Rattle.rows.specs.declared.Row.{Row}
use Rattle.rules.specs.Bounds.{columns_max, rows_max}
use Rattle.rules.specs.Dispatch.{count_x}
use Rattle.rules.specs.Trits.{bit, is_x}
use Rattle.dispatch.proofs.column_of.Goals as goal

pub loop-row-init : goal.loop-row-init
unfolding vec
loop-row-init c =
    let m = c.args.m in
    let h = clean_held m c.requires in
    let long : length m.rows ≡ rows_max = search rules in
    let rest : List Row = c.into_iter-row-iterator.result.iter.rest.now in
    let e : rest ≡ take m.count m.rows = ap (λ r. r.iter.rest.now) c.into_iter-row-iterator.ensures.into_iter_gives ∙ ap (λ r. r.rest.now) c.rev-row-items.ensures.source ∙ c.iter.ensures.rest in
    let l : length rest ≡ m.count = ap length e ∙ length-take-le m.count m.rows (omega (arith, long, clean_tall m c.requires)) in
    (omega (arith, l), e ∙ ap (λ k. take k m.rows) (sym l), count_start columns_max m.columns (length rest) (view m).rows (omega (arith, l, h.count)))

pub tally-counts-requires : goal.tally-counts-requires
tally-counts-requires c =
    let m = c.args.m in
    let p = c.requires in
    let h = clean_held m p in
    let v = c.loop-row.invariant in
    let long : length m.rows ≡ rows_max = search rules in
    let i : ℕ = length c.loop-row.row-iterator.iter.rest.now in
    let t = last_taken m.rows c.next.new.self.iter.rest.now c.in-Some.row.now past c.loop-row.row-iterator.iter.rest.now c.in-Some.ensures.steps v.1 (omega (arith, long, v.0, clean_tall m p)) in
    let q : take m.columns c.in-Some.row.now.pattern ≡ _ = ap (λ (r : Row). take m.columns r.pattern) t.1.1 ∙ row_pattern m p (i - 1) (omega (arith, t.0, v.0)) in
    let l = ap length q ∙ row_wide m p (i - 1) (omega (arith, t.0, v.0)) in (
      omega (arith, l, clean_wide m p),
      λ j k. count_below (view m).rows columns_max m.columns i j rows_max c.loop-row.counts (clean_wide m p) (omega (arith, k, l)) (omega (arith, t.0)) (omega (arith, h.count, v.0)) p.sized.tall v.2,
    )

pub loop-row-preserved : goal.loop-row-preserved
loop-row-preserved c =
    let m = c.args.m in
    let p = c.requires in
    let h = clean_held m p in
    let v = c.loop-row.invariant in
    let long : length m.rows ≡ rows_max = search rules in
    let i : ℕ = length c.loop-row.row-iterator.iter.rest.now in
    let next : List Row = c.next.new.self.iter.rest.now in
    let t = last_taken m.rows next c.in-Some.row.now past c.loop-row.row-iterator.iter.rest.now c.in-Some.ensures.steps v.1 (omega (arith, long, v.0, clean_tall m p)) in
    let q : take m.columns c.in-Some.row.now.pattern ≡ _ = ap (λ (r : Row). take m.columns r.pattern) t.1.1 ∙ row_pattern m p (i - 1) (omega (arith, t.0, v.0)) in
    let l = ap length q ∙ row_wide m p (i - 1) (omega (arith, t.0, v.0)) in
    let e = count_turn (view m).rows columns_max m.columns i c.loop-row.counts _ (clean_wide m p) (omega (arith, t.0)) (omega (arith, h.count, v.0)) q l v.2 in
    let k : i - 1 ≡ length next = omega (arith, t.0) in
    let f : ℕ → ℕ = λ j. bit (is_x (get_or (take m.columns c.in-Some.row.now.pattern) j 0)) + get_or c.loop-row.counts j 0 in
    (omega (arith, t.0, v.0), t.1.0, c.tally-counts.ensures ∙ ap (λ n. vec columns_max 0 (upto f n)) l ∙ ap (vec columns_max 0) e ∙ ap (λ j. vec columns_max 0 (upto (count_x (drop j (view m).rows)) m.columns)) k)

pub returns : goal.returns
returns c =
    let m = c.args.m in
    let p = c.requires in
    let v = c.loop-row.invariant in
    let long : length c.loop-row.counts ≡ columns_max = search rules in
    let n : ℕ = m.columns in
    let l : length (take n c.loop-row.counts) ≡ n = length-take-le n c.loop-row.counts (omega (arith, long, clean_wide m p)) in
    let e = v.2 ∙ ap (λ k. vec columns_max 0 (upto (count_x (drop k (view m).rows)) n)) c.in-None.ensures.steps.0 in
    c.fewest.ensures ∙ ap (λ k. least (take n c.loop-row.counts) k 0 0) l
    ∙ column_is (view m).rows (view m).nets (take n c.loop-row.counts) n (clean_held m p).columns (counted (view m).rows c.loop-row.counts n columns_max (clean_wide m p) e)
