use Rattle.std.proofs.Common.{◌≡◌, ◌∙◌, ap, sym, arith, ◌-◌, ◌+◌, ℕ, List, length}
use Rattle.dispatch.proofs.Choices.{least_end, least-keep, least_more}
use Rattle.dispatch.specs.Choice.{least}
use Rattle.dispatch.proofs.fewest.Goals as goal
use Rattle.dispatch.proofs.fewest.Goals.{else-count-counts, then-count-counts}

pub loop-j-preserved : goal.loop-j-preserved
loop-j-preserved c =
    let cs : List ℕ = c.args.counts.now in
    let n : ℕ = length cs in
    elim c.if-count-counts.branch [
      | then-count-counts w ↦
          (omega (arith, w.at-is), ap (λ (k : ℕ). least cs (n - (c.loop-j.j + 1)) (c.loop-j.j + 1) k) w.at-is ∙ sym (least_more cs n c.loop-j.j c.loop-j.at c.loop-j-test.true w.if-count-counts.true) ∙ c.loop-j.invariant.1)
      | else-count-counts w ↦
          (omega (arith, w.at-is), ap (λ (k : ℕ). least cs (n - (c.loop-j.j + 1)) (c.loop-j.j + 1) k) w.at-is ∙ sym (least-keep cs n c.loop-j.j c.loop-j.at c.loop-j-test.true w.if-count-counts.false) ∙ c.loop-j.invariant.1)
    ]

pub returns : goal.returns
returns c = sym (least_end c.args.counts.now (length c.args.counts.now) c.loop-j.j c.loop-j.at c.loop-j-test.false) ∙ c.loop-j.invariant.1
