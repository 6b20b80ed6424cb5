use Rattle.std.proofs.Common.{refl, sym, ◌∙◌}
use Rattle.tree.proofs.Named.{named_end, named_high, named_is, named-low, named_more}
use Rattle.tree.proofs.inner.ascend.Goals as goal

pub returns-then-n-low : goal.returns-then-n-low
returns-then-n-low c = sym (named-low c.args.run.now c.loop-n.n-index c.loop-n.low _ c.loop-n-test.true refl c.if-n-low.true) ∙ c.loop-n.invariant ∙ named_is c.args.run.now

pub returns-then-n-gt-CELL_MAX : goal.returns-then-n-gt-CELL_MAX
returns-then-n-gt-CELL_MAX c = sym (named_high c.args.run.now c.loop-n.n-index c.loop-n.low _ c.loop-n-test.true refl c.if-n-gt-CELL_MAX.true) ∙ c.loop-n.invariant ∙ named_is c.args.run.now

pub loop-n-preserved : goal.loop-n-preserved
loop-n-preserved c = sym (named_more c.args.run.now c.loop-n.n-index c.loop-n.low _ c.loop-n-test.true refl c.if-n-low.false c.if-n-gt-CELL_MAX.false) ∙ c.loop-n.invariant

pub returns : goal.returns
returns c = sym (named_end c.args.run.now c.loop-n.n-index c.loop-n.low c.loop-n-test.false) ∙ c.loop-n.invariant ∙ named_is c.args.run.now
