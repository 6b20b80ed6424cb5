use Rattle.std.proofs.Common.{sym, ap, ◌∙◌, not, ◌&&◌, ◌/◌, Bool, length, arith}
use Rattle.rules.specs.Bounds.{node_run}
use Rattle.tree.proofs.Tested.{none_end, none_front}
use Rattle.tree.specs.Form.{none_tests}
use Rattle.tree.proofs.inner.untested.Goals as goal

pub returns-then-tests : goal.returns-then-tests
returns-then-tests c =
    let s = c.in-Some.ensures.steps in
    let w = none_front c.args.test.0 c.loop-run.run-iterator.rest.now c.in-Some.run'.now c.next.new.self.rest.now c.tests.result s.1.0 (s.1.1 ∙ c.loop-run.invariant.0) c.tests.ensures in
    sym (ap (λ (b : Bool). not b && none_tests c.args.test.0 (length c.next.new.self.rest.now / node_run) c.next.new.self.rest.now) c.if-tests.true) ∙ sym w ∙ c.loop-run.invariant.1

pub loop-run-preserved : goal.loop-run-preserved
loop-run-preserved c =
    let s = c.in-Some.ensures.steps in
    let w = none_front c.args.test.0 c.loop-run.run-iterator.rest.now c.in-Some.run'.now c.next.new.self.rest.now c.tests.result s.1.0 (s.1.1 ∙ c.loop-run.invariant.0) c.tests.ensures in (
      s.0 ∙ c.loop-run.invariant.0,
      sym (ap (λ (b : Bool). not b && none_tests c.args.test.0 (length c.next.new.self.rest.now / node_run) c.next.new.self.rest.now) c.if-tests.false) ∙ sym w ∙ c.loop-run.invariant.1,
    )

pub returns : goal.returns
returns c =
    let s = c.in-None.ensures.steps in
    sym (none_end c.args.test.0 c.loop-run.run-iterator.rest.now (omega (arith, s.1.0, c.loop-run.invariant.0))) ∙ c.loop-run.invariant.1
