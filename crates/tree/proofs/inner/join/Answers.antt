use native.Mathlib.Omega.{arith}
use Rattle.rules.specs.Nets.{cell}
use Rattle.tree.proofs.Joins.{joined-new, joined_same, joined_short}
use Rattle.tree.proofs.inner.join.Goals as goal

pub returns-then-same_runs : goal.returns-then-same_runs
returns-then-same_runs c = λ z o a. joined_same (cell c.args.test.0) z o c.args.zero c.args.one c.args.store.now a (c.same_runs.ensures.yes c.if-same_runs.true)

pub returns-then-store-k : goal.returns-then-store-k
returns-then-store-k c = λ z o a. joined_short (cell c.args.test.0) z o c.args.zero c.args.one c.args.store.now a (c.same_runs.ensures.no c.if-same_runs.false) (omega arith)

pub returns : goal.returns
returns c =
    λ z o a.
    joined-new (cell c.args.test.0) z o c.args.zero c.args.one c.args.store.now a c.put_branch.new.store _ _
    (c.same_runs.ensures.no c.if-same_runs.false) (omega arith) c.put_branch.ensures
