use Rattle.std.proofs.Common.{List, ◌+◌, ◌++◌, drop, length, map, ◌≡◌, ap, ◌∙◌, slice_set, ℕ, arith}
use lib.ListN.{length-set}
use lib.Seq.{length_front, paste}
use Rattle.rules.specs.Bounds.{node_run}
use Rattle.rules.specs.Nets.{number}
use Rattle.tree.proofs.Laws.{leaf_done, leaf_turn}
use Rattle.tree.proofs.inner.put_leaf.Goals as goal

pub loop-i-preserved : goal.loop-i-preserved
loop-i-preserved c =
    let d : List ℕ = slice_set (c.clear.new.store ++ drop node_run c.args.store.now) 0 (length c.args.rules.now) in
    let l = length_front c.args.store.now c.clear.new.store node_run c.clear.auto.store in
    let m = length-set (c.clear.new.store ++ drop node_run c.args.store.now) 0 (length c.args.rules.now) in (
      leaf_turn d c.args.rules.now c.loop-i.store c.loop-i.i c.number.result c.loop-i.invariant.0 (omega (arith, l, m, c.loop-i-test.true, c.requires.0, c.requires.1)) c.loop-i-test.true c.number.ensures,
      length-set c.loop-i.store (c.loop-i.i + 1) c.number.result ∙ c.loop-i.invariant.1,
    )

pub returns : goal.returns
returns c =
    let d : List ℕ = slice_set (c.clear.new.store ++ drop node_run c.args.store.now) 0 (length c.args.rules.now) in
    let e : c.loop-i.i ≡ length c.args.rules.now = omega arith in
    leaf_done c.args.store.now c.clear.new.store c.args.rules.now c.loop-i.store c.requires.0 c.requires.1 c.clear.ensures
    (c.loop-i.invariant.0 ∙ ap (λ (k : ℕ). paste d 1 (map number c.args.rules.now) k) e)
