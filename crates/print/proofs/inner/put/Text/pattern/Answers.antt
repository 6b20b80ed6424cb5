use Rattle.std.proofs.Common.{rules, ℕ, length, append-nil, ap, sym, reverse}
use Rattle.std.proofs.lemmas.Iterator.Adapters.{YieldsList-from_rev_slice}
use Rattle.std.proofs.lemmas.Iterator.Consumers.{YieldsList-from_enumerate, YieldsList-turn, YieldsList-end}
use Rattle.std.proofs.lemmas.List.{length_push}
use Rattle.print.proofs.Laws.{put_as}
use Rattle.print.proofs.Numbers.{numbered, numbered_end, trits_free, trits_put}
use Rattle.print.specs.Texts.{trits}
use Rattle.rules.specs.Print.{grouped}
use Rattle.print.proofs.inner.put.Text.pattern.Goals as goal

pub loop-i-init : goal.loop-i-init
unfolding grouped
loop-i-init g c = sym (append-nil c.args.self.now)

pub marked-requires : goal.marked-requires
unfolding trits
marked-requires g c =
    let t = YieldsList-turn (YieldsList-from_enumerate (YieldsList-from_rev_slice c.args.p.now cc) cc) c.loop-i.yielded _ c.loop-i.yielded_by _ _ (c.in-Some.i, c.in-Some.x) c.in-Some.is c.next.ensures.steps in
    let ts = reverse c.args.p.now in
    let k = length c.loop-i.yielded in
    let n = numbered ts k (c.in-Some.i, c.in-Some.x.now) t in
    (search rules, trits_free ts k c.in-Some.i c.in-Some.x.now n.0 n.1 n.2 c.args.self.now c.loop-i.self c.loop-i.invariant g.row.N c.requires)

pub loop-i-preserved : goal.loop-i-preserved
loop-i-preserved g c =
    let t = YieldsList-turn (YieldsList-from_enumerate (YieldsList-from_rev_slice c.args.p.now cc) cc) c.loop-i.yielded _ c.loop-i.yielded_by _ _ (c.in-Some.i, c.in-Some.x) c.in-Some.is c.next.ensures.steps in
    let ts = reverse c.args.p.now in
    let k = length c.loop-i.yielded in
    let n = numbered ts k (c.in-Some.i, c.in-Some.x.now) t in
    let x : ℕ × _ = (c.in-Some.i, c.in-Some.x) in
    rw (length_push c.loop-i.yielded x) (trits_put ts k c.in-Some.i c.in-Some.x.now n.0 n.1 n.2 c.args.self.now c.loop-i.self c.loop-i.invariant c.marked.new.self c.marked.ensures)

pub returns : goal.returns
unfolding trits
returns g c =
    let t = YieldsList-end (YieldsList-from_enumerate (YieldsList-from_rev_slice c.args.p.now cc) cc) c.loop-i.yielded _ c.loop-i.yielded_by _ _ c.in-None.is c.next.ensures.steps in
    put_as c.args.self.now (ap (grouped 0) (numbered_end (reverse c.args.p.now) (length c.loop-i.yielded) t.1)) c.loop-i.invariant
