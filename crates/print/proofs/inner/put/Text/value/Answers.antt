use Rattle.std.proofs.Common.{rules, ℕ, length, length-append, append-nil, ap, sym, ◌∙◌, arith, reverse, take_all}
use Rattle.std.proofs.lemmas.Iterator.Adapters.{YieldsList-from_rev_slice}
use Rattle.std.proofs.lemmas.Iterator.Consumers.{YieldsList-turn, YieldsList-end}
use Rattle.std.proofs.lemmas.List.{get_or_default, length_push}
use Rattle.print.proofs.Laws.{put_as, put_then}
use Rattle.print.proofs.Numbers.{low-at, nets_free, nets_put}
use Rattle.print.proofs.Rows.{value_is, value_long}
use Rattle.rules.proofs.Words.{all-reverse}
use Rattle.rules.specs.Nets.{over}
use Rattle.rules.specs.Print.{nets}
use Rattle.std.proofs.Common.{not}
use Rattle.print.proofs.inner.put.Text.value.Goals as goal

pub byte-requires : goal.byte-requires
byte-requires g c = (search rules, omega (arith, value_long c.args.ns.now))

pub loop-n-init : goal.loop-n-init
unfolding nets
loop-n-init g c = sym (append-nil c.byte.new.self)

pub spaced-requires : goal.spaced-requires
spaced-requires g c =
    let t = YieldsList-turn (YieldsList-from_rev_slice c.args.ns.now cc) c.loop-n.yielded _ c.loop-n.yielded_by _ _ c.in-Some.n c.in-Some.is c.next.ensures.steps in
    let ns = reverse c.args.ns.now in
    let k = length c.loop-n.yielded in
    let e = t.1 ∙ get_or_default ns k c.in-Some.n.now 0 t.0 in
    let low = low-at ns k (all-reverse (λ (n : ℕ). not (over n)) c.args.ns.now c.requires.low) t.0 in
    (search rules, (omega (arith, low, e), nets_free ns k c.in-Some.n.now t.0 e c.byte.new.self c.loop-n.self c.loop-n.invariant g.row.N (omega (arith, value_long c.args.ns.now, ap length c.byte.ensures, length-append {A = ℕ}))))

pub loop-n-preserved : goal.loop-n-preserved
loop-n-preserved g c =
    let t = YieldsList-turn (YieldsList-from_rev_slice c.args.ns.now cc) c.loop-n.yielded _ c.loop-n.yielded_by _ _ c.in-Some.n c.in-Some.is c.next.ensures.steps in
    let ns = reverse c.args.ns.now in
    let k = length c.loop-n.yielded in
    let e = t.1 ∙ get_or_default ns k c.in-Some.n.now 0 t.0 in
    rw (length_push c.loop-n.yielded c.in-Some.n) (nets_put ns k c.in-Some.n.now t.0 e c.byte.new.self c.loop-n.self c.loop-n.invariant c.spaced.new.self c.spaced.ensures)

pub bytes-requires : goal.bytes-requires
bytes-requires g c =
    let t = YieldsList-end (YieldsList-from_rev_slice c.args.ns.now cc) c.loop-n.yielded _ c.loop-n.yielded_by _ _ c.in-None.is c.next.ensures.steps in
    let ns = reverse c.args.ns.now in
    let e = take_all (length c.loop-n.yielded) ns (omega (arith, t.1)) in
    (search rules, omega (arith, ap length c.loop-n.invariant, ap (λ l. length (nets l)) e, value_long c.args.ns.now, ap length c.byte.ensures, length-append {A = ℕ}))

pub returns : goal.returns
returns g c =
    let t = YieldsList-end (YieldsList-from_rev_slice c.args.ns.now cc) c.loop-n.yielded _ c.loop-n.yielded_by _ _ c.in-None.is c.next.ensures.steps in
    let ns = reverse c.args.ns.now in
    let e = take_all (length c.loop-n.yielded) ns (omega (arith, t.1)) in
    let o = c.args.self.now in
    put_as o (sym (value_is c.args.ns.now)) (put_then o _ _ c.byte.ensures (put_then c.byte.new.self _ _ (put_as c.byte.new.self (ap nets e) c.loop-n.invariant) c.bytes.ensures))
