use Rattle.std.proofs.Common.{rules, length, append-nil, ap, sym, refl, ◌∙◌, arith, eqb-true, take_all}
use borrow.Author.Tests.{eqb-false}
use Rattle.print.proofs.Laws.{put_as}
use Rattle.print.proofs.Numbers.{low-at, nets_free, nets_put, rules_none, rules_some}
use Rattle.rules.specs.Bytes.{bytes}
use Rattle.rules.specs.Print.{nets}
use Rattle.print.proofs.inner.put.Text.names.Goals as goal

pub bytes-requires : goal.bytes-requires
unfolding bytes
bytes-requires g c = (search rules, omega (arith, ap length (rules_none c.args.ns.now (eqb-true _ _ (sym c.is_empty.ensures ∙ c.if-is_empty.true)))))

pub returns-then-is_empty : goal.returns-then-is_empty
unfolding bytes
returns-then-is_empty g c = put_as c.args.self.now (sym (rules_none c.args.ns.now (eqb-true _ _ (sym c.is_empty.ensures ∙ c.if-is_empty.true)))) c.bytes.ensures

pub loop-n-init : goal.loop-n-init
unfolding nets
loop-n-init g c = sym (append-nil c.args.self.now)

pub spaced-requires : goal.spaced-requires
spaced-requires g c =
    let ns = c.args.ns.now in
    let i = c.loop-n.n-index in
    let text = rules_some ns (eqb-false _ _ (sym c.is_empty.ensures ∙ c.if-is_empty.false)) in
    (search rules, (low-at ns i c.requires.low c.loop-n-test.true, nets_free ns i _ c.loop-n-test.true refl c.args.self.now c.loop-n.self c.loop-n.invariant g.row.N (omega (arith, ap length text))))

pub loop-n-preserved : goal.loop-n-preserved
loop-n-preserved g c = nets_put c.args.ns.now c.loop-n.n-index _ c.loop-n-test.true refl c.args.self.now c.loop-n.self c.loop-n.invariant c.spaced.new.self c.spaced.ensures

pub returns : goal.returns
returns g c =
    let ns = c.args.ns.now in
    put_as c.args.self.now (ap nets (take_all c.loop-n.n-index ns c.loop-n-test.false) ∙ sym (rules_some ns (eqb-false _ _ (sym c.is_empty.ensures ∙ c.if-is_empty.false)))) c.loop-n.invariant
