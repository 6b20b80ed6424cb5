use Rattle.std.proofs.Common.{arith, ◌≡◌, length, Some, sym, ◌∙◌, subst}
use Rattle.std.proofs.lemmas.List.{set-get_or}
use Rattle.text.proofs.Nets.{sofar_full, sofar_more, sofar_none, sofar_stop}
use Rattle.text.proofs.Scans.{Fine, word_fine}
use Rattle.text.proofs.inner.scan.scan.Goals as goal

pub loop-k-init : goal.loop-k-init
loop-k-init c = sofar_none c.args.s.now c.args.at c.args.out.now

pub returns-in_default : goal.returns-in_default
returns-in_default c =
    let q = sofar_stop c.args.s.now c.args.at c.args.out.now c.loop-k.out c.loop-k.k c.loop-k.a c.loop-k.invariant (sym c.in_default.ensures) in
    record { out_after = set-get_or c.loop-k.out c.loop-k.k 0 ∙ q.0; value = q.1 }

pub overflow_add-a : goal.overflow_add-a
overflow_add-a c =
    let fine : Fine (Some c.in-Some.word) = subst Fine (sym c.in-Some.ensures) (word_fine c.args.s.now c.loop-k.a) in
    omega (arith, fine.1, c.loop-k.invariant.near, c.loop-k.invariant.few, c.requires.at_bound, c.requires.out_len_bound)

pub loop-k-preserved : goal.loop-k-preserved
loop-k-preserved c =
    let l = c.loop-k in
    sofar_more c.args.s.now c.args.at c.args.out.now l.out l.k l.a l.invariant (omega (arith, l.invariant.long)) c.in-Some.word (sym c.in-Some.ensures)

pub returns : goal.returns
returns c =
    let l = c.loop-k in
    let e : l.k ≡ length l.out = omega (arith, l.invariant.long) in
    let q = sofar_full c.args.s.now c.args.at c.args.out.now l.out l.k l.a l.invariant (omega arith) in
    record { out_after = rw e at q.0; value = rw e at q.1 }
