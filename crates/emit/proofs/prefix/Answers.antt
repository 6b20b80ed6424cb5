use Rattle.emit.proofs.Places.{found_is, names_in, nets_in_lem, prefix-done, prefix_fair, prefix-form, prefix_named, prefix-net, tree-parts}
use Rattle.rules.specs.Refusals.{tree_in}
use Rattle.rules.specs.Store.{is_none, tree_at}
use Rattle.std.proofs.Common.{ap, rules, sym, Err, ◌≡◌, ◌∙◌}
use Rattle.tree.proofs.Handed.{check_none, tree_seen, unchecked}
use Rattle.emit.proofs.prefix.Goals.{then-not-have-via-then-not-have, then-not-have-via-else-not-have+then-not-have-2, then-not-have-3-via-then-not-have-3, then-not-have-3-via-else-not-have-3+then-not-have-4}
use Rattle.emit.proofs.prefix.Goals as goal

pub returns-in_err-check : goal.returns-in_err-check
returns-in_err-check c =
    let a = c.args in
    let e : c.from_residual.result ≡ Err c.in_err-check.field-0.0 = search rules in
    let n = unchecked a.store.now a.root.0 _ (sym c.in_err-check.ensures) in
    rw e (c.in_err-check.ensures ∙ check_none a.store.now a.root.0 n ∙ prefix-form a.store.now a.root.0 a.outputs.now a.enables.now (rw (ap is_none n)))

pub returns-then-not-have : goal.returns-then-not-have
returns-then-not-have c =
    let a = c.args in
    let t = found_is (tree_at a.store.now a.root.0) _ (tree_seen a.store.now a.root.0 c.in_ok-check.field-0 c.check.result c.check.ensures c.in_ok-check.was) in
    let form = prefix-form a.store.now a.root.0 a.outputs.now a.enables.now in
    let n = sym (nets_in_lem a.outputs.now) ∙ sym c.have.ensures in
    elim c.then-not-have.branch [
      | then-not-have-via-then-not-have w ↦ form (rw (t, n ∙ w.if-not-have.true))
      | then-not-have-via-else-not-have+then-not-have-2 w ↦ form (rw (t, n ∙ w.if-not-have.false, sym (nets_in_lem a.enables.now) ∙ sym w.have-else-not-have.ensures ∙ w.if-not-have-2.true))
    ]

pub returns-then-not-have-3 : goal.returns-then-not-have-3
returns-then-not-have-3 c =
    let a = c.args in
    let s = tree_seen a.store.now a.root.0 c.in_ok-check.field-0 c.check.result c.check.ensures c.in_ok-check.was in
    let f = prefix_fair a.store.now a.root.0 a.outputs.now a.enables.now _ _ s c.have.ensures c.if-not-have.false c.have-else-not-have.ensures c.if-not-have-2.false in
    let net = prefix-net a.store.now a.root.0 a.outputs.now a.enables.now f in
    let x = sym (names_in a.outputs.now) ∙ sym c.have-2.ensures in
    elim c.then-not-have-3.branch [
      | then-not-have-3-via-then-not-have-3 w ↦ net (rw (x ∙ w.if-not-have-3.true))
      | then-not-have-3-via-else-not-have-3+then-not-have-4 w ↦ net (rw (x ∙ w.if-not-have-3.false, sym (names_in a.enables.now) ∙ sym w.have-else-not-have-3.ensures ∙ w.if-not-have-4.true))
    ]

pub entries-requires : goal.entries-requires
entries-requires c = (tree-parts c.args.store.now c.args.root.0 (tree_seen c.args.store.now c.args.root.0 c.in_ok-check.field-0 c.check.result c.check.ensures c.in_ok-check.was)).within

pub returns : goal.returns
returns c =
    let a = c.args in
    let s = tree_seen a.store.now a.root.0 c.in_ok-check.field-0 c.check.result c.check.ensures c.in_ok-check.was in
    let p = tree-parts a.store.now a.root.0 s in
    prefix-done a.store.now a.root.0 a.outputs.now a.enables.now c.longest.result
    (prefix_fair a.store.now a.root.0 a.outputs.now a.enables.now _ _ s c.have.ensures c.if-not-have.false c.have-else-not-have.ensures c.if-not-have-2.false)
    (prefix_named a.store.now a.root.0 a.outputs.now a.enables.now _ _ c.have-2.ensures c.if-not-have-3.false c.have-else-not-have-3.ensures c.if-not-have-4.false)
    (c.longest.ensures (tree_in a.store.now a.root.0) (c.entries.ensures ∙ p.is) p.good)
