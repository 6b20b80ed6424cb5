use Rattle.emit.proofs.Places.{found_is, hot_can, hot_fair, hot_form, hot_net, hot_place, hot_says, hot_width, names_in, nets_in_lem, tree_found, tree_missing}
use Rattle.emit.specs.Calls.{emitted_from}
use Rattle.evaluate.proofs.Turns.{is_bad, not_bad}
use Rattle.rules.specs.Refuse.{FORM}
use Rattle.rules.specs.Store.{tree_at}
use Rattle.std.proofs.Common.{ap, arith, sym, ◌∙◌}
use Rattle.emit.proofs.one_hot.Goals.{then-is_err-via-then-is_err, then-is_err-via-else-is_err+then-not-have, then-is_err-via-else-is_err+else-not-have+then-not-formed}
use Rattle.emit.proofs.one_hot.Goals as goal

pub returns-then-is_err : goal.returns-then-is_err
returns-then-is_err c =
    let a = c.args in
    let found = found_is (tree_at a.store.now a.root.0) _ in
    let seen = tree_found a.store.now a.root.0 c.check.result c.check.ensures in
    let nets = sym (nets_in_lem a.outputs.now) in
    let form = hot_form a.store.now a.root.0 a.outputs.now a.count a.table.now in
    hot_says a.store.now a.root.0 a.outputs.now a.count a.table.now FORM _ c.refuse.ensures (elim c.then-is_err.branch [
      | then-is_err-via-then-is_err w ↦ form (rw (tree_missing a.store.now a.root.0 c.check.result c.check.ensures (sym c.is_err.ensures.value ∙ w.if-is_err.true)))
      | then-is_err-via-else-is_err+then-not-have w ↦ form (rw (found (seen (sym c.is_err.ensures.value ∙ w.if-is_err.false)), nets ∙ sym w.have.ensures ∙ w.if-not-have.true))
      | then-is_err-via-else-is_err+else-not-have+then-not-formed w ↦
          form (rw (found (seen (sym c.is_err.ensures.value ∙ w.if-is_err.false)), nets ∙ sym w.have.ensures ∙ w.if-not-have.false, is_bad _ (sym w.if-not-formed.true ∙ w.formed.ensures)))
    ])

pub returns-then-not-have-2 : goal.returns-then-not-have-2
returns-then-not-have-2 c =
    let a = c.args in
    let h = hot_fair a.store.now a.root.0 a.outputs.now a.count a.table.now c.check.result _ _ c.check.ensures (sym c.is_err.ensures.value ∙ c.if-is_err.false) c.have.ensures c.if-not-have.false c.formed.ensures c.if-not-formed.false in
    let f = hot_net a.store.now a.root.0 a.outputs.now a.count a.table.now h (sym (names_in a.outputs.now) ∙ sym c.have-2.ensures ∙ c.if-not-have-2.true) in
    (c.refuse-then-not-have-2.ensures ∙ f.0, f.1)

pub returns-then-outputs-gt-WIDTH_MAX : goal.returns-then-outputs-gt-WIDTH_MAX
returns-then-outputs-gt-WIDTH_MAX c =
    let a = c.args in
    let h = hot_fair a.store.now a.root.0 a.outputs.now a.count a.table.now c.check.result _ _ c.check.ensures (sym c.is_err.ensures.value ∙ c.if-is_err.false) c.have.ensures c.if-not-have.false c.formed.ensures c.if-not-formed.false in
    let m = sym (names_in a.outputs.now) ∙ sym c.have-2.ensures ∙ c.if-not-have-2.false in
    let f = hot_width a.store.now a.root.0 a.outputs.now a.count a.table.now h m (omega (arith, c.if-outputs-gt-WIDTH_MAX.true)) in
    (c.refuse-then-outputs-gt-WIDTH_MAX.ensures ∙ f.0, f.1)

pub place-requires : goal.place-requires
place-requires c =
    let a = c.args in
    hot_can a.store.now a.root.0 a.outputs.now a.count a.table.now (tree_found a.store.now a.root.0 c.check.result c.check.ensures (sym c.is_err.ensures.value ∙ c.if-is_err.false)) (not_bad _ (sym c.if-not-formed.false ∙ c.formed.ensures)) (omega (arith, c.if-outputs-gt-WIDTH_MAX.false))

pub returns : goal.returns
returns c =
    let a = c.args in
    let h = hot_fair a.store.now a.root.0 a.outputs.now a.count a.table.now c.check.result _ _ c.check.ensures (sym c.is_err.ensures.value ∙ c.if-is_err.false) c.have.ensures c.if-not-have.false c.formed.ensures c.if-not-formed.false in
    let m = sym (names_in a.outputs.now) ∙ sym c.have-2.ensures ∙ c.if-not-have-2.false in
    let f = hot_place a.store.now a.root.0 a.outputs.now a.count a.table.now h m (omega (arith, c.if-outputs-gt-WIDTH_MAX.false)) in
    (c.place.ensures.0 ∙ ap emitted_from f.0, c.place.ensures.1 ∙ f.1)
