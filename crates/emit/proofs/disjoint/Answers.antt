use Rattle.emit.proofs.Places.{tree-parts, tree_found, tree_missing}
use Rattle.emit.proofs.Updates.{disjoint_can, disjoint-place, form_default, form-table, form-tree, form-updates, named_too, net_default, net-updates, overlaps, says, sized_too, tested, width_default, width-updates}
use Rattle.emit.specs.Calls.{emitted_from}
use Rattle.evaluate.proofs.Turns.{is_bad}
use Rattle.rules.specs.Refuse.{FORM, NET, WIDTH}
use Rattle.std.proofs.Common.{ap, arith, sym, ◌∙◌}
use Rattle.emit.proofs.disjoint.Goals.{then-is_err-via-then-is_err, then-is_err-via-else-is_err+then-not-updates_have, then-is_err-via-else-is_err+else-not-updates_have+then-not-have, then-is_err-via-else-is_err+else-not-updates_have+else-not-have+then-not-formed}
use Rattle.emit.proofs.disjoint.Goals.{then-not-updates_have-2-via-then-not-updates_have-2, then-not-updates_have-2-via-else-not-updates_have-2+then-not-have-2}
use Rattle.emit.proofs.disjoint.Goals.{then-default-gt-WIDTH_MAX-via-then-default-gt-WIDTH_MAX, then-default-gt-WIDTH_MAX-via-else-default-gt-WIDTH_MAX+then-not-updates_wide}
use Rattle.emit.proofs.disjoint.Goals as goal

pub returns-then-is_err : goal.returns-then-is_err
returns-then-is_err c =
    let a = c.args in
    let seen = tree_found a.store.now a.root.0 c.check.result c.check.ensures in
    let no = sym c.is_err.ensures.value in
    says a.store.now a.root.0 a.nets.now a.widths.now a.bits.now a.default.now a.count a.table.now FORM _ c.refuse.ensures (elim c.then-is_err.branch [
      | then-is_err-via-then-is_err w ↦ form-tree a.store.now a.root.0 a.nets.now a.widths.now a.bits.now a.default.now a.count a.table.now (tree_missing a.store.now a.root.0 c.check.result c.check.ensures (no ∙ w.if-is_err.true))
      | then-is_err-via-else-is_err+then-not-updates_have w ↦ form-updates a.store.now a.root.0 a.nets.now a.widths.now a.bits.now a.default.now a.count a.table.now (seen (no ∙ w.if-is_err.false)) (sym w.updates_have.ensures ∙ w.if-not-updates_have.true)
      | then-is_err-via-else-is_err+else-not-updates_have+then-not-have w ↦
          form_default a.store.now a.root.0 a.nets.now a.widths.now a.bits.now a.default.now a.count a.table.now (seen (no ∙ w.if-is_err.false)) (sym w.updates_have.ensures ∙ w.if-not-updates_have.false) (sym w.have.ensures ∙ w.if-not-have.true)
      | then-is_err-via-else-is_err+else-not-updates_have+else-not-have+then-not-formed w ↦
          form-table a.store.now a.root.0 a.nets.now a.widths.now a.bits.now a.default.now a.count a.table.now (seen (no ∙ w.if-is_err.false)) (sym w.updates_have.ensures ∙ w.if-not-updates_have.false) (sym w.have.ensures ∙ w.if-not-have.false) (is_bad _ (sym w.if-not-formed.true ∙ w.formed.ensures))
    ])

pub returns-then-not-updates_have-2 : goal.returns-then-not-updates_have-2
returns-then-not-updates_have-2 c =
    let a = c.args in
    let m = tested a.store.now a.root.0 a.nets.now a.widths.now a.bits.now a.default.now a.count a.table.now c.check.result _ _ _ c.check.ensures (sym c.is_err.ensures.value ∙ c.if-is_err.false)
    c.updates_have.ensures c.if-not-updates_have.false c.have.ensures c.if-not-have.false c.formed.ensures c.if-not-formed.false in
    says a.store.now a.root.0 a.nets.now a.widths.now a.bits.now a.default.now a.count a.table.now NET _ c.refuse-then-not-updates_have-2.ensures (elim c.then-not-updates_have-2.branch [
      | then-not-updates_have-2-via-then-not-updates_have-2 w ↦ net-updates a.store.now a.root.0 a.nets.now a.widths.now a.bits.now a.default.now a.count a.table.now m (sym c.updates_have-2.ensures ∙ w.if-not-updates_have-2.true)
      | then-not-updates_have-2-via-else-not-updates_have-2+then-not-have-2 w ↦
          net_default a.store.now a.root.0 a.nets.now a.widths.now a.bits.now a.default.now a.count a.table.now m (sym c.updates_have-2.ensures ∙ w.if-not-updates_have-2.false) (sym w.have-else-not-updates_have-2.ensures ∙ w.if-not-have-2.true)
    ])

pub returns-then-default-gt-WIDTH_MAX : goal.returns-then-default-gt-WIDTH_MAX
returns-then-default-gt-WIDTH_MAX c =
    let a = c.args in
    let m = tested a.store.now a.root.0 a.nets.now a.widths.now a.bits.now a.default.now a.count a.table.now c.check.result _ _ _ c.check.ensures (sym c.is_err.ensures.value ∙ c.if-is_err.false)
    c.updates_have.ensures c.if-not-updates_have.false c.have.ensures c.if-not-have.false c.formed.ensures c.if-not-formed.false in
    let n = named_too a.store.now a.root.0 a.nets.now a.widths.now a.bits.now a.default.now a.count a.table.now m _ _ c.updates_have-2.ensures c.if-not-updates_have-2.false c.have-else-not-updates_have-2.ensures c.if-not-have-2.false in
    says a.store.now a.root.0 a.nets.now a.widths.now a.bits.now a.default.now a.count a.table.now WIDTH _ c.refuse-then-default-gt-WIDTH_MAX.ensures (elim c.then-default-gt-WIDTH_MAX.branch [
      | then-default-gt-WIDTH_MAX-via-then-default-gt-WIDTH_MAX w ↦ width_default a.store.now a.root.0 a.nets.now a.widths.now a.bits.now a.default.now a.count a.table.now n (omega (arith, w.if-default-gt-WIDTH_MAX.true))
      | then-default-gt-WIDTH_MAX-via-else-default-gt-WIDTH_MAX+then-not-updates_wide w ↦
          width-updates a.store.now a.root.0 a.nets.now a.widths.now a.bits.now a.default.now a.count a.table.now n (omega (arith, w.if-default-gt-WIDTH_MAX.false)) (sym w.updates_wide.ensures ∙ w.if-not-updates_wide.true)
    ])

pub entries-requires : goal.entries-requires
entries-requires c = let a = c.args in (tree-parts a.store.now a.root.0 (tree_found a.store.now a.root.0 c.check.result c.check.ensures (sym c.is_err.ensures.value ∙ c.if-is_err.false))).within

pub returns-then-some_leaf : goal.returns-then-some_leaf
returns-then-some_leaf c =
    let a = c.args in
    let m = tested a.store.now a.root.0 a.nets.now a.widths.now a.bits.now a.default.now a.count a.table.now c.check.result _ _ _ c.check.ensures (sym c.is_err.ensures.value ∙ c.if-is_err.false)
    c.updates_have.ensures c.if-not-updates_have.false c.have.ensures c.if-not-have.false c.formed.ensures c.if-not-formed.false in
    let n = named_too a.store.now a.root.0 a.nets.now a.widths.now a.bits.now a.default.now a.count a.table.now m _ _ c.updates_have-2.ensures c.if-not-updates_have-2.false c.have-else-not-updates_have-2.ensures c.if-not-have-2.false in
    let z = sized_too a.store.now a.root.0 a.nets.now a.widths.now a.bits.now a.default.now a.count a.table.now n _ (omega (arith, c.if-default-gt-WIDTH_MAX.false)) c.updates_wide.ensures c.if-not-updates_wide.false in
    let f = overlaps a.store.now a.root.0 a.nets.now a.widths.now a.bits.now a.default.now a.count a.table.now z c.some_leaf.result (rw c.entries.ensures at c.some_leaf.ensures) c.if-some_leaf.true in
    (c.refuse-then-some_leaf.ensures ∙ f.0, f.1)

pub place-requires : goal.place-requires
place-requires c =
    let a = c.args in
    let m = tested a.store.now a.root.0 a.nets.now a.widths.now a.bits.now a.default.now a.count a.table.now c.check.result _ _ _ c.check.ensures (sym c.is_err.ensures.value ∙ c.if-is_err.false)
    c.updates_have.ensures c.if-not-updates_have.false c.have.ensures c.if-not-have.false c.formed.ensures c.if-not-formed.false in
    let n = named_too a.store.now a.root.0 a.nets.now a.widths.now a.bits.now a.default.now a.count a.table.now m _ _ c.updates_have-2.ensures c.if-not-updates_have-2.false c.have-else-not-updates_have-2.ensures c.if-not-have-2.false in
    let z = sized_too a.store.now a.root.0 a.nets.now a.widths.now a.bits.now a.default.now a.count a.table.now n _ (omega (arith, c.if-default-gt-WIDTH_MAX.false)) c.updates_wide.ensures c.if-not-updates_wide.false in
    disjoint_can a.store.now a.root.0 a.nets.now a.widths.now a.bits.now a.default.now a.count a.table.now z

pub returns : goal.returns
returns c =
    let a = c.args in
    let m = tested a.store.now a.root.0 a.nets.now a.widths.now a.bits.now a.default.now a.count a.table.now c.check.result _ _ _ c.check.ensures (sym c.is_err.ensures.value ∙ c.if-is_err.false)
    c.updates_have.ensures c.if-not-updates_have.false c.have.ensures c.if-not-have.false c.formed.ensures c.if-not-formed.false in
    let n = named_too a.store.now a.root.0 a.nets.now a.widths.now a.bits.now a.default.now a.count a.table.now m _ _ c.updates_have-2.ensures c.if-not-updates_have-2.false c.have-else-not-updates_have-2.ensures c.if-not-have-2.false in
    let z = sized_too a.store.now a.root.0 a.nets.now a.widths.now a.bits.now a.default.now a.count a.table.now n _ (omega (arith, c.if-default-gt-WIDTH_MAX.false)) c.updates_wide.ensures c.if-not-updates_wide.false in
    let f = disjoint-place a.store.now a.root.0 a.nets.now a.widths.now a.bits.now a.default.now a.count a.table.now z c.some_leaf.result (rw c.entries.ensures at c.some_leaf.ensures) c.if-some_leaf.false in
    (c.place.ensures.0 ∙ ap emitted_from f.0, c.place.ensures.1 ∙ f.1)
