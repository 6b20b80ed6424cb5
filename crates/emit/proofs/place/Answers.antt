use Rattle.emit.proofs.Places.{count_in, need_small, place_can, place-done, place_ends, place-full, root_in}
use Rattle.rules.specs.Refusals.{tree_in}
use Rattle.std.proofs.Common.{arith, ◌∙◌}
use Rattle.emit.proofs.place.Goals as goal

pub overflow_add-need : goal.overflow_add-need
overflow_add-need g c = omega (arith, root_in _ _ _ _ _ _ c.requires)

pub overflow_mul-need : goal.overflow_mul-need
overflow_mul-need g c = rw c.width-width.ensures (omega (arith, need_small _ _ _ _ _ _ c.requires))

pub overflow_add-count : goal.overflow_add-count
overflow_add-count g c = rw c.width-width.ensures (omega (arith, need_small _ _ _ _ _ _ c.requires, count_in _ _ _ _ _ _ c.requires))

pub returns-then-room-count : goal.returns-then-room-count
returns-then-room-count g c =
    let t = rw c.width-width.ensures at c.if-room-count.true in
    let f = place-full _ _ _ _ _ _ c.requires (omega (arith, t, c.room.ensures)) in
    (c.refuse.ensures ∙ f.0, f.1)

pub entries-requires : goal.entries-requires
entries-requires g c = root_in _ _ _ _ _ _ c.requires

pub emit-used-requires : goal.emit-used-requires
emit-used-requires g c =
    let t = rw c.width-width.ensures at c.if-room-count.false in
    rw c.entries.ensures (place_can _ _ _ _ _ _ c.requires c.args.count (omega arith) (omega (arith, t, c.room.ensures)))

pub returns : goal.returns
returns g c =
    let e = c.emit-used in
    let t = rw c.width-width.ensures at c.if-room-count.false in
    rw c.width-width.ensures
    (place-done _ _ _ _ _ _ c.requires e.new.table e.result (omega (arith, t, c.room.ensures)) (e.ensures (tree_in c.args.store.now c.args.root.0) (rw c.entries.ensures (place_ends _ _ _ _ _ _ c.requires))))
