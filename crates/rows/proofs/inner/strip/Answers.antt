use lib.ListN.{length}
use mathlib.Core.Path.{◌≡◌}
use Prim.Native.Nat.{◌<◌}
use Rattle.lists.specs.Keep.{starts}
use Rattle.lists.specs.Vec.{vec_none}
use Rattle.rows.proofs.Laws.{kept_end, kept_room, kept_turn-goes, kept_turn-stays}
use Rattle.std.proofs.Common.{rules}
use Rattle.std.proofs.lemmas.Slice.Zip.{zip_end, zip_turn}
use Rattle.std.specs.Iterator.Adapters.{zip_first, zip_second}
use Rattle.std.specs.Slice.Iter.{iter_rest}
use Rattle.rows.proofs.inner.strip.Goals as goal

pub loop-goes-init : goal.loop-goes-init
loop-goes-init g c = record { can = search rules; finite = tt; kept = starts g.row.N c.args.filler _ _ _ (vec_none g.row.N c.args.filler) }

pub listed : goal.listed
listed g c =
    let first : iter_rest (zip_first c.into_iter-goes-iterator.result) ≡ c.args.gone.now = search rules in
    let second : iter_rest (zip_second c.into_iter-goes-iterator.result) ≡ c.args.items.now = search rules in
    let t = zip_turn c.args.gone.now c.args.items.now c.loop-goes.yielded c.into_iter-goes-iterator.result c.loop-goes.goes-iterator c.next.new.self c.next.result first second c.loop-goes.yielded_by (c.in-Some.goes, c.in-Some.item) c.in-Some.is c.next.ensures.steps in
    kept_room g.row.N c.args.filler c.args.gone.now c.args.items.now _ c.loop-goes.made c.loop-goes.k c.loop-goes.invariant.kept t.1 c.requires

pub offset_bounds-made-k : goal.offset_bounds-made-k
offset_bounds-made-k g c =
    let first : iter_rest (zip_first c.into_iter-goes-iterator.result) ≡ c.args.gone.now = search rules in
    let second : iter_rest (zip_second c.into_iter-goes-iterator.result) ≡ c.args.items.now = search rules in
    let t = zip_turn c.args.gone.now c.args.items.now c.loop-goes.yielded c.into_iter-goes-iterator.result c.loop-goes.goes-iterator c.next.new.self c.next.result first second c.loop-goes.yielded_by (c.in-Some.goes, c.in-Some.item) c.in-Some.is c.next.ensures.steps in
    let h : c.loop-goes.k < length c.loop-goes.made = kept_room g.row.N c.args.filler c.args.gone.now c.args.items.now _ c.loop-goes.made c.loop-goes.k c.loop-goes.invariant.kept t.1 c.requires in
    search rules

pub loop-goes-preserved-then-not-goes : goal.loop-goes-preserved-then-not-goes
loop-goes-preserved-then-not-goes g c =
    let first : iter_rest (zip_first c.into_iter-goes-iterator.result) ≡ c.args.gone.now = search rules in
    let second : iter_rest (zip_second c.into_iter-goes-iterator.result) ≡ c.args.items.now = search rules in
    let t = zip_turn c.args.gone.now c.args.items.now c.loop-goes.yielded c.into_iter-goes-iterator.result c.loop-goes.goes-iterator c.next.new.self c.next.result first second c.loop-goes.yielded_by (c.in-Some.goes, c.in-Some.item) c.in-Some.is c.next.ensures.steps in
    record {
      can = search rules;
      finite = tt;
      kept = kept_turn-stays g.row.N c.args.filler c.args.gone.now c.args.items.now c.loop-goes.yielded _ c.loop-goes.made c.loop-goes.k c.loop-goes.invariant.kept c.in-Some.goes.now c.in-Some.item.now t.0 t.1 t.2 t.3 c.requires c.if-not-goes.true;
    }

pub loop-goes-preserved : goal.loop-goes-preserved
loop-goes-preserved g c =
    let first : iter_rest (zip_first c.into_iter-goes-iterator.result) ≡ c.args.gone.now = search rules in
    let second : iter_rest (zip_second c.into_iter-goes-iterator.result) ≡ c.args.items.now = search rules in
    let t = zip_turn c.args.gone.now c.args.items.now c.loop-goes.yielded c.into_iter-goes-iterator.result c.loop-goes.goes-iterator c.next.new.self c.next.result first second c.loop-goes.yielded_by (c.in-Some.goes, c.in-Some.item) c.in-Some.is c.next.ensures.steps in
    record {
      can = search rules;
      finite = tt;
      kept = kept_turn-goes g.row.N c.args.filler c.args.gone.now c.args.items.now c.loop-goes.yielded _ c.loop-goes.made c.loop-goes.k c.loop-goes.invariant.kept c.in-Some.goes.now t.1 t.2 c.if-not-goes.false;
    }

pub returns : goal.returns
returns g c =
    let first : iter_rest (zip_first c.into_iter-goes-iterator.result) ≡ c.args.gone.now = search rules in
    let second : iter_rest (zip_second c.into_iter-goes-iterator.result) ≡ c.args.items.now = search rules in
    let e = zip_end c.args.gone.now c.args.items.now c.loop-goes.yielded c.into_iter-goes-iterator.result c.loop-goes.goes-iterator c.next.new.self c.next.result first second c.loop-goes.yielded_by c.in-None.is c.next.ensures.steps in
    kept_end g.row.N c.args.filler c.args.gone.now c.args.items.now _ c.loop-goes.made c.loop-goes.k c.loop-goes.invariant.kept e
