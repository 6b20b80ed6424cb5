use Rattle.muxes.proofs.Leaves.{any_end, any_more, any_stop}
use Rattle.muxes.specs.Leaves.{any_leaf}
use Rattle.rules.specs.Bounds.{node_run}
use Rattle.std.proofs.Common.{Bool, List, arith, length, sym, ℕ, ◌/◌, ◌≡◌, ◌∙◌}
use Rattle.std.specs.Slice.Iter.{chunks_exact_rest}
use Rattle.muxes.proofs.inner.some_leaf.Goals as goal

-- what is left decides as the whole does
decides : (p : List ℕ → Bool) (xs ys : List ℕ) (b : Bool) → any_leaf p (length ys / node_run) ys ≡ any_leaf p (length xs / node_run) xs → any_leaf p (length ys / node_run) ys ≡ b → b ≡ any_leaf p (length xs / node_run) xs
decides p xs ys b i e = sym e ∙ i

pub returns-then-entry_meets : goal.returns-then-entry_meets
returns-then-entry_meets g c =
    let s = c.in-Some.ensures.steps in
    let i = c.loop-entry.invariant in
    decides (g.T.LeafTest.test c.args.test.now) c.args.store.now (chunks_exact_rest c.loop-entry.entry-iterator) _ i.1
    (any_stop (g.T.LeafTest.test c.args.test.now) (chunks_exact_rest c.loop-entry.entry-iterator) c.in-Some.entry.now (chunks_exact_rest c.next.new.self) s.1.0 (s.1.1 ∙ i.0) (sym c.entry_meets.ensures ∙ c.if-entry_meets.true))

pub loop-entry-preserved : goal.loop-entry-preserved
loop-entry-preserved g c =
    let s = c.in-Some.ensures.steps in
    let i = c.loop-entry.invariant in (
      s.0 ∙ i.0,
      decides (g.T.LeafTest.test c.args.test.now) c.args.store.now (chunks_exact_rest c.loop-entry.entry-iterator) _ i.1
          (any_more (g.T.LeafTest.test c.args.test.now) (chunks_exact_rest c.loop-entry.entry-iterator) c.in-Some.entry.now (chunks_exact_rest c.next.new.self) s.1.0 (s.1.1 ∙ i.0) (sym c.entry_meets.ensures ∙ c.if-entry_meets.false)),
    )

pub returns : goal.returns
returns g c =
    let s = c.in-None.ensures.steps in
    let i = c.loop-entry.invariant in
    decides (g.T.LeafTest.test c.args.test.now) c.args.store.now (chunks_exact_rest c.loop-entry.entry-iterator) _ i.1 (any_end (g.T.LeafTest.test c.args.test.now) (chunks_exact_rest c.loop-entry.entry-iterator) (omega (arith, s.1.0, i.0)))
