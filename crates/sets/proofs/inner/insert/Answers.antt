use borrow.Author.Tests.{eq-eqb, le-ltb, lt-ltb, ne_eqb}
use Rattle.std.proofs.Common.{◌≡◌, ◌∙◌, ◌&&◌, arith, eqb, false, get_or, leb, length, length-take-le, ltb, rules, take, tests, ℕ}
use Rattle.std.proofs.lemmas.Iterator.{YieldsList-from_slice}
use Rattle.std.proofs.lemmas.Iterator.Search.{position_from_yields_List}
use Rattle.sets.proofs.Inserts.{insert_kept, insert_put, spot, spot_is}
use Rattle.sets.proofs.inner.insert.Goals as goal
use Rattle.sets.proofs.inner.insert.Goals.{After-unwrap_or-at, else-at-count-via-else-at-count, else-at-count-via-then-at-count+else-items-at}

place : (c : After-unwrap_or-at) → c.unwrap_or-at.result ≡ spot c.args.x (take c.args.count c.args.items.now)
place c =
    let l = take c.args.count c.args.items.now in
    let n : length l ≡ c.args.count = length-take-le _ _ (omega arith) in
    c.unwrap_or-at.ensures ∙ spot_is c.args.x l c.args.count c.position.result n
    (position_from_yields_List (λ (y : ℕ). leb c.args.x y) _ _ c.position.result c.position.ensures.ran (YieldsList-from_slice l cc) (λ y b q k. search (rules, tests)))

pub returns-then-items-at : goal.returns-then-items-at
returns-then-items-at c =
    let a = c.args in
    let p = c.unwrap_or-at.result in
    λ l e q. insert_kept a.items.now a.count a.x p c.requires (place (goal.at.returns-then-items-at c).After-unwrap_or-at) l e q (rw (lt-ltb p a.count c.if-at-count.true, eq-eqb _ a.x c.if-items-at.true))

pub returns : goal.returns
returns c =
    let a = c.args in
    let p = c.unwrap_or-at.result in
    let new : (ltb p a.count && eqb (get_or a.items.now p 0) a.x) ≡ false =
    elim c.else-at-count.branch [
      | else-at-count-via-then-at-count+else-items-at w ↦ rw (lt-ltb p a.count w.if-at-count.true, ne_eqb _ a.x w.if-items-at.false)
      | else-at-count-via-else-at-count w ↦ rw (le-ltb p a.count w.if-at-count.false)
    ] in
    λ l e q. insert_put a.items.now a.count a.x p c.requires (place (goal.at.returns c).After-unwrap_or-at) l e q new _ c.copy_within.ensures.after
