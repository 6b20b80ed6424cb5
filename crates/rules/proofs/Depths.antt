-- A path has at most as many tests as there are distinct cell nets. Assumes nothing.
use Prim.Native.Nat.{ℕ, zero, suc, ◌≤◌, max}
use mathlib.Core.Bool.{Bool, true, false, not, cond, ◌&&◌}
use mathlib.Core.List.{List, [], ◌∷◌}
use native.Mathlib.Omega.{arith}
use lib.ListN.{length}
use Rattle.lists.specs.Bools.{by_bool}
use Rattle.lists.specs.Lists.{mem}
use Rattle.rules.specs.Dispatch.{dispatch, distinct, distinct_from, done, raw_of, rules, sub, test}
use Rattle.rules.specs.Fuel.{raw}
use Rattle.rules.specs.Matrix.{Matrix, add_enable}
use Rattle.rules.specs.Nets.{is_cell}
use Rattle.rules.specs.Normalize.{asked, columns, kept, normalize}
use Rattle.rules.specs.Tree.{Tree, depth, leaf, node, reduce, same}

raw-depth : (f : ℕ) (m : Matrix) → depth (raw Matrix done rules test sub f m) ≤ f
unfolding raw depth
raw-depth zero m = omega arith
raw-depth (suc f) m =
    let z = raw-depth f (sub false m) in
    let o = raw-depth f (sub true m) in
    by_bool (done m) (λ d. rw (d, raw) (omega arith)) (λ d. rw (d, raw) (omega arith))

mk-depth : (t : ℕ) (z o : Tree) (b : Bool) → depth (cond b z (node t z o)) ≤ suc (max (depth z) (depth o))
unfolding depth
mk-depth t z o true = omega arith
mk-depth t z o false = omega arith

reduce-depth : (t : Tree) → depth (reduce t) ≤ depth t
unfolding reduce depth
reduce-depth (leaf rs) = omega arith
reduce-depth (node t z o) =
    let a = mk-depth t (reduce z) (reduce o) (same (reduce z) (reduce o)) in
    let b = reduce-depth z in
    let c = reduce-depth o in
    omega arith

pub columns-distinct : (ask : ℕ → Bool) (before ns : List ℕ) → length (columns ask before ns) ≤ distinct_from before ns
unfolding columns distinct_from
columns-distinct ask before [] = omega arith
columns-distinct ask before (n ∷ ns) =
    let r = columns-distinct ask (n ∷ before) ns in
    by_bool (is_cell n)
    (λ p. by_bool (mem n before)
    (λ q. rw (p, q) (omega arith))
    (λ q. by_bool (ask n) (λ a. rw (p, q, a) (omega arith)) (λ a. rw (p, q, a) (omega arith))))
    (λ p. rw p (omega arith))

pub raw_of-depth : (m : Matrix) → depth (raw_of m) ≤ distinct m.nets
unfolding raw_of normalize
raw_of-depth m =
    let b = raw-depth (length (normalize m).nets) (normalize m) in
    let c = columns-distinct (asked m.nets (kept m)) [] m.nets in
    omega arith

pub dispatch-depth : (e : ℕ) (m : Matrix) → depth (dispatch e m) ≤ depth (raw_of (add_enable e m))
unfolding dispatch
dispatch-depth e m = reduce-depth (raw_of (add_enable e m))

pub distinct-few : (before ns : List ℕ) → distinct_from before ns ≤ length ns
unfolding distinct_from
distinct-few before [] = omega arith
distinct-few before (n ∷ ns) =
    let r = distinct-few (n ∷ before) ns in
    by_bool (is_cell n && not (mem n before)) (λ p. rw p (omega arith)) (λ p. rw p (omega arith))
