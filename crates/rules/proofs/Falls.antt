-- The number of distinct cell nets falls where a net of the normal form is set. Assumes nothing.
use Prim.Native.Nat.{ℕ, ◌≤◌, ◌<◌}
use mathlib.Core.Bool.{Bool, true, false, not, ◌&&◌}
use mathlib.Core.List.{List, [], ◌∷◌, map}
use mathlib.Core.Path.{◌≡◌}
use native.Mathlib.Omega.{arith}
use borrow.Author.Tests.{lt-leb}
use lib.Dec.{eqb}
use lib.ListN.{length, length-map}
use Rattle.lists.specs.Bools.{by_bool, clash}
use Rattle.lists.specs.Lists.{mem}
use Rattle.rules.proofs.Columns.{test-mem}
use Rattle.rules.proofs.Depths.{columns-distinct, distinct-few}
use Rattle.rules.specs.Dispatch.{distinct, distinct_from, done, test}
use Rattle.rules.specs.Matrix.{Matrix, assume, swap}
use Rattle.rules.specs.Nets.{is_cell}
use Rattle.rules.specs.Normalize.{asked, kept, normalize}
use Rattle.rules.specs.Trits.{bit}

bit-one : (b : Bool) → bit b ≤ 1
bit-one true = omega arith
bit-one false = omega arith

-- a net of the list made a constant is one cell less at least
swap_fewer : (t b : ℕ) (before ns : List ℕ) → b < 3 → mem t ns ≡ true → distinct_from before (map (swap t b) ns) < length ns
unfolding mem distinct_from
swap_fewer t b before [] h i = absurd (clash i)
swap_fewer t b before (n ∷ ns) h i =
    let few = distinct-few (b ∷ before) (map (swap t b) ns) in
    let l = length-map ns (swap t b) in
    let r = swap_fewer t b (n ∷ before) ns h in
    by_bool (eqb n t)
    (λ p. rw (p, lt-leb 3 b h) (omega arith))
    (λ p. let q = r (rw p at i) in rw p (omega (arith, bit-one (is_cell n && not (mem n before)))))

-- the measure of dispatch's recursion
pub distinct_falls : (m : Matrix) (b : Bool) → done (normalize m) ≡ false → distinct (assume (test (normalize m)) (bit b) (normalize m)).nets < distinct m.nets
unfolding normalize
distinct_falls m b d =
    let w : Matrix = normalize m in
    let a = swap_fewer (test w) (bit b) [] w.nets (omega (arith, bit-one b)) (test-mem w d) in
    let c = columns-distinct (asked m.nets (kept m)) [] m.nets in
    omega arith
