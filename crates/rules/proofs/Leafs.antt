-- A leaf has the rules of a row, or none; and the tree is no larger than its columns allow. Assumes nothing.
use Prim.Native.Nat.{ℕ, zero, suc, ◌+◌, ◌≤◌}
use mathlib.Core.List.{List, [], ◌∷◌, map}
use mathlib.Core.Bool.{Bool, true, false, cond}
use mathlib.Core.Option.{Option, none, some}
use native.Mathlib.Omega.{arith}
use lib.Dec.{eqb}
use lib.ListN.{length}
use Rattle.lists.specs.Bools.{by_bool}
use Rattle.rules.proofs.Trees.{reduce-peak}
use Rattle.rules.specs.Dispatch.{dispatch, done, head_rules, raw_of, rules, sub, test}
use Rattle.rules.specs.Fuel.{raw}
use Rattle.rules.specs.Matrix.{Matrix, Row, add_enable, assume, widened}
use Rattle.rules.specs.Normalize.{again, keep, kept, moved, normalize, sound, stay}
use Rattle.rules.specs.Tree.{Leaves, Tree, leaf, node, peak, reduce, same, size}
use Rattle.rules.specs.Trits.{bit}

-- every row's rules are so
unfoldable pub Named : (List ℕ → Type 0) → List Row → Type 0
Named P [] = Unit {0}
Named P (r ∷ rs) = P r.rules × Named P rs

pub keep-named : (P : List ℕ → Type 0) (ns : List ℕ) (last : Option (List ℕ)) (rs : List Row) → Named P rs → Named P (keep ns last rs)
unfolding keep Named
keep-named P ns last [] h = tt
keep-named P ns last (r ∷ rs) h =
    let one = keep-named P ns last rs h.1 in
    let two = keep-named P ns (some r.pattern) rs h.1 in
    by_bool (again last r.pattern) (λ p. rw p one) (λ p. by_bool (sound ns r.pattern) (λ s. rw (p, s) (h.0, two)) (λ s. rw (p, s) two))

pub moved_named : (P : List ℕ → Type 0) (ns cs : List ℕ) (rs : List Row) → Named P rs → Named P (map (moved ns cs) rs)
unfolding Named
moved_named P ns cs [] h = tt
moved_named P ns cs (r ∷ rs) h = (h.0, moved_named P ns cs rs h.1)

pub widened-named : (P : List ℕ → Type 0) (rs : List Row) → Named P rs → Named P (map widened rs)
unfolding Named
widened-named P [] h = tt
widened-named P (r ∷ rs) h = (h.0, widened-named P rs h.1)

normal_named : (P : List ℕ → Type 0) (m : Matrix) → Named P m.rows → Named P (normalize m).rows
unfolding normalize
normal_named P m h = moved_named P m.nets (stay m) (kept m) (keep-named P m.nets none m.rows h)

enable_named : (P : List ℕ → Type 0) → P [] → (e : ℕ) (m : Matrix) → Named P m.rows → Named P (add_enable e m).rows
unfolding Named
enable_named P n e m h = by_bool (eqb e 1) (λ p. rw (p, add_enable) h) (λ p. rw (p, add_enable) (n, widened-named P m.rows h))

head-named : (P : List ℕ → Type 0) → P [] → (rs : List Row) → Named P rs → P (head_rules rs)
unfolding Named
head-named P n [] h = n
head-named P n (r ∷ rs) h = h.0

sub-named : (P : List ℕ → Type 0) (m : Matrix) (b : Bool) → Named P m.rows → Named P (sub b m).rows
unfolding sub
sub-named P m b h = normal_named P (assume (test m) (bit b) m) h

raw-leaves : (P : List ℕ → Type 0) → P [] → (f : ℕ) (m : Matrix) → Named P m.rows → Leaves P (raw Matrix done rules test sub f m)
unfolding raw Leaves
raw-leaves P n zero m h = head-named P n m.rows h
raw-leaves P n (suc f) m h =
    let z = raw-leaves P n f (sub false m) (sub-named P m false h) in
    let o = raw-leaves P n f (sub true m) (sub-named P m true h) in
    by_bool (done m) (λ d. rw (d, raw) (head-named P n m.rows h)) (λ d. rw (d, raw) (z, o))

mk-leaves : (P : List ℕ → Type 0) (t : ℕ) (z o : Tree) (b : Bool) → Leaves P z → Leaves P o → Leaves P (cond b z (node t z o))
unfolding Leaves
mk-leaves P t z o true h k = h
mk-leaves P t z o false h k = (h, k)

reduce-leaves : (P : List ℕ → Type 0) (t : Tree) → Leaves P t → Leaves P (reduce t)
unfolding reduce Leaves
reduce-leaves P (leaf rs) h = h
reduce-leaves P (node t z o) h = mk-leaves P t (reduce z) (reduce o) (same (reduce z) (reduce o)) (reduce-leaves P z h.0) (reduce-leaves P o h.1)

pub dispatch-leaves : (P : List ℕ → Type 0) → P [] → (e : ℕ) (m : Matrix) → Named P m.rows → Leaves P (dispatch e m)
unfolding dispatch raw_of
dispatch-leaves P n e m h =
    let w : Matrix = add_enable e m in
    reduce-leaves P (raw_of w) (raw-leaves P n (length (normalize w).nets) (normalize w) (normal_named P w (enable_named P n e m h)))

-- 2 ^ (k + 1) - 1
unfoldable pub full : ℕ → ℕ
full zero = 1
full (suc k) = full k + full k + 1

full_pos : (k : ℕ) → 1 ≤ full k
unfolding full
full_pos zero = omega arith
full_pos (suc k) = omega arith

cond_le : (b : Bool) (n c : ℕ) → n ≤ c → cond b 0 n ≤ c
cond_le true n c h = omega arith
cond_le false n c h = h

raw-peak : (f : ℕ) (m : Matrix) → peak (raw Matrix done rules test sub f m) ≤ full f
unfolding raw peak full
raw-peak zero m = omega arith
raw-peak (suc f) m =
    let z = raw-peak f (sub false m) in
    let o = raw-peak f (sub true m) in
    let tz : Tree = raw Matrix done rules test sub f (sub false m) in
    let to : Tree = raw Matrix done rules test sub f (sub true m) in
    let a = reduce-peak tz in
    let b = reduce-peak to in
    let c = cond_le (same (reduce tz) (reduce to)) (size (reduce tz) + size (reduce to) + 1) (full f + full f + 1) (omega arith) in
    by_bool (done m) (λ d. rw (d, raw) (omega (arith, full_pos f))) (λ d. rw (d, raw) (omega arith))

pub raw_of-peak : (m : Matrix) → peak (raw_of m) ≤ full (length (normalize m).nets)
unfolding raw_of
raw_of-peak m = raw-peak (length (normalize m).nets) (normalize m)
