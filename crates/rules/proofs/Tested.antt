-- The tests of a dispatched tree are nets of the matrix. Assumes nothing.
use Prim.Native.Nat.{ℕ, zero, suc, ◌<◌}
use mathlib.Core.Path.{◌≡◌, refl, subst}
use mathlib.Core.List.{List, [], ◌∷◌, ◌++◌}
use mathlib.Core.Bool.{Bool, true, false, ◌||◌, false≢true, cond}
use lib.Dec.{eqb}
use lib.ListN.{length}
use borrow.Author.Tests.{eqb-true}
use Rattle.lists.specs.Bools.{by_bool, or_cases}
use Rattle.lists.specs.Lists.{mem}
use Rattle.rules.proofs.Columns.{columns-from, normal_cells, sub-from, test-mem}
use Rattle.rules.proofs.Muxes.{Cell}
use Rattle.rules.specs.Dispatch.{dispatch, done, raw_of, rules, sub, test}
use Rattle.rules.specs.Fuel.{raw}
use Rattle.rules.specs.Matrix.{Matrix, add_enable}
use Rattle.rules.specs.Nets.{first_mux}
use Rattle.rules.specs.Normalize.{asked, kept, normalize}
use Rattle.rules.specs.Tree.{Tests, Tree, leaf, node, reduce, same}

raw-tests : (P : ℕ → Type 0) (f : ℕ) (m : Matrix) → ((n : ℕ) → mem n m.nets ≡ true → P n) → Tests P (raw Matrix done rules test sub f m)
unfolding raw Tests
raw-tests P zero m h = tt
raw-tests P (suc f) m h =
    let z = raw-tests P f (sub false m) (λ n i. h n (sub-from m false n i).0) in
    let o = raw-tests P f (sub true m) (λ n i. h n (sub-from m true n i).0) in
    by_bool (done m) (λ d. rw (d, raw) tt) (λ d. rw (d, raw) (h (test m) (test-mem m d), z, o))

mk-tests : (P : ℕ → Type 0) (t : ℕ) (z o : Tree) (b : Bool) → Tests P (node t z o) → Tests P (cond b z (node t z o))
unfolding Tests
mk-tests P t z o true h = h.1
mk-tests P t z o false h = h

reduce-tests : (P : ℕ → Type 0) (t : Tree) → Tests P t → Tests P (reduce t)
unfolding reduce Tests
reduce-tests P (leaf rs) h = h
reduce-tests P (node t z o) h = mk-tests P t (reduce z) (reduce o) (same (reduce z) (reduce o)) (h.0, reduce-tests P z h.1, reduce-tests P o h.2)

pub dispatch-tests : (P : ℕ → Type 0) (e : ℕ) (m : Matrix) → ((n : ℕ) → mem n (normalize (add_enable e m)).nets ≡ true → P n) → Tests P (dispatch e m)
unfolding dispatch raw_of
dispatch-tests P e m h = reduce-tests P (raw_of (add_enable e m)) (raw-tests P (length (normalize (add_enable e m)).nets) (normalize (add_enable e m)) h)

pub dispatch-cells : (e : ℕ) (m : Matrix) → Tests Cell (dispatch e m)
dispatch-cells e m = dispatch-tests Cell e m (normal_cells (add_enable e m))

-- what is so of each net is so of each test
mem_snoc : (ns : List ℕ) (e n : ℕ) → mem n (ns ++ (e ∷ [])) ≡ true → (P : ℕ → Type 0) → ((k : ℕ) → mem k ns ≡ true → P k) → P e → P n
unfolding mem
mem_snoc [] e n i P h p = or_cases (eqb e n) false i (λ q. subst P (eqb-true e n q) p) (λ q. absurd (false≢true q))
mem_snoc (x ∷ ns) e n i P h p =
    let one = mem_snoc ns e n in
    by_bool (eqb x n)
    (λ q. h n (rw q))
    (λ q. one (rw q at i) P (λ k j. h k (or_r (eqb x k) (mem k ns) j)) p)
  where
    or_r : (a b : Bool) → b ≡ true → (a || b) ≡ true
    or_r true b e = refl
    or_r false b e = e

enable_nets : (P : ℕ → Type 0) (e : ℕ) (m : Matrix) → ((n : ℕ) → mem n m.nets ≡ true → P n) → P e → (n : ℕ) → mem n (add_enable e m).nets ≡ true → P n
enable_nets P e m h p n =
    by_bool (eqb e 1)
    (λ q. rw (q, add_enable) (h n))
    (λ q. rw (q, add_enable) (λ i. mem_snoc m.nets e n i P h p))

pub dispatch-small : (e : ℕ) (m : Matrix) → ((n : ℕ) → mem n m.nets ≡ true → n < first_mux) → e < first_mux → Tests (λ n. n < first_mux) (dispatch e m)
unfolding normalize
dispatch-small e m h l =
    let w : Matrix = add_enable e m in
    dispatch-tests (λ n. n < first_mux) e m (λ n i. enable_nets (λ n. n < first_mux) e m h l n (columns-from (asked w.nets (kept w)) [] w.nets n i).1)
