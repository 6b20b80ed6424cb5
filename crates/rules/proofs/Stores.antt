-- A tree in the store: its coding is as long as its entries, and is read back as that tree. Assumes nothing.
use Prim.Native.Nat.{ℕ, suc, ◌+◌, ◌-◌, ◌*◌, ◌/◌, ◌≤◌, min}
use mathlib.Core.Bool.{true, false, not, ◌&&◌}
use mathlib.Core.List.{List, [], ◌∷◌, ◌++◌, append_assoc, map}
use mathlib.Core.Option.{some}
use mathlib.Core.Path.{◌≡◌, refl, ap, ◌∙◌}
use native.Mathlib.Omega.{arith}
use borrow.Author.Tests.{leb-true, lt-ltb, ne_eqb}
use lib.Dec.{eqb, leb}
use lib.ListN.{drop, length, length-append, length-drop, length-map, length-replicate, replicate, take}
use lib.Seq.{drop_at, take_at}
use Rattle.lists.specs.Bools.{and_left, and_right}
use Rattle.lists.specs.Lists.{all, same_refl}
use Rattle.lists.specs.Runs.{runs}
use Rattle.rules.proofs.Trees.{size_pos}
use Rattle.rules.specs.Bounds.{node_run, nodes_max, rules_max}
use Rattle.rules.specs.Given.{ascends}
use Rattle.rules.specs.Nets.{cell, is_cell, is_name, number, over}
use Rattle.rules.specs.Store.{encode, leaf_run, run_of_node, one_tree, read_all, step, stored, tree_at, used}
use Rattle.rules.specs.Tree.{Fit, Tree, fine, fine_leaf, leaf, node, size, untested}

-- ---- what a fine tree has

-- every test and every rule is a cell
unfoldable pub AllCells : List ℕ → Type 0
AllCells [] = Unit {0}
AllCells (n ∷ ns) = (3 ≤ n) × AllCells ns

unfoldable pub Cells : Tree → Type 0
unfolding AllCells
Cells (leaf rs) = AllCells rs
Cells (node t z o) = (3 ≤ t) × Cells z × Cells o

name_cell : (n : ℕ) → is_name n ≡ true → 3 ≤ n
name_cell n h = leb-true 3 n (and_left (is_cell n) (not (over n)) h)

names-cells : (rs : List ℕ) → all is_name rs ≡ true → AllCells rs
unfolding AllCells
names-cells [] h = tt
names-cells (r ∷ rs) h = (name_cell r (and_left (is_name r) (all is_name rs) h), names-cells rs (and_right (is_name r) (all is_name rs) h))

-- a branch that is fine: its test, and its arms
fine-test : (t : ℕ) (z o : Tree) → fine (node t z o) ≡ true → is_name t ≡ true
unfolding fine
fine-test t z o h = and_left (is_name t) (untested t z && (untested t o && (fine z && fine o))) h

fine_arms : (t : ℕ) (z o : Tree) → fine (node t z o) ≡ true → (fine z && fine o) ≡ true
unfolding fine
fine_arms t z o h =
    and_right (untested t o) (fine z && fine o)
    (and_right (untested t z) (untested t o && (fine z && fine o)) (and_right (is_name t) (untested t z && (untested t o && (fine z && fine o))) h))

pub fine_zero : (t : ℕ) (z o : Tree) → fine (node t z o) ≡ true → fine z ≡ true
fine_zero t z o h = and_left (fine z) (fine o) (fine_arms t z o h)

pub fine-one : (t : ℕ) (z o : Tree) → fine (node t z o) ≡ true → fine o ≡ true
fine-one t z o h = and_right (fine z) (fine o) (fine_arms t z o h)

fine-few : (rs : List ℕ) → fine_leaf rs ≡ true → length rs ≤ rules_max
fine-few rs h = leb-true (length rs) rules_max (and_left (leb (length rs) rules_max) (all is_name rs && ascends rs) h)

fine_names : (rs : List ℕ) → fine_leaf rs ≡ true → all is_name rs ≡ true
fine_names rs h = and_left (all is_name rs) (ascends rs) (and_right (leb (length rs) rules_max) (all is_name rs && ascends rs) h)

pub fine-fit : (t : Tree) → fine t ≡ true → Fit t
unfolding fine Fit
fine-fit (leaf rs) h = fine-few rs h
fine-fit (node t z o) h = (fine-fit z (fine_zero t z o h), fine-fit o (fine-one t z o h))

pub fine-cells : (t : Tree) → fine t ≡ true → Cells t
unfolding fine Cells
fine-cells (leaf rs) h = names-cells rs (fine_names rs h)
fine-cells (node t z o) h = (name_cell t (fine-test t z o h), fine-cells z (fine_zero t z o h), fine-cells o (fine-one t z o h))

-- ---- the coding

pub cells_back : (rs : List ℕ) → AllCells rs → map cell (map number rs) ≡ rs
unfolding AllCells
cells_back [] h = refl
cells_back (r ∷ rs) h =
    let p : cell (number r) ≡ r = omega (arith, h.0) in
    let q : map cell (map number rs) ≡ rs = cells_back rs h.1 in
    cc

leaf_length : (rs : List ℕ) → length rs ≤ rules_max → length (leaf_run rs) ≡ node_run
leaf_length rs h = simp (length-append, length-map, length-replicate) (omega arith)

pub encode-length : (t : Tree) → Fit t → length (encode t) ≡ node_run * size t
unfolding encode size Fit
encode-length (leaf rs) h = leaf_length rs h
encode-length (node t z o) h =
    let a = encode-length z h.0 in
    let b = encode-length o h.1 in
    let c = length-append (encode o) (run_of_node t (size o)) in
    omega (arith, a, b, c, length-append (encode z) (encode o ++ run_of_node t (size o)))

-- one entry more
runs-one : (r xs : List ℕ) (n k : ℕ) → length r ≡ node_run → k ≡ suc n → runs node_run k (r ++ xs) ≡ r ∷ runs node_run n xs
unfolding runs
runs-one r xs n k h e = rw (e, take_at r xs node_run h, drop_at r xs node_run h)

step_leaf : (rs : List ℕ) (st : List Tree) → length rs ≤ rules_max → AllCells rs → step (leaf_run rs) st ≡ leaf rs ∷ st
step_leaf rs st h c =
    let e : eqb (length rs) node_run ≡ false = ne_eqb (length rs) node_run (λ q. omega arith) in
    let l : length (map number rs) ≡ length rs = length-map rs number in
    let t : take (length rs) (map number rs ++ replicate (rules_max - length rs) 0) ≡ map number rs = take_at (map number rs) (replicate (rules_max - length rs) 0) (length rs) l in
    rw (e, t, cells_back rs c)

read-branch : (t : ℕ) (z o : Tree) (xs : List ℕ) (n : ℕ) (st : List Tree) → cell (number t) ≡ t
    → read_all (runs node_run (suc n) (run_of_node t (size o) ++ xs)) (o ∷ z ∷ st) ≡ read_all (runs node_run n xs) (node t z o ∷ st)
unfolding read_all
read-branch t z o xs n st j =
    ap (λ (l : List (List ℕ)). read_all l (o ∷ z ∷ st)) (runs-one (run_of_node t (size o)) xs n (suc n) refl refl)
    ∙ ap (λ (u : ℕ). read_all (runs node_run n xs) (node u z o ∷ st)) j

pub read-encode : (t : Tree) → Fit t → Cells t → (xs : List ℕ) (n k : ℕ) (st : List Tree) → k ≡ size t + n
    → read_all (runs node_run k (encode t ++ xs)) st ≡ read_all (runs node_run n xs) (t ∷ st)
unfolding read_all encode size Fit Cells
read-encode (leaf rs) h c xs n k st e =
    let l : length (leaf_run rs) ≡ node_run = leaf_length rs h in
    let j : k ≡ suc n = omega arith in
    ap (λ (l : List (List ℕ)). read_all l st) (runs-one (leaf_run rs) xs n k l j) ∙ ap (read_all (runs node_run n xs)) (step_leaf rs st h c)
read-encode (node t z o) h c xs n k st e =
    let r : List ℕ = run_of_node t (size o) in
    let a : (encode z ++ (encode o ++ r)) ++ xs ≡ encode z ++ (encode o ++ (r ++ xs)) =
    append_assoc (encode z) (encode o ++ r) xs ∙ ap (λ (l : List ℕ). encode z ++ l) (append_assoc (encode o) r xs) in
    let p = read-encode z h.0 c.1 (encode o ++ (r ++ xs)) (size o + suc n) k st (omega arith) in
    let q = read-encode o h.1 c.2 (r ++ xs) (suc n) (size o + suc n) (z ∷ st) refl in
    let j : cell (number t) ≡ t = omega (arith, c.0) in
    ap (λ (l : List ℕ). read_all (runs node_run k l) st) a ∙ p ∙ q ∙ read-branch t z o xs n st j

-- ---- in a store

-- the first entries are those of the tree alone
runs-front : (t : Tree) → Fit t → Cells t → (xs : List ℕ) → read_all (runs node_run (size t) (encode t ++ xs)) [] ≡ t ∷ []
unfolding read_all runs
runs-front t h c xs = read-encode t h c xs 0 (size t) [] (omega arith)

pub stored-length : (t : Tree) (xs : List ℕ) → Fit t → size t ≤ used xs → length (stored t xs) ≡ length xs
unfolding stored
stored-length t xs h k =
    let u : ℕ = node_run * used xs in
    let a = encode-length t h in
    let b = length-append (encode t) (replicate (u - node_run * size t) 0 ++ drop u xs) in
    let c = length-append (replicate (u - node_run * size t) 0) (drop u xs) in
    let d = length-replicate {A = ℕ} (u - node_run * size t) 0 in
    let e = length-drop u xs in
    omega arith

-- the store after an answer has that tree at the place of its root
pub tree-stored : (t : Tree) (xs : List ℕ) → fine t ≡ true → size t ≤ used xs → tree_at (stored t xs) (size t - 1) ≡ some t
unfolding tree_at one_tree stored
tree-stored t xs f k =
    let h = fine-fit t f in
    let rest : List ℕ = replicate (node_run * used xs - node_run * size t) 0 ++ drop (node_run * used xs) xs in
    let p = size_pos t in
    let s : size t - 1 + 1 ≡ size t = omega arith in
    let l : length (stored t xs) ≡ length xs = stored-length t xs h k in
    let u : used (stored t xs) ≡ used xs = ap (λ (n : ℕ). min (n / node_run) nodes_max) l in
    let b = lt-ltb (size t - 1) (used (stored t xs)) (omega arith) in
    let c : take (node_run * size t) (encode t ++ rest) ≡ encode t = take_at (encode t) rest (node_run * size t) (encode-length t h) in
    rw (b, s, c, runs-front t h (fine-cells t f) rest, same_refl (encode t), f)
