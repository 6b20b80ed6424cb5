-- What the end of a slice says of the tree that ends there. Assumes nothing.
use Prim.Native.Nat.{ℕ, ◌+◌, ◌*◌, ◌-◌, ◌≤◌}
use mathlib.Core.List.{List, ◌++◌, append_assoc, map}
use mathlib.Core.Path.{◌≡◌, refl, sym, ap, ap₂, ◌∙◌}
use native.Mathlib.Omega.{arith}
use lib.ListN.{drop, get_or, length, length-append, length-map, replicate, take}
use lib.Seq.{drop_at, drop-drop, get_or-append-add, take_at}
use Rattle.rules.proofs.Stores.{Cells, cells_back, encode-length, fine-cells, fine-fit, fine-one, fine_zero}
use Rattle.rules.proofs.Trees.{size_pos}
use Rattle.rules.specs.Bounds.{node_run, rules_max}
use Rattle.rules.specs.Nets.{cell, number}
use Rattle.rules.specs.Store.{encode, leaf_run, run_of_node}
use Rattle.rules.specs.Tree.{Fit, Tree, leaf, node, size}
use Rattle.tree.specs.Form.{Ends, RootOf}
use Rattle.tree.specs.declared.inner.Root.TheVariants.{Branch, Leaf}

-- ---- of any tree

pub ends_long : (t : Tree) (xs : List ℕ) → Ends t xs → node_run * size t ≤ length xs
ends_long t xs h = omega (arith, ap length h.is, length-append h.front (encode t), encode-length t (fine-fit t h.good))

pub ends_run : (t : Tree) (xs : List ℕ) → Ends t xs → node_run ≤ length xs
ends_run t xs h = omega (arith, ends_long t xs h, size_pos t)

-- a slice that ends in a run
tail_at : (front run : List ℕ) (i : ℕ) → length run ≡ node_run → get_or (front ++ run) (length (front ++ run) - node_run + i) 0 ≡ get_or run i 0
tail_at front run i l =
    let n : length (front ++ run) - node_run + i ≡ length front + i = omega (arith, length-append front run) in
    ap (λ (k : ℕ). get_or (front ++ run) k 0) n ∙ get_or-append-add front run i 0

tail_is : (xs front run : List ℕ) → xs ≡ front ++ run → length run ≡ node_run → drop (length xs - node_run) xs ≡ run
tail_is xs front run e l =
    let n : length front ≡ length xs - node_run = omega (arith, ap length e, length-append front run) in
    ap (λ (q : List ℕ). drop (length xs - node_run) q) e ∙ drop_at front run (length xs - node_run) n

-- ---- of a leaf

pub leaf_few : (rs xs : List ℕ) → Ends (leaf rs) xs → length rs ≤ rules_max
unfolding Fit
leaf_few rs xs h = fine-fit (leaf rs) h.good

pub leaf_end : (rs xs : List ℕ) → Ends (leaf rs) xs → drop (length xs - node_run) xs ≡ leaf_run rs
unfolding encode size
leaf_end rs xs h = tail_is xs h.front (leaf_run rs) h.is (encode-length (leaf rs) (fine-fit (leaf rs) h.good))

pub leaf_head : (rs xs : List ℕ) → Ends (leaf rs) xs → get_or xs (length xs - node_run) 0 ≡ length rs
unfolding encode size
leaf_head rs xs h =
    let l : length (leaf_run rs) ≡ node_run = encode-length (leaf rs) (fine-fit (leaf rs) h.good) in
    let n0 : length xs - node_run ≡ length xs - node_run + 0 = omega arith in
    ap (λ (k : ℕ). get_or xs k 0) n0 ∙ ap (λ (q : List ℕ). get_or q (length q - node_run + 0) 0) h.is ∙ tail_at h.front (leaf_run rs) 0 l

-- its rules, from the numbers after the count
pub leaf_rules : (rs xs : List ℕ) → Ends (leaf rs) xs → map cell (take (length rs) (drop (length xs - node_run + 1) xs)) ≡ rs
unfolding Cells
leaf_rules rs xs h =
    let n : length (map number rs) ≡ length rs = length-map rs number in
    let d : drop (length xs - node_run + 1) xs ≡ map number rs ++ replicate (rules_max - length rs) 0 = sym (drop-drop 1 (length xs - node_run) xs) ∙ ap (drop 1) (leaf_end rs xs h) in
    ap (λ (l : List ℕ). map cell (take (length rs) l)) d
    ∙ ap (map cell) (take_at (map number rs) (replicate (rules_max - length rs) 0) (length rs) n)
    ∙ cells_back rs (fine-cells (leaf rs) h.good)

-- ---- of a branch

-- its test is the cell of its number
pub test_back : (t : ℕ) (z o : Tree) (xs : List ℕ) → Ends (node t z o) xs → cell (number t) ≡ t
unfolding Cells
test_back t z o xs h = omega (arith, (fine-cells (node t z o) h.good).0)

pub record NodeEnd (t : ℕ) (z o : Tree) (xs : List ℕ) : Type 0 where
  pub head : get_or xs (length xs - node_run) 0 ≡ node_run
  pub test : get_or xs (length xs - node_run + 1) 0 ≡ number t
  pub count : get_or xs (length xs - node_run + 2) 0 ≡ size o
  pub one : Ends o (take (length xs - node_run) xs)
  pub zero_arm : Ends z (take (length xs - node_run - node_run * size o) xs)
  pub room : node_run * size o + node_run * size z + node_run ≤ length xs

pub node_end : (t : ℕ) (z o : Tree) (xs : List ℕ) → Ends (node t z o) xs → NodeEnd t z o xs
unfolding Fit encode size
node_end t z o xs h =
    let f : Fit z × Fit o = fine-fit (node t z o) h.good in
    let a : List ℕ = h.front ++ encode z in
    let e : List ℕ = a ++ encode o in
    let run : List ℕ = run_of_node t (size o) in
    let w : xs ≡ e ++ run = h.is ∙ simp append_assoc in
    let w2 : xs ≡ a ++ (encode o ++ run) = h.is ∙ simp append_assoc in
    let lz = encode-length z f.0 in
    let lo = encode-length o f.1 in
    let la : length a ≡ length h.front + length (encode z) = length-append h.front (encode z) in
    let le : length e ≡ length a + length (encode o) = length-append a (encode o) in
    let lx : length xs ≡ length e + node_run = ap length w ∙ length-append e run in
    let n0 : length (e ++ run) - node_run ≡ length (e ++ run) - node_run + 0 = omega arith in
    let p1 : length e ≡ length xs - node_run = omega arith in
    let p2 : length a ≡ length xs - node_run - node_run * size o = omega arith in
    record {
      head = ap (λ (q : List ℕ). get_or q (length q - node_run) 0) w ∙ ap (λ (k : ℕ). get_or (e ++ run) k 0) n0 ∙ tail_at e run 0 refl;
      test = ap (λ (q : List ℕ). get_or q (length q - node_run + 1) 0) w ∙ tail_at e run 1 refl;
      count = ap (λ (q : List ℕ). get_or q (length q - node_run + 2) 0) w ∙ tail_at e run 2 refl;
      one = record { front = a; is = ap (λ (q : List ℕ). take (length xs - node_run) q) w ∙ take_at e run (length xs - node_run) p1; good = fine-one t z o h.good };
      zero_arm = record {
        front = h.front;
        is = ap (λ (q : List ℕ). take (length xs - node_run - node_run * size o) q) w2 ∙ take_at a (encode o ++ run) (length xs - node_run - node_run * size o) p2;
        good = fine_zero t z o h.good;
      };
      room = omega arith;
    }

-- ---- what is answered for a leaf, and for a branch

pub root_leaf : (t : Tree) (xs : List ℕ) (h : ℕ) → Ends t xs → h ≡ get_or xs (length xs - node_run) 0 → (h ≡ node_run → ⊥) → RootOf t xs (Leaf h)
unfolding RootOf
root_leaf (leaf rs) xs h e p ne = ap Leaf (p ∙ leaf_head rs xs e)
root_leaf (node t z o) xs h e p ne = absurd (ne (p ∙ (node_end t z o xs e).head))

pub root_node : (t : Tree) (xs : List ℕ) (u m : ℕ) → Ends t xs → get_or xs (length xs - node_run) 0 ≡ node_run
    → u ≡ get_or xs (length xs - node_run + 1) 0 → m ≡ get_or xs (length xs - node_run + 2) 0
    → RootOf t xs (Branch (record { 0 = u }) (length xs - node_run) (length xs - node_run - node_run * m))
unfolding RootOf
root_node (leaf rs) xs u m e p q r = absurd (omega (arith, leaf_head rs xs e, leaf_few rs xs e))
root_node (node t z o) xs u m e p q r =
    let w = node_end t z o xs e in
    ap₂ (λ (a b : ℕ). Branch (record { 0 = a }) (length xs - node_run) (length xs - node_run - node_run * b)) (q ∙ w.test) (r ∙ w.count)

-- the size of the one arm is within the slice, for any tree that ends there
pub count_room : (t : Tree) (xs : List ℕ) → Ends t xs → get_or xs (length xs - node_run) 0 ≡ node_run
    → node_run * get_or xs (length xs - node_run + 2) 0 ≤ length xs - node_run
count_room (leaf rs) xs e p = absurd (omega (arith, leaf_head rs xs e, leaf_few rs xs e))
count_room (node t z o) xs e p = let w = node_end t z o xs e in omega (arith, w.count, w.room)
