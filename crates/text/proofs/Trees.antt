-- A tree that a store ends in: what its lines are, from what its root is, and how long they are at most. Assumes nothing.
use Prim.Native.Nat.{ℕ, suc, ◌+◌, ◌*◌, ◌≤◌, ◌<◌}
use borrow.Author.Tests.{le-ltb, lt-ltb}
use lib.Dec.{leb}
use lib.ListN.{drop, length, length-append, take}
use lib.Seq.{length-take-le}
use mathlib.Core.Bool.{true, ◌&&◌}
use mathlib.Core.List.{List, [], ◌∷◌, ◌++◌, append_assoc}
use mathlib.Core.Option.{some}
use mathlib.Core.Path.{◌≡◌, sym, ap, ◌∙◌, subst}
use native.Mathlib.Numerals.{add-one}
use native.Mathlib.Omega.{arith}
use Rattle.lists.specs.Bools.{and_left, and_right}
use Rattle.lists.specs.Lists.{all}
use Rattle.rules.proofs.Stores.{fine-fit}
use Rattle.rules.proofs.Words.{names-low}
use Rattle.rules.specs.Answers.{check_answer, print_tree_after, print_tree_answer}
use Rattle.rules.specs.Bounds.{node_run, nodes_max, rules_max}
use Rattle.rules.specs.Given.{ascends}
use Rattle.rules.specs.Nets.{is_name}
use Rattle.rules.specs.Print.{arm, arm_head, indent, printed_tree}
use Rattle.rules.specs.Refusals.{all_low, tree_in}
use Rattle.rules.specs.Refuse.{FORM, ROOM, done, refused}
use Rattle.rules.specs.Store.{is_none, tree_at}
use Rattle.rules.specs.Tree.{Fit, Tree, fine, leaf, node, size}
use Rattle.text.proofs.Lays.{arm_leaf, branch_long, end_few, head_few, indent_long, lays_as, lays_then, put_front}
use Rattle.text.specs.Longs.{line_max, tree_max}
use Rattle.text.specs.Trees.{Laid, Lays, LeafFits, branch_line, last_rules, rule_end}
use Rattle.text.specs.declared.inner.trees.Sheet.{Sheet}
use Rattle.tree.proofs.Handed.{check_none, handed_ends, tree_handed, unchecked}
use Rattle.tree.proofs.Tails.{ends_long, ends_run, leaf_few, leaf_rules}
use Rattle.tree.specs.Form.{Ends, HasTree, RootOf}
use Rattle.tree.specs.declared.inner.Root.TheVariants.{Leaf}
use Rattle.tree.specs.declared.inner.Root.{Root}

-- ---- a leaf is read

pub record LeafRead (t : Tree) (xs : List ℕ) (n : ℕ) : Type 0 where
  pub is : t ≡ leaf (last_rules xs n)
  pub fits : LeafFits xs n

pub leaf_read : (t : Tree) (xs : List ℕ) (r : Root) (n : ℕ) → Ends t xs → RootOf t xs r → r ≡ Leaf n → LeafRead t xs n
unfolding RootOf fine last_rules
leaf_read (leaf rs) xs r n h e q =
    let a : n ≡ length rs = cc in
    let few = leaf_few rs xs h in
    let i : last_rules xs n ≡ rs = ap (last_rules xs) a ∙ leaf_rules rs xs h in
    let named : all is_name rs ≡ true = and_left (all is_name rs) (ascends rs) (and_right (leb (length rs) rules_max) (all is_name rs && ascends rs) h.good) in
    record { is = ap leaf (sym i); fits = record { long = ends_run (leaf rs) xs h; few = omega (arith, few, a); low = ap all_low i ∙ names-low rs named } }
leaf_read (node t z o) xs r n h e q = let w : ◌≡◌ {A = ℕ} 0 1 = cc in absurd (omega arith)

-- ---- the lines of a branch

arm_node : (level t b u : ℕ) (z o : Tree) → arm level t b (node u z o) ≡ branch_line level t b ++ (arm (level + 1) u 0 z ++ arm (level + 1) u 1 o)
unfolding arm
arm_node level t b u z o = rw (add-one level) (sym (append_assoc (arm_head level t b) (10 ∷ []) (arm (suc level) u 0 z ++ arm (suc level) u 1 o)))

node_long : (level t b u : ℕ) (z o : Tree) → length (arm level t b (node u z o)) ≡ length (branch_line level t b) + (length (arm (level + 1) u 0 z) + length (arm (level + 1) u 1 o))
node_long level t b u z o =
    ap length (arm_node level t b u z o) ∙ length-append (branch_line level t b) (arm (level + 1) u 0 z ++ arm (level + 1) u 1 o)
    ∙ ap (λ (k : ℕ). length (branch_line level t b) + k) (length-append (arm (level + 1) u 0 z) (arm (level + 1) u 1 o))

module _ (level t b at u : ℕ) (w z o : Tree) (is : w ≡ node u z o) (fits : at + length (arm level t b w) ≤ tree_max) where
  whole : at + (length (branch_line level t b) + (length (arm (level + 1) u 0 z) + length (arm (level + 1) u 1 o))) ≤ tree_max
  whole = omega (arith, fits, ap (λ (x : Tree). length (arm level t b x)) is, node_long level t b u z o)

  pub branch_fits : at + length (branch_line level t b) ≤ tree_max
  branch_fits = omega (arith, whole)

  pub level_fits : level ≤ tree_max
  level_fits = omega (arith, whole, branch_long level t b)

  pub zero_fits : (a : ℕ) → a ≡ at + length (branch_line level t b) → a + length (arm (level + 1) u 0 z) ≤ tree_max
  zero_fits a e = omega (arith, whole, e)

  pub one-fits : (a c : ℕ) → a ≡ at + length (branch_line level t b) → c ≡ a + length (arm (level + 1) u 0 z) → c + length (arm (level + 1) u 1 o) ≤ tree_max
  one-fits a c e f = omega (arith, whole, e, f)

pub lays_node : (level t b u : ℕ) (w z o : Tree) {d e f g : Sheet} → w ≡ node u z o
    → Lays d e (branch_line level t b) → Lays e f (arm (level + 1) u 0 z) → Lays f g (arm (level + 1) u 1 o) → Lays d g (arm level t b w)
lays_node level t b u w z o is p q s = lays_as (sym (ap (arm level t b) is ∙ arm_node level t b u z o)) (lays_then p (lays_then q s))

pub lays_leaf : (level t b : ℕ) (w : Tree) (xs : List ℕ) (n : ℕ) (rs : List ℕ) {d e : Sheet} → LeafRead w xs n → rs ≡ last_rules xs n → Lays d e (arm level t b (leaf rs)) → Lays d e (arm level t b w)
lays_leaf level t b w xs n rs h q p = lays_as (ap (λ (l : List ℕ). arm level t b (leaf l)) q ∙ sym (ap (arm level t b) h.is)) p

-- ---- how long the lines of a tree are at most

arm-few : (level t b : ℕ) (w : Tree) → Fit w → level + size w ≤ nodes_max → length (arm level t b w) ≤ size w * (2 * nodes_max + line_max)
unfolding Fit arm size
arm-few level t b (leaf []) f h = omega arith
arm-few level t b (leaf (r ∷ rs)) f h =
    let e = ap length (arm_leaf level t b (r ∷ rs) (λ q. omega (arith, q))) in
    let n = length-append (arm_head 0 t b) (rule_end (r ∷ rs)) in
    let m = length-append (indent level) (arm_head 0 t b ++ rule_end (r ∷ rs)) in
    omega (arith, e, m, n, head_few t b, end_few (r ∷ rs) f, indent_long level)
arm-few level t b (node u z o) f h =
    let p = arm-few (level + 1) u 0 z f.0 (omega (arith, h)) in
    let q = arm-few (level + 1) u 1 o f.1 (omega (arith, h)) in
    omega (arith, node_long level t b u z o, branch_long level t b, head_few t b, p, q)

-- ---- a whole tree

module _ (u : ℕ) (w z o : Tree) (xs : List ℕ) (is : w ≡ node u z o) (ends : Ends w xs) (short : length xs ≤ node_run * nodes_max) where
  both : length (arm 0 u 0 z) + length (arm 0 u 1 o) ≤ tree_max
  unfolding Fit size
  both =
      let f : Fit z × Fit o = subst Fit is (fine-fit w ends.good) in
      let s : size w ≡ size z + size o + 1 = ap size is in
      let l = ends_long w xs ends in
      omega (arith, arm-few 0 u 0 z f.0 (omega (arith, s, l, short)), arm-few 0 u 1 o f.1 (omega (arith, s, l, short)), s, l, short)

  pub first_fits : 0 + length (arm 0 u 0 z) ≤ tree_max
  first_fits = omega (arith, both)

  pub second_fits : (a : ℕ) → a ≡ 0 + length (arm 0 u 0 z) → a + length (arm 0 u 1 o) ≤ tree_max
  second_fits a e = omega (arith, both, e)

pub lays_arms : (u : ℕ) (w z o : Tree) {d e f : Sheet} → w ≡ node u z o → Lays d e (arm 0 u 0 z) → Lays e f (arm 0 u 1 o) → Lays d f (printed_tree w)
unfolding printed_tree
lays_arms u w z o is p q = lays_as (sym (ap printed_tree is)) (lays_then p q)

-- ---- the public call

abbrev pub CanWalk : List ℕ → ℕ → Type 0
CanWalk store root = HasTree (take (node_run * (root + 1)) store) × (length (take (node_run * (root + 1)) store) ≤ node_run * nodes_max)

module _ (store : List ℕ) (root : ℕ) (out : List ℕ) where
  -- the check of the tree gives a number, which is FORM's
  pub tree-unfit : (n : ℕ) → check_answer store root ≡ refused n → (refused n ≡ print_tree_answer store root out) × (out ≡ print_tree_after store root out)
  unfolding print_tree_answer print_tree_after
  tree-unfit n e =
      let none = unchecked store root n e in
      let f : refused n ≡ refused FORM = sym e ∙ check_none store root none in
      let i = ap is_none none in
      (f ∙ rw i, rw i)

  module _ (there : tree_at store root ≡ some (tree_in store root)) where
    abbrev text : List ℕ
    text = printed_tree (tree_in store root)

    pub tree_in_lem : node_run * (root + 1) ≤ length store
    tree_in_lem = omega (arith, (tree_handed store root (tree_in store root) there).within)

    pub root_in : root < nodes_max
    root_in = omega (arith, (tree_handed store root (tree_in store root) there).within)

    -- what the walk is asked
    pub can_walk : CanWalk store root
    can_walk = (record { tree = tree_in store root; ends = handed_ends store root (tree_in store root) there }, omega (arith, root_in, length-take-le (node_run * (root + 1)) store tree_in_lem))

    pub tree-full : (d e : List ℕ) (need : ℕ) → Laid d 0 text e need → length out < need → (refused ROOM ≡ print_tree_answer store root out) × (out ≡ print_tree_after store root out)
    unfolding print_tree_answer print_tree_after
    tree-full d e need p h =
        let n = ap is_none there in
        let l = lt-ltb (length out) (length text) (omega (arith, h, p.next)) in
        (rw (n, l), rw (n, l))

    pub tree-done : (d e f : List ℕ) (need r : ℕ) → Laid d 0 text e need → need ≤ length out → Laid out 0 text f r → (done need ≡ print_tree_answer store root out) × (f ≡ print_tree_after store root out)
    unfolding print_tree_answer print_tree_after
    tree-done d e f need r p h q =
        let n = ap is_none there in
        let l = le-ltb (length out) (length text) (omega (arith, h, p.next)) in
        let i : need ≡ length text = omega (arith, p.next) in
        let t : f ≡ text ++ drop (length text) out = q.text (omega (arith, h, p.next)) ∙ put_front out text in
        (rw (n, l) (ap done i), rw (n, l) t)
