-- A tree handed in, and the answer where only the room is left to test. Assumes nothing.
use Prim.Native.Nat.{ℕ, ◌+◌, ◌*◌, ◌/◌, ◌≤◌, ◌<◌}
use borrow.Author.Tests.{le-leb, le-ltb, leb-false, leb-true, lt-leb, lt-ltb}
use lib.Dec.{eqb, leb, ltb}
use lib.ListN.{length, take}
use mathlib.Core.Bool.{Bool, true, false, not, ◌&&◌, ◌||◌}
use mathlib.Core.List.{List, [], ◌∷◌}
use mathlib.Core.Option.{Option, some}
use mathlib.Core.Path.{◌≡◌, refl, sym, ap, ◌∙◌}
use native.Mathlib.Nat.{mul-le-mul}
use native.Mathlib.Omega.{arith}
use Rattle.emit.specs.Calls.{CanPlace, between, emitted_from, placed, placed_after, room_no}
use Rattle.emit.specs.declared.Emitted.{Emitted}
use Rattle.evaluate.proofs.Turns.{not_bad, table-room}
use Rattle.lists.specs.Bools.{by_bool, clash}
use Rattle.lists.specs.Lists.{all}
use Rattle.lists.specs.Vec.{vec}
use Rattle.muxes.proofs.Splits.{tests-low, tree-fine}
use Rattle.muxes.specs.Sends.{CanEmit, Sends}
use Rattle.muxes.specs.declared.inner.Sent.{Sent}
use Rattle.rules.proofs.Added.{muxes_are, nets-length}
use Rattle.rules.proofs.Answers.{one_hot_wide}
use Rattle.rules.proofs.Entries.{in_use-length}
use Rattle.rules.proofs.Lowers.{added_is, added-length, needs, nets_are}
use Rattle.rules.proofs.Tables.{Fine}
use Rattle.rules.specs.Answers.{added, check_answer, emission, emission_table, one_hot_after, one_hot_answer, prefix_answer}
use Rattle.rules.specs.Bounds.{cell_max, net_max, node_run, nodes_max, width_max}
use Rattle.rules.specs.Closed.{emits, muxes, nets_of}
use Rattle.rules.specs.Emit.{Gives, Mux, appended, bad_table, emitted, in_use, one_hot, room}
use Rattle.rules.specs.Nets.{cell, is_name, is_net, over}
use Rattle.rules.specs.Prefix.{prefix}
use Rattle.rules.specs.Refusals.{all_low, no_room, one_hot_table, tree_in}
use Rattle.rules.specs.Refuse.{FORM, NET, ROOM, WIDTH, done, refusal, refused}
use Rattle.rules.specs.Store.{is_none, tree_at, used}
use Rattle.rules.specs.Tree.{Tree, branches, fine, leaf, node, size}
use Rattle.rules.specs.declared.refusal.Refusal.{Refusal}
use Rattle.std.specs.Prelude.{Err, Ok, Result, is_err}
use Rattle.tree.proofs.Handed.{Handed, handed_ends, tree_at-size, tree_handed, tree_seen, tree_unseen}
use Rattle.tree.specs.Checked.{check_read}
use Rattle.tree.specs.Form.{Ends}

-- ---- codes in a range

pub all_same : {A : Type 0} (f g : A → Bool) → ((x : A) → f x ≡ g x) → (l : List A) → all f l ≡ all g l
all_same f g h [] = refl
all_same f g h (x ∷ l) = rw (h x, all_same f g h l)

below_is : (a n : ℕ) → leb n a ≡ not (leb (a + 1) n)
below_is a n =
    by_bool (leb n a)
    (λ e. let l : leb (a + 1) n ≡ false = lt-leb (a + 1) n (omega (arith, leb-true n a e)) in rw (e, l))
    (λ e. let l : leb (a + 1) n ≡ true = le-leb (a + 1) n (omega (arith, leb-false n a e)) in rw (e, l))

zero_le : (n : ℕ) → leb 0 n ≡ true
zero_le n = le-leb 0 n (omega arith)

pub net_in_lem : (n : ℕ) → between 0 (cell net_max) n ≡ is_net n
net_in_lem n = rw (zero_le n)

pub nets_in_lem : (l : List ℕ) → all (between 0 (cell net_max)) l ≡ all is_net l
nets_in_lem l = all_same (between 0 (cell net_max)) is_net net_in_lem l

pub name_in : (n : ℕ) → between (cell 0) (cell cell_max) n ≡ is_name n
name_in n = ap (λ (b : Bool). leb (cell 0) n && b) (below_is (cell cell_max) n)

pub names_in : (l : List ℕ) → all (between (cell 0) (cell cell_max)) l ≡ all is_name l
names_in l = all_same (between (cell 0) (cell cell_max)) is_name name_in l

pub low_in : (l : List ℕ) → all (between 0 (cell cell_max)) l ≡ all_low l
low_in l = all_same (between 0 (cell cell_max)) (λ (n : ℕ). not (over n)) (λ n. rw (zero_le n) (below_is (cell cell_max) n)) l

-- ---- branches are half of the entries

size_odd : (t : Tree) → size t ≡ branches t + branches t + 1
unfolding size branches
size_odd (leaf rs) = refl
size_odd (node t z o) = omega (arith, size_odd z, size_odd o)

module _ (g : Gives) (w : ℕ) (store : List ℕ) (root count : ℕ) (table : List ℕ) (can : CanPlace g w store root count table) where
  abbrev tree : Tree
  tree = tree_in store root

  handed : Handed store root tree
  handed = tree_handed store root tree can.there

  pub root_in : root < used store
  root_in = handed.within

  good : fine tree ≡ true
  good = handed.good

  leaves : Fine g w tree
  leaves = tree-fine g w can.wide tree good

  old_long : length (in_use count table) ≡ count
  old_long = in_use-length count table (table-room count table can.formed)

  pub count_in : count ≤ room table
  count_in = table-room count table can.formed

  need_is : (root + 1) / 2 * w ≡ muxes w tree
  need_is =
      let s : size tree ≡ root + 1 = tree_at-size store root root_in (record { tree = tree; is = handed.is; good = good }) in
      let h : (root + 1) / 2 ≡ branches tree = omega (arith, s, size_odd tree) in
      ap (λ (n : ℕ). n * w) h ∙ sym (muxes_are w tree)

  pub need_small : (root + 1) / 2 * w ≤ nodes_max / 2 * width_max
  need_small = let h : (root + 1) / 2 ≤ nodes_max / 2 = omega (arith, root_in) in mul-le-mul h can.narrow

  no_room_is : no_room g tree count table ≡ ltb (room table) (count + (root + 1) / 2 * w)
  no_room_is = (needs g w can.wide tree (tests-low tree good) count table can.formed).1 ∙ ap (λ (n : ℕ). ltb (room table) (count + n)) (sym (need_is ∙ muxes_are w tree))

  full : room table < count + (root + 1) / 2 * w → no_room g tree count table ≡ true
  full h = no_room_is ∙ lt-ltb (room table) (count + (root + 1) / 2 * w) h

  fits : count + (root + 1) / 2 * w ≤ room table → no_room g tree count table ≡ false
  fits h = no_room_is ∙ le-ltb (room table) (count + (root + 1) / 2 * w) h

  -- too little room
  pub place-full : room table < count + (root + 1) / 2 * w → (emitted_from (refused ROOM) ≡ emitted_from (placed g store root count table)) × (table ≡ placed_after g store root count table)
  unfolding placed placed_after
  place-full h = (rw (full h), rw (full h))

  -- what the recursion is asked, at the count or an entry before it
  pub place_can : (k : ℕ) → k ≤ count → count + (root + 1) / 2 * w ≤ room table → CanEmit g w (take (node_run * (root + 1)) store) (length table) k
  place_can k b h =
      record {
        tree = tree;
        ends = handed_ends store root tree can.there;
        wide = can.wide;
        narrow = can.narrow;
        fits = omega (arith, h, need_is);
        few = omega (arith, h, need_is);
      }

  pub place_ends : Ends tree (take (node_run * (root + 1)) store)
  place_ends = handed_ends store root tree can.there

  -- what it did is the answer
  pub place-done : (after : List ℕ) (s : Sent) → count + (root + 1) / 2 * w ≤ room table → Sends g w count tree table after s
      → (record { no = 0; nets = s.nets; width = w; used = s.used } ≡ emitted_from (placed g store root count table)) × (after ≡ placed_after g store root count table)
  unfolding placed placed_after
  place-done after s h d =
      let f : no_room g tree count table ≡ false = fits h in
      let c = can.formed in
      let low = tests-low tree good in
      let N : List ℕ = (emitted g tree (in_use count table)).1 in
      let n : N ≡ nets_of g w count tree = nets_are g w can.wide tree low count table c ∙ ap (λ (k : ℕ). nets_of g w k tree) old_long in
      let a : added g tree count table ≡ emits g w count tree = added_is g w can.wide tree low count table c ∙ ap (λ (k : ℕ). emits g w k tree) old_long in
      let l : length (added g tree count table) ≡ muxes w tree = added-length g w can.wide tree low count table c in
      let i0 : s.nets ≡ vec width_max 0 N = d.nets_are ∙ ap (vec width_max 0) (sym n) in
      let i1 : w ≡ length N = sym (ap length n ∙ nets-length g w count tree leaves) in
      let i2 : s.used ≡ count + length (added g tree count table) = d.used_is ∙ ap (λ (k : ℕ). count + k) (sym l) in
      let i3 : after ≡ appended count (added g tree count table) table = d.put ∙ ap (λ (m : List Mux). appended count m table) (sym a) in
      (rw f (λ j. record { no = 0; nets = i0 j; width = i1 j; used = i2 j }), rw f i3)

-- ---- the number that the tests give is the answer's

module _ (g : Gives) (store : List ℕ) (root count : ℕ) (table : List ℕ) (m : ℕ) where
  -- a fault: its number, and the table as it was
  pub fault : (n : ℕ) → m ≡ n → eqb n 0 ≡ false → (emitted_from (refused n) ≡ emitted_from (emission m g (tree_in store root) count table)) × (table ≡ emission_table m g (tree_in store root) count table)
  fault n e z = (rw (e, z), rw (e, z))

  -- none but the room's
  pub faultless : m ≡ room_no g store root count table
      → (placed g store root count table ≡ emission m g (tree_in store root) count table) × (placed_after g store root count table ≡ emission_table m g (tree_in store root) count table)
  unfolding placed placed_after
  faultless e = (ap (λ (n : ℕ). emission n g (tree_in store root) count table) (sym e), ap (λ (n : ℕ). emission_table n g (tree_in store root) count table) (sym e))

-- ---- what the check of a tree says

pub found_is : (o : Option Tree) (t : Tree) → o ≡ some t → is_none o ≡ false
found_is o t e = rw e

module _ (store : List ℕ) (root : ℕ) where
  pub tree_found : (r : Result ℕ Refusal) → check_read r ≡ check_answer store root → is_err r ≡ false → tree_at store root ≡ some (tree_in store root)
  tree_found (Ok n) e h = tree_seen store root n (Ok n) e refl
  tree_found (Err why) e h = absurd (clash (sym h))

  pub tree_missing : (r : Result ℕ Refusal) → check_read r ≡ check_answer store root → is_err r ≡ true → is_none (tree_at store root) ≡ true
  tree_missing (Ok n) e h = absurd (clash h)
  tree_missing (Err why) e h = tree_unseen store root why (Err why) e refl

-- ---- one-hot

module _ (store : List ℕ) (root : ℕ) (outs : List ℕ) (count : ℕ) (table : List ℕ) where
  abbrev bad : Bool
  bad = is_none (tree_at store root) || (not (all is_net outs) || bad_table count table)

  -- none of 12, by what the three tests gave
  pub hot_fair : (r : Result ℕ Refusal) (n f : Bool) → check_read r ≡ check_answer store root → is_err r ≡ false → n ≡ all (between 0 (cell net_max)) outs → n ≡ true → f ≡ not (bad_table count table) → f ≡ true → bad ≡ false
  hot_fair r n f e h p q s t = rw (found_is (tree_at store root) (tree_in store root) (tree_found store root r e h), sym (nets_in_lem outs) ∙ sym p ∙ q, not_bad (bad_table count table) (sym t ∙ s))

  abbrev number : ℕ
  number = refusal (one_hot_table store root outs count table)

  abbrev Refuses : ℕ → Type 0
  Refuses n = (emitted_from (refused n) ≡ emitted_from (one_hot_answer store root outs count table)) × (table ≡ one_hot_after store root outs count table)

  pub hot_says : (n : ℕ) (r : Emitted) → r ≡ emitted_from (refused n) → Refuses n → (r ≡ emitted_from (one_hot_answer store root outs count table)) × (table ≡ one_hot_after store root outs count table)
  hot_says n r e f = (e ∙ f.0, f.1)

  pub hot_form : bad ≡ true → Refuses FORM
  unfolding one_hot_answer one_hot_after
  hot_form e = fault (one_hot outs) store root count table number FORM (rw e) refl

  pub hot_net : bad ≡ false → all is_name outs ≡ false → Refuses NET
  unfolding one_hot_answer one_hot_after
  hot_net e n = fault (one_hot outs) store root count table number NET (rw (e, n)) refl

  pub hot_width : bad ≡ false → all is_name outs ≡ true → width_max < length outs → Refuses WIDTH
  unfolding one_hot_answer one_hot_after
  hot_width e n h = fault (one_hot outs) store root count table number WIDTH (rw (e, n, lt-ltb width_max (length outs) h)) refl

  pub hot_place : bad ≡ false → all is_name outs ≡ true → length outs ≤ width_max
      → (placed (one_hot outs) store root count table ≡ one_hot_answer store root outs count table) × (placed_after (one_hot outs) store root count table ≡ one_hot_after store root outs count table)
  unfolding one_hot_answer one_hot_after
  hot_place e n h = faultless (one_hot outs) store root count table number (rw (e, n, le-ltb width_max (length outs) h))

  pub hot_can : tree_at store root ≡ some (tree_in store root) → bad_table count table ≡ false → length outs ≤ width_max → CanPlace (one_hot outs) (length outs) store root count table
  hot_can t b h = record { there = t; wide = one_hot_wide outs; narrow = h; formed = b }

-- ---- what the check of a tree says

pub tree-parts : (store : List ℕ) (root : ℕ) → tree_at store root ≡ some (tree_in store root) → Handed store root (tree_in store root)
tree-parts store root e = tree_handed store root (tree_in store root) e

-- ---- the disjoint prefix

module _ (store : List ℕ) (root : ℕ) (outs es : List ℕ) where
  abbrev unfit : Bool
  unfit = is_none (tree_at store root) || not (all is_net outs && all is_net es)

  -- neither 12 nor 4, by what the tests gave
  pub prefix_fair : (n m : Bool) → tree_at store root ≡ some (tree_in store root) → n ≡ all (between 0 (cell net_max)) outs → n ≡ true → m ≡ all (between 0 (cell net_max)) es → m ≡ true → unfit ≡ false
  prefix_fair n m t p q s u = rw (found_is (tree_at store root) (tree_in store root) t, sym (nets_in_lem outs) ∙ sym p ∙ q, sym (nets_in_lem es) ∙ sym s ∙ u)

  pub prefix_named : (n m : Bool) → n ≡ all (between (cell 0) (cell cell_max)) outs → n ≡ true → m ≡ all (between (cell 0) (cell cell_max)) es → m ≡ true → (all is_name outs && all is_name es) ≡ true
  prefix_named n m p q s u = rw (sym (names_in outs) ∙ sym p ∙ q, sym (names_in es) ∙ sym s ∙ u)

  pub prefix-form : unfit ≡ true → refused FORM ≡ prefix_answer store root outs es
  unfolding prefix_answer
  prefix-form e = rw e

  pub prefix-net : unfit ≡ false → (all is_name outs && all is_name es) ≡ false → refused NET ≡ prefix_answer store root outs es
  unfolding prefix_answer
  prefix-net e n = rw (e, n)

  pub prefix-done : (k : ℕ) → unfit ≡ false → (all is_name outs && all is_name es) ≡ true → k ≡ prefix outs (tree_in store root) es → done k ≡ prefix_answer store root outs es
  unfolding prefix_answer
  prefix-done k e n q = rw (e, n) (ap done q)
