-- The updates of a disjoint emission: what the tests say, and the answer that each gives. Assumes nothing.
use Prim.Native.Nat.{ℕ, ◌+◌, ◌*◌, ◌/◌, ◌≤◌, ◌<◌}
use borrow.Author.Tests.{eqb-true, le-ltb, leb-false, lt-ltb}
use lib.Dec.{eqb}
use lib.ListN.{length, take}
use mathlib.Core.Bool.{Bool, true, false, not, ◌&&◌, ◌||◌}
use mathlib.Core.List.{List, [], ◌∷◌}
use mathlib.Core.Option.{some}
use mathlib.Core.Path.{◌≡◌, refl, sym, ap₂, ◌∙◌}
use Rattle.emit.proofs.Places.{all_same, fault, faultless, found_is, low_in, name_in, net_in_lem, nets_in_lem, tree_found, tree-parts}
use Rattle.emit.specs.Calls.{CanPlace, between, emitted_from, placed, placed_after, update_in, update_wide}
use Rattle.emit.specs.declared.Emitted.{Emitted}
use Rattle.evaluate.proofs.Turns.{not_bad}
use Rattle.lists.specs.Bools.{and_left, and_right, not_is}
use Rattle.lists.specs.Lists.{all}
use Rattle.muxes.proofs.Leaves.{any_tree}
use Rattle.muxes.specs.Leaves.{any_leaf}
use Rattle.rules.proofs.Answers.{disjoint_wide}
use Rattle.rules.specs.Answers.{check_answer, disjoint_after, disjoint_answer}
use Rattle.rules.specs.Bounds.{cell_max, net_max, node_run, width_max}
use Rattle.rules.specs.Closed.{Low, Updates}
use Rattle.rules.specs.Emit.{Update, bad_table, disjoint, overlap, updates_of}
use Rattle.rules.specs.Nets.{cell, first_mux, is_name, is_net, over}
use Rattle.rules.specs.Refusals.{all_low, disjoint_table, tree_in}
use Rattle.rules.specs.Refuse.{FORM, NET, OVERLAP, WIDTH, refusal, refused}
use Rattle.rules.specs.Store.{is_none, tree_at}
use Rattle.rules.specs.Tree.{some_leaf}
use Rattle.rules.specs.declared.refusal.Refusal.{Refusal}
use Rattle.std.specs.Prelude.{Result, is_err}
use Rattle.tree.specs.Checked.{check_read}

-- ---- the tests are those of the table

updates-nets : (us : List Update) → all (update_in 0 (cell net_max) 0 (cell net_max)) us ≡ all (λ (u : Update). is_net u.target && all is_net u.bits) us
updates-nets us = all_same (update_in 0 (cell net_max) 0 (cell net_max)) (λ (u : Update). is_net u.target && all is_net u.bits) (λ u. ap₂ ◌&&◌ (net_in_lem u.target) (nets_in_lem u.bits)) us

updates-names : (us : List Update) → all (update_in (cell 0) (cell cell_max) 0 (cell cell_max)) us ≡ all (λ (u : Update). is_name u.target && all_low u.bits) us
updates-names us = all_same (update_in (cell 0) (cell cell_max) 0 (cell cell_max)) (λ (u : Update). is_name u.target && all_low u.bits) (λ u. ap₂ ◌&&◌ (name_in u.target) (low_in u.bits)) us

-- ---- where all are good, a leaf gives as many nets as the default has, and all are low

low-nets : (l : List ℕ) → all_low l ≡ true → Low first_mux l
unfolding Low
low-nets [] e = tt
low-nets (x ∷ l) e = (leb-false first_mux x (not_is (over x) (and_left (not (over x)) (all_low l) e)), low-nets l (and_right (not (over x)) (all_low l) e))

good-updates : (w : ℕ) (us : List Update) → all (λ (u : Update). is_name u.target && all_low u.bits) us ≡ true → all (update_wide w) us ≡ true → Updates w us
unfolding Updates
good-updates w [] e q = tt
good-updates w (u ∷ us) e q =
    let f : Update → Bool = λ u. is_name u.target && all_low u.bits in
    (eqb-true (length u.bits) w (and_left (update_wide w u) (all (update_wide w) us) q), low-nets u.bits (and_right (is_name u.target) (all_low u.bits) (and_left (f u) (all f us) e)), good-updates w us (and_right (f u) (all f us) e) (and_right (update_wide w u) (all (update_wide w) us) q))

-- ---- the answer, test by test

module _ (store : List ℕ) (root : ℕ) (ns ws bs d : List ℕ) (count : ℕ) (table : List ℕ) where
  abbrev us : List Update
  us = updates_of ns ws bs

  abbrev number : ℕ
  number = refusal (disjoint_table store root us d count table)

  abbrev Refuses : ℕ → Type 0
  Refuses n = (emitted_from (refused n) ≡ emitted_from (disjoint_answer store root ns ws bs d count table)) × (table ≡ disjoint_after store root ns ws bs d count table)

  refuses : (n : ℕ) → number ≡ n → eqb n 0 ≡ false → Refuses n
  unfolding disjoint_answer disjoint_after
  refuses n e z = fault (disjoint us d) store root count table number n e z

  pub says : (n : ℕ) (r : Emitted) → r ≡ emitted_from (refused n) → Refuses n → (r ≡ emitted_from (disjoint_answer store root ns ws bs d count table)) × (table ≡ disjoint_after store root ns ws bs d count table)
  says n r e f = (e ∙ f.0, f.1)

  -- 12
  pub form-tree : is_none (tree_at store root) ≡ true → Refuses FORM
  form-tree t = refuses FORM (rw t) refl

  pub form-updates : tree_at store root ≡ some (tree_in store root) → all (update_in 0 (cell net_max) 0 (cell net_max)) us ≡ false → Refuses FORM
  form-updates t u = refuses FORM (rw (found_is (tree_at store root) (tree_in store root) t, sym (updates-nets us) ∙ u)) refl

  pub form_default : tree_at store root ≡ some (tree_in store root) → all (update_in 0 (cell net_max) 0 (cell net_max)) us ≡ true → all (between 0 (cell net_max)) d ≡ false → Refuses FORM
  form_default t u n = refuses FORM (rw (found_is (tree_at store root) (tree_in store root) t, sym (updates-nets us) ∙ u, sym (nets_in_lem d) ∙ n)) refl

  pub form-table : tree_at store root ≡ some (tree_in store root) → all (update_in 0 (cell net_max) 0 (cell net_max)) us ≡ true → all (between 0 (cell net_max)) d ≡ true → bad_table count table ≡ true
      → Refuses FORM
  form-table t u n b = refuses FORM (rw (found_is (tree_at store root) (tree_in store root) t, sym (updates-nets us) ∙ u, sym (nets_in_lem d) ∙ n, b)) refl

  -- none of 12
  pub record Formed : Type 0 where
    pub there : tree_at store root ≡ some (tree_in store root)
    pub updates_are : all (λ (u : Update). is_net u.target && all is_net u.bits) us ≡ true
    pub default_is : all is_net d ≡ true
    pub table_is : bad_table count table ≡ false

  pub is_formed : tree_at store root ≡ some (tree_in store root) → all (update_in 0 (cell net_max) 0 (cell net_max)) us ≡ true → all (between 0 (cell net_max)) d ≡ true → bad_table count table ≡ false → Formed
  is_formed t u n b = record { there = t; updates_are = sym (updates-nets us) ∙ u; default_is = sym (nets_in_lem d) ∙ n; table_is = b }

  abbrev bad : Bool
  bad = is_none (tree_at store root) || (not (all (λ (u : Update). is_net u.target && all is_net u.bits) us && all is_net d) || bad_table count table)

  fair : Formed → bad ≡ false
  fair f = rw (found_is (tree_at store root) (tree_in store root) f.there, f.updates_are, f.default_is, f.table_is)

  -- 4
  pub net-updates : Formed → all (update_in (cell 0) (cell cell_max) 0 (cell cell_max)) us ≡ false → Refuses NET
  net-updates f u = refuses NET (rw (fair f, sym (updates-names us) ∙ u)) refl

  pub net_default : Formed → all (update_in (cell 0) (cell cell_max) 0 (cell cell_max)) us ≡ true → all (between 0 (cell cell_max)) d ≡ false → Refuses NET
  net_default f u n = refuses NET (rw (fair f, sym (updates-names us) ∙ u, sym (low_in d) ∙ n)) refl

  -- nor of 4
  pub record Named : Type 0 where
    pub formed : Formed
    pub updates_are : all (λ (u : Update). is_name u.target && all_low u.bits) us ≡ true
    pub default_is : all_low d ≡ true

  pub is_named : Formed → all (update_in (cell 0) (cell cell_max) 0 (cell cell_max)) us ≡ true → all (between 0 (cell cell_max)) d ≡ true → Named
  is_named f u n = record { formed = f; updates_are = sym (updates-names us) ∙ u; default_is = sym (low_in d) ∙ n }

  -- 8
  pub width_default : Named → width_max < length d → Refuses WIDTH
  width_default m h = refuses WIDTH (rw (fair m.formed, m.updates_are, m.default_is, lt-ltb width_max (length d) h)) refl

  pub width-updates : Named → length d ≤ width_max → all (update_wide (length d)) us ≡ false → Refuses WIDTH
  width-updates m h u = refuses WIDTH (rw (fair m.formed, m.updates_are, m.default_is, le-ltb width_max (length d) h, u)) refl

  -- nor of 8
  pub record Sized : Type 0 where
    pub named : Named
    pub narrow : length d ≤ width_max
    pub updates_are : all (update_wide (length d)) us ≡ true

  -- the same by what the tests gave
  pub tested : (r : Result ℕ Refusal) (u n f : Bool) → check_read r ≡ check_answer store root → is_err r ≡ false → u ≡ all (update_in 0 (cell net_max) 0 (cell net_max)) us → u ≡ true → n ≡ all (between 0 (cell net_max)) d → n ≡ true
      → f ≡ not (bad_table count table) → f ≡ true → Formed
  tested r u n f e h p q s t v w = is_formed (tree_found store root r e h) (sym p ∙ q) (sym s ∙ t) (not_bad (bad_table count table) (sym w ∙ v))

  pub named_too : Formed → (u n : Bool) → u ≡ all (update_in (cell 0) (cell cell_max) 0 (cell cell_max)) us → u ≡ true → n ≡ all (between 0 (cell cell_max)) d → n ≡ true → Named
  named_too m u n p q s t = is_named m (sym p ∙ q) (sym s ∙ t)

  pub sized_too : Named → (w : Bool) → length d ≤ width_max → w ≡ all (update_wide (length d)) us → w ≡ true → Sized
  sized_too m w h p q = record { named = m; narrow = h; updates_are = sym p ∙ q }

  -- 9
  leaves_are : Sized → (r b : Bool) → r ≡ any_leaf (overlap us) (length (take (node_run * (root + 1)) store) / node_run) (take (node_run * (root + 1)) store) → r ≡ b → some_leaf (overlap us) (tree_in store root) ≡ b
  leaves_are z r b e q =
      let h = tree-parts store root z.named.formed.there in
      sym (any_tree (overlap us) (tree_in store root) (take (node_run * (root + 1)) store) h.is h.good) ∙ sym e ∙ q

  pub overlaps : Sized → (r : Bool) → r ≡ any_leaf (overlap us) (length (take (node_run * (root + 1)) store) / node_run) (take (node_run * (root + 1)) store) → r ≡ true → Refuses OVERLAP
  overlaps z r e q =
      let m = z.named in
      refuses OVERLAP (rw (fair m.formed, m.updates_are, m.default_is, le-ltb width_max (length d) z.narrow, z.updates_are, leaves_are z r true e q)) refl

  -- only the room is left
  pub disjoint_can : Sized → CanPlace (disjoint us d) (length d) store root count table
  disjoint_can z =
      let m = z.named in
      record {
        there = m.formed.there;
        wide = disjoint_wide (length d) us d (good-updates (length d) us m.updates_are z.updates_are) (refl, low-nets d m.default_is);
        narrow = z.narrow;
        formed = m.formed.table_is;
      }

  pub disjoint-place : Sized → (r : Bool) → r ≡ any_leaf (overlap us) (length (take (node_run * (root + 1)) store) / node_run) (take (node_run * (root + 1)) store) → r ≡ false
      → (placed (disjoint us d) store root count table ≡ disjoint_answer store root ns ws bs d count table) × (placed_after (disjoint us d) store root count table ≡ disjoint_after store root ns ws bs d count table)
  unfolding disjoint_answer disjoint_after
  disjoint-place z r e q =
      let m = z.named in
      faultless (disjoint us d) store root count table number (rw (fair m.formed, m.updates_are, m.default_is, le-ltb width_max (length d) z.narrow, z.updates_are, leaves_are z r false e q))
