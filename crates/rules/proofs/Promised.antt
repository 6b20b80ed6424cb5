-- From the answers of dispatch and emission to what their outputs are: the lemmas behind C1 to C4 and B8. Assumes nothing.
use Prim.Native.Nat.{ℕ, ◌+◌, ◌-◌, ◌≤◌, ◌<◌}
use mathlib.Core.Bool.{true, false, not, ◌||◌}
use mathlib.Core.List.{List, []}
use mathlib.Core.Option.{some}
use mathlib.Core.Path.{◌≡◌, refl, sym, ap, ap₂, ◌∙◌}
use native.Mathlib.Omega.{arith}
use borrow.Author.Tests.{eq-eqb, ltb-false}
use lib.ListN.{get_or, length, take}
use Rattle.lists.specs.Bools.{or_no}
use Rattle.lists.specs.Lists.{all, mem}
use Rattle.rules.proofs.Accepts.{Unrefused, dispatch-fine, unrefused}
use Rattle.rules.proofs.Answers.{answers_bits, fine_of, hot_at, one_hot-value, one_hot_wide}
use Rattle.rules.proofs.Depths.{distinct-few, raw_of-depth}
use Rattle.rules.proofs.Evals.{dispatch-eval}
use Rattle.rules.proofs.Filled.{answers_filled, known_form}
use Rattle.rules.proofs.Known.{bits_agree, hot_agree, tests_known}
use Rattle.rules.proofs.Lowers.{evaluates, unrefused_is}
use Rattle.rules.proofs.Muxes.{bits_eval}
use Rattle.rules.proofs.Picks.{none_applies}
use Rattle.rules.proofs.Stores.{tree-stored}
use Rattle.rules.proofs.Tested.{dispatch-cells, dispatch-small}
use Rattle.rules.proofs.Trees.{reduce-peak}
use Rattle.rules.specs.Answers.{added, dispatch_answer, dispatch_store, evaluate_answer, one_hot_after, one_hot_answer}
use Rattle.rules.specs.Bounds.{columns_max, mux_first}
use Rattle.rules.specs.Closed.{answers}
use Rattle.rules.specs.Dispatch.{dispatch, peak_of, raw_of}
use Rattle.rules.specs.Emit.{appended, bad_table, emitted, in_use, one_hot}
use Rattle.rules.specs.Evaluate.{Filling, trits_of}
use Rattle.rules.specs.Given.{Given, Slots, bad_columns, too_wide, view}
use Rattle.rules.specs.Matrix.{Matrix, add_enable}
use Rattle.rules.specs.Meaning.{Knows, Setting, bit_at, owes, value, value_at, wins}
use Rattle.rules.specs.Nets.{first_mux, is_net}
use Rattle.rules.specs.Refusals.{dispatch_table, enable_table, no_room, one_hot_table, tree_in}
use Rattle.rules.specs.Refuse.{COLUMNS, FORM, Outcome, ROOM, done, refusal}
use Rattle.rules.specs.Store.{found, is_none, stored, tree_at, used}
use Rattle.rules.specs.Tree.{Tests, Tree, depth, eval, fine, size}
use Rattle.rules.specs.Trits.{is_trit}

done_is : (a b : ℕ) → ◌≡◌ {A = Outcome ℕ} (done a) (done b) → a ≡ b
done_is a b e = cc

-- ---- a dispatch that answered

pub record Dispatched (e : ℕ) (g : Given) (store : List ℕ) (root n : ℕ) : Type 0 where
  pub taken : Unrefused e g store
  pub unrefused : refusal (dispatch_table e g store) ≡ 0
  pub root_is : root ≡ size (dispatch e (view g)) - 1
  pub size_is : n ≡ size (dispatch e (view g))
  pub good : fine (dispatch e (view g)) ≡ true
  pub fits : size (dispatch e (view g)) ≤ used store
  pub after : dispatch_store e g store ≡ stored (dispatch e (view g)) store
  pub tree : tree_at (dispatch_store e g store) root ≡ some (dispatch e (view g))

size_fits : (e : ℕ) (m : Matrix) → size (dispatch e m) ≤ peak_of e m
unfolding dispatch peak_of
size_fits e m = reduce-peak (raw_of (add_enable e m))

pub dispatched : (e : ℕ) (g : Given) (store : List ℕ) (root n : ℕ) → Slots g → dispatch_answer e g store ≡ done (root, n) → Dispatched e g store root n
unfolding dispatch_answer dispatch_store
dispatched e g store root n s a =
    let t : Tree = dispatch e (view g) in
    let w = unrefused_is (refusal (dispatch_table e g store)) (size t - 1, size t) (root, n) a in
    let u = unrefused e g store s w.0 in
    let r : size t - 1 ≡ root = ap (λ (p : ℕ × ℕ). p.0) w.1 in
    let k : size t ≡ n = ap (λ (p : ℕ × ℕ). p.1) w.1 in
    let f = dispatch-fine e (view g) u.accepted u.leaves in
    let l : size t ≤ used store = omega (arith, size_fits e (view g), u.fits) in
    let i : dispatch_store e g store ≡ stored t store = rw (eq-eqb (refusal (dispatch_table e g store)) 0 w.0) in
    record {
      taken = u;
      unrefused = w.0;
      root_is = sym r;
      size_is = sym k;
      good = f;
      fits = l;
      after = i;
      tree = ap₂ tree_at i (sym r) ∙ tree-stored t store f l;
    }

-- no path of the recursion has more tests than a matrix has columns
pub few_levels : (e : ℕ) (g : Given) → refusal (enable_table e g) ≡ 0 → depth (raw_of (add_enable e (view g))) ≤ columns_max
unfolding mem
few_levels e g h =
    let wide = (or_no (bad_columns g) (too_wide (add_enable e (view g))) (none_applies (enable_table e g) h COLUMNS refl)).1 in
    omega (arith, raw_of-depth (add_enable e (view g)), distinct-few [] (add_enable e (view g)).nets, ltb-false columns_max (length (add_enable e (view g)).nets) wide)

-- ---- a one-hot emission that answered, of a tree found in a store

module _ (store : List ℕ) (root : ℕ) (t : Tree) (at : tree_at store root ≡ some t) (outs : List ℕ) (count : ℕ) (table nets : List ℕ) (then : ℕ)
    (answer : one_hot_answer store root outs count table ≡ done (nets, then)) where
  tree_is : tree_in store root ≡ t
  tree_is = ap found at

  abbrev then_of : Tree → ℕ
  then_of u = count + length (added (one_hot outs) u count table)

  pair_is : (refusal (one_hot_table store root outs count table) ≡ 0) × (◌≡◌ {A = List ℕ × ℕ} ((emitted (one_hot outs) (tree_in store root) (in_use count table)).1, then_of (tree_in store root)) (nets, then))
  unfolding one_hot_answer
  pair_is = unrefused_is (refusal (one_hot_table store root outs count table)) ((emitted (one_hot outs) (tree_in store root) (in_use count table)).1, then_of (tree_in store root)) (nets, then) answer

  form : bad_table count table ≡ false
  unfolding mem
  form =
      let f = none_applies (one_hot_table store root outs count table) pair_is.0 FORM refl in
      (or_no (not (all is_net outs)) (bad_table count table) (or_no (is_none (tree_at store root)) (not (all is_net outs) || bad_table count table) f).1).1

  fits : no_room (one_hot outs) t count table ≡ false
  unfolding mem
  fits = ap (λ (u : Tree). no_room (one_hot outs) u count table) (sym tree_is) ∙ none_applies (one_hot_table store root outs count table) pair_is.0 ROOM refl

  nets_is : nets ≡ (emitted (one_hot outs) t (in_use count table)).1
  nets_is = sym (ap (λ (p : List ℕ × ℕ). p.0) pair_is.1) ∙ ap (λ (u : Tree). (emitted (one_hot outs) u (in_use count table)).1) tree_is

  then_is : then ≡ then_of t
  then_is = sym (ap (λ (p : List ℕ × ℕ). p.1) pair_is.1) ∙ ap then_of tree_is

  after_is : one_hot_after store root outs count table ≡ appended count (added (one_hot outs) t count table) table
  unfolding one_hot_after
  after_is = rw (eq-eqb (refusal (one_hot_table store root outs count table)) 0 pair_is.0) (ap (λ (u : Tree). appended count (added (one_hot outs) u count table) table) tree_is)

  -- each of the nets evaluates to the tree's bit, at any trits in form
  pub hot_evaluates : Tests (λ (n : ℕ). n < first_mux) t → (ts : List ℕ) → all is_trit (take mux_first ts) ≡ true → (i : ℕ) → i < length outs
      → evaluate_answer then (one_hot_after store root outs count table) ts (get_or nets i 0) ≡ done (get_or (answers (value_at (trits_of ts)) (one_hot outs) (length outs) (in_use count table) [] t) i 2)
  hot_evaluates small ts k i h =
      ap₂ (λ (n : ℕ) (x : List ℕ). evaluate_answer n x ts (get_or nets i 0)) then_is after_is
      ∙ ap (λ (l : List ℕ). evaluate_answer (then_of t) (appended count (added (one_hot outs) t count table) table) ts (get_or l i 0)) nets_is
      ∙ evaluates (one_hot outs) (length outs) (one_hot_wide outs) t small count table form fits ts k i h

-- ---- a matrix dispatched and then emitted one-hot

module _ (e : ℕ) (g : Given) (slots : Slots g) (store : List ℕ) (root n : ℕ) (given : dispatch_answer e g store ≡ done (root, n))
    (outs : List ℕ) (count : ℕ) (table nets : List ℕ) (then : ℕ) (hot : one_hot_answer (dispatch_store e g store) root outs count table ≡ done (nets, then)) where
  abbrev tree : Tree
  tree = dispatch e (view g)

  facts : Dispatched e g store root n
  facts = dispatched e g store root n slots given

  small : Tests (λ (n : ℕ). n < first_mux) tree
  small = dispatch-small e (view g) facts.taken.accepted.nets facts.taken.accepted.enable

  abbrev after : List ℕ
  after = one_hot_after (dispatch_store e g store) root outs count table

  reads : (ts : List ℕ) → all is_trit (take mux_first ts) ≡ true → (i : ℕ) → i < length outs
      → evaluate_answer then after ts (get_or nets i 0) ≡ done (get_or (answers (value_at (trits_of ts)) (one_hot outs) (length outs) (in_use count table) [] tree) i 2)
  reads = hot_evaluates (dispatch_store e g store) root tree facts.tree outs count table nets then hot small

  -- C1
  pub output_is : (ts : List ℕ) (σ : Setting) → all is_trit (take mux_first ts) ≡ true → Knows (trits_of ts) σ (add_enable e (view g)) → (i : ℕ) → i < length outs
      → evaluate_answer then after ts (get_or nets i 0) ≡ done (owes σ e (view g) (get_or outs i 0))
  output_is ts σ k w i h =
      let fine = fine_of (one_hot outs) (length outs) (one_hot_wide outs) tree small in
      let a = answers_bits (value_at (trits_of ts)) (one_hot outs) (length outs) (in_use count table) [] tree fine in
      let b = bits_agree (value_at (trits_of ts)) (value σ) (one_hot outs) (hot_agree (trits_of ts) σ outs) tree (tests_known (trits_of ts) σ e (view g) w) in
      let c = bits_eval σ (one_hot outs) (length outs) (one_hot_wide outs).width tree (dispatch-cells e (view g)) in
      let d = one_hot-value σ outs (eval (bit_at σ) tree) ∙ ap (one_hot outs) (dispatch-eval σ e (view g) facts.taken.accepted.shape facts.taken.accepted.catch) in
      reads ts k i h ∙ ap done (ap (λ (l : List ℕ). get_or l i 2) (a ∙ b ∙ c ∙ d) ∙ hot_at outs (wins σ e (view g)) i h)

  -- C3
  pub output_stays : (ts us : List ℕ) → all is_trit (take mux_first ts) ≡ true → Filling ts us → (i b : ℕ) → i < length outs
      → evaluate_answer then after ts (get_or nets i 0) ≡ done b → (b ≡ 2 → ⊥) → evaluate_answer then after us (get_or nets i 0) ≡ done b
  output_stays ts us k f i b h p q =
      let fine = fine_of (one_hot outs) (length outs) (one_hot_wide outs) tree small in
      let x = done_is _ b (sym (reads ts k i h) ∙ p) in
      let u = answers_filled ts us f (one_hot outs) (length outs) (in_use count table) tree fine i in
      reads us (known_form mux_first us f.known) i h ∙ ap done (sym (u (λ z. q (sym x ∙ z))) ∙ x)
