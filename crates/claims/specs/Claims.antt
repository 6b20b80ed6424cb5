-- What a dispatched matrix means, each promise as one theorem over the definitions of `rules` that the contracts cite. Assumes nothing.
-- `Slots` says only that a struct has as many slots as its arrays.
use Rattle.std.specs.Prelude.{ℕ, ◌+◌, ◌*◌, ◌≤◌, ◌<◌, true, false, List, ◌↔◌, ◌≡◌, refl, ltb, get_or, length, take}
use Rattle.std.proofs.Math.Bool.{or_self}
use Rattle.std.proofs.Math.Option.{some}
use Rattle.std.proofs.Common.{sym, ◌∙◌}
use Rattle.lists.specs.Lists.{all}
use Rattle.muxes.proofs.Splits.{tests-low}
use Rattle.rules.proofs.Answers.{disjoint_wide, one_hot_wide}
use Rattle.rules.proofs.Depths.{dispatch-depth, raw_of-depth}
use Rattle.rules.proofs.Disjointed.{overlap_is}
use Rattle.rules.proofs.Evals.{dispatch-once}
use Rattle.rules.proofs.Givens.{sized_means_shaped, sized_unrefused}
use Rattle.rules.proofs.Goods.{good-spread, good-view}
use Rattle.rules.proofs.Longer.{longer_answer, tree_at-front}
use Rattle.rules.proofs.Longest.{fullest, longest, printed-length, text_max, text_max_is}
use Rattle.rules.proofs.Lowers.{needs}
use Rattle.rules.proofs.Prefixes.{prefix-fits, prefix-good, prefix_most}
use Rattle.rules.proofs.Promised.{dispatched, few_levels, output_is, output_stays}
use Rattle.rules.proofs.Reader.{read_is, read-printed}
use Rattle.rules.proofs.Stepped.{steps_are}
use Rattle.rules.specs.Answers.{added, dispatch_answer, dispatch_store, evaluate_answer, one_hot_after, one_hot_answer}
use Rattle.rules.specs.Bounds.{columns_max, mux_first, node_run}
use Rattle.rules.specs.Closed.{Low, Updates}
use Rattle.rules.specs.Dispatch.{dispatch, distinct, raw_of}
use Rattle.rules.specs.Emit.{TwoUpdated, Update, bad_table, disjoint, one_hot, room}
use Rattle.rules.specs.Evaluate.{Filling, trits_of}
use Rattle.rules.specs.Given.{Given, Slots, good, matrix_table, spread, view}
use Rattle.rules.specs.Matrix.{Matrix, add_enable}
use Rattle.rules.specs.Meaning.{Knows, Setting, fits, owes, value, wins}
use Rattle.rules.specs.Nets.{first_mux}
use Rattle.rules.specs.Normalize.{normalize}
use Rattle.rules.specs.Prefix.{disjoint_all, prefix}
use Rattle.rules.specs.Print.{printed}
use Rattle.rules.specs.Read.{ReadIs, read, whole}
use Rattle.rules.specs.Refusals.{disjoint_table, enable_table, no_room}
use Rattle.rules.specs.Refuse.{FORM, NET, OVERLAP, WIDTH, applies, done, refusal}
use Rattle.rules.specs.Steps.{steps}
use Rattle.rules.specs.Store.{tree_at}
use Rattle.rules.specs.Tree.{Once, Tree, branches, depth, fine}
use Rattle.rules.specs.Trits.{is_trit, is_x}

-- A matrix g with the enable e, dispatched into a store and answered.
module _ (e : ℕ) (g : Given) (slots : Slots g) (store : List ℕ) (root n : ℕ) (answered : dispatch_answer e g store ≡ done (root, n)) where
  -- B5: its tree stands in the store, well formed, at the root that was returned
  pub tree_well_formed : tree_at (dispatch_store e g store) root ≡ some (dispatch e (view g))
  tree_well_formed = (dispatched e g store root n slots answered).tree

  -- Outputs emitted one-hot from that store into a table, and answered: the nets of the value, and how many entries are then in use.
  module _ (outs : List ℕ) (count : ℕ) (table nets : List ℕ) (used : ℕ) (emitted : one_hot_answer (dispatch_store e g store) root outs count table ≡ done (nets, used)) where
    -- C1: at trits that are the bits of a setting at every cell net of matrix and enable, each output evaluates to 1 exactly when the first
    -- matching row names it, and to 0 otherwise
    pub first_match_lem : (ts : List ℕ) → all is_trit (take mux_first ts) ≡ true → (σ : Setting) → Knows (trits_of ts) σ (add_enable e (view g)) → (i : ℕ) → i < length outs
        → evaluate_answer used (one_hot_after (dispatch_store e g store) root outs count table) ts (get_or nets i 0) ≡ done (owes σ e (view g) (get_or outs i 0))
    first_match_lem ts k σ w i h = output_is e g slots store root n answered outs count table nets used emitted ts σ k w i h

    -- C3: at any trits, an output that evaluates to 0 or 1 evaluates to that bit at every filling
    pub known_stays : (ts us : List ℕ) → all is_trit (take mux_first ts) ≡ true → Filling ts us → (i b : ℕ) → i < length outs
        → evaluate_answer used (one_hot_after (dispatch_store e g store) root outs count table) ts (get_or nets i 0) ≡ done b → (b ≡ 2 → ⊥)
        → evaluate_answer used (one_hot_after (dispatch_store e g store) root outs count table) us (get_or nets i 0) ≡ done b
    known_stays = output_stays e g slots store root n answered outs count table nets used emitted

  -- C4: any longer store gives the same answer and the same tree
  pub longer_store : (longer : List ℕ) → length store ≤ length longer
      → (dispatch_answer e g longer ≡ done (root, n)) × (take (node_run * n) (dispatch_store e g longer) ≡ take (node_run * n) (dispatch_store e g store))
  longer_store longer l =
      let a = longer_answer e g store longer root n slots l answered in
      (a, tree_at-front e g longer root n slots a ∙ sym (tree_at-front e g store root n slots answered))

  -- B8: where neither 12 nor a lower number applies, OVERLAP is given exactly when some setting's first matching row names two nets with updates
  pub overlap_means : (us : List Update) (d : List ℕ) (count : ℕ) (table : List ℕ)
      → applies FORM (disjoint_table (dispatch_store e g store) root us d count table) ≡ false
      → applies NET (disjoint_table (dispatch_store e g store) root us d count table) ≡ false
      → applies WIDTH (disjoint_table (dispatch_store e g store) root us d count table) ≡ false
      → (refusal (disjoint_table (dispatch_store e g store) root us d count table) ≡ OVERLAP) ↔ ((σ : Setting) × TwoUpdated us (wins σ e (view g)))
  overlap_means = overlap_is e g slots store root n answered

-- C2: no path of a dispatched tree tests a net twice, and none has more tests than matrix and enable have distinct cell nets; nor has the recursion
pub tests-once : (e : ℕ) (g : Given)
    → Once (dispatch e (view g)) × (depth (dispatch e (view g)) ≤ depth (raw_of (add_enable e (view g)))) × (depth (raw_of (add_enable e (view g))) ≤ distinct (add_enable e (view g)).nets)
tests-once e g = (dispatch-once e (view g), dispatch-depth e (view g), raw_of-depth (add_enable e (view g)))

-- C2: so dispatch is at most 17 deep, also where the store is too short: its recursion's tree, before equal arms are one, has a path of at most 16 tests
pub few-tests : (e : ℕ) (g : Given) → refusal (enable_table e g) ≡ 0 → depth (raw_of (add_enable e (view g))) ≤ columns_max
few-tests = few_levels

-- C1: a constant X matches only don't-cares
pub x_matches : (σ : Setting) (mask : ℕ) → fits mask (value σ 2) ≡ is_x mask
x_matches σ mask = or_self (is_x mask)

-- B2: the short definition of normalize is 01's own words, of every matrix that is not refused
pub normalize_is : (g : Given) → Slots g → refusal (matrix_table g) ≡ 0 → steps (view g) ≡ normalize (view g)
normalize_is g s h = steps_are (view g) (sized_means_shaped (view g) (sized_unrefused g s h))

-- B6: of a tree handed in and a table in form, branches times width muxes are appended, and ROOM applies exactly where they exceed the room left
pub one_hot_needs : (t : Tree) → fine t ≡ true → (count : ℕ) (table : List ℕ) → bad_table count table ≡ false → (outs : List ℕ)
    → (length (added (one_hot outs) t count table) ≡ branches t * length outs) × (no_room (one_hot outs) t count table ≡ ltb (room table) (count + branches t * length outs))
one_hot_needs t f count table b outs = needs (one_hot outs) (length outs) (one_hot_wide outs) t (tests-low t f) count table b

-- B7: so too with updates of the default's width
pub disjoint_needs : (t : Tree) → fine t ≡ true → (count : ℕ) (table : List ℕ) → bad_table count table ≡ false → (us : List Update) (d : List ℕ) → Updates (length d) us → Low first_mux d
    → (length (added (disjoint us d) t count table) ≡ branches t * length d) × (no_room (disjoint us d) t count table ≡ ltb (room table) (count + branches t * length d))
disjoint_needs t f count table b us d u l = needs (disjoint us d) (length d) (disjoint_wide (length d) us d u (refl, l)) t (tests-low t f) count table b

-- B9: the disjoint prefix is one, is disjoint, and no longer one is
pub prefix_longest : (outs : List ℕ) (t : Tree) (es : List ℕ)
    → (prefix outs t es ≤ length es) × (disjoint_all outs t (take (prefix outs t es) es) ≡ true) × ((k : ℕ) → k ≤ length es → disjoint_all outs t (take k es) ≡ true → k ≤ prefix outs t es)
prefix_longest outs t es = (prefix-fits outs t es, prefix-good outs t es, prefix_most outs t es)

-- B11: no printed matrix has more bytes than the bounds allow, 4,773, and one has exactly that
pub longest_text : ((m : Matrix) → good m ≡ true → length (printed m) ≤ text_max) × (text_max ≡ 4773) × (length (printed fullest) ≡ text_max) × (good fullest ≡ true)
longest_text = (printed-length, text_max_is, longest.0, longest.1)

-- B12: printed matrices read back to themselves; whatever is read prints back to the text, and LINE is the first line that no printed matrix with the same earlier lines has
pub reads_back : (m : Matrix) → good m ≡ true → read (printed m) ≡ whole m
reads_back = read-printed

pub reads-nothing_else : (s : List ℕ) → ReadIs s (read s)
reads-nothing_else = read_is

-- and what is printed is what is accepted
pub good_is_accepted : ((g : Given) → Slots g → refusal (matrix_table g) ≡ 0 → good (view g) ≡ true) × ((m : Matrix) → good m ≡ true → refusal (matrix_table (spread m)) ≡ 0)
good_is_accepted = (good-view, good-spread)
