-- OVERLAP of a dispatched tree, by the first matching row. Assumes nothing.
use Prim.Native.Nat.{ℕ}
use mathlib.Core.Bool.{Bool, true, false, ◌&&◌}
use mathlib.Core.List.{List, [], ◌∷◌}
use mathlib.Core.Logic.{◌↔◌}
use mathlib.Core.Path.{◌≡◌, refl, sym, ap, ◌∙◌, subst}
use native.Mathlib.Omega.{arith}
use lib.Dec.{leb}
use lib.ListN.{length}
use Rattle.lists.specs.Bools.{and_right, by_bool}
use Rattle.lists.specs.Lists.{all}
use Rattle.rules.proofs.Evals.{dispatch-eval, dispatch-once}
use Rattle.rules.proofs.Leafs.{dispatch-leaves}
use Rattle.rules.proofs.Overlaps.{overlap_two, two_overlap}
use Rattle.rules.proofs.Picks.{Silent, first-given, given-applies}
use Rattle.rules.proofs.Promised.{Dispatched, dispatched}
use Rattle.rules.proofs.Reach.{reached_some, some_reached}
use Rattle.rules.proofs.Sets.{ascends_says}
use Rattle.rules.proofs.Tested.{dispatch-cells}
use Rattle.rules.specs.Answers.{dispatch_answer, dispatch_store}
use Rattle.rules.specs.Bounds.{rules_max}
use Rattle.rules.specs.Dispatch.{dispatch}
use Rattle.rules.specs.Emit.{TwoUpdated, Update, overlap}
use Rattle.rules.specs.Given.{Given, Slots, ascends, view}
use Rattle.rules.specs.Matrix.{Ascends}
use Rattle.rules.specs.Meaning.{Setting, bit_at, wins}
use Rattle.rules.specs.Nets.{is_name}
use Rattle.rules.specs.Refusals.{disjoint_table, tree_in}
use Rattle.rules.specs.Refuse.{CATCH, COLUMNS, FORM, LINE, NET, NODES, OVERLAP, ROOM, ROWS, RULES, SHAPE, WIDTH, applies, done, refusal}
use Rattle.rules.specs.Store.{found}
use Rattle.rules.specs.Tree.{Leaves, Tree, eval, fine_leaf, leaf, node, some_leaf}

leaf_reached : (P : List ℕ → Type 0) (v : ℕ → Bool) (t : Tree) → Leaves P t → P (eval v t)
unfolding Leaves eval
leaf_reached P v (leaf rs) h = h
leaf_reached P v (node t z o) h =
    let a = leaf_reached P v z h.0 in
    let b = leaf_reached P v o h.1 in
    by_bool (v t) (λ p. rw p b) (λ p. rw p a)

fine-ascends : (rs : List ℕ) → fine_leaf rs ≡ true → Ascends rs
fine-ascends rs h = ascends_says rs (and_right (all is_name rs) (ascends rs) (and_right (leb (length rs) rules_max) (all is_name rs && ascends rs) h))

module _ (e : ℕ) (g : Given) (slots : Slots g) (store : List ℕ) (root n : ℕ) (given : dispatch_answer e g store ≡ done (root, n)) where
  abbrev tree : Tree
  tree = dispatch e (view g)

  facts : Dispatched e g store root n
  facts = dispatched e g store root n slots given

  reaches : (σ : Setting) → eval (bit_at σ) tree ≡ wins σ e (view g)
  reaches σ = dispatch-eval σ e (view g) facts.taken.accepted.shape facts.taken.accepted.catch

  wins_ascend : (σ : Setting) → Ascends (wins σ e (view g))
  unfolding ascends
  wins_ascend σ =
      let l = dispatch-leaves (λ (l : List ℕ). fine_leaf l ≡ true) refl e (view g) facts.taken.leaves in
      subst Ascends (reaches σ) (fine-ascends (eval (bit_at σ) tree) (leaf_reached (λ (l : List ℕ). fine_leaf l ≡ true) (bit_at σ) tree l))

  leaf_two : (us : List Update) → some_leaf (overlap us) tree ≡ true → (σ : Setting) × TwoUpdated us (wins σ e (view g))
  leaf_two us h =
      let r = some_reached (overlap us) tree (dispatch-once e (view g)) (dispatch-cells e (view g)) h in
      (r.0, overlap_two us (wins r.0 e (view g)) (wins_ascend r.0) (ap (overlap us) (sym (reaches r.0)) ∙ r.1))

  two_leaf : (us : List Update) → (σ : Setting) × TwoUpdated us (wins σ e (view g)) → some_leaf (overlap us) tree ≡ true
  two_leaf us r = reached_some (overlap us) (bit_at r.0) tree (ap (overlap us) (reaches r.0) ∙ two_overlap us (wins r.0 e (view g)) r.1)

  module _ (us : List Update) (d : List ℕ) (count : ℕ) (table : List ℕ) where
    abbrev faults : List (ℕ × Bool)
    faults = disjoint_table (dispatch_store e g store) root us d count table

    tree_is : tree_in (dispatch_store e g store) root ≡ tree
    tree_is = ap found facts.tree

    pub overlap_is : applies FORM faults ≡ false → applies NET faults ≡ false → applies WIDTH faults ≡ false
        → (refusal faults ≡ OVERLAP) ↔ ((σ : Setting) × TwoUpdated us (wins σ e (view g)))
    unfolding Silent
    overlap_is f k w = (
      (λ h. leaf_two us (ap (some_leaf (overlap us)) (sym tree_is) ∙ given-applies faults OVERLAP h (omega arith))),
      (λ r. first-given (FORM ∷ COLUMNS ∷ ROWS ∷ SHAPE ∷ NET ∷ RULES ∷ CATCH ∷ NODES ∷ WIDTH ∷ []) OVERLAP (ROOM ∷ LINE ∷ []) faults refl
          (f, (refl, (refl, (refl, (k, (refl, (refl, (refl, (w, tt))))))))) (ap (some_leaf (overlap us)) tree_is ∙ two_leaf us r)),
    )
