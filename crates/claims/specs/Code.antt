-- C1 and C3 of the code: for all numbers before and after that satisfy the `ensures` of dispatch, of one_hot and of evaluate, by the very
-- names that these contracts cite. `Slots` says only that a struct has as many slots as its arrays. Assumes nothing.
use Rattle.std.specs.Prelude.{ℕ, ◌+◌, ◌<◌, ◌≤◌, true, List, ◌≡◌, refl, eqb, get_or, length, take, Ok, Result}
use Rattle.std.proofs.Common.{sym, ap, ap₂, ◌∙◌, arith}
use borrow.Author.Tests.{eqb-false, ltb-false}
use Rattle.dispatch.specs.Good.{built_read}
use Rattle.emit.specs.Calls.{emitted_from}
use Rattle.emit.specs.declared.Emitted.{Emitted}
use Rattle.evaluate.specs.Values.{value_read}
use Rattle.lists.specs.Bools.{by_bool}
use Rattle.lists.specs.Lists.{all, mem}
use Rattle.lists.specs.Vec.{get_or-vec}
use Rattle.matrix.specs.Mat.{given, view}
use Rattle.matrix.specs.declared.Matrix.{Matrix}
use Rattle.rules.proofs.Lowers.{unrefused_is}
use Rattle.rules.proofs.Picks.{none_applies}
use Rattle.rules.proofs.Promised.{output_is, output_stays}
use Rattle.rules.specs.Answers.{added, dispatch_answer, dispatch_store, evaluate_answer, one_hot_after, one_hot_answer}
use Rattle.rules.specs.Bounds.{mux_first, width_max}
use Rattle.rules.specs.Codes.{net_code}
use Rattle.rules.specs.Emit.{emitted, in_use, one_hot}
use Rattle.rules.specs.Evaluate.{Filling, trits_of}
use Rattle.rules.specs.Given.{Slots}
use Rattle.rules.specs.Matrix.{add_enable}
use Rattle.rules.specs.Meaning.{Knows, Setting, owes}
use Rattle.rules.specs.Refusals.{one_hot_table, tree_in}
use Rattle.rules.specs.Refuse.{WIDTH, done, or_refused, refusal}
use Rattle.rules.specs.Trits.{is_trit}
use Rattle.rules.specs.declared.Net.{Net}
use Rattle.rules.specs.declared.Place.{Place}
use Rattle.rules.specs.declared.Trit.{Trit}
use Rattle.rules.specs.declared.refusal.Refusal.{Refusal}
use Rattle.tree.specs.declared.Built.{Built}

-- an emission that gives no number gives its value
sent : (n : ℕ) (a : List ℕ × ℕ) → (emitted_from (or_refused n a)).no ≡ 0 → or_refused n a ≡ done a
sent n a h = by_bool (eqb n 0) (λ p. rw p) (λ p. let q : n ≡ 0 = rw p at h in absurd (eqb-false n 0 p q))

-- A matrix and an enable; the numbers of the store before and after; what dispatch ensures of its answer, which is a tree.
module _ (m : Matrix) (slots : Slots (given m)) (enable : Net) (store after : List ℕ) (built : Result Built Refusal)
    (dispatched : (built_read built ≡ dispatch_answer (net_code enable) (given m) store) × (after ≡ dispatch_store (net_code enable) (given m) store))
    (root : Place) (size : ℕ) (a-tree : built ≡ Ok (record { root = root; size = size }))
    (outs : List ℕ) (count : ℕ) (table then : List ℕ) (sends : Emitted)
    (one-hot : (sends ≡ emitted_from (one_hot_answer after root.0 outs count table)) × (then ≡ one_hot_after after root.0 outs count table)) (accepted : sends.no ≡ 0) where
  abbrev e : ℕ
  e = net_code enable

  abbrev lent : List ℕ
  lent = dispatch_store e (given m) store

  answered : dispatch_answer e (given m) store ≡ done (root.0, size)
  answered = sym dispatched.0 ∙ ap built_read a-tree

  abbrev pair : List ℕ × ℕ
  pair = ((emitted (one_hot outs) (tree_in lent root.0) (in_use count table)).1, count + length (added (one_hot outs) (tree_in lent root.0) count table))

  sends_is : sends ≡ emitted_from (one_hot_answer lent root.0 outs count table)
  sends_is = one-hot.0 ∙ ap (λ (l : List ℕ). emitted_from (one_hot_answer l root.0 outs count table)) dispatched.1

  hot : one_hot_answer lent root.0 outs count table ≡ done pair
  unfolding one_hot_answer
  hot = sent (refusal (one_hot_table lent root.0 outs count table)) pair (sym (ap (λ (s : Emitted). s.no) sends_is) ∙ accepted)

  sends_done : sends ≡ emitted_from (done pair)
  sends_done = sends_is ∙ ap emitted_from hot

  few : length outs ≤ width_max
  unfolding one_hot_answer mem
  few =
      let w = unrefused_is (refusal (one_hot_table lent root.0 outs count table)) pair pair hot in
      ltb-false width_max (length outs) (none_applies (one_hot_table lent root.0 outs count table) w.0 WIDTH refl)

  net-at : (i : ℕ) → i < length outs → get_or sends.nets i 0 ≡ get_or pair.0 i 0
  net-at i h = ap (λ (s : Emitted). get_or s.nets i 0) sends_done ∙ get_or-vec width_max 0 pair.0 i (omega (arith, few))

  -- the evaluator on the table after, asked for the i-th net of the value
  asks : (ts : List ℕ) (i : ℕ) → i < length outs → (asked : Net) → net_code asked ≡ get_or sends.nets i 0
      → evaluate_answer sends.used then ts (net_code asked) ≡ evaluate_answer pair.1 (one_hot_after lent root.0 outs count table) ts (get_or pair.0 i 0)
  asks ts i h asked q =
      ap (λ (s : Emitted). evaluate_answer s.used then ts (net_code asked)) sends_done
      ∙ ap₂ (λ (t : List ℕ) (n : ℕ). evaluate_answer pair.1 t ts n) (one-hot.1 ∙ ap (λ (l : List ℕ). one_hot_after l root.0 outs count table) dispatched.1) (q ∙ net-at i h)

  -- C1: what evaluate answers is 1 exactly when the first matching row names the output, else 0
  pub code_first_match : (ts : List ℕ) → all is_trit (take mux_first ts) ≡ true → (σ : Setting) → Knows (trits_of ts) σ (add_enable e (view m))
      → (i : ℕ) → i < length outs → (asked : Net) → net_code asked ≡ get_or sends.nets i 0 → (v : Result Trit Refusal) → value_read v ≡ evaluate_answer sends.used then ts (net_code asked)
      → value_read v ≡ done (owes σ e (view m) (get_or outs i 0))
  code_first_match ts k σ w i h asked q v ensured =
      ensured ∙ asks ts i h asked q ∙ output_is e (given m) slots store root.0 size answered outs count table pair.0 pair.1 hot ts σ k w i h

  -- C3: and a bit that it answers it answers at every filling
  pub code_known_stays : (ts us : List ℕ) → all is_trit (take mux_first ts) ≡ true → Filling ts us → (i b : ℕ) → i < length outs → (asked : Net) → net_code asked ≡ get_or sends.nets i 0
      → (v u : Result Trit Refusal) → value_read v ≡ evaluate_answer sends.used then ts (net_code asked) → value_read u ≡ evaluate_answer sends.used then us (net_code asked)
      → value_read v ≡ done b → (b ≡ 2 → ⊥) → value_read u ≡ done b
  code_known_stays ts us k f i b h asked q v u ev eu is known =
      eu ∙ asks us i h asked q
      ∙ output_stays e (given m) slots store root.0 size answered outs count table pair.0 pair.1 hot ts us k f i b h (sym (ev ∙ asks ts i h asked q) ∙ is) known
