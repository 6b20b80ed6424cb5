-- What dispatch does not refuse it takes, and its tree is fine. Assumes nothing.
use Prim.Native.Nat.{ℕ, ◌≤◌, ◌<◌}
use mathlib.Core.Bool.{Bool, true, false, not, ◌&&◌}
use mathlib.Core.List.{List, [], ◌∷◌}
use mathlib.Core.Path.{◌≡◌, refl, sym, ap, ◌∙◌, subst}
use native.Mathlib.Omega.{arith}
use borrow.Author.Tests.{eqb-true, le-leb, leb-false, ltb-false, lt-leb, ne_eqb}
use lib.Dec.{eqb, leb}
use lib.ListN.{length}
use Rattle.lists.specs.Bools.{and_both, and_left, and_right, clash, not_is, or_cases, or_no}
use Rattle.lists.specs.Lists.{all, mem}
use Rattle.rules.proofs.Evals.{dispatch-once}
use Rattle.rules.proofs.Givens.{sized_by_tests, sized_means_shaped}
use Rattle.rules.proofs.Leafs.{Named, dispatch-leaves}
use Rattle.rules.proofs.Picks.{none_applies}
use Rattle.rules.proofs.Tested.{dispatch-cells, dispatch-small}
use Rattle.rules.specs.Bounds.{columns_max, rules_max}
use Rattle.rules.specs.Dispatch.{Accepted, dispatch, peak_of}
use Rattle.rules.specs.Given.{Given, Sized, SizedRows, Slots, ascends, bad_columns, bad_net, bad_rows, cells, formed_row, too_tall, too_wide, view}
use Rattle.rules.specs.Matrix.{Matrix, Row, add_enable}
use Rattle.rules.specs.Nets.{first_mux, is_cell, is_name, is_net, over}
use Rattle.rules.specs.Refusals.{dispatch_table}
use Rattle.rules.specs.Refuse.{CATCH, COLUMNS, FORM, NET, NODES, ROWS, RULES, SHAPE, refusal}
use Rattle.rules.specs.Store.{used}
use Rattle.rules.specs.Tree.{Leaves, Once, Tests, Tree, Untested, fine, fine_leaf, leaf, node, untested}
use Rattle.rules.specs.Trits.{is_trit}

-- ---- tests over lists

pub all-mem : (p : ℕ → Bool) (ns : List ℕ) (n : ℕ) → all p ns ≡ true → mem n ns ≡ true → p n ≡ true
unfolding mem
all-mem p [] n h i = absurd (clash i)
all-mem p (x ∷ ns) n h i =
    let r = all-mem p ns n (and_right (p x) (all p ns) h) in
    or_cases (eqb x n) (mem n ns) i (λ q. subst (λ (k : ℕ). p k ≡ true) (eqb-true x n q) (and_left (p x) (all p ns) h)) (λ q. r q)

pub not_over : (n : ℕ) → not (over n) ≡ true → n < first_mux
not_over n h = omega (arith, leb-false first_mux n (not_is (over n) h))

pub is_not : (b : Bool) → not b ≡ false → b ≡ true
is_not true e = refl
is_not false e = absurd (clash (sym e))

-- rules that are all cells are their own cells
pub names-cells : (rs : List ℕ) → all is_name rs ≡ true → cells rs ≡ rs
unfolding cells
names-cells [] h = refl
names-cells (r ∷ rs) h =
    let c = and_left (is_cell r) (not (over r)) (and_left (is_name r) (all is_name rs) h) in
    rw c (ap (λ (l : List ℕ). r ∷ l) (names-cells rs (and_right (is_name r) (all is_name rs) h)))

-- ---- rows that pass 12, 4 and 5 have fine leaves

pub fine-row : (r : Row) → formed_row r ≡ true → all is_name r.rules ≡ true → length r.rules ≤ rules_max → fine_leaf r.rules ≡ true
fine-row r f n l =
    let a = and_right (all is_net r.rules) (ascends (cells r.rules)) (and_right (all is_trit r.pattern) (all is_net r.rules && ascends (cells r.rules)) f) in
    let b : ascends r.rules ≡ true = ap ascends (sym (names-cells r.rules n)) ∙ a in
    and_both (leb (length r.rules) rules_max) (all is_name r.rules && ascends r.rules) (le-leb (length r.rules) rules_max l) (and_both (all is_name r.rules) (ascends r.rules) n b)

pub fine-rows : (w : ℕ) (rs : List Row) → all formed_row rs ≡ true → all (λ (r : Row). all is_name r.rules) rs ≡ true → SizedRows w rs → Named (λ (l : List ℕ). fine_leaf l ≡ true) rs
unfolding Named SizedRows
fine-rows w [] f n s = tt
fine-rows w (r ∷ rs) f n s = (
  fine-row r (and_left (formed_row r) (all formed_row rs) f) (and_left (all is_name r.rules) (all (λ (x : Row). all is_name x.rules) rs) n) s.1,
  fine-rows w rs (and_right (formed_row r) (all formed_row rs) f) (and_right (all is_name r.rules) (all (λ (x : Row). all is_name x.rules) rs) n) s.2,
)

-- ---- what is known where dispatch gives no number

pub record Unrefused (e : ℕ) (g : Given) (store : List ℕ) : Type 0 where
  pub sized : Sized (view g)
  pub accepted : Accepted e (view g)
  pub leaves : Named (λ (l : List ℕ). fine_leaf l ≡ true) (view g).rows
  pub fits : peak_of e (view g) ≤ used store
  pub width : length (add_enable e (view g)).nets ≤ columns_max

pub unrefused : (e : ℕ) (g : Given) (store : List ℕ) → Slots g → refusal (dispatch_table e g store) ≡ 0 → Unrefused e g store
unfolding mem
unrefused e g store s h =
    let none = none_applies (dispatch_table e g store) h in
    let f : (all is_net (view g).nets && all formed_row (view g).rows) ≡ true = is_not _ (none FORM refl) in
    let n = or_no (bad_net g) (over e) (none NET refl) in
    let m = is_not _ n.0 in
    let z = sized_by_tests g s (or_no (bad_columns g) (too_wide (add_enable e (view g))) (none COLUMNS refl)).0 (or_no (bad_rows g) (too_tall (add_enable e (view g))) (none ROWS refl)).0 (none SHAPE refl) (none RULES refl) in
    let low : all (λ (k : ℕ). not (over k)) (view g).nets ≡ true = and_left (all (λ (k : ℕ). not (over k)) (view g).nets) (all (λ (r : Row). all is_name r.rules) (view g).rows) m in
    record {
      sized = z;
      accepted =
          record {
            shape = sized_means_shaped (view g) z;
            catch = is_not _ (none CATCH refl);
            nets = λ k i. not_over k (all-mem (λ (k : ℕ). not (over k)) (view g).nets k low i);
            enable = omega (arith, leb-false first_mux e n.1);
          };
      leaves = fine-rows (length (view g).nets) (view g).rows (and_right (all is_net (view g).nets) (all formed_row (view g).rows) f)
          (and_right (all (λ (k : ℕ). not (over k)) (view g).nets) (all (λ (r : Row). all is_name r.rules) (view g).rows) m) z.each;
      fits = ltb-false (used store) (peak_of e (view g)) (none NODES refl);
      width = ltb-false columns_max (length (add_enable e (view g)).nets) (or_no (bad_columns g) (too_wide (add_enable e (view g))) (none COLUMNS refl)).1;
    }

-- ---- the tree is fine

untested_is : (n : ℕ) (t : Tree) → Untested n t → untested n t ≡ true
unfolding Untested untested
untested_is n (leaf rs) h = refl
untested_is n (node t z o) h = rw (ne_eqb n t h.0, untested_is n z h.1, untested_is n o h.2)

fine_is : (t : Tree) → Once t → Tests (λ (n : ℕ). is_cell n ≡ true) t → Tests (λ (n : ℕ). n < first_mux) t → Leaves (λ (l : List ℕ). fine_leaf l ≡ true) t → fine t ≡ true
unfolding fine Once Tests Leaves
fine_is (leaf rs) w c l v = v
fine_is (node t z o) w c l v =
    let over_no : over t ≡ false = lt-leb first_mux t l.0 in
    rw (c.0, over_no, untested_is t z w.0, untested_is t o w.1, fine_is z w.2 c.1 l.1 v.0, fine_is o w.3 c.2 l.2 v.1)

pub dispatch-fine : (e : ℕ) (m : Matrix) → Accepted e m → Named (λ (l : List ℕ). fine_leaf l ≡ true) m.rows → fine (dispatch e m) ≡ true
unfolding ascends
dispatch-fine e m a n =
    fine_is (dispatch e m) (dispatch-once e m) (dispatch-cells e m) (dispatch-small e m a.nets a.enable) (dispatch-leaves (λ (l : List ℕ). fine_leaf l ≡ true) refl e m n)
