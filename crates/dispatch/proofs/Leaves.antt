-- A leaf's rules in the first slot, and what a plain matrix hands down to its arms. Assumes nothing.
use borrow.Author.Tests.{leb-true, ltb-false, ltb-true}
use lib.Dec.{ltb}
use lib.ListN.{get_or, take}
use mathlib.Core.Bool.{true}
use mathlib.Core.List.{[], ◌∷◌, List, map}
use mathlib.Core.Option.{none}
use mathlib.Core.Path.{◌∙◌, ◌≡◌, ap, refl, subst, sym}
use native.Mathlib.Omega.{arith}
use Prim.Native.Nat.{◌<◌, ◌≤◌, ℕ}
use Rattle.dispatch.specs.Good.{Fine, Plain}
use Rattle.lists.specs.Bools.{by_bool}
use Rattle.lists.specs.Vec.{take-vec, vec}
use Rattle.matrix.proofs.StepHeld.{past, zero_row}
use Rattle.rows.specs.declared.Row.{Row}
use Rattle.rows.specs.Rows.{row_from}
use Rattle.rules.proofs.Columns.{columns-from, swap-from}
use Rattle.rules.proofs.Leafs.{dispatch-leaves, keep-named, moved_named}
use Rattle.rules.proofs.Stores.{Cells, fine-cells, fine-fit}
use Rattle.rules.proofs.Tested.{dispatch-cells}
use Rattle.rules.specs.Bounds.{rows_max, rules_max}
use Rattle.rules.specs.Dispatch.{dispatch, head_rules, raw_of}
use Rattle.rules.specs.Given.{ascends, SizedRows}
use Rattle.rules.specs.Matrix.{assume, Matrix, Row as RowOf}
use Rattle.rules.specs.Nets.{is_cell}
use Rattle.rules.specs.Normalize.{asked, kept, normalize, stay}
use Rattle.rules.specs.Tree.{fine, Fit, leaf, Leaves, node, reduce, Tests, Tree}

-- ---- the first slot of a clean matrix

pub first-few : (w : ℕ) (rs : List RowOf) (l : List Row) → SizedRows w rs → l ≡ vec rows_max zero_row (map row_from rs) → (get_or l 0 past).rules.count ≤ rules_max
unfolding SizedRows vec
first-few w [] l s e = subst (λ (v : List Row). (get_or v 0 past).rules.count ≤ rules_max) (sym e) (omega arith)
first-few w (r ∷ rs) l s e = subst (λ (v : List Row). (get_or v 0 past).rules.count ≤ rules_max) (sym e) s.1

pub first-rules : (w : ℕ) (rs : List RowOf) (l : List Row) → SizedRows w rs → l ≡ vec rows_max zero_row (map row_from rs)
    → take (get_or l 0 past).rules.count (get_or l 0 past).rules.items ≡ head_rules rs
unfolding SizedRows vec
first-rules w [] l s e = ap (λ (v : List Row). take (get_or v 0 past).rules.count (get_or v 0 past).rules.items) e
first-rules w (r ∷ rs) l s e = ap (λ (v : List Row). take (get_or v 0 past).rules.count (get_or v 0 past).rules.items) e ∙ take-vec rules_max 0 r.rules s.1

-- ---- plain matrices

pub plain_normal : (m : Matrix) → Plain m → Plain (normalize m)
unfolding normalize
plain_normal m p =
    record {
      low = λ n i. p.low n (columns-from (asked m.nets (kept m)) [] m.nets n i).1;
      leaves = moved_named Fine m.nets (stay m) (kept m) (keep-named Fine m.nets none m.rows p.leaves);
    }

pub plain-assume : (t b : ℕ) (m : Matrix) → b < 3 → Plain m → Plain (assume t b m)
plain-assume t b m h p =
    record {
      low = λ n i. by_bool (ltb b n) (λ q. let l = ltb-true b n q in p.low n (swap-from t b m.nets n (λ e. omega arith) i).0) (λ q. let l = ltb-false b n q in omega arith);
      leaves = p.leaves;
    }

-- ---- the tree has cells as tests, and rules that a leaf may have

tree-fit : (t : Tree) → Leaves Fine t → Fit t
unfolding Leaves Fit fine
tree-fit (leaf rs) h = fine-fit (leaf rs) h
tree-fit (node t z o) h = (tree-fit z h.0, tree-fit o h.1)

tree-cells : (t : Tree) → Tests (λ (n : ℕ). is_cell n ≡ true) t → Leaves Fine t → Cells t
unfolding Tests Leaves Cells fine
tree-cells (leaf rs) c h = fine-cells (leaf rs) h
tree-cells (node t z o) c h = (leb-true 3 t c.0, tree-cells z c.1 h.0, tree-cells o c.2 h.1)

module _ (m : Matrix) (p : Plain m) where
  leaves : Leaves Fine (reduce (raw_of m))
  unfolding dispatch ascends
  leaves = dispatch-leaves Fine refl 1 m p.leaves

  pub plain-fit : Fit (reduce (raw_of m))
  plain-fit = tree-fit (reduce (raw_of m)) leaves

  pub plain_cells : Cells (reduce (raw_of m))
  unfolding dispatch
  plain_cells = tree-cells (reduce (raw_of m)) (dispatch-cells 1 m) leaves
