-- A matrix that a call normalized: a leaf, or a test with two arms, whose trees and measures are those of 01's recursion. Assumes nothing.
use borrow.Author.Tests.{eq-eqb, ne_eqb}
use lib.Dec.{eqb}
use lib.ListN.{drop, length, take}
use lib.Seq.{drop_at, length-take-le, take_at}
use mathlib.Core.Bool.{◌||◌, Bool, false, true}
use mathlib.Core.List.{◌++◌, List, map}
use mathlib.Core.Path.{◌∙◌, ◌≡◌, ap, ap₂, subst, sym}
use native.Mathlib.Omega.{arith}
use Prim.Native.Nat.{◌*◌, ◌-◌, ◌<◌, ◌≤◌, ℕ}
use Rattle.dispatch.proofs.Leaves.{plain-assume, plain_cells, plain-fit, plain_normal}
use Rattle.dispatch.specs.Good.{Good, Plain}
use Rattle.lists.specs.Bools.{or_left, or_right}
use Rattle.lists.specs.Vec.{length-vec}
use Rattle.matrix.proofs.NormalMade.{sized_normalize}
use Rattle.matrix.proofs.StepHeld.{clean_held, clean_wide}
use Rattle.matrix.proofs.StepLaws.{assumed, map_front}
use Rattle.matrix.proofs.StepSized.{sized_assume}
use Rattle.matrix.proofs.Views.{clean_is}
use Rattle.matrix.specs.declared.Matrix.{Matrix}
use Rattle.matrix.specs.Mat.{Clean, matrix_from, view}
use Rattle.rules.proofs.Columns.{normal_cells, test-mem}
use Rattle.rules.proofs.Evals.{Cells, raw_of-branch, raw_of_leaf}
use Rattle.rules.proofs.Falls.{distinct_falls}
use Rattle.rules.specs.Bounds.{cell_max, columns_max, node_run}
use Rattle.rules.specs.declared.Cell.{Cell}
use Rattle.rules.specs.Dispatch.{distinct, done, raw_of, rules, test}
use Rattle.rules.specs.Matrix.{assume, Matrix as MatrixOf, swap}
use Rattle.rules.specs.Nets.{cell}
use Rattle.rules.specs.Normalize.{normalize}
use Rattle.rules.specs.Tree.{leaf, node, reduce}
use Rattle.rules.specs.Trits.{bit}
use Rattle.tree.proofs.Grows.{Took}
use borrow.Rule.Slice.PartMut.{put_mid, same_len_mid}
use Rattle.tree.proofs.Laws.{part_length, rest}
use Rattle.tree.specs.Grown.{Arms}

-- ---- w is the normal form of m

module _ (m w : Matrix) (g : Good m) (e : w ≡ matrix_from (normalize (view m))) where
  made : Clean w × (view w ≡ normalize (view m))
  made = clean_is w (normalize (view m)) (sized_normalize (view m) g.clean.sized) e

  pub normal_clean : Clean w
  normal_clean = made.0

  pub normal_is : view w ≡ normalize (view m)
  normal_is = made.1

  pub normal_good : Good w
  normal_good = record { clean = normal_clean; plain = subst Plain (sym normal_is) (plain_normal (view m) g.plain) }

  pub normal_tests : Cells (view w)
  normal_tests = subst Cells (sym normal_is) (normal_cells (view m))

  tree_leaf : done (view w) ≡ true → raw_of (view m) ≡ leaf (rules (view w))
  tree_leaf d = raw_of_leaf (view m) (ap done (sym normal_is) ∙ d) ∙ ap (λ (x : MatrixOf). leaf (rules x)) (sym normal_is)

  pub leaf_columns : w.columns ≡ 0 → raw_of (view m) ≡ leaf (rules (view w))
  leaf_columns z =
      let h = (clean_held w normal_clean).columns in
      tree_leaf (or_left (eqb (length (view w).nets) 0) (eqb (length (view w).rows) 1) (eq-eqb (length (view w).nets) 0 (sym h ∙ z)))

  pub leaf_rows : w.count ≡ 1 → raw_of (view m) ≡ leaf (rules (view w))
  leaf_rows z =
      let h = (clean_held w normal_clean).count in
      tree_leaf (or_right (eqb (length (view w).nets) 0) (eqb (length (view w).rows) 1) (eq-eqb (length (view w).rows) 1 (sym h ∙ z)))

  pub normal_open : (w.columns ≡ 0 → ⊥) → (w.count ≡ 1 → ⊥) → done (view w) ≡ false
  normal_open a b =
      let h = clean_held w normal_clean in
      ap₂ ◌||◌ (ne_eqb (length (view w).nets) 0 (λ z. a (h.columns ∙ z))) (ne_eqb (length (view w).rows) 1 (λ z. b (h.count ∙ z)))

-- ---- and is split by a test t

pub record Split (m w : Matrix) (t : Cell) : Type 0 where
  pub good : Good w
  pub normal : view w ≡ normalize (view m)
  pub more : done (view w) ≡ false
  pub test_is : cell t.0 ≡ test (view w)

pub split_of : (m w : Matrix) (t : Cell) (g : Good m) → w ≡ matrix_from (normalize (view m)) → (w.columns ≡ 0 → ⊥) → (w.count ≡ 1 → ⊥) → cell t.0 ≡ test (view w) → Split m w t
split_of m w t g e a b q = record { good = normal_good m w g e; normal = normal_is m w g e; more = normal_open m w g e a b; test_is = q }

-- an arm before it is normalized: other nets
abbrev pub with_value : Matrix → List ℕ → Matrix
with_value w v = record { value = v; columns = w.columns; rows = w.rows; count = w.count }

-- as many slots are in use as the count says
pub nets_used : (w : Matrix) → Clean w → length (take w.columns w.value) ≡ w.columns
nets_used w c =
    let l = ap length (clean_held w c).value ∙ length-vec columns_max 0 (view w).nets in
    length-take-le w.columns w.value (omega (arith, l, clean_wide w c))

-- the nets in use were lent, and became l
abbrev pub with_front : Matrix → List ℕ → Matrix
with_front w l = with_value w (l ++ drop w.columns w.value)

pub front_assumed : (w : Matrix) (t b : ℕ) (l : List ℕ) → Clean w → l ≡ map (swap t b) (take w.columns w.value) → with_front w l ≡ matrix_from (assume t b (view w))
front_assumed w t b l c e = assumed w t b _ c (ap (λ (k : List ℕ). k ++ drop w.columns w.value) e ∙ map_front (swap t b) w.columns w.value)

pub split_low : (m w : Matrix) (t : Cell) → Split m w t → t.0 ≤ cell_max
split_low m w t s = omega (arith, s.test_is, s.good.plain.low (test (view w)) (test-mem (view w) s.more))

bit-low : (b : Bool) → bit b < 3
bit-low true = omega arith
bit-low false = omega arith

-- an arm: the test set to b
module _ (m w z : Matrix) (t : Cell) (b : Bool) (s : Split m w t) (e : z ≡ matrix_from (assume (cell t.0) (bit b) (view w))) where
  arm : Clean z × (view z ≡ assume (cell t.0) (bit b) (view w))
  arm = clean_is z (assume (cell t.0) (bit b) (view w)) (sized_assume (cell t.0) (bit b) (view w) s.good.clean.sized) e

  pub arm-good : Good z
  arm-good = record { clean = arm.0; plain = subst Plain (sym arm.1) (plain-assume (cell t.0) (bit b) (view w) (bit-low b) s.good.plain) }

  pub arm_is : view z ≡ assume (test (normalize (view m))) (bit b) (normalize (view m))
  arm_is =
      arm.1 ∙ ap (λ (n : ℕ). assume n (bit b) (view w)) s.test_is
      ∙ ap (λ (x : MatrixOf). assume (test x) (bit b) x) s.normal

  pub arm_falls : distinct (view z).nets < distinct (view m).nets
  arm_falls = subst (λ (x : MatrixOf). distinct x.nets < distinct (view m).nets) (sym arm_is) (distinct_falls (view m) b (ap done (sym s.normal) ∙ s.more))

module _ (m w : Matrix) (t : Cell) (s : Split m w t) where
  branch : raw_of (view m) ≡ node (cell t.0) (raw_of (assume (test (normalize (view m))) 0 (normalize (view m)))) (raw_of (assume (test (normalize (view m))) 1 (normalize (view m))))
  branch =
      raw_of-branch (view m) (ap done (sym s.normal) ∙ s.more)
      ∙ ap (λ (n : ℕ). node n (raw_of (assume (test (normalize (view m))) 0 (normalize (view m)))) (raw_of (assume (test (normalize (view m))) 1 (normalize (view m)))))
      (ap test (sym s.normal) ∙ sym s.test_is)

  -- one arm's matrix is made
  pub zero_tree : (z : Matrix) → z ≡ matrix_from (assume (cell t.0) 0 (view w))
      → raw_of (view m) ≡ node (cell t.0) (raw_of (view z)) (raw_of (assume (test (normalize (view m))) 1 (normalize (view m))))
  zero_tree z e =
      branch ∙ ap (λ (x : MatrixOf). node (cell t.0) (raw_of x) (raw_of (assume (test (normalize (view m))) 1 (normalize (view m))))) (sym (arm_is m w z t false s e))

  -- both are
  pub arms_tree : (z o : Matrix) → z ≡ matrix_from (assume (cell t.0) 0 (view w)) → o ≡ matrix_from (assume (cell t.0) 1 (view w))
      → raw_of (view m) ≡ node (cell t.0) (raw_of (view z)) (raw_of (view o))
  arms_tree z o e f = zero_tree z e ∙ ap (λ (x : MatrixOf). node (cell t.0) (raw_of (view z)) (raw_of x)) (sym (arm_is m w o t true s f))

-- how the arms of z and o stand when they are joined
pub arms_stand : (z o : Matrix) (xs ys ws us : List ℕ) (k l : ℕ) → Good z → Good o → Took (raw_of (view z)) xs ys k → Took (raw_of (view o)) ws us l
    → length ys ≡ length xs → length ws ≡ length xs - node_run * k → length us ≡ length ws
    → Arms (reduce (raw_of (view z))) (reduce (raw_of (view o))) k l (take (node_run * k) ys ++ (us ++ drop (length ys - node_run * k) (drop (node_run * k) ys)))
arms_stand z o xs ys ws us k l gz go a b m n p =
    let w : node_run * k ≤ length ys = omega (arith, a.within) in
    let e : length (take (node_run * k) ys) ≡ node_run * k = length-take-le (node_run * k) ys w in
    rw (rest (node_run * k) ys us w) (record {
      zero_fit = plain-fit (view z) gz.plain;
      one-fit = plain-fit (view o) go.plain;
      zero_cells = plain_cells (view z) gz.plain;
      one-cells = plain_cells (view o) go.plain;
      zero_size = a.is;
      one_size = b.is;
      zero_at = take_at (take (node_run * k) ys) us (node_run * k) e ∙ a.at;
      one_at = ap (λ (q : List ℕ). take (node_run * l) q) (drop_at (take (node_run * k) ys) us (node_run * k) e) ∙ b.at;
    })

-- ---- the store after the zero arm's k numbers

abbrev pub after : ℕ → List ℕ → List ℕ
after k ys = take (length ys - k) (drop k ys)

pub after_length : (k : ℕ) (xs ys : List ℕ) → length ys ≡ length xs → length (after k ys) ≡ length xs - k
after_length k xs ys e = part_length k ys ∙ ap (λ (n : ℕ). n - k) e

pub put_length : (k : ℕ) (xs ys us : List ℕ) → length us ≡ length (after k ys) → length ys ≡ length xs → length (put_mid k (length ys - k) ys us) ≡ length xs
put_length k xs ys us l e = same_len_mid k (length ys - k) ys us l ∙ e
