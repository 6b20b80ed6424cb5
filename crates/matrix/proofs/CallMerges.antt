-- What no number says of a merge, that its result is within the bounds then, and a merge point that codes no net. Assumes nothing.
use borrow.Author.Tests.{eqb-true, leb-false, leb-true, lt-leb, ltb-false}
use lib.Dec.{eqb, leb, ltb}
use lib.ListN.{length, length-append, length-replicate, replicate}
use mathlib.Core.Bool.{◌||◌, Bool, cond, false, not, true}
use mathlib.Core.List.{[], ◌++◌, ◌∷◌, List, map}
use mathlib.Core.Path.{◌∙◌, ◌≡◌, ap, refl, sym}
use native.Mathlib.Omega.{arith}
use Prim.Native.Nat.{◌+◌, ◌<◌, ◌≤◌, ℕ}
use Rattle.lists.specs.Bools.{and_both, and_left, and_right, by_bool, clash, not_is, or_no}
use Rattle.lists.specs.Lists.{all, mem}
use Rattle.matrix.proofs.Tidies.{is_not}
use Rattle.matrix.specs.declared.Matrix.{Matrix}
use Rattle.matrix.specs.Faults.{clipped, Fits}
use Rattle.matrix.specs.Mat.{given, view}
use Rattle.rules.proofs.Picks.{none_applies}
use Rattle.rules.specs.Bounds.{columns_max, net_max, rows_max, rules_max}
use Rattle.rules.specs.Given.{bad_columns, bad_form, bad_net, bad_rows, bad_rules, bad_shape, formed_row, Sized, SizedRows, too_many, too_tall, too_wide}
use Rattle.rules.specs.Matrix.{alone, joined, Matrix as MatrixOf, merge, merge_rows, Row as RowOf}
use Rattle.rules.specs.Nets.{cell, first_mux, is_cell, is_name, is_net, over}
use Rattle.rules.specs.Refusals.{merge_table}
use Rattle.rules.specs.Refuse.{COLUMNS, FORM, NET, refusal, ROWS, RULES, SHAPE}
use Rattle.rules.specs.Trits.{is_trit}

-- ---- the result is within the bounds where its size is

abbrev few : RowOf → Bool
few r = leb (length r.rules) rules_max

all_append : (f : RowOf → Bool) (xs ys : List RowOf) → all f (xs ++ ys) ≡ true → (all f xs ≡ true) × (all f ys ≡ true)
all_append f [] ys e = (refl, e)
all_append f (x ∷ xs) ys e =
    let r = all_append f xs ys (and_right (f x) (all f (xs ++ ys)) e) in
    (and_both (f x) (all f xs) (and_left (f x) (all f (xs ++ ys)) e) r.0, r.1)

sized_append : (w : ℕ) (xs ys : List RowOf) → SizedRows w xs → SizedRows w ys → SizedRows w (xs ++ ys)
unfolding SizedRows
sized_append w [] ys s t = t
sized_append w (x ∷ xs) ys s t = (s.0, s.1, sized_append w xs ys s.2 t)

sized_joined : (a b : ℕ) (r : RowOf) (cs : List RowOf) → length r.pattern ≡ a → SizedRows b cs → all few (map (joined r) cs) ≡ true → SizedRows (a + b) (map (joined r) cs)
unfolding SizedRows
sized_joined a b r [] h s e = tt
sized_joined a b r (c ∷ cs) h s e =
    let p = length-append r.pattern c.pattern in
    let q = leb-true _ rules_max (and_left (few (joined r c)) (all few (map (joined r) cs)) e) in
    (omega (arith, s.0), q, sized_joined a b r cs h s.2 (and_right (few (joined r c)) (all few (map (joined r) cs)) e))

sized_alone : (a b : ℕ) (r : RowOf) → length r.pattern ≡ a → length r.rules ≤ rules_max → SizedRows (a + b) (alone b r ∷ [])
unfolding SizedRows
sized_alone a b r h k =
    let p = length-append r.pattern (replicate b 2) in
    let q = length-replicate {A = ℕ} b 2 in
    (omega arith, k, tt)

sized_rows : (t a : ℕ) (child : MatrixOf) (rs : List RowOf) → SizedRows a rs → SizedRows (length child.nets) child.rows → all few (merge_rows t child rs) ≡ true
    → SizedRows (a + length child.nets) (merge_rows t child rs)
unfolding SizedRows merge_rows
sized_rows t a child [] s c e = tt
sized_rows t a child (r ∷ rs) s c e =
    let w = length child.nets in
    let f = all_append few (cond (mem t r.rules) (map (joined r) child.rows) (alone w r ∷ [])) (merge_rows t child rs) e in
    let next = sized_rows t a child rs s.2 c f.1 in
    by_bool (mem t r.rules)
    (λ p. rw p (sized_append (a + w) (map (joined r) child.rows) (merge_rows t child rs) (sized_joined a w r child.rows s.0 c (rw p at f.0)) next))
    (λ p. rw p (sized_append (a + w) (alone w r ∷ []) (merge_rows t child rs) (sized_alone a w r s.0 s.1) next))

pub merge_sized : (t : ℕ) (m c : MatrixOf) → Sized m → Sized c → too_wide (merge t m c) ≡ false → too_tall (merge t m c) ≡ false → too_many (merge t m c) ≡ false → Sized (merge t m c)
merge_sized t m c s u w h k =
    record {
      wide = ltb-false columns_max (length (m.nets ++ c.nets)) w;
      tall = ltb-false rows_max (length (merge_rows t c m.rows)) h;
      each = rw (length-append m.nets c.nets) (sized_rows t (length m.nets) c m.rows s.each u.each (is_not _ k));
    }

-- ---- a merge point that codes no net

mem_out : (x : ℕ) (l : List ℕ) → is_net x ≡ false → all is_net l ≡ true → mem x l ≡ false
unfolding mem
mem_out x [] h e = refl
mem_out x (y ∷ l) h e =
    let r = mem_out x l h (and_right (is_net y) (all is_net l) e) in
    by_bool (eqb y x)
    (λ p. absurd (clash (sym h ∙ ap is_net (sym (eqb-true y x p)) ∙ and_left (is_net y) (all is_net l) e)))
    (λ p. rw p r)

merge_out : (x y : ℕ) (c : MatrixOf) (rs : List RowOf) → is_net x ≡ false → is_net y ≡ false → all formed_row rs ≡ true → merge_rows x c rs ≡ merge_rows y c rs
unfolding merge_rows
merge_out x y c [] h k e = refl
merge_out x y c (r ∷ rs) h k e =
    let f = and_left (formed_row r) (all formed_row rs) e in
    let n = and_left (all is_net r.rules) _ (and_right (all is_trit r.pattern) _ f) in
    rw (mem_out x r.rules h n, mem_out y r.rules k n, merge_out x y c rs h k (and_right (formed_row r) (all formed_row rs) e))

pub merge-clipped : (m : Matrix) (c : MatrixOf) (t : ℕ) → bad_form (given m) ≡ false → merge_rows (clipped t) c (view m).rows ≡ merge_rows t c (view m).rows
merge-clipped m c t e =
    by_bool (is_net t)
    (λ p. rw p)
    (λ p. rw p (merge_out (cell net_max + 1) t c (view m).rows (lt-leb (cell net_max + 1) (cell net_max) (omega arith)) p (and_right (all is_net (view m).nets) _ (is_not _ e))))

-- ---- the number

-- as the code finds it: k rows, u columns, and whether a row has too many rules, of the clipped merge point
pub merge-number : (m c : Matrix) (t k u n : ℕ) (many : Bool) → k ≡ length (merge_rows (clipped t) (view c) (view m).rows) → u ≡ length ((view m).nets ++ (view c).nets) → many ≡ too_many (merge (clipped t) (view m) (view c))
    → n ≡ refusal (
    (FORM, bad_form (given m) || bad_form (given c))
    ∷ (COLUMNS, bad_columns (given m) || (bad_columns (given c) || ltb columns_max u))
    ∷ (ROWS, bad_rows (given m) || (bad_rows (given c) || ltb rows_max k))
    ∷ (SHAPE, bad_shape (given m) || bad_shape (given c))
    ∷ (NET, bad_net (given m) || (bad_net (given c) || not (is_name t)))
    ∷ (RULES, bad_rules (given m) || (bad_rules (given c) || many))
    ∷ [])
    → n ≡ refusal (merge_table t (given m) (given c))
merge-number m c t k u n many a b d e =
    by_bool (bad_form (given m))
    (λ p. let h : n ≡ FORM = rw p at e in rw p h)
    (λ p.
    let q = merge-clipped m (view c) t p in
    let x : ltb rows_max k ≡ too_tall (merge t (view m) (view c)) = ap (λ (j : ℕ). ltb rows_max j) (a ∙ ap (λ (l : List RowOf). length l) q) in
    let y : many ≡ too_many (merge t (view m) (view c)) = d ∙ ap (λ (l : List RowOf). not (all few l)) q in
    let z : ltb columns_max u ≡ too_wide (merge t (view m) (view c)) = ap (λ (j : ℕ). ltb columns_max j) b in
    rw (x, y, z) at e)

or_three : (a b c : Bool) → (a || (b || c)) ≡ false → (a ≡ false) × (b ≡ false) × (c ≡ false)
or_three a b c e =
    let p = or_no a (b || c) e in
    let q = or_no b c p.1 in
    (p.0, q.0, q.1)

module _ (m c : Matrix) (t : ℕ) (e : refusal (merge_table t (given m) (given c)) ≡ 0) where
  no_columns : (bad_columns (given m) ≡ false) × (bad_columns (given c) ≡ false) × (too_wide (merge t (view m) (view c)) ≡ false)
  unfolding mem
  no_columns = or_three _ _ _ (none_applies (merge_table t (given m) (given c)) e COLUMNS refl)

  no_rows : (bad_rows (given m) ≡ false) × (bad_rows (given c) ≡ false) × (too_tall (merge t (view m) (view c)) ≡ false)
  unfolding mem
  no_rows = or_three _ _ _ (none_applies (merge_table t (given m) (given c)) e ROWS refl)

  no_shape : (bad_shape (given m) ≡ false) × (bad_shape (given c) ≡ false)
  unfolding mem
  no_shape = or_no _ _ (none_applies (merge_table t (given m) (given c)) e SHAPE refl)

  no_net : (bad_net (given m) ≡ false) × (bad_net (given c) ≡ false) × (not (is_name t) ≡ false)
  unfolding mem
  no_net = or_three _ _ _ (none_applies (merge_table t (given m) (given c)) e NET refl)

  no_rules : (bad_rules (given m) ≡ false) × (bad_rules (given c) ≡ false) × (too_many (merge t (view m) (view c)) ≡ false)
  unfolding mem
  no_rules = or_three _ _ _ (none_applies (merge_table t (given m) (given c)) e RULES refl)

  pub merge-fits : Fits m
  merge-fits = record { columns = no_columns.0; rows = no_rows.0; shape = no_shape.0; rules = no_rules.0 }

  pub merge_child_fits : Fits c
  merge_child_fits = record { columns = no_columns.1; rows = no_rows.1; shape = no_shape.1; rules = no_rules.1 }

  pub merge_low : t < first_mux
  merge_low = leb-false first_mux t (not_is (over t) (and_right (is_cell t) (not (over t)) (is_not (is_name t) no_net.2)))

  pub merge-fine : Sized (view m) → Sized (view c) → Sized (merge t (view m) (view c))
  merge-fine s u = merge_sized t (view m) (view c) s u no_columns.2 no_rows.2 no_rules.2
