-- What the number says that is known before a tree is built, and how the answer follows from it. Assumes nothing.
use borrow.Author.Tests.{eqb-false, eqb-true, le-ltb, leb-false, lt-ltb, ltb-false, ne_eqb}
use lib.Dec.{eqb, ltb}
use lib.ListN.{length, length-append, length-map}
use mathlib.Core.Bool.{◌&&◌, ◌||◌, Bool, cond, false, not, true}
use mathlib.Core.List.{[], ◌++◌, ◌∷◌, List, map}
use mathlib.Core.Path.{◌∙◌, ◌≡◌, refl, subst, sym}
use native.Mathlib.Omega.{arith}
use Prim.Native.Nat.{◌<◌, suc, ℕ}
use Rattle.dispatch.specs.Good.{built_read, door, Fine, Good, Plain}
use Rattle.lists.specs.Bools.{and_left, and_right, by_bool, clash, or_cases, or_left, or_no, or_right}
use Rattle.lists.specs.Lists.{all, mem}
use Rattle.matrix.proofs.StepSized.{sized_enable}
use Rattle.matrix.proofs.Views.{clean_is}
use Rattle.matrix.specs.declared.Matrix.{Matrix}
use Rattle.matrix.specs.Mat.{given, matrix_from, view}
use Rattle.rules.proofs.Accepts.{all-mem, fine-rows, is_not, not_over}
use Rattle.rules.proofs.Givens.{sized_by_tests}
use Rattle.rules.proofs.Leafs.{Named, widened-named}
use Rattle.rules.proofs.Picks.{none_applies}
use Rattle.rules.specs.Answers.{dispatch_answer, dispatch_store}
use Rattle.rules.specs.Bounds.{columns_max, rows_max}
use Rattle.rules.specs.Dispatch.{catch_all, dispatch, peak_of, raw_of}
use Rattle.rules.specs.Given.{ascends, bad_columns, bad_form, bad_net, bad_rows, bad_rules, bad_shape, formed_row, Given, Sized, Slots, too_tall, too_wide, view as view_of}
use Rattle.rules.specs.Matrix.{add_enable, Matrix as MatrixOf, Row, widened}
use Rattle.rules.specs.Nets.{first_mux, is_name, is_net, over}
use Rattle.rules.specs.Refusals.{dispatch_table, enable_table}
use Rattle.rules.specs.Refuse.{CATCH, COLUMNS, FORM, NET, NODES, refusal, ROWS, RULES, SHAPE}
use Rattle.rules.specs.Store.{cleared, used}
use Rattle.rules.specs.declared.refusal.Refusal.{Refusal}
use Rattle.std.specs.Prelude.{Result}
use Rattle.tree.specs.declared.Built.{Built}
use Rattle.tree.specs.Grown.{made, refused, Whole}

-- ---- the numbers in their order

abbrev six : (a b c d e f : Bool) → ℕ
six a b c d e f = refusal ((FORM, a) ∷ (COLUMNS, b) ∷ (ROWS, c) ∷ (SHAPE, d) ∷ (NET, e) ∷ (RULES, f) ∷ [])

eight : (a b c d e f k h : Bool)
    → refusal ((FORM, a) ∷ (COLUMNS, b) ∷ (ROWS, c) ∷ (SHAPE, d) ∷ (NET, e) ∷ (RULES, f) ∷ (CATCH, not k) ∷ (NODES, h) ∷ [])
    ≡ cond (eqb (six a b c d e f) 0) (cond k (cond h NODES 0) CATCH) (six a b c d e f)
eight true b c d e f k h = refl
eight false true c d e f k h = refl
eight false false true d e f k h = refl
eight false false false true e f k h = refl
eight false false false false true f k h = refl
eight false false false false false true k h = refl
eight false false false false false false true true = refl
eight false false false false false false true false = refl
eight false false false false false false false h = refl

door_stays : (n : ℕ) (k h : Bool) → (door n k ≡ 0 → ⊥) → cond (eqb n 0) (cond k (cond h NODES 0) CATCH) n ≡ door n k
door_stays n k h z =
    by_bool (eqb n 0)
    (λ p. by_bool k (λ q. absurd (z (rw (p, q)))) (λ q. rw (p, q)))
    (λ p. rw p)

pub door_open : (n : ℕ) (k : Bool) → door n k ≡ 0 → (n ≡ 0) × (k ≡ true)
door_open n k z =
    by_bool (eqb n 0)
    (λ p. by_bool k (λ q. (eqb-true n 0 p, q)) (λ q. let y : ◌≡◌ {A = ℕ} CATCH 0 = rw (p, q) at z in absurd (omega arith)))
    (λ p. absurd (eqb-false n 0 p (rw p at z)))

module _ (e : ℕ) (g : Given) (xs : List ℕ) where
  number_is : refusal (dispatch_table e g xs)
      ≡ cond (eqb (refusal (enable_table e g)) 0) (cond (catch_all (view_of g).rows) (cond (ltb (used xs) (peak_of e (view_of g))) NODES 0) CATCH) (refusal (enable_table e g))
  number_is =
      eight (bad_form g) (bad_columns g || too_wide (add_enable e (view_of g))) (bad_rows g || too_tall (add_enable e (view_of g))) (bad_shape g) (bad_net g || over e) (bad_rules g)
      (catch_all (view_of g).rows) (ltb (used xs) (peak_of e (view_of g)))

  -- ---- the answer where there is a number

  pub refused_answer : (n : ℕ) (ys : List ℕ) → n ≡ door (refusal (enable_table e g)) (catch_all (view_of g).rows) → (n ≡ 0 → ⊥) → ys ≡ cleared xs
      → (Rattle.rules.specs.Refuse.refused n ≡ dispatch_answer e g xs) × (ys ≡ dispatch_store e g xs)
  unfolding dispatch_answer dispatch_store
  refused_answer n ys q z c =
      let r : refusal (dispatch_table e g xs) ≡ n =
      number_is ∙ door_stays (refusal (enable_table e g)) (catch_all (view_of g).rows) (ltb (used xs) (peak_of e (view_of g))) (λ y. z (q ∙ y)) ∙ sym q in
      (rw (r, ne_eqb n 0 z), rw (r, ne_eqb n 0 z) c)

  -- ---- and where a tree was built

  pub built_answer : (n : ℕ) (ys : List ℕ) (r : Result Built Refusal) → n ≡ door (refusal (enable_table e g)) (catch_all (view_of g).rows) → n ≡ 0 → Whole (raw_of (add_enable e (view_of g))) xs ys r
      → (built_read r ≡ dispatch_answer e g xs) × (ys ≡ dispatch_store e g xs)
  unfolding dispatch_answer dispatch_store dispatch peak_of
  built_answer n ys r q z (made h a c) =
      let o = door_open (refusal (enable_table e g)) (catch_all (view_of g).rows) (sym q ∙ z) in
      let y : refusal (dispatch_table e g xs) ≡ 0 = number_is ∙ rw (o.0, o.1, le-ltb (used xs) (peak_of e (view_of g)) h) in
      (rw (y, a), rw y c)
  built_answer n ys r q z (refused h a c) =
      let o = door_open (refusal (enable_table e g)) (catch_all (view_of g).rows) (sym q ∙ z) in
      let y : refusal (dispatch_table e g xs) ≡ NODES = number_is ∙ rw (o.0, o.1, lt-ltb (used xs) (peak_of e (view_of g)) h) in
      (rw (y, a), rw y c)

-- ---- what is dispatched where there is none

mem_snoc : (ns : List ℕ) (e n : ℕ) → ((k : ℕ) → mem k ns ≡ true → k < first_mux) → e < first_mux → mem n (ns ++ (e ∷ [])) ≡ true → n < first_mux
unfolding mem
mem_snoc [] e n h p i = or_cases (eqb e n) false i (λ q. subst (λ (k : ℕ). k < first_mux) (eqb-true e n q) p) (λ q. absurd (clash q))
mem_snoc (x ∷ ns) e n h p i =
    let r = mem_snoc ns e n (λ k j. h k (or_right (eqb x k) (mem k ns) j)) p in
    or_cases (eqb x n) (mem n (ns ++ (e ∷ []))) i (λ q. h n (or_left (eqb x n) (mem n ns) q)) (λ q. r q)

plain_enable : (e : ℕ) (m : MatrixOf) → e < first_mux → Plain m → Plain (add_enable e m)
unfolding Named ascends
plain_enable e m h p =
    by_bool (eqb e 1) (λ q. rw q p)
    (λ q. rw q (record { low = λ n i. mem_snoc m.nets e n p.low h i; leaves = (refl, widened-named Fine m.rows p.leaves) }))

room : (e : ℕ) (m : MatrixOf) → too_wide (add_enable e m) ≡ false → too_tall (add_enable e m) ≡ false → eqb e 1 ≡ false → (length m.nets < columns_max) × (length m.rows < rows_max)
room e m w t q =
    let a = ltb-false columns_max (length (m.nets ++ (e ∷ []))) (rw q at w) in
    let b = ltb-false rows_max (length (add_enable e m).rows) t in
    let l = length-append m.nets (e ∷ []) in
    let k : length (add_enable e m).rows ≡ suc (length (map widened m.rows)) = rw q in
    let n = length-map m.rows widened in
    (omega arith, omega arith)

module _ (m : Matrix) (e : ℕ) (s : Slots (given m)) (z : refusal (enable_table e (given m)) ≡ 0) where
  sized : Sized (view m)
  unfolding mem
  sized =
      let none = none_applies (enable_table e (given m)) z in
      let c = or_no (bad_columns (given m)) (too_wide (add_enable e (view m))) (none COLUMNS refl) in
      let r = or_no (bad_rows (given m)) (too_tall (add_enable e (view m))) (none ROWS refl) in
      sized_by_tests (given m) s c.0 r.0 (none SHAPE refl) (none RULES refl)

  sized_both : Sized (add_enable e (view m))
  unfolding mem
  sized_both =
      let none = none_applies (enable_table e (given m)) z in
      let c = or_no (bad_columns (given m)) (too_wide (add_enable e (view m))) (none COLUMNS refl) in
      let r = or_no (bad_rows (given m)) (too_tall (add_enable e (view m))) (none ROWS refl) in
      sized_enable e (view m) sized (room e (view m) c.1 r.1)

  plain : Plain (view m)
  unfolding mem
  plain =
      let none = none_applies (enable_table e (given m)) z in
      let f : (all is_net (view m).nets && all formed_row (view m).rows) ≡ true = is_not _ (none FORM refl) in
      let n = is_not _ (or_no (bad_net (given m)) (over e) (none NET refl)).0 in
      let low : all (λ (k : ℕ). not (over k)) (view m).nets ≡ true = and_left (all (λ (k : ℕ). not (over k)) (view m).nets) (all (λ (r : Row). all is_name r.rules) (view m).rows) n in
      record {
        low = λ k i. not_over k (all-mem (λ (k : ℕ). not (over k)) (view m).nets k low i);
        leaves = fine-rows (length (view m).nets) (view m).rows (and_right (all is_net (view m).nets) (all formed_row (view m).rows) f)
            (and_right (all (λ (k : ℕ). not (over k)) (view m).nets) (all (λ (r : Row). all is_name r.rules) (view m).rows) n) sized.each;
      }

  enable_low : e < first_mux
  unfolding mem
  enable_low = let none = none_applies (enable_table e (given m)) z in omega (arith, leb-false first_mux e (or_no (bad_net (given m)) (over e) (none NET refl)).1)

  pub enabled_is : (r : Matrix) → r ≡ matrix_from (add_enable e (view m)) → Good r × (view r ≡ add_enable e (view m))
  enabled_is r y =
      let c = clean_is r (add_enable e (view m)) sized_both y in
      (record { clean = c.0; plain = subst Plain (sym c.1) (plain_enable e (view m) enable_low plain) }, c.1)
