-- A mux table entry by entry: what a loop over it has tested, and what it has made. Assumes nothing.
use Prim.Native.Nat.{ℕ, zero, suc, ◌+◌, ◌-◌, ◌≤◌, ◌<◌, min}
use borrow.Author.Tests.{le-ltb, leb-false, leb-true, ltb-false, ltb-true}
use lib.Dec.{leb, ltb, eqb}
use lib.ListN.{drop, drop_of_length-le, get_or, length, length-append, set, take}
use lib.Seq.{drop-cons, set_at}
use mathlib.Core.Bool.{Bool, true, false, not, ◌&&◌, ◌||◌}
use mathlib.Core.List.{List, [], ◌∷◌, ◌++◌, append_assoc, map}
use mathlib.Core.Path.{◌≡◌, refl, sym, ap, ap₂, ◌∙◌}
use native.Mathlib.Numerals.{add-one}
use native.Mathlib.Omega.{arith}
use Rattle.evaluate.specs.Values.{reads}
use Rattle.lists.specs.Bools.{and_left, and_right, by_bool, clash, or_no}
use Rattle.lists.specs.Lists.{all}
use Rattle.std.specs.List.{list_all}
use Rattle.std.specs.Simd.{first_chunks}
use Rattle.lists.specs.Runs.{runs}
use Rattle.rules.proofs.Answers.{run_length}
use Rattle.rules.proofs.Entries.{in_use-length}
use Rattle.rules.proofs.Tables.{net_more}
use Rattle.rules.specs.Answers.{evaluate_answer}
use Rattle.rules.specs.Bounds.{mux_first, mux_run}
use Rattle.rules.specs.Codes.{trit_code}
use Rattle.rules.specs.Emit.{Mux, bad_table, formed, in_use, mux_of, room}
use Rattle.rules.specs.Evaluate.{evaluated, net_in, run}
use Rattle.rules.specs.Nets.{first_mux, is_cell, number}
use Rattle.rules.specs.Refuse.{FORM, done, refused}
use Rattle.rules.specs.Trits.{is_trit, mux}
use Rattle.rules.specs.declared.Trit.{Trit}
use Rattle.trits.specs.Codes.{cut, cut-trit}

-- a chain's `all` is the definitions' own
pub all_chain : {A : Type 0} (f : A → Bool) (l : List A) → list_all f l ≡ all f l
all_chain f [] = refl
all_chain f (x ∷ l) = ap (λ (b : Bool). f x && b) (all_chain f l)

-- the first entries of a table are those that it is cut into
pub runs_front : (n k count : ℕ) (xs : List ℕ) → count ≤ k → take count (first_chunks n k xs) ≡ runs n count xs
unfolding runs
runs_front n k zero xs h = refl
runs_front n zero (suc count) xs h = absurd (omega arith)
runs_front n (suc k) (suc count) xs h = ap (λ (l : List (List ℕ)). take n xs ∷ l) (runs_front n k count (drop n xs) (omega arith))

-- the entries from the k-th on
abbrev pub left : ℕ → List (List ℕ) → List Mux
left k es = map mux_of (drop k es)

pub left_more : (k : ℕ) (es : List (List ℕ)) (d : List ℕ) → k < length es → left k es ≡ mux_of (get_or es k d) ∷ left (k + 1) es
left_more k es d h = ap (map mux_of) (drop-cons es k d h) ∙ ap (λ (j : ℕ). mux_of (get_or es k d) ∷ left j es) (sym (add-one k))

pub left-done : (k : ℕ) (es : List (List ℕ)) → length es ≤ k → left k es ≡ []
left-done k es h = ap (map mux_of) (drop_of_length-le es h)

pub left-all : (count : ℕ) (xs : List ℕ) (es : List (List ℕ)) → es ≡ runs mux_run count xs → count ≤ room xs → left 0 es ≡ in_use count xs
left-all count xs es e h =
    let n : count ≡ min count (room xs) = omega arith in
    ap (map mux_of) (e ∙ ap (λ (j : ℕ). runs mux_run j xs) n)

-- ---- the test

abbrev pub sees : ℕ → Mux → Bool
sees b x = ltb x.select b && (ltb x.one_arm b && ltb x.zero_arm b)

-- the operands of an entry, one after the other
pub sees_all : (b : ℕ) (e : List ℕ) → length e ≡ mux_run → all (λ n. ltb n b) e ≡ sees b (mux_of e)
sees_all b (x ∷ y ∷ z ∷ []) h = last (ltb x b) (ltb y b) (ltb z b)
  where
    last : (x y z : Bool) → (x && (y && (z && true))) ≡ (x && (y && z))
    last true true true = refl
    last true true false = refl
    last true false z = refl
    last false y z = refl
sees_all b [] h = absurd (omega arith)
sees_all b (x ∷ []) h = absurd (omega arith)
sees_all b (x ∷ y ∷ []) h = absurd (omega arith)
sees_all b (x ∷ y ∷ z ∷ w ∷ e) h = absurd (omega arith)

module _ (k : ℕ) (es : List (List ℕ)) (d : List ℕ) (h : k < length es) where
  step : formed k (left k es) ≡ (sees (first_mux + k) (mux_of (get_or es k d)) && formed (k + 1) (left (k + 1) es))
  unfolding formed
  step = ap (formed k) (left_more k es d h) ∙ ap (λ (n : ℕ). sees (first_mux + k) (mux_of (get_or es k d)) && formed n (left (k + 1) es)) (sym (add-one k))

  pub formed_more : sees (first_mux + k) (mux_of (get_or es k d)) ≡ true → formed k (left k es) ≡ formed (k + 1) (left (k + 1) es)
  formed_more e = step ∙ rw e

  pub formed_stop : sees (first_mux + k) (mux_of (get_or es k d)) ≡ false → formed k (left k es) ≡ false
  formed_stop e = step ∙ rw e

  pub formed-sees : formed k (left k es) ≡ true → sees (first_mux + k) (mux_of (get_or es k d)) ≡ true
  formed-sees e = and_left (sees (first_mux + k) (mux_of (get_or es k d))) (formed (k + 1) (left (k + 1) es)) (sym step ∙ e)

  pub formed-rest : formed k (left k es) ≡ true → formed (k + 1) (left (k + 1) es) ≡ true
  formed-rest e = and_right (sees (first_mux + k) (mux_of (get_or es k d))) (formed (k + 1) (left (k + 1) es)) (sym step ∙ e)

pub formed-done : (k : ℕ) (es : List (List ℕ)) → length es ≤ k → formed k (left k es) ≡ true
unfolding formed
formed-done k es h = ap (formed k) (left-done k es h)

pub bad_is : (count : ℕ) (xs : List ℕ) (es : List (List ℕ)) (b : Bool) → es ≡ runs mux_run count xs → count ≤ room xs → b ≡ formed 0 (left 0 es) → b ≡ not (bad_table count xs)
bad_is count xs es b r h e = e ∙ ap (formed 0) (left-all count xs es r h) ∙ rw (le-ltb (room xs) count h) (twice (formed 0 (in_use count xs)))
  where
    twice : (b : Bool) → b ≡ not (not b)
    twice true = refl
    twice false = refl

-- ---- every value is a trit

abbrev pub Small : List ℕ → Type 0
Small vs = (i : ℕ) → get_or vs i 2 < 3

small_snoc : (vs : List ℕ) (v : ℕ) → Small vs → v < 3 → Small (vs ++ (v ∷ []))
small_snoc [] v s h zero = h
small_snoc [] v s h (suc i) = omega arith
small_snoc (x ∷ vs) v s h zero = s 0
small_snoc (x ∷ vs) v s h (suc i) = small_snoc vs v (λ j. s (suc j)) h i

trits-small : (m : ℕ) (ts : List ℕ) → all is_trit (take m ts) ≡ true → (k : ℕ) → k < m → get_or ts k 2 < 3
trits-small zero ts e k h = absurd (omega arith)
trits-small (suc m) [] e k h = omega arith
trits-small (suc m) (t ∷ ts) e zero h = ltb-true t 3 (and_left (is_trit t) (all is_trit (take m ts)) e)
trits-small (suc m) (t ∷ ts) e (suc k) h = trits-small m ts (and_right (is_trit t) (all is_trit (take m ts)) e) k (omega arith)

abbrev pub Given : List ℕ → Type 0
Given ts = all is_trit (take mux_first ts) ≡ true

reads-small : (ts : List ℕ) → Given ts → (n : ℕ) → n < first_mux → reads ts n < 3
reads-small ts e n h =
    by_bool (is_cell n)
    (λ p. let l = leb-true 3 n p in rw p (trits-small mux_first ts e (number n) (omega arith)))
    (λ p. rw p (leb-false 3 n p))

net-small : (ts vs : List ℕ) → Given ts → Small vs → (n : ℕ) → net_in (reads ts) vs n < 3
net-small ts vs e s n =
    by_bool (ltb n first_mux) (λ p. rw p (reads-small ts e n (ltb-true n first_mux p))) (λ p. rw p (s (n - first_mux)))

mux-small : (s a b : ℕ) → a < 3 → b < 3 → mux s a b < 3
mux-small s a b h k =
    by_bool (eqb s 1) (λ p. rw p h)
    (λ p. by_bool (eqb s 0) (λ q. rw (p, q) k) (λ q. by_bool (eqb a b) (λ r. rw (p, q, r) h) (λ r. rw (p, q, r) (omega arith))))

-- the value of an entry
abbrev pub value_of : List ℕ → List ℕ → Mux → ℕ
value_of ts vs x = mux (net_in (reads ts) vs x.select) (net_in (reads ts) vs x.one_arm) (net_in (reads ts) vs x.zero_arm)

value-small : (ts vs : List ℕ) → Given ts → Small vs → (x : Mux) → value_of ts vs x < 3
value-small ts vs e s x = mux-small (net_in (reads ts) vs x.select) (net_in (reads ts) vs x.one_arm) (net_in (reads ts) vs x.zero_arm) (net-small ts vs e s x.one_arm) (net-small ts vs e s x.zero_arm)

run_small : (ts : List ℕ) → Given ts → (T : List Mux) (vs : List ℕ) → Small vs → Small (run (reads ts) vs T)
unfolding run
run_small ts e [] vs s = s
run_small ts e (x ∷ T) vs s = run_small ts e T (vs ++ (value_of ts vs x ∷ [])) (small_snoc vs (value_of ts vs x) s (value-small ts vs e s x))

-- ---- the entries, one after the other

-- after k entries: their values, and what the others are to make of them
pub record Running (ts : List ℕ) (es : List (List ℕ)) (old : List ℕ) (k : ℕ) (values : List ℕ) : Type 0 where
  pub vs : List ℕ
  pub is : values ≡ vs ++ drop k old
  pub long : length vs ≡ k
  pub small : Small vs
  pub rest : run (reads ts) vs (left k es) ≡ run (reads ts) [] (left 0 es)
  pub form : formed k (left k es) ≡ true

pub table-room : (count : ℕ) (xs : List ℕ) → bad_table count xs ≡ false → count ≤ room xs
table-room count xs b = ltb-false (room xs) count (or_no (ltb (room xs) count) (not (formed 0 (in_use count xs))) b).0

table-formed : (count : ℕ) (xs : List ℕ) → bad_table count xs ≡ false → formed 0 (in_use count xs) ≡ true
table-formed count xs b = yes (formed 0 (in_use count xs)) (or_no (ltb (room xs) count) (not (formed 0 (in_use count xs))) b).1
  where
    yes : (a : Bool) → not a ≡ false → a ≡ true
    yes true e = refl
    yes false e = absurd (clash (sym e))

pub runs_start : (ts xs old : List ℕ) (es : List (List ℕ)) (count : ℕ) → es ≡ runs mux_run count xs → bad_table count xs ≡ false → Running ts es old 0 old
runs_start ts xs old es count r b =
    let l = left-all count xs es r (table-room count xs b) in
    record { vs = []; is = refl; long = refl; small = λ i. omega arith; rest = refl; form = ap (formed 0) l ∙ table-formed count xs b }

-- an operand below the k-th mux's net is read among the values so far
seen : (ts vs old values : List ℕ) (k n : ℕ) → Given ts → values ≡ vs ++ drop k old → length vs ≡ k → Small vs → n < first_mux + k
    → cut (net_in (reads ts) values n) ≡ net_in (reads ts) vs n
seen ts vs old values k n e i l s h =
    let p : net_in (reads ts) values n ≡ net_in (reads ts) vs n = ap (λ (us : List ℕ). net_in (reads ts) us n) i ∙ net_more (reads ts) vs (drop k old) n (omega arith) in
    ap cut p ∙ cut-trit (net_in (reads ts) vs n) (net-small ts vs e s n)

pub runs_turn : (ts old values : List ℕ) (es : List (List ℕ)) (d : List ℕ) (k y : ℕ) → Given ts → k < length es → k < length old → Running ts es old k values
    → y ≡ mux (cut (net_in (reads ts) values (mux_of (get_or es k d)).select)) (cut (net_in (reads ts) values (mux_of (get_or es k d)).one_arm)) (cut (net_in (reads ts) values (mux_of (get_or es k d)).zero_arm))
    → Running ts es old (k + 1) (set values k y)
unfolding run
runs_turn ts old values es f k y e h o r q =
    let x : Mux = mux_of (get_or es k f) in
    let b : ℕ = first_mux + k in
    let see = formed-sees k es f h r.form in
    let arms = and_right (ltb x.select b) (ltb x.one_arm b && ltb x.zero_arm b) see in
    let s0 : x.select < b = ltb-true x.select b (and_left (ltb x.select b) (ltb x.one_arm b && ltb x.zero_arm b) see) in
    let s1 : x.one_arm < b = ltb-true x.one_arm b (and_left (ltb x.one_arm b) (ltb x.zero_arm b) arms) in
    let s2 : x.zero_arm < b = ltb-true x.zero_arm b (and_right (ltb x.one_arm b) (ltb x.zero_arm b) arms) in
    let at : (n : ℕ) → n < b → cut (net_in (reads ts) values n) ≡ net_in (reads ts) r.vs n = λ n g. seen ts r.vs old values k n e r.is r.long r.small g in
    let v : ℕ = value_of ts r.vs x in
    let yv : y ≡ v = q ∙ ap (λ (n : ℕ). mux n (cut (net_in (reads ts) values x.one_arm)) (cut (net_in (reads ts) values x.zero_arm))) (at x.select s0) ∙ ap₂ (mux (net_in (reads ts) r.vs x.select)) (at x.one_arm s1) (at x.zero_arm s2) in
    let d : values ≡ r.vs ++ (get_or old k 0 ∷ drop (suc k) old) = r.is ∙ ap (λ (l : List ℕ). r.vs ++ l) (drop-cons old k 0 o) in
    let w : set values k y ≡ r.vs ++ (v ∷ drop (suc k) old) = ap₂ (λ (l : List ℕ) (n : ℕ). set l k n) d yv ∙ set_at r.vs (get_or old k 0) (drop (suc k) old) v k r.long in
    record {
      vs = r.vs ++ (v ∷ []);
      is = w ∙ sym (append_assoc r.vs (v ∷ []) (drop (suc k) old)) ∙ ap (λ (n : ℕ). (r.vs ++ (v ∷ [])) ++ drop n old) (sym (add-one k));
      long = length-append r.vs (v ∷ []) ∙ ap (λ (n : ℕ). n + 1) r.long;
      small = small_snoc r.vs v r.small (value-small ts r.vs e r.small x);
      rest = sym (ap (run (reads ts) r.vs) (left_more k es f h)) ∙ r.rest;
      form = formed-rest k es f h r.form;
    }

pub runs_end : (ts xs old values : List ℕ) (es : List (List ℕ)) (count k : ℕ) → es ≡ runs mux_run count xs → bad_table count xs ≡ false → length es ≡ count → k ≡ length es → Running ts es old k values
    → values ≡ run (reads ts) [] (in_use count xs) ++ drop count old
unfolding run
runs_end ts xs old values es count k e b l h r =
    let i : k ≡ count = omega arith in
    let a : r.vs ≡ run (reads ts) [] (in_use count xs) =
    sym (ap (run (reads ts) r.vs) (left-done k es (omega arith))) ∙ r.rest ∙ ap (run (reads ts) []) (left-all count xs es e (table-room count xs b)) in
    r.is ∙ ap₂ (λ (l : List ℕ) (n : ℕ). l ++ drop n old) a i

-- ---- the answer

pub answer_bad : (count : ℕ) (xs ts : List ℕ) (asked : ℕ) → (bad_table count xs || (not (all is_trit (take mux_first ts)) || leb (first_mux + count) asked)) ≡ true
    → evaluate_answer count xs ts asked ≡ refused FORM
unfolding evaluate_answer
answer_bad count xs ts asked e = rw e

pub answer_good : (count : ℕ) (xs ts old values : List ℕ) (asked : ℕ) (t : Trit) → bad_table count xs ≡ false → Given ts → leb (first_mux + count) asked ≡ false
    → values ≡ run (reads ts) [] (in_use count xs) ++ drop count old → trit_code t ≡ cut (net_in (reads ts) values asked)
    → done (trit_code t) ≡ evaluate_answer count xs ts asked
unfolding evaluate_answer evaluated
answer_good count xs ts old values asked t b e a i r =
    let T : List Mux = in_use count xs in
    let vs : List ℕ = run (reads ts) [] T in
    let l : length vs ≡ count = omega (arith, run_length (reads ts) [] T, in_use-length count xs (table-room count xs b)) in
    let s : Small vs = run_small ts e T [] (λ j. omega arith) in
    let h = leb-false (first_mux + count) asked a in
    rw (b, e, a) (ap done (r ∙ seen ts vs old values count asked e i l s h))

pub not_bad : (b : Bool) → true ≡ not b → b ≡ false
not_bad true e = absurd (clash (sym e))
not_bad false e = refl

pub is_bad : (b : Bool) → false ≡ not b → b ≡ true
is_bad true e = refl
is_bad false e = absurd (clash e)
