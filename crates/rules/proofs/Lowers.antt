-- What is emitted into a table handed in evaluates to the tree's bits, by the answers of the calls. Assumes nothing.
use Prim.Native.Nat.{ℕ, zero, suc, ◌+◌, ◌*◌, ◌/◌, ◌≤◌, ◌<◌, min}
use mathlib.Core.Bool.{true, false, not}
use mathlib.Core.List.{List, [], ◌∷◌, ◌++◌, append-nil, map}
use mathlib.Core.Path.{◌≡◌, refl, sym, ap, ap₂, ◌∙◌}
use native.Mathlib.Omega.{arith}
use borrow.Author.Tests.{eqb-true, le-ltb, lt-leb, ltb-false}
use lib.Dec.{eqb, leb, ltb}
use lib.ListN.{drop, get_or, length, length-append, take}
use lib.Seq.{drop-append_seam}
use Rattle.lists.specs.Bools.{by_bool, or_no}
use Rattle.lists.specs.Lists.{all}
use Rattle.rules.proofs.Accepts.{is_not}
use Rattle.rules.proofs.Added.{build-plain, emits-length, muxes_are, nets-length}
use Rattle.rules.proofs.Answers.{fine_of}
use Rattle.rules.proofs.Entries.{appended-in_use, appended-length, emits-formed, formed-append, in_use-length, nets_driven}
use Rattle.rules.proofs.Tables.{Fine}
use Rattle.rules.specs.Answers.{added, evaluate_answer}
use Rattle.rules.specs.Bounds.{mux_first, mux_max, mux_run}
use Rattle.rules.specs.Closed.{Low, Wide, answers, emits, muxes, nets_of}
use Rattle.rules.specs.Emit.{Gives, Mux, appended, bad_table, emitted, formed, in_use, room}
use Rattle.rules.specs.Evaluate.{evaluated, net_in, run, trits_of}
use Rattle.rules.specs.Meaning.{value_at}
use Rattle.rules.specs.Nets.{first_mux}
use Rattle.rules.specs.Refusals.{no_room}
use Rattle.rules.specs.Refuse.{done, or_refused, refused}
use Rattle.rules.specs.Tree.{Tests, Tree, branches}
use Rattle.rules.specs.Trits.{is_trit}

-- ---- an answer that is no refusal

pub unrefused_is : {A : Type 0} (n : ℕ) (a b : A) → or_refused n a ≡ done b → (n ≡ 0) × (a ≡ b)
unrefused_is n a b e =
    by_bool (eqb n 0)
    (λ p. let q : done a ≡ done b = rw p at e in (eqb-true n 0 p, cc))
    (λ p. let q : refused n ≡ done b = rw p at e in let z : ◌≡◌ {A = ℕ} 0 1 = cc in absurd (omega arith))

get_d_map : (f : ℕ → ℕ) (ns : List ℕ) (i d : ℕ) → i < length ns → get_or (map f ns) i d ≡ f (get_or ns i 0)
get_d_map f [] i d h = absurd (omega arith)
get_d_map f (n ∷ ns) zero d h = refl
get_d_map f (n ∷ ns) (suc i) d h = get_d_map f ns i d (omega arith)

low-at : (b : ℕ) (ns : List ℕ) (i : ℕ) → i < length ns → Low b ns → get_or ns i 0 < b
unfolding Low
low-at b [] i h l = absurd (omega arith)
low-at b (n ∷ ns) zero h l = l.0
low-at b (n ∷ ns) (suc i) h l = low-at b ns i (omega arith) l.1

-- ---- a tree emitted into a table that is well formed

module _ (g : Gives) (w : ℕ) (wide : Wide g w) (t : Tree) (small : Tests (λ (n : ℕ). n < first_mux) t) (count : ℕ) (table : List ℕ)
    (form : bad_table count table ≡ false) where
  abbrev old : List Mux
  old = in_use count table

  fine : Fine g w t
  fine = fine_of g w wide t small

  within : count ≤ room table
  within = ltb-false (room table) count (or_no (ltb (room table) count) (not (formed 0 old)) form).0

  formed-old : formed 0 old ≡ true
  formed-old = is_not (formed 0 old) (or_no (ltb (room table) count) (not (formed 0 old)) form).1

  count_is : length old ≡ count
  count_is = in_use-length count table within

  emitted_is : emitted g t old ≡ (old ++ emits g w (length old) t, nets_of g w (length old) t)
  unfolding emitted
  emitted_is = build-plain g w t fine old

  pub nets_are : (emitted g t old).1 ≡ nets_of g w (length old) t
  nets_are = ap (λ (p : List Mux × List ℕ). p.1) emitted_is

  pub added_is : added g t count table ≡ emits g w (length old) t
  added_is = ap (λ (p : List Mux × List ℕ). drop (length old) p.0) emitted_is ∙ drop-append_seam old (emits g w (length old) t)

  -- "branches times width"
  pub added-length : length (added g t count table) ≡ muxes w t
  added-length = ap length added_is ∙ emits-length g w (length old) t fine

  total : length (emitted g t old).0 ≡ count + length (added g t count table)
  total =
      ap (λ (p : List Mux × List ℕ). length p.0) emitted_is ∙ length-append old (emits g w (length old) t)
      ∙ ap₂ (λ (m n : ℕ). m + n) count_is (sym (ap length added_is))

  -- as many are appended, and there is no room exactly where they exceed what is left
  pub needs : (length (added g t count table) ≡ branches t * w) × (no_room g t count table ≡ ltb (room table) (count + branches t * w))
  needs =
      let a : length (added g t count table) ≡ branches t * w = added-length ∙ muxes_are w t in
      (a, ap (ltb (room table)) (total ∙ ap (λ (n : ℕ). count + n) a))

  -- ---- and has the room

  module _ (fits : no_room g t count table ≡ false) where
    roomy : count + length (added g t count table) ≤ room table
    roomy = omega (arith, ltb-false (room table) (length (emitted g t old).0) fits, total)

    abbrev after : List ℕ
    after = appended count (added g t count table) table

    abbrev then : ℕ
    then = count + length (added g t count table)

    pub in_use-after : in_use then after ≡ old ++ emits g w (length old) t
    in_use-after = appended-in_use count table within (added g t count table) roomy ∙ ap (λ (l : List Mux). old ++ l) added_is

    room_after : room after ≡ room table
    room_after = ap (λ (n : ℕ). min (n / mux_run) mux_max) (appended-length count table within (added g t count table) roomy)

    -- the table is well formed again
    pub form-after : bad_table then after ≡ false
    form-after =
        let a : ltb (room after) then ≡ false = le-ltb (room after) then (omega (arith, room_after, roomy)) in
        let z : 0 + length old ≡ length old = omega arith in
        let n : formed (0 + length old) (emits g w (length old) t) ≡ true = ap (λ (n : ℕ). formed n (emits g w (length old) t)) z ∙ emits-formed g w (length old) t fine in
        let e : formed 0 (in_use then after) ≡ true = ap (formed 0) in_use-after ∙ formed-append 0 old (emits g w (length old) t) formed-old n in
        rw (a, e)

    -- each net of the value evaluates to the tree's bit
    pub evaluates : (ts : List ℕ) → all is_trit (take mux_first ts) ≡ true → (i : ℕ) → i < w
        → evaluate_answer then after ts (get_or (emitted g t old).1 i 0) ≡ done (get_or (answers (value_at (trits_of ts)) g w old [] t) i 2)
    unfolding evaluate_answer evaluated
    evaluates ts k i h =
        let n : ℕ = get_or (emitted g t old).1 i 0 in
        let j : n ≡ get_or (nets_of g w (length old) t) i 0 = ap (λ (l : List ℕ). get_or l i 0) nets_are in
        let l = nets-length g w (length old) t fine in
        let low : n < first_mux + (length old + muxes w t) = rw j (low-at (first_mux + (length old + muxes w t)) (nets_of g w (length old) t) i (omega arith) (nets_driven g w (length old) t fine)) in
        let asked : leb (first_mux + then) n ≡ false = lt-leb (first_mux + then) n (omega (arith, low, count_is, added-length)) in
        let f : ℕ → ℕ = value_at (trits_of ts) in
        let v : get_or (answers f g w old [] t) i 2 ≡ net_in f (run f [] (old ++ (emits g w (length old) t ++ []))) (get_or (nets_of g w (length old) t) i 0) =
        get_d_map (net_in f (run f [] (old ++ (emits g w (length old) t ++ [])))) (nets_of g w (length old) t) i 2 (omega arith) in
        let u : in_use then after ≡ old ++ (emits g w (length old) t ++ []) = in_use-after ∙ ap (λ (x : List Mux). old ++ x) (sym (append-nil (emits g w (length old) t))) in
        rw (form-after, k, asked) (ap done (ap₂ (λ (T : List Mux) (x : ℕ). net_in f (run f [] T) x) u j ∙ sym v))
