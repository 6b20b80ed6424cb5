-- The reader from line to line: where a line ends, what is read so far, and the whole answer. Assumes nothing.
use Prim.Native.Nat.{ℕ, zero, suc, ◌+◌, ◌≤◌, ◌<◌}
use borrow.Author.Tests.{eq-eqb, eqb-true, le-ltb, leb-true, lt-ltb, ltb-false, ltb-true}
use lib.Dec.{eqb, leb, ltb}
use lib.ListN.{drop, drop_of_length-le, get_or, length, length-append, length-map, set, take}
use lib.Seq.{length-take-le, take_all}
use mathlib.Core.Bool.{Bool, true, false, not, cond, ◌&&◌}
use mathlib.Core.List.{List, [], ◌∷◌, ◌++◌, map}
use mathlib.Core.Path.{◌≡◌, refl, sym, ap, ◌∙◌}
use native.Mathlib.Omega.{arith}
use Rattle.lists.specs.Bools.{and_both, and_left, and_right, by_bool, not_is}
use Rattle.std.proofs.Common.{Option, Some, None, true≢false}
use Rattle.std.specs.List.{position, prefix_len}
use Rattle.lists.specs.Lists.{all, same}
use Rattle.lists.specs.Vec.{length-vec, push, take-vec, vec}
use Rattle.matrix.specs.Mat.{matrix_from}
use Rattle.matrix.specs.declared.Matrix.{Matrix as MatrixStruct}
use Rattle.rows.specs.Rows.{from, nets_from, row_from}
use Rattle.rows.specs.declared.Nets.{Nets}
use Rattle.rows.specs.declared.Row.{Row as Struct}
use Rattle.rules.proofs.Reader.{first_off, first_on, fits, rows-off, rows_on}
use Rattle.rules.specs.Answers.{read_answer, read_made}
use Rattle.rules.specs.Bounds.{columns_max, rows_max}
use Rattle.rules.specs.Bytes.{LF}
use Rattle.rules.specs.Given.{spread_row, zero_given}
use Rattle.rules.specs.Matrix.{Matrix, Row, none_yet}
use Rattle.rules.specs.Nets.{over}
use Rattle.rules.specs.Print.{value_line}
use Rattle.rules.specs.Read.{Read, grown, is_row_line, is_value_line, lines, nets_in, read, read_lines, read_rows, row_in, whole, wrong}
use Rattle.text.specs.Calls.{read_from}
use Rattle.text.specs.Steps.{Cut, HeadFits}
use Rattle.text.specs.Taken.{bare, row_taken, value_taken}
use Rattle.text.specs.declared.ReadMade.{ReadMade}

-- ---- where a line ends

abbrev pub solid : ℕ → Bool
solid x = not (eqb x LF)

cut_at : (l : List ℕ) (k : ℕ) → all solid (take k l) ≡ true → k < length l → get_or l k 0 ≡ LF → lines l ≡ take (suc k) l ∷ lines (drop (suc k) l)
unfolding lines
cut_at [] k a h e = absurd (omega arith)
cut_at (x ∷ l) zero a h e = rw (eq-eqb x LF e)
cut_at (x ∷ l) (suc k) a h e =
    let r = cut_at l k (and_right (solid x) (all solid (take k l)) a) (omega arith) e in
    rw (not_is (eqb x LF) (and_left (solid x) (all solid (take k l)) a)) (ap (grown x) r)

rest-line : (l : List ℕ) → 0 < length l → all solid l ≡ true → lines l ≡ l ∷ []
unfolding lines
rest-line [] h a = absurd (omega arith)
rest-line (x ∷ []) h a = rw (not_is (eqb x LF) (and_left (solid x) true a))
rest-line (x ∷ y ∷ l) h a =
    let r = rest-line (y ∷ l) (omega arith) (and_right (solid x) (all solid (y ∷ l)) a) in
    rw (not_is (eqb x LF) (and_left (solid x) (all solid (y ∷ l)) a)) (ap (grown x) r)

module _ (s : List ℕ) (i : ℕ) (a : all solid (take i s) ≡ true) where
  pub cut-lf : i < length s → get_or s i 0 ≡ LF → Cut s (i + 1)
  cut-lf h e =
      let n : suc i ≡ i + 1 = omega arith in
      record { some = omega arith; within = omega arith; line = cut_at s i a h e ∙ ap (λ (k : ℕ). take k s ∷ lines (drop k s)) n }

  pub cut_end : 0 < length s → length s ≤ i → i ≤ length s → Cut s i
  unfolding lines
  cut_end h k j =
      let t : take i s ≡ s = take_all i s k in
      let d : drop i s ≡ [] = drop_of_length-le s k in
      record {
        some = omega arith;
        within = j;
        line = rest-line s h (ap (all solid) (sym t) ∙ a) ∙ ap (λ (l : List ℕ). l ∷ []) (sym t) ∙ ap (λ (l : List ℕ). take i s ∷ lines l) (sym d);
      }

-- what stands before the first LF of a text, and what stands there
one-add : (n : ℕ) → 1 + n ≡ suc n
one-add n = omega arith

first_solid : (s : List ℕ) → all solid (take (prefix_len solid s) s) ≡ true
first_solid [] = refl
first_solid (x ∷ s) =
    by_bool (solid x)
    (λ p. rw (p, one-add) (and_both (solid x) (all solid (take (prefix_len solid s) s)) p (first_solid s)))
    (λ p. rw p)

first_stop : (s : List ℕ) → prefix_len solid s < length s → get_or s (prefix_len solid s) 0 ≡ LF
first_stop [] h = absurd (omega arith)
first_stop (x ∷ s) h =
    by_bool (solid x)
    (λ p. let k = rw p at h in rw (p, one-add) (first_stop s (omega (arith, k))))
    (λ p. rw p (lf_is x p))
  where
    lf_is : (y : ℕ) → solid y ≡ false → y ≡ LF
    lf_is y e = by_bool (eqb y LF) (λ t. eqb-true y LF t) (λ t. let f : true ≡ false = sym (ap not t) ∙ e in absurd (true≢false f))

module _ (s : List ℕ) (some : 0 < length s) (o : Option ℕ) (e : o ≡ position (λ (x : ℕ). eqb x LF) s) where
  abbrev before : ℕ
  before = prefix_len solid s

  pub end_found : (i : ℕ) → o ≡ Some i → Cut s (i + 1)
  end_found i q =
      by_bool (ltb before (length s))
      (λ t. let w : Some before ≡ Some i = sym (ap (λ (b : Bool). cond b (Some before) None) t) ∙ sym e ∙ q in
      let v : before ≡ i = cc in
      let h = ltb-true before (length s) t in
      cut-lf s i (rw v at (first_solid s)) (rw v at h) (rw v at (first_stop s h)))
      (λ t. let w : None ≡ Some i = sym (ap (λ (b : Bool). cond b (Some before) None) t) ∙ sym e ∙ q in absurd (cc))

  pub end_missing : o ≡ None → Cut s (length s)
  end_missing q =
      by_bool (ltb before (length s))
      (λ t. let w : Some before ≡ None = sym (ap (λ (b : Bool). cond b (Some before) None) t) ∙ sym e ∙ q in absurd (cc))
      (λ t. let h = ltb-false before (length s) t in
      let u : take (length s) s ≡ take before s = take_all (length s) s (omega arith) ∙ sym (take_all before s h) in
      cut_end s (length s) (ap (all solid) u ∙ first_solid s) some (omega arith) (omega arith))

-- ---- the rows so far

abbrev pub nets_of : Nets → List ℕ
nets_of h = take h.columns h.value

pub record Rowed (h : Nets) (s : List ℕ) (made : List Struct) (n : ℕ) (rest : List ℕ) : Type 0 where
  pub list : List Row
  pub array : made ≡ vec rows_max (row_from bare) (map row_from list)
  pub count : n ≡ length list
  pub few : n ≤ rows_max
  pub joins : read_rows (nets_of h) list (lines rest) ≡ read_rows (nets_of h) [] (lines s)

map-vec : {A B : Type 0} (f : A → B) (n : ℕ) (d : A) (l : List A) → map f (vec n d l) ≡ vec n (f d) (map f l)
unfolding vec
map-vec f zero d l = refl
map-vec {A} {B} f (suc n) d [] = ap (λ (k : List B). f d ∷ k) (map-vec f n d [])
map-vec {A} {B} f (suc n) d (x ∷ l) = ap (λ (k : List B). f x ∷ k) (map-vec f n d l)

map_two : (rs : List Row) → map from (map spread_row rs) ≡ map row_from rs
map_two [] = refl
map_two (r ∷ rs) = ap (λ (k : List Struct). row_from r ∷ k) (map_two rs)

map_snoc : (rs : List Row) (r : Row) → map row_from (rs ++ (r ∷ [])) ≡ map row_from rs ++ (row_from r ∷ [])
map_snoc [] r = refl
map_snoc (x ∷ rs) r = ap (λ (k : List Struct). row_from x ∷ k) (map_snoc rs r)

pub rowed_none : (h : Nets) (s : List ℕ) (m : MatrixStruct) → m ≡ matrix_from none_yet → Rowed h s m.rows 0 s
rowed_none h s m e =
    record {
      list = [];
      array = ap (λ (x : MatrixStruct). x.rows) e ∙ map-vec from rows_max zero_given [];
      count = refl;
      few = omega arith;
      joins = refl;
    }

-- what an answer that may be none says of its test
untaken : {A : Type 0} (b : Bool) (x : A) → None ≡ cond b (Some x) None → b ≡ false
untaken true x e = absurd (cc)
untaken false x e = refl

taken : {A : Type 0} (b : Bool) (x y : A) → Some y ≡ cond b (Some x) None → (b ≡ true) × (y ≡ x)
taken true x y e = (refl, cc)
taken false x y e = absurd (cc)

and_off : (a b : Bool) → a ≡ false → (a && b) ≡ false
and_off a b e = rw e

and_late : (a b : Bool) → b ≡ false → (a && b) ≡ false
and_late true b e = e
and_late false b e = refl

pub width : (h : Nets) → HeadFits h → length (nets_of h) ≡ h.columns
width h f =
    let l : length h.value ≡ columns_max = ap (λ (x : Nets). length x.value) f.tidy ∙ length-vec columns_max 0 (nets_of h) in
    length-take-le h.columns h.value (omega (arith, f.few))

module _ (h : Nets) (f : HeadFits h) (s : List ℕ) (made : List Struct) (n : ℕ) (rest : List ℕ) (r : Rowed h s made n rest) where
  -- the answer, by what is read
  answer : (x : Read) → read_rows (nets_of h) r.list (lines rest) ≡ x → read_from (read_made x) ≡ read_from (read_made (read_rows (nets_of h) [] (lines s)))
  answer x e = ap (λ (y : Read). read_from (read_made y)) (sym e ∙ r.joins)

  module _ (e : ℕ) (c : Cut rest e) where
    abbrev line : List ℕ
    line = take e rest

    is_line : is_row_line (length (nets_of h)) line ≡ is_row_line h.columns line
    is_line = ap (λ (w : ℕ). is_row_line w line) (width h f)

    refuses : fits (nets_of h) r.list line ≡ false → (y : ReadMade) → y ≡ read_from (read_made (wrong (n + 2))) → y ≡ read_from (read_made (read_rows (nets_of h) [] (lines s)))
    refuses g y q =
        let w : read_rows (nets_of h) r.list (lines rest) ≡ wrong (n + 2) =
        ap (read_rows (nets_of h) r.list) c.line ∙ rows-off (nets_of h) r.list line (lines (drop e rest)) g ∙ ap (λ (k : ℕ). wrong (k + 2)) (sym r.count) in
        q ∙ answer (wrong (n + 2)) w

    pub rowed_off : None ≡ row_taken h.columns line → (y : ReadMade) → y ≡ read_from (read_made (wrong (n + 2))) → y ≡ read_from (read_made (read_rows (nets_of h) [] (lines s)))
    rowed_off z = refuses (and_off (is_row_line (length (nets_of h)) line) (ltb (length r.list) rows_max) (is_line ∙ untaken (is_row_line h.columns line) (row_from (row_in line)) z))

    pub rowed_full : n ≡ rows_max → (y : ReadMade) → y ≡ read_from (read_made (wrong (n + 2))) → y ≡ read_from (read_made (read_rows (nets_of h) [] (lines s)))
    rowed_full z = refuses (and_late (is_row_line (length (nets_of h)) line) (ltb (length r.list) rows_max) (le-ltb (length r.list) rows_max (omega (arith, r.count))))

    pub rowed_more : (row : Struct) → Some row ≡ row_taken h.columns line → (n ≡ rows_max → ⊥) → Rowed h s (set made n row) (n + 1) (drop e rest)
    rowed_more row z k =
        let rs = r.list in
        let x = row_in line in
        let t = taken (is_row_line h.columns line) (row_from x) row z in
        let b : length rs < rows_max = omega (arith, r.count, r.few) in
        let g : fits (nets_of h) rs line ≡ true = and_both (is_row_line (length (nets_of h)) line) (ltb (length rs) rows_max) (is_line ∙ t.0) (lt-ltb (length rs) rows_max b) in
        let l : length (map row_from rs) ≡ n = length-map rs row_from ∙ sym r.count in
        let v : set made n row ≡ vec rows_max (row_from bare) (map row_from (rs ++ (x ∷ []))) =
        ap (λ (u : List Struct). set u n row) r.array
        ∙ ap (λ (q : Struct). set (vec rows_max (row_from bare) (map row_from rs)) n q) t.1
        ∙ ap (λ (j : ℕ). set (vec rows_max (row_from bare) (map row_from rs)) j (row_from x)) (sym l)
        ∙ push rows_max (row_from bare) (map row_from rs) (row_from x) (omega (arith, l, r.count))
        ∙ ap (vec rows_max (row_from bare)) (sym (map_snoc rs x)) in
        record {
          list = rs ++ (x ∷ []);
          array = v;
          count = omega (arith, length-append rs (x ∷ []), r.count);
          few = omega (arith, r.count);
          joins = sym (rows_on (nets_of h) rs line (lines (drop e rest)) g) ∙ ap (read_rows (nets_of h) rs) (sym c.line) ∙ r.joins;
        }

  pub rowed_done : length rest ≡ 0 → record { no = 0; line = 0; matrix = record { value = h.value; columns = h.columns; rows = made; count = n } }
      ≡ read_from (read_made (read_rows (nets_of h) [] (lines s)))
  unfolding lines read_rows
  rowed_done k =
      let rs = r.list in
      let d : rest ≡ [] = none_of rest k in
      let m : Matrix = record { nets = nets_of h; rows = rs } in
      let c : read_rows (nets_of h) rs (lines rest) ≡ whole m = ap (λ (l : List ℕ). read_rows (nets_of h) rs (lines l)) d in
      let v = ap (λ (x : Nets). x.value) f.tidy in
      let w = sym (width h f) in
      let u : made ≡ map from (vec rows_max zero_given (map spread_row rs)) =
      r.array ∙ sym (map-vec from rows_max zero_given (map spread_row rs) ∙ ap (vec rows_max (row_from bare)) (map_two rs)) in
      let e = r.count in
      (λ i. record { no = 0; line = 0; matrix = record { value = v i; columns = w i; rows = u i; count = e i } }) ∙ answer (whole m) c
    where
      none_of : (l : List ℕ) → length l ≡ 0 → l ≡ []
      none_of [] q = refl
      none_of (x ∷ l) q = absurd (omega arith)

-- ---- the whole text

pub none_read : (s : List ℕ) → length s ≡ 0 → read_made (wrong 1) ≡ read_answer s
unfolding lines read read_answer read_lines
none_read [] h = refl
none_read (x ∷ s) h = absurd (omega arith)

first-few : (l : List ℕ) → is_value_line l ≡ true → length (nets_in l) ≤ columns_max
unfolding is_value_line
first-few l h =
    let ns = nets_in l in
    let low = all (λ (n : ℕ). not (over n)) ns in
    leb-true (length ns) columns_max (and_left (leb (length ns) columns_max) low (and_right (same (value_line ns) l) (leb (length ns) columns_max && low) h))

module _ (s : List ℕ) (e : ℕ) (c : Cut s e) where
  abbrev first : List ℕ
  first = take e s

  pub head-off : None ≡ value_taken first → read_made (wrong 1) ≡ read_answer s
  unfolding read read_answer
  head-off z = ap read_made (sym (ap read_lines c.line ∙ first_off first (lines (drop e s)) (untaken (is_value_line first) (nets_from (nets_in first)) z)))

  module _ (h : Nets) (z : Some h ≡ value_taken first) where
    is_first : (is_value_line first ≡ true) × (h ≡ nets_from (nets_in first))
    is_first = taken (is_value_line first) (nets_from (nets_in first)) h z

    head_few : length (nets_in first) ≤ columns_max
    head_few = first-few first is_first.0

    head_is : nets_of h ≡ nets_in first
    head_is = ap nets_of is_first.1 ∙ take-vec columns_max 0 (nets_in first) head_few

    pub head-fits : HeadFits h
    head-fits = record { few = omega (arith, head_few, ap (λ (x : Nets). x.columns) is_first.1); tidy = is_first.1 ∙ ap nets_from (sym head_is) }

    pub head_on : read_made (read_rows (nets_of h) [] (lines (drop e s))) ≡ read_answer s
    unfolding read read_answer
    head_on =
        ap (λ (ns : List ℕ). read_made (read_rows ns [] (lines (drop e s)))) head_is
        ∙ ap read_made (sym (ap read_lines c.line ∙ first_on first (lines (drop e s)) is_first.0))
