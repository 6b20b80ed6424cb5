-- The rows of normalize, one by one: those that stay so far, and the columns that are taken out of each. Assumes nothing.
use lib.ListN.{drop, drop_of_length-le, get_or, length, length-append, length-map, get_or-eq_default, set, take}
use lib.Seq.{drop-cons}
use lib.Dec.{eqb}
use lib.Pointwise.{pointwise}
use mathlib.Core.Bool.{◌&&◌, ◌||◌, Bool, cond, false, not, true}
use mathlib.Core.List.{[], ◌++◌, ◌∷◌, append_assoc, append-nil, List, map}
use mathlib.Core.Option.{none, Option, some}
use mathlib.Core.Path.{◌∙◌, ◌≡◌, ap, ap₂, refl, sym}
use native.Mathlib.Nat.{le_of_suc-le-suc, not-suc-le-zero}
use native.Mathlib.Numerals.{add-one}
use native.Mathlib.Omega.{arith}
use Prim.Native.Nat.{◌+◌, ◌<◌, ◌≤◌, suc, zero, ℕ}
use Rattle.lists.specs.Lists.{kept, map_to, same}
use Rattle.lists.specs.Vec.{get_or-vec, length-vec, map_to-vec, push, take-vec, vec}
use Rattle.matrix.proofs.NormalFlags.{used, used_more, used_start}
use Rattle.matrix.proofs.StepHeld.{clean_held, clean_tall, clean_wide, held_is, map-append, none_row, past, row_at, row_long, row_pattern, row-view, row_wide, zero_row}
use Rattle.matrix.proofs.StepLaws.{row_path}
use Rattle.matrix.specs.declared.Matrix.{Matrix}
use Rattle.matrix.specs.Mat.{Clean, matrix_from, stripped, view}
use Rattle.rows.proofs.Walked.{length-walk}
use Rattle.rows.specs.declared.Row.{Row}
use Rattle.rows.specs.Rows as rows
use Rattle.rows.specs.Rows.{flags, row_from, settled}
use Rattle.rules.specs.Bounds.{columns_max, rows_max}
use Rattle.rules.specs.Given.{SizedRows}
use Rattle.rules.specs.Matrix.{all_x, Row as RowOf}
use Rattle.rules.specs.Normalize.{again}
use Rattle.rules.specs.Steps.{walk, walk_rows}
use Rattle.rules.specs.Trits.{is_x}
use Rattle.std.proofs.lemmas.List.Recursion.{is_count_by}
use Rattle.std.specs.List.{count_by}
use Rattle.std.specs.Prelude.{None, Option as Told, Some}

-- ---- the first j places are those of a, the others are those of b

abbrev laid : {A : Type 0} → ℕ → List A → List A → List A
laid zero a b = b
laid (suc j) [] b = []
laid (suc j) (x ∷ a) [] = []
laid (suc j) (x ∷ a) (y ∷ b) = x ∷ laid j a b

module _ {A : Type 0} where
  laid-at : (j : ℕ) (a b : List A) (d : A) → j < length a → get_or (laid j a b) j d ≡ get_or b j d
  laid-at zero a b d h = refl
  laid-at (suc j) [] b d h = absurd (not-suc-le-zero h)
  laid-at (suc j) (x ∷ a) [] d h = refl
  laid-at (suc j) (x ∷ a) (y ∷ b) d h = laid-at j a b d (le_of_suc-le-suc h)

  -- one place more
  laid_more : (j : ℕ) (a b : List A) (d : A) → j < length a → j < length b → set (laid j a b) j (get_or a j d) ≡ laid (suc j) a b
  laid_more j [] b d h k = absurd (not-suc-le-zero h)
  laid_more j (x ∷ a) [] d h k = absurd (not-suc-le-zero k)
  laid_more zero (x ∷ a) (y ∷ b) d h k = refl
  laid_more (suc j) (x ∷ a) (y ∷ b) d h k = ap (λ (l : List A). x ∷ l) (laid_more j a b d (le_of_suc-le-suc h) (le_of_suc-le-suc k))

  -- a write below
  laid-set : (j k : ℕ) (a b : List A) (y : A) → k < j → set (laid j a b) k y ≡ laid j (set a k y) b
  laid-set zero k a b y h = absurd (not-suc-le-zero h)
  laid-set (suc j) k [] b y h = refl
  laid-set (suc j) zero (x ∷ a) [] y h = refl
  laid-set (suc j) (suc k) (x ∷ a) [] y h = refl
  laid-set (suc j) zero (x ∷ a) (z ∷ b) y h = refl
  laid-set (suc j) (suc k) (x ∷ a) (z ∷ b) y h = ap (λ (l : List A). x ∷ l) (laid-set j k a b y (le_of_suc-le-suc h))

  -- all that both hold is among the first j
  laid_end : (n : ℕ) (d : A) (j : ℕ) (k l : List A) → length k ≤ j → length l ≤ j → laid j (vec n d k) (vec n d l) ≡ vec n d k
  unfolding vec
  laid_end n d zero [] [] h g = refl
  laid_end n d zero [] (y ∷ l) h g = absurd (not-suc-le-zero g)
  laid_end n d zero (x ∷ k) l h g = absurd (not-suc-le-zero h)
  laid_end zero d (suc j) k l h g = refl
  laid_end (suc n) d (suc j) [] [] h g = ap (λ (r : List A). d ∷ r) (laid_end n d j [] [] (omega arith) (omega arith))
  laid_end (suc n) d (suc j) [] (y ∷ l) h g = ap (λ (r : List A). d ∷ r) (laid_end n d j [] l (omega arith) (le_of_suc-le-suc g))
  laid_end (suc n) d (suc j) (x ∷ k) [] h g = ap (λ (r : List A). x ∷ r) (laid_end n d j k [] (le_of_suc-le-suc h) (omega arith))
  laid_end (suc n) d (suc j) (x ∷ k) (y ∷ l) h g = ap (λ (r : List A). x ∷ r) (laid_end n d j k l (le_of_suc-le-suc h) (le_of_suc-le-suc g))

-- ---- of j slots read k hold rows and the others none; these rows with what the rest gives are the whole, and u says which columns they use

pub record Sofar (ns : List ℕ) (whole rest : List RowOf) (b a : List Row) (u : List Bool) (j k : ℕ) : Type 0 where
  pub list : List RowOf
  pub array : a ≡ laid j (vec rows_max zero_row (map row_from list)) b
  pub count : k ≡ length list
  pub below : k ≤ j
  pub joins : list ++ rest ≡ whole
  pub marks : u ≡ vec columns_max false (flags (used list) ns)

pub sofar_start : (ns : List ℕ) (whole : List RowOf) (b : List Row) (u : List Bool) → u ≡ vec columns_max false [] → Sofar ns whole whole b b u 0 0
sofar_start ns whole b u e = record { list = []; array = refl; count = refl; below = omega arith; joins = refl; marks = e ∙ used_start columns_max ns }

sofar_on : (ns : List ℕ) (whole rest next : List RowOf) (b a : List Row) (u : List Bool) (j k : ℕ) → rest ≡ next → Sofar ns whole rest b a u j k → Sofar ns whole next b a u j k
sofar_on ns whole rest next b a u j k e s = rw (← e) s

-- the next slot read
sofar_read : (ns : List ℕ) (whole rest : List RowOf) (b a : List Row) (u : List Bool) (j k : ℕ) → j < rows_max → Sofar ns whole rest b a u j k → get_or a j past ≡ get_or b j past
sofar_read ns whole rest b a u j k h s =
    let l : List Row = map row_from s.list in
    let v : length (vec rows_max zero_row l) ≡ rows_max = length-vec rows_max zero_row l in
    ap (λ (r : List Row). get_or r j past) s.array ∙ laid-at j (vec rows_max zero_row l) b past (omega arith)

-- and made blank
sofar_blank : (ns : List ℕ) (whole rest : List RowOf) (z : Row) (b a : List Row) (u : List Bool) (j k : ℕ) → j < rows_max → length b ≡ rows_max → z ≡ zero_row
    → Sofar ns whole rest b a u j k → Sofar ns whole rest b (set a j z) u (j + 1) k
sofar_blank ns whole rest z b a u j k h g e s =
    let l : List Row = map row_from s.list in
    let v : length (vec rows_max zero_row l) ≡ rows_max = length-vec rows_max zero_row l in
    let t : length l ≡ length s.list = length-map s.list row_from in
    let i : length l ≤ j = omega (arith, s.count, s.below) in
    let o : zero_row ≡ get_or (vec rows_max zero_row l) j zero_row = sym (get_or-vec rows_max zero_row l j h ∙ get_or-eq_default l zero_row i) in
    record {
      list = s.list;
      array = ap₂ (λ (r : List Row) (x : Row). set r j x) s.array (e ∙ o) ∙ laid_more j (vec rows_max zero_row l) b zero_row (omega arith) (omega arith)
          ∙ ap (λ (i : ℕ). laid i (vec rows_max zero_row l) b) (sym (add-one j));
      count = s.count;
      below = omega (arith, s.below);
      joins = s.joins;
      marks = s.marks;
    }

-- a row more
sofar_more : (ns : List ℕ) (whole rest : List RowOf) (x : RowOf) (y : Row) (b a : List Row) (u v : List Bool) (j k : ℕ) → k < j → j ≤ rows_max → length ns ≤ columns_max
    → length x.pattern ≡ length ns → y ≡ row_from x → v ≡ vec columns_max false (flags (λ (i mask : ℕ). get_or u i false || not (is_x mask)) x.pattern)
    → Sofar ns whole (x ∷ rest) b a u j k → Sofar ns whole rest b (set a k y) v j (k + 1)
sofar_more ns whole rest x y b a u v j k h g w p e f s =
    let l : List Row = map row_from s.list in
    let t : length l ≡ length s.list = length-map s.list row_from in
    let c : k ≡ length l = s.count ∙ sym t in
    let n : set (vec rows_max zero_row l) k y ≡ vec rows_max zero_row (map row_from (s.list ++ (x ∷ []))) =
    rw (c, e) (push rows_max zero_row l (row_from x) (omega arith)) ∙ ap (vec rows_max zero_row) (sym (map-append row_from s.list (x ∷ []))) in
    record {
      list = s.list ++ (x ∷ []);
      array = ap (λ (r : List Row). set r k y) s.array ∙ laid-set j k (vec rows_max zero_row l) b y h ∙ ap (λ (r : List Row). laid j r b) n;
      count = rw (length-append s.list (x ∷ [])) (omega (arith, s.count));
      below = omega arith;
      joins = append_assoc s.list (x ∷ []) rest ∙ s.joins;
      marks = f ∙ ap (vec columns_max false) (used_more columns_max ns s.list x u w p s.marks);
    }

-- ---- a row that was walked

abbrev Settled : Type 0
Settled = Told (List ℕ)

settled_gone : (o : Option (List ℕ)) (t : Settled) → t ≡ settled o → t ≡ None → o ≡ none
settled_gone none t e f = refl
settled_gone (some ms) t e f = absurd (let q : ◌≡◌ {A = Settled} (Some (vec columns_max 0 ms)) None = sym e ∙ f in cc)

settled_stays : {P : Type 0} (o : Option (List ℕ)) (t : Settled) (p : List ℕ) → t ≡ settled o → t ≡ Some p → ((ms : List ℕ) → o ≡ some ms → p ≡ vec columns_max 0 ms → P) → P
settled_stays none t p e f k = absurd (let q : ◌≡◌ {A = Settled} None (Some p) = sym e ∙ f in cc)
settled_stays (some ms) t p e f k = k ms refl (let q : ◌≡◌ {A = Settled} (Some p) (Some (vec columns_max 0 ms)) = sym f ∙ e in cc)

module _ (ns : List ℕ) (last : Option (List ℕ)) (rs : List RowOf) (j : ℕ) (h : j < length rs) where
  abbrev at : RowOf
  at = get_or rs j none_row

  walked-again : again last at.pattern ≡ true → walk_rows ns last (drop j rs) ≡ walk_rows ns last (drop (j + 1) rs)
  unfolding walk_rows
  walked-again e = rw (add-one, drop-cons rs j none_row h, e)

  walked_gone : again last at.pattern ≡ false → walk ns (length ns) 0 at.pattern ≡ none → walk_rows ns last (drop j rs) ≡ walk_rows ns (some at.pattern) (drop (j + 1) rs)
  unfolding walk_rows
  walked_gone e f = rw (add-one, drop-cons rs j none_row h, e, f)

  walked_stays : (ms : List ℕ) → again last at.pattern ≡ false → walk ns (length ns) 0 at.pattern ≡ some ms
      → walk_rows ns last (drop j rs) ≡ record { pattern = ms; rules = at.rules } ∷ walk_rows ns (some at.pattern) (drop (j + 1) rs)
  unfolding walk_rows
  walked_stays ms e f = rw (add-one, drop-cons rs j none_row h, e, f)

-- ---- a turn of the loop over the rows of a clean matrix

module _ (m : Matrix) (c : Clean m) (last : Option (List ℕ)) (j : ℕ) (h : j < m.count) (whole : List RowOf) (z : Row) (e : z ≡ zero_row) (a : List Row) (u : List Bool) (k : ℕ)
    (s : Sofar (view m).nets whole (walk_rows (view m).nets last (drop j (view m).rows)) m.rows a u j k) (y : Row) (taken : y ≡ get_or a j past) where
  abbrev ns : List ℕ
  ns = (view m).nets

  abbrev row : RowOf
  row = get_or (view m).rows j none_row

  low : j < rows_max
  low = omega (arith, h, clean_tall m c)

  inside : j < length (view m).rows
  inside = omega (arith, h, (clean_held m c).count)

  read : y ≡ get_or m.rows j past
  read = taken ∙ sofar_read ns whole (walk_rows ns last (drop j (view m).rows)) m.rows a u j k low s

  -- by its own length, and by the columns
  own : (rows.view y).pattern ≡ row.pattern
  own = ap (λ (r : Row). (rows.view r).pattern) read ∙ ap (λ (r : RowOf). r.pattern) (row-view m c j h)

  given : take (length ns) y.pattern ≡ row.pattern
  given = ap₂ (λ (n : ℕ) (r : Row). take n r.pattern) (sym (clean_held m c).columns) read ∙ row_pattern m c j h

  pub turn_clean : y.pattern ≡ vec columns_max 0 (take (length ns) y.pattern)
  turn_clean = ap (λ (r : Row). r.pattern) (read ∙ row_at m c j h) ∙ ap (vec columns_max 0) (sym given)

  walk_is : walk ns (length ns) 0 (take (length ns) y.pattern) ≡ walk ns (length ns) 0 row.pattern
  walk_is = ap (walk ns (length ns) 0) given

  long : length m.rows ≡ rows_max
  long = ap length (clean_held m c).rows ∙ length-vec rows_max zero_row (map row_from (view m).rows)

  blanked : Sofar ns whole (walk_rows ns last (drop j (view m).rows)) m.rows (set a j z) u (j + 1) k
  blanked = sofar_blank ns whole (walk_rows ns last (drop j (view m).rows)) z m.rows a u j k low long e s

  pub turn_again : again last (rows.view y).pattern ≡ true → Sofar ns whole (walk_rows ns last (drop (j + 1) (view m).rows)) m.rows (set a j z) u (j + 1) k
  turn_again e = sofar_on ns whole _ _ m.rows (set a j z) u (j + 1) k (walked-again ns last (view m).rows j inside (ap (again last) (sym own) ∙ e)) blanked

  -- to what a row is next to, the pattern as given
  next_is : walk_rows ns (some row.pattern) (drop (j + 1) (view m).rows) ≡ walk_rows ns (some (rows.view y).pattern) (drop (j + 1) (view m).rows)
  next_is = ap (λ (q : List ℕ). walk_rows ns (some q) (drop (j + 1) (view m).rows)) (sym own)

  pub turn_gone : (t : Settled) → again last (rows.view y).pattern ≡ false → t ≡ settled (walk ns (length ns) 0 (take (length ns) y.pattern)) → t ≡ None
      → Sofar ns whole (walk_rows ns (some (rows.view y).pattern) (drop (j + 1) (view m).rows)) m.rows (set a j z) u (j + 1) k
  turn_gone t e f g =
      let o : walk ns (length ns) 0 row.pattern ≡ none = sym walk_is ∙ settled_gone _ t f g in
      sofar_on ns whole _ _ m.rows (set a j z) u (j + 1) k (walked_gone ns last (view m).rows j inside (ap (again last) (sym own) ∙ e) o ∙ next_is) blanked

  pub turn_stays : (t : Settled) (p : List ℕ) (v : List Bool) → again last (rows.view y).pattern ≡ false → t ≡ settled (walk ns (length ns) 0 (take (length ns) y.pattern)) → t ≡ Some p
      → v ≡ vec columns_max false (flags (λ (i mask : ℕ). get_or u i false || not (is_x mask)) (take (length ns) p))
      → Sofar ns whole (walk_rows ns (some (rows.view y).pattern) (drop (j + 1) (view m).rows)) m.rows
      (set (set a j z) k (record { pattern = p; len = y.len; rules = y.rules })) v (j + 1) (k + 1)
  turn_stays t p v e f g r =
      settled_stays (walk ns (length ns) 0 (take (length ns) y.pattern)) t p f g
      (λ ms o q.
      let w : walk ns (length ns) 0 row.pattern ≡ some ms = sym walk_is ∙ o in
      let l : length ms ≡ m.columns = length-walk ns (length ns) 0 row.pattern ms w ∙ row_wide m c j h in
      let b : m.columns ≤ columns_max = clean_wide m c in
      let x : RowOf = record { pattern = ms; rules = row.rules } in
      let moved : Row = record { pattern = p; len = y.len; rules = y.rules } in
      let n = walked_stays ns last (view m).rows j inside ms (ap (again last) (sym own) ∙ e) w in
      let i : take (length ns) p ≡ ms = ap₂ (λ (d : ℕ) (p : List ℕ). take d p) (sym (clean_held m c).columns ∙ sym l) q ∙ take-vec columns_max 0 ms (omega arith) in
      let d : v ≡ vec columns_max false (flags (λ (i mask : ℕ). get_or u i false || not (is_x mask)) ms) =
      r ∙ ap (λ (p : List ℕ). vec columns_max false (flags (λ (i mask : ℕ). get_or u i false || not (is_x mask)) p)) i in
      let n_long : y.len ≡ length ms = ap (λ (r : Row). r.len) read ∙ row_long m c j h ∙ sym l in
      sofar_more ns whole _ x moved m.rows (set a j z) u v (j + 1) k (omega (arith, s.below)) (omega (arith, low)) c.sized.wide
      (l ∙ (clean_held m c).columns) (row_path moved (row_from x) q n_long (ap (λ (r : Row). r.rules) (read ∙ row_at m c j h))) d
      (sofar_on ns whole _ _ m.rows (set a j z) u (j + 1) k (n ∙ ap (λ (l : List RowOf). x ∷ l) next_is) blanked))

walked_end : (ns : List ℕ) (last : Option (List ℕ)) (rs : List RowOf) (j : ℕ) → length rs ≤ j → walk_rows ns last (drop j rs) ≡ []
unfolding walk_rows
walked_end ns last rs j h = rw (drop_of_length-le rs h)

-- every row was read
module _ (m r : Matrix) (c : Clean m) (last : Option (List ℕ)) (u : List Bool) (j : ℕ) (e : j ≡ m.count)
    (s : Sofar (view m).nets (walk_rows (view m).nets none (view m).rows) (walk_rows (view m).nets last (drop j (view m).rows)) m.rows r.rows u j r.count) where
  all_is : s.list ≡ walk_rows (view m).nets none (view m).rows
  all_is =
      let o = walked_end (view m).nets last (view m).rows j (omega (arith, e, (clean_held m c).count)) in
      sym (append-nil s.list) ∙ ap (λ (l : List RowOf). s.list ++ l) (sym o) ∙ s.joins

  pub rows_settled : r.value ≡ m.value → r.columns ≡ m.columns → r ≡ matrix_from (record { nets = (view m).nets; rows = walk_rows (view m).nets none (view m).rows })
  rows_settled v n =
      let h = clean_held m c in
      let k : length (map row_from s.list) ≡ length s.list = length-map s.list row_from in
      let l : length (map row_from (view m).rows) ≡ length (view m).rows = length-map (view m).rows row_from in
      held_is r (view m).nets (walk_rows (view m).nets none (view m).rows)
      record {
        value = v ∙ h.value;
        columns = n ∙ h.columns;
        rows = s.array ∙ ap (laid j (vec rows_max zero_row (map row_from s.list))) h.rows
            ∙ laid_end rows_max zero_row j (map row_from s.list) (map row_from (view m).rows) (omega (arith, s.count, s.below)) (omega (arith, e, h.count))
            ∙ ap (λ (l : List RowOf). vec rows_max zero_row (map row_from l)) all_is;
        count = s.count ∙ ap length all_is;
      }

  pub columns-marked : u ≡ vec columns_max false (flags (used (walk_rows (view m).nets none (view m).rows)) (view m).nets)
  columns-marked = s.marks ∙ ap (λ (l : List RowOf). vec columns_max false (flags (used l) (view m).nets)) all_is

-- ---- columns taken out of every row

abbrev pub kept_row : List Bool → RowOf → RowOf
kept_row gs r = record { pattern = kept gs r.pattern; rules = r.rules }

-- as many as are not gone
pub length-kept_of : (gs : List Bool) (l : List ℕ) → length gs ≡ length l → length (kept gs l) ≡ count_by not gs
unfolding kept
length-kept_of gs l e = stay gs l e ∙ is_count_by left not refl (λ g gs. flip g (left gs)) gs
  where
    left : List Bool → ℕ
    left [] = 0
    left (g ∷ gs) = cond g (left gs) (1 + left gs)

    flip : (g : Bool) (n : ℕ) → cond g n (1 + n) ≡ cond (not g) (1 + n) n
    flip true n = refl
    flip false n = refl

    stay : (gs : List Bool) (l : List ℕ) → length gs ≡ length l → length (kept gs l) ≡ left gs
    stay [] [] e = refl
    stay [] (x ∷ l) e = absurd (omega arith)
    stay (g ∷ gs) [] e = absurd (omega arith)
    stay (true ∷ gs) (x ∷ l) e = stay gs l (omega arith)
    stay (false ∷ gs) (x ∷ l) e = let r = stay gs l (omega arith) in omega arith

pub length_alike : (gs : List Bool) (a b : List ℕ) → length a ≡ length b → length (kept gs a) ≡ length (kept gs b)
unfolding kept
length_alike [] a b e = refl
length_alike (g ∷ gs) [] [] e = refl
length_alike (g ∷ gs) [] (y ∷ b) e = absurd (omega arith)
length_alike (g ∷ gs) (x ∷ a) [] e = absurd (omega arith)
length_alike (true ∷ gs) (x ∷ a) (y ∷ b) e = length_alike gs a b (omega arith)
length_alike (false ∷ gs) (x ∷ a) (y ∷ b) e = ap suc (length_alike gs a b (omega arith))

slots_kept : (gs : List Bool) (ns : List ℕ) (rs : List RowOf) → length ns ≤ columns_max → SizedRows (length ns) rs
    → map (stripped gs (length (kept gs ns))) (map row_from rs) ≡ map row_from (map (kept_row gs) rs)
unfolding SizedRows
slots_kept gs ns [] h s = refl
slots_kept gs ns (r ∷ rs) h s =
    let t : (rows.view (row_from r)).pattern ≡ r.pattern = take-vec columns_max 0 r.pattern (omega (arith, s.0)) in
    ap₂ ◌∷◌
    (row_path (stripped gs (length (kept gs ns)) (row_from r)) (row_from (kept_row gs r))
    (ap (λ (q : List ℕ). vec columns_max 0 (kept gs q)) t) (length_alike gs ns r.pattern (sym s.0)) refl)
    (slots_kept gs ns rs h s.2)

-- gs flags the columns of m, and k of them stay
pub all_stripped : (m r : Matrix) (gs : List Bool) (k i : ℕ) → Clean m → length gs ≡ m.columns → k ≡ count_by not gs → i ≡ m.count
    → r.value ≡ vec columns_max 0 (kept gs (view m).nets) → r.columns ≡ k → r.rows ≡ map_to (stripped gs k) i m.rows → r.count ≡ m.count
    → r ≡ matrix_from (record { nets = kept gs (view m).nets; rows = map (kept_row gs) (view m).rows })
all_stripped m r gs k i c n w e v q s t =
    let h = clean_held m c in
    let ns : List ℕ = (view m).nets in
    let rs : List RowOf = (view m).rows in
    let l : length (map row_from rs) ≡ length rs = length-map rs row_from in
    let z : length gs ≡ length ns = n ∙ h.columns in
    let y : k ≡ length (kept gs ns) = w ∙ sym (length-kept_of gs ns z) in
    let f : Row → Row = stripped gs (length (kept gs ns)) in
    let a : map_to (stripped gs k) i m.rows ≡ map_to f (length (map row_from rs)) (vec rows_max zero_row (map row_from rs)) =
    λ j. map_to (stripped gs (y j)) ((e ∙ h.count ∙ sym l) j) (h.rows j) in
    let tall = c.sized.tall in
    held_is r (kept gs ns) (map (kept_row gs) rs)
    record {
      value = v;
      columns = q ∙ y;
      rows = s ∙ a ∙ map_to-vec f rows_max zero_row (map row_from rs) (omega arith) ∙ ap (vec rows_max zero_row) (slots_kept gs ns rs c.sized.wide c.sized.each);
      count = t ∙ h.count ∙ sym (length-map rs (kept_row gs));
    }

-- ---- a row against the last one

same_is : (a b : List ℕ) → pointwise eqb a b ≡ same a b
unfolding same
same_is [] [] = refl
same_is [] (y ∷ b) = refl
same_is (x ∷ a) [] = refl
same_is (x ∷ a) (y ∷ b) = ap (λ (t : Bool). eqb x y && t) (same_is a b)

module _ (ms last p q : List ℕ) (r : Bool) (e : p ≡ ms) (f : q ≡ last) (h : r ≡ pointwise eqb p q) where
  alike : r ≡ same ms last
  alike = h ∙ ap₂ (pointwise eqb) e f ∙ same_is ms last

  pub again-same : r ≡ true → r ≡ again (some last) ms
  again-same b = b ∙ (let s = sym alike ∙ b in rw s)

  pub again-all : r ≡ false → (s : List ℕ) (u : Bool) → s ≡ last → u ≡ all_x s → u ≡ again (some last) ms
  again-all b s u g k = k ∙ ap all_x g ∙ (let e = sym alike ∙ b in rw e)
