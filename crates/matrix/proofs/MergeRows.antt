-- merge as it is made: two rows joined, a row alone, and the rows of one parent row behind those made so far. Assumes nothing.
use lib.ListN.{drop, get_or, length, length-append, length-map, length-replicate, replicate, set, take, take-append-drop}
use lib.Seq.{length-take-le, take_all, take-suc}
use mathlib.Core.Bool.{false, true}
use mathlib.Core.List.{[], ◌++◌, ◌∷◌, append_assoc, List, map}
use mathlib.Core.Path.{◌∙◌, ◌≡◌, ap, ap₂, refl, subst, sym}
use native.Mathlib.Numerals.{add-one}
use native.Mathlib.Omega.{arith}
use Prim.Native.Nat.{◌+◌, ◌<◌, ◌≤◌, ℕ}
use Rattle.lists.specs.Lists.{mem}
use Rattle.lists.specs.Vec.{push, vec, vec_none}
use Rattle.matrix.proofs.MergeCount.{merge_cons, merge-named, merge_other}
use Rattle.matrix.proofs.StepHeld.{clean_held, clean_wide, held_is, map-append, none_row, past, row_long, row-view, row_wide, sized_at, zero_row}
use Rattle.matrix.proofs.StepLaws.{row_path}
use Rattle.matrix.proofs.Views.{clean_is}
use Rattle.matrix.specs.declared.Matrix.{Matrix}
use Rattle.matrix.specs.Mat.{Clean, matrix_from, view}
use Rattle.rows.proofs.Laws.{get_d_map}
use Rattle.rows.specs.declared.Row.{Row}
use Rattle.rows.specs.Rows as rows
use Rattle.rows.specs.Rows.{row_from}
use Rattle.rules.specs.Bounds.{columns_max, rows_max, rules_max}
use Rattle.rules.specs.Given.{Sized, SizedRows}
use Rattle.rules.specs.Matrix.{alone, joined, Matrix as MatrixOf, merge, merge_rows, Row as RowOf, union}
use Rattle.sets.specs.declared.Rules.{Rules}
use Rattle.sets.specs.Sets.{rules_from}

-- ---- one row

tidy_len : (row : Row) → rows.Tidy row → row.len ≡ length (rows.view row).pattern
tidy_len row e = ap (λ (r : Row). r.len) e

pub joined_is : (row other : Row) (p : List ℕ) (s : Rules) → rows.Tidy row → rows.Tidy other
    → p ≡ vec columns_max 0 ((rows.view row).pattern ++ (rows.view other).pattern) → s ≡ rules_from (union (rows.view row).rules (rows.view other).rules)
    → record { pattern = p; len = row.len + other.len; rules = s } ≡ row_from (joined (rows.view row) (rows.view other))
joined_is row other p s e f a d =
    row_path (record { pattern = p; len = row.len + other.len; rules = s }) (row_from (joined (rows.view row) (rows.view other))) a
    (ap₂ ◌+◌ (tidy_len row e) (tidy_len other f) ∙ sym (length-append (rows.view row).pattern (rows.view other).pattern))
    d

pub length-alone : (l : List ℕ) (w : ℕ) → length (l ++ replicate w 2) ≡ length l + w
length-alone l w = length-append l (replicate w 2) ∙ ap (λ (k : ℕ). length l + k) (length-replicate {A = ℕ} w 2)

-- ---- one for each of the child's rows, behind those made so far

-- one element of s more, behind k that stand
join_fill : {A : Type 0} (n : ℕ) (d : A) (l s : List A) (k i : ℕ) (z : A) → length l ≡ k → i < length s → k + i < n
    → set (vec n d (l ++ take i s)) (k + i) (get_or s i z) ≡ vec n d (l ++ take (i + 1) s)
join_fill {A = A} n d l s k i z e h r =
    let t : length (take i s) ≡ i = length-take-le i s (omega arith) in
    let w : length (l ++ take i s) ≡ k + i = length-append l (take i s) ∙ omega arith in
    ap (λ (j : ℕ). set (vec n d (l ++ take i s)) j (get_or s i z)) (sym w)
    ∙ push n d (l ++ take i s) (get_or s i z) (omega arith)
    ∙ ap (vec n d) (append_assoc l (take i s) (get_or s i z ∷ []) ∙ ap (λ (r : List A). l ++ r) (sym (ap (λ (j : ℕ). take j s) (add-one i) ∙ take-suc s i z h)))

module _ (made child : Matrix) (row : Row) (c : Clean made) (d : Clean child) (e : rows.Tidy row) (k : made.count + child.count ≤ rows_max)
    (s : SizedRows made.columns (map (joined (rows.view row)) (view child).rows)) where
  abbrev parts : List RowOf
  parts = map (joined (rows.view row)) (view child).rows

  length-parts : length parts ≡ child.count
  length-parts = length-map (view child).rows (joined (rows.view row)) ∙ sym (clean_held child d).count

  module _ (i : ℕ) (h : i < child.count) where
    part_at : get_or parts i none_row ≡ joined (rows.view row) (rows.view (get_or child.rows i past))
    part_at =
        get_d_map (joined (rows.view row)) (view child).rows i none_row none_row (omega (arith, h, (clean_held child d).count))
        ∙ ap (joined (rows.view row)) (sym (row-view child d i h))

    pub part-fits : (row.len + (get_or child.rows i past).len ≤ columns_max) × (length (union (rows.view row).rules (rows.view (get_or child.rows i past)).rules) ≤ rules_max)
    part-fits =
        let other : RowOf = rows.view (get_or child.rows i past) in
        let z = subst (λ (r : RowOf). (length r.pattern ≡ made.columns) × (length r.rules ≤ rules_max)) part_at (sized_at made.columns parts i s (omega (arith, h, length-parts))) in
        let l = length-append (rows.view row).pattern other.pattern in
        let a = tidy_len row e in
        let o : length other.pattern ≡ (get_or child.rows i past).len = ap (λ (r : RowOf). length r.pattern) (row-view child d i h) ∙ row_wide child d i h ∙ sym (row_long child d i h) in
        (omega (arith, z.0, clean_wide made c), z.1)

    pub part_turn : (a : List Row) (y : Row) → a ≡ vec rows_max zero_row (map row_from (view made).rows ++ take i (map row_from parts))
        → y ≡ row_from (joined (rows.view row) (rows.view (get_or child.rows i past)))
        → set a (made.count + i) y ≡ vec rows_max zero_row (map row_from (view made).rows ++ take (i + 1) (map row_from parts))
    part_turn a y f g =
        let n = length-parts in
        let l : length (map row_from parts) ≡ length parts = length-map parts row_from in
        let m : length (map row_from (view made).rows) ≡ made.count = length-map (view made).rows row_from ∙ sym (clean_held made c).count in
        let q : y ≡ get_or (map row_from parts) i zero_row = g ∙ ap row_from (sym part_at) ∙ sym (get_d_map row_from parts i none_row zero_row (omega arith)) in
        ap₂ (λ (b : List Row) (x : Row). set b (made.count + i) x) f q
        ∙ join_fill rows_max zero_row (map row_from (view made).rows) (map row_from parts) made.count i zero_row m (omega arith) (omega arith)

  pub parts_are : (r : Matrix) (i : ℕ) → child.count ≤ i → r.value ≡ made.value → r.columns ≡ made.columns
      → r.rows ≡ vec rows_max zero_row (map row_from (view made).rows ++ take i (map row_from parts)) → r.count ≡ made.count + child.count
      → r ≡ matrix_from (record { nets = (view made).nets; rows = (view made).rows ++ parts })
  parts_are r i h v n f t =
      let m = clean_held made c in
      let l : length (map row_from parts) ≡ length parts = length-map parts row_from in
      held_is r (view made).nets ((view made).rows ++ parts)
      record {
        value = v ∙ m.value;
        columns = n ∙ m.columns;
        rows = f ∙ ap (λ (b : List Row). vec rows_max zero_row (map row_from (view made).rows ++ b)) (take_all i (map row_from parts) (omega (arith, length-parts, h)))
            ∙ ap (vec rows_max zero_row) (sym (map-append row_from (view made).rows parts));
        count = t ∙ ap₂ ◌+◌ m.count (sym length-parts) ∙ sym (length-append (view made).rows parts);
      }

-- ---- the rows of one parent row

module _ (made child : Matrix) (row : Row) (t : ℕ) (c : Clean made) (d : Clean child) (e : rows.Tidy row)
    (k : made.count + length (merge_rows t (view child) (rows.view row ∷ [])) ≤ rows_max)
    (s : SizedRows made.columns (merge_rows t (view child) (rows.view row ∷ []))) where
  abbrev Asked : Type 0
  Asked = (made.count + child.count ≤ rows_max) × SizedRows made.columns (map (joined (rows.view row)) (view child).rows)

  pub named-fits : mem t (rows.view row).rules ≡ true → Asked
  named-fits p =
      let f = merge-named t (view child) (rows.view row) p in
      let l = length-map (view child).rows (joined (rows.view row)) in
      let n = ap length f in
      (omega (arith, (clean_held child d).count, k), subst (SizedRows made.columns) f s)

  pub named_is : (r : Matrix) → mem t (rows.view row).rules ≡ true → r ≡ matrix_from (record { nets = (view made).nets; rows = (view made).rows ++ map (joined (rows.view row)) (view child).rows })
      → r ≡ matrix_from (record { nets = (view made).nets; rows = (view made).rows ++ merge_rows t (view child) (rows.view row ∷ []) })
  named_is r p f = f ∙ ap (λ (l : List RowOf). matrix_from (record { nets = (view made).nets; rows = (view made).rows ++ l })) (sym (merge-named t (view child) (rows.view row) p))

  module _ (p : mem t (rows.view row).rules ≡ false) where
    one : merge_rows t (view child) (rows.view row ∷ []) ≡ alone (length (view child).nets) (rows.view row) ∷ []
    one = merge_other t (view child) (rows.view row) p

    pub other_room : made.count < rows_max
    other_room = let n = ap length one in omega (arith, k)

    pub other_fits : row.len + child.columns ≤ columns_max
    unfolding SizedRows
    other_fits =
        let z = subst (SizedRows made.columns) one s in
        let l = length-alone (rows.view row).pattern (length (view child).nets) in
        let a = tidy_len row e in
        omega (arith, z.0, clean_wide made c, (clean_held child d).columns)

    pub other_is : (y : Row) → y ≡ row_from (alone child.columns (rows.view row))
        → record { value = made.value; columns = made.columns; rows = set made.rows made.count y; count = made.count + 1 }
        ≡ matrix_from (record { nets = (view made).nets; rows = (view made).rows ++ merge_rows t (view child) (rows.view row ∷ []) })
    other_is y f =
        let m = clean_held made c in
        let x : RowOf = alone (length (view child).nets) (rows.view row) in
        let g : y ≡ row_from x = f ∙ ap (λ (n : ℕ). row_from (alone n (rows.view row))) (clean_held child d).columns in
        let l : length (map row_from (view made).rows) ≡ length (view made).rows = length-map (view made).rows row_from in
        let b = other_room in
        let r : Matrix = record { value = made.value; columns = made.columns; rows = set made.rows made.count y; count = made.count + 1 } in
        held_is r (view made).nets ((view made).rows ++ (x ∷ []))
        record {
          value = m.value;
          columns = m.columns;
          rows = (λ z. set (m.rows z) ((m.count ∙ sym l) z) (g z)) ∙ push rows_max zero_row (map row_from (view made).rows) (row_from x) (omega (arith, m.count))
              ∙ ap (vec rows_max zero_row) (sym (map-append row_from (view made).rows (x ∷ [])));
          count = ap (λ (n : ℕ). n + 1) m.count ∙ sym (length-append (view made).rows (x ∷ []));
        }
        ∙ ap (λ (q : List RowOf). matrix_from (record { nets = (view made).nets; rows = (view made).rows ++ q })) (sym one)

-- ---- every parent row

merge-append : (t : ℕ) (child : MatrixOf) (a b : List RowOf) → merge_rows t child (a ++ b) ≡ merge_rows t child a ++ merge_rows t child b
unfolding merge_rows
merge-append t child [] b = refl
merge-append t child (r ∷ a) b =
    merge_cons t child r (a ++ b) ∙ ap (λ (l : List RowOf). merge_rows t child (r ∷ []) ++ l) (merge-append t child a b)
    ∙ sym (append_assoc (merge_rows t child (r ∷ [])) (merge_rows t child a) (merge_rows t child b))
    ∙ ap (λ (l : List RowOf). l ++ merge_rows t child b) (sym (merge_cons t child r a))

sized_split : (w : ℕ) (a b : List RowOf) → SizedRows w (a ++ b) → SizedRows w a × SizedRows w b
unfolding SizedRows
sized_split w [] b s = (tt, s)
sized_split w (r ∷ a) b s = let z = sized_split w a b s.2 in ((s.0, s.1, z.0), z.1)

module _ (m child : Matrix) (t : ℕ) (c : Clean m) (d : Clean child) (s : Sized (merge t (view m) (view child))) where
  -- what i parent rows give
  abbrev pub merged_to : ℕ → MatrixOf
  merged_to i = record { nets = (view m).nets ++ (view child).nets; rows = merge_rows t (view child) (take i (view m).rows) }

  sized_to : (i : ℕ) → Sized (merged_to i)
  sized_to i =
      let w : ℕ = length ((view m).nets ++ (view child).nets) in
      let rest : List RowOf = merge_rows t (view child) (drop i (view m).rows) in
      let f : merge_rows t (view child) (view m).rows ≡ (merged_to i).rows ++ rest =
      ap (merge_rows t (view child)) (sym (take-append-drop i (view m).rows)) ∙ merge-append t (view child) (take i (view m).rows) (drop i (view m).rows) in
      let l = ap length f ∙ length-append (merged_to i).rows rest in
      record { wide = s.wide; tall = omega (arith, l, s.tall); each = (sized_split w (merged_to i).rows rest (subst (SizedRows w) f s.each)).0 }

  pub merged_start : (v : List ℕ) (z : Row) → v ≡ vec columns_max 0 ((view m).nets ++ (view child).nets) → z ≡ zero_row
      → record { value = v; columns = m.columns + child.columns; rows = replicate rows_max z; count = 0 } ≡ matrix_from (merged_to 0)
  unfolding merge_rows
  merged_start v z e f =
      held_is (record { value = v; columns = m.columns + child.columns; rows = replicate rows_max z; count = 0 }) ((view m).nets ++ (view child).nets) []
      record {
        value = e;
        columns = ap₂ ◌+◌ (clean_held m c).columns (clean_held child d).columns ∙ sym (length-append (view m).nets (view child).nets);
        rows = ap (replicate rows_max) f ∙ vec_none rows_max zero_row;
        count = refl;
      }

  module _ (made : Matrix) (i : ℕ) (h : i < m.count) (e : made ≡ matrix_from (merged_to i)) where
    abbrev part : List RowOf
    part = merge_rows t (view child) (rows.view (get_or m.rows i past) ∷ [])

    pub merged_clean : Clean made × (view made ≡ merged_to i)
    merged_clean = clean_is made (merged_to i) (sized_to i) e

    inside : i < length (view m).rows
    inside = omega (arith, h, (clean_held m c).count)

    next_is : (merged_to (i + 1)).rows ≡ (merged_to i).rows ++ part
    next_is =
        ap (λ (n : ℕ). merge_rows t (view child) (take n (view m).rows)) (add-one i)
        ∙ ap (merge_rows t (view child)) (take-suc (view m).rows i none_row inside)
        ∙ merge-append t (view child) (take i (view m).rows) (get_or (view m).rows i none_row ∷ [])
        ∙ ap (λ (r : RowOf). (merged_to i).rows ++ merge_rows t (view child) (r ∷ [])) (sym (row-view m c i h))

    pub merged-fits : (made.count + length part ≤ rows_max) × SizedRows made.columns part
    merged-fits =
        let z = sized_to (i + 1) in
        let w : ℕ = length ((view m).nets ++ (view child).nets) in
        let k : made.count ≡ length (merged_to i).rows = ap (λ (x : Matrix). x.count) e in
        let n : made.columns ≡ w = ap (λ (x : Matrix). x.columns) e in
        let l = ap length next_is ∙ length-append (merged_to i).rows part in
        (omega (arith, l, k, z.tall), rw n (sized_split w (merged_to i).rows part (subst (SizedRows w) next_is z.each)).1)

    pub merged_next : (r : Matrix) → r ≡ matrix_from (record { nets = (view made).nets; rows = (view made).rows ++ part }) → r ≡ matrix_from (merged_to (i + 1))
    merged_next r f =
        f ∙ ap (λ (x : MatrixOf). matrix_from (record { nets = x.nets; rows = x.rows ++ part })) merged_clean.1
        ∙ ap (λ (l : List RowOf). matrix_from (record { nets = (view m).nets ++ (view child).nets; rows = l })) (sym next_is)

  pub merged_end : (made : Matrix) (i : ℕ) → m.count ≤ i → made ≡ matrix_from (merged_to i) → made ≡ matrix_from (merge t (view m) (view child))
  merged_end made i h e =
      e ∙ ap (λ (l : List RowOf). matrix_from (record { nets = (view m).nets ++ (view child).nets; rows = merge_rows t (view child) l })) (take_all i (view m).rows (omega (arith, h, (clean_held m c).count)))
