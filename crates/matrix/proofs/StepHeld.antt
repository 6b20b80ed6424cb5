-- A clean matrix: lists in arrays, with 0 past every count, and its rows one by one. Assumes nothing.
use lib.ListN.{get_or, length, length-map, take}
use lib.Seq.{length-take-le}
use mathlib.Core.List.{[], ◌++◌, ◌∷◌, List, map}
use mathlib.Core.Path.{◌∙◌, ◌≡◌, ap, refl, sym}
use native.Mathlib.Nat.{le_of_suc-le-suc, not-suc-le-zero}
use native.Mathlib.Omega.{arith}
use Prim.Native.Nat.{◌<◌, ◌≤◌, suc, zero, ℕ}
use Rattle.lists.specs.Vec.{get_or-vec, length-vec, take-vec, vec}
use Rattle.matrix.proofs.Views.{matrix_path}
use Rattle.matrix.specs.declared.Matrix.{Matrix}
use Rattle.matrix.specs.Mat.{Clean, matrix_from, view}
use Rattle.rows.proofs.Laws.{get_d_map}
use Rattle.rows.specs.declared.Row.{Row}
use Rattle.rows.specs.Rows as rows
use Rattle.rows.specs.Rows.{row_from}
use Rattle.rules.specs.Bounds.{columns_max, rows_max, rules_max}
use Rattle.rules.specs.Given.{SizedRows, spread_row, zero_given}
use Rattle.rules.specs.Matrix.{Row as RowOf}

abbrev pub none_row : RowOf
none_row = record { pattern = []; rules = [] }

-- the row of a slot past the count
abbrev pub zero_row : Row
zero_row = row_from none_row

-- what a read past an array's end would give
abbrev pub past : Row
past = record { pattern = []; len = 0; rules = record { items = []; count = 0 } }

-- ---- lists and arrays

module _ {A : Type 0} where
  -- among the first n, as in the array
  pub front_at : (n : ℕ) (l : List A) (i : ℕ) (d : A) → i < length (take n l) → (i < n) × (get_or (take n l) i d ≡ get_or l i d)
  front_at zero l i d h = absurd (not-suc-le-zero h)
  front_at (suc n) [] i d h = absurd (not-suc-le-zero h)
  front_at (suc n) (x ∷ l) zero d h = (omega arith, refl)
  front_at (suc n) (x ∷ l) (suc i) d h = let r = front_at n l i d (le_of_suc-le-suc h) in (omega (arith, r.0), r.1)

  pub get_d_any : (l : List A) (i : ℕ) (d e : A) → i < length l → get_or l i d ≡ get_or l i e
  get_d_any [] i d e h = absurd (not-suc-le-zero h)
  get_d_any (x ∷ l) zero d e h = refl
  get_d_any (x ∷ l) (suc i) d e h = get_d_any l i d e (le_of_suc-le-suc h)

  pub get_or_in : (n : ℕ) (d e f : A) (l : List A) (i : ℕ) → i < length l → length l ≤ n → get_or (vec n d l) i e ≡ get_or l i f
  get_or_in n d e f l i h k =
      let v : length (vec n d l) ≡ n = length-vec n d l in
      get_d_any (vec n d l) i e d (omega arith) ∙ get_or-vec n d l i (omega arith) ∙ get_d_any l i d f h

module _ {A B : Type 0} (f : A → B) where
  pub map-vec : (n : ℕ) (d : A) (l : List A) → map f (vec n d l) ≡ vec n (f d) (map f l)
  unfolding vec
  map-vec zero d l = refl
  map-vec (suc n) d [] = ap (λ (r : List B). f d ∷ r) (map-vec n d [])
  map-vec (suc n) d (x ∷ l) = ap (λ (r : List B). f x ∷ r) (map-vec n d l)

  pub map-append : (a b : List A) → map f (a ++ b) ≡ map f a ++ map f b
  map-append [] b = refl
  map-append (x ∷ a) b = ap (λ (r : List B). f x ∷ r) (map-append a b)

pub rows-spread : (rs : List RowOf) → map rows.from (map spread_row rs) ≡ map row_from rs
rows-spread [] = refl
rows-spread (r ∷ rs) = ap (λ (l : List Row). row_from r ∷ l) (rows-spread rs)

-- the slots of a matrix that a call made
pub slots_is : (rs : List RowOf) → map rows.from (vec rows_max zero_given (map spread_row rs)) ≡ vec rows_max zero_row (map row_from rs)
slots_is rs = map-vec rows.from rows_max zero_given (map spread_row rs) ∙ ap (vec rows_max zero_row) (rows-spread rs)

-- ---- field by field

pub record Held (m : Matrix) (ns : List ℕ) (rs : List RowOf) : Type 0 where
  pub value : m.value ≡ vec columns_max 0 ns
  pub columns : m.columns ≡ length ns
  pub rows : m.rows ≡ vec rows_max zero_row (map row_from rs)
  pub count : m.count ≡ length rs

pub held_is : (m : Matrix) (ns : List ℕ) (rs : List RowOf) → Held m ns rs → m ≡ matrix_from (record { nets = ns; rows = rs })
held_is m ns rs h = matrix_path m (matrix_from (record { nets = ns; rows = rs })) h.value h.columns (h.rows ∙ sym (slots_is rs)) h.count

pub clean_held : (m : Matrix) → Clean m → Held m (view m).nets (view m).rows
clean_held m c =
    let e = c.tidy in
    record {
      value = ap (λ (x : Matrix). x.value) e;
      columns = ap (λ (x : Matrix). x.columns) e;
      rows = ap (λ (x : Matrix). x.rows) e ∙ slots_is (view m).rows;
      count = ap (λ (x : Matrix). x.count) e;
    }

module _ (m : Matrix) (c : Clean m) where
  pub clean_wide : m.columns ≤ columns_max
  clean_wide = omega (arith, (clean_held m c).columns, c.sized.wide)

  pub clean_tall : m.count ≤ rows_max
  clean_tall = omega (arith, (clean_held m c).count, c.sized.tall)

-- as many slots are in use as the count says
pub clean_used : (m : Matrix) → Clean m → length (take m.count m.rows) ≡ m.count
clean_used m c =
    let l = ap length (clean_held m c).rows ∙ length-vec rows_max zero_row (map row_from (view m).rows) in
    length-take-le m.count m.rows (omega (arith, l, clean_tall m c))

-- ---- a row of it

pub sized_at : (w : ℕ) (rs : List RowOf) (i : ℕ) → SizedRows w rs → i < length rs → (length (get_or rs i none_row).pattern ≡ w) × (length (get_or rs i none_row).rules ≤ rules_max)
unfolding SizedRows
sized_at w [] i s h = absurd (not-suc-le-zero h)
sized_at w (r ∷ rs) zero s h = (s.0, s.1)
sized_at w (r ∷ rs) (suc i) s h = sized_at w rs i s.2 (le_of_suc-le-suc h)

pub view_row_lem : (q : RowOf) → length q.pattern ≤ columns_max → length q.rules ≤ rules_max → rows.view (row_from q) ≡ q
view_row_lem q h k = λ i. record { pattern = take-vec columns_max 0 q.pattern h i; rules = take-vec rules_max 0 q.rules k i }

module _ (m : Matrix) (c : Clean m) (i : ℕ) (b : i < m.count) where
  abbrev pub row : RowOf
  row = get_or (view m).rows i none_row

  below : i < length (view m).rows
  below = omega (arith, (clean_held m c).count)

  pub row_at : get_or m.rows i past ≡ row_from row
  row_at =
      let t = c.sized.tall in
      let l : length (map row_from (view m).rows) ≡ length (view m).rows = length-map (view m).rows row_from in
      let k = below in
      ap (λ (r : List Row). get_or r i past) (clean_held m c).rows
      ∙ get_or_in rows_max zero_row past past (map row_from (view m).rows) i (omega arith) (omega arith)
      ∙ get_d_map row_from (view m).rows i none_row past k

  pub row_wide : length row.pattern ≡ m.columns
  row_wide = (sized_at (length (view m).nets) (view m).rows i c.sized.each below).0 ∙ sym (clean_held m c).columns

  pub row-few : length row.rules ≤ rules_max
  row-few = (sized_at (length (view m).nets) (view m).rows i c.sized.each below).1

  pub row-view : rows.view (get_or m.rows i past) ≡ row
  row-view = ap rows.view row_at ∙ view_row_lem row (omega (arith, row_wide, clean_wide m c)) row-few

  pub row_tidy : rows.Tidy (get_or m.rows i past)
  row_tidy = row_at ∙ ap row_from (sym row-view)

  pub row_long : (get_or m.rows i past).len ≡ m.columns
  row_long = ap (λ (r : Row). r.len) row_at ∙ row_wide

  pub row_pattern : take m.columns (get_or m.rows i past).pattern ≡ row.pattern
  row_pattern = ap (λ (n : ℕ). take n (get_or m.rows i past).pattern) (sym row_long) ∙ ap (λ (r : RowOf). r.pattern) row-view
