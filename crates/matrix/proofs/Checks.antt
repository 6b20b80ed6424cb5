-- What the check of a matrix cites: what is left of the slots in use decides, and the tests of the struct are those of the matrix that it is.
-- Assumes nothing.
use Rattle.std.proofs.Common.{◌≡◌, ◌∙◌, ◌&&◌, ap, Bool, eqb, leb, List, [], ◌∷◌, ltb, map, not, refl, suc, sym, take, zero, ℕ}
use Rattle.lists.specs.Lists.{all}
use Rattle.matrix.specs.declared.Faults.{Faults}
use Rattle.matrix.specs.declared.Matrix.{Matrix}
use Rattle.matrix.specs.Faults.{faults_of, few, formed, named, shaped}
use Rattle.matrix.specs.Mat.{given, view}
use Rattle.rows.specs.declared.Row.{Row}
use Rattle.rows.specs.Rows as rows
use Rattle.rules.specs.Bounds.{columns_max, rows_max, rules_max}
use Rattle.rules.specs.Given.{formed_row, GivenRow, view_row}
use Rattle.rules.specs.Matrix.{Row as RowOf}
use Rattle.rules.specs.Nets.{is_name, is_net}
use Rattle.rules.specs.Refusals.{all_low}

-- ---- the struct's tests

module _ {A B : Type 0} where
  pub all_map : (f : B → Bool) (g : A → B) (l : List A) → all f (map g l) ≡ all (λ (x : A). f (g x)) l
  all_map f g [] = refl
  all_map f g (x ∷ l) = ap (λ (b : Bool). f (g x) && b) (all_map f g l)

  pub take-map : (g : A → B) (n : ℕ) (l : List A) → take n (map g l) ≡ map g (take n l)
  take-map g zero l = refl
  take-map g (suc n) [] = refl
  take-map g (suc n) (x ∷ l) = ap (λ (r : List B). g x ∷ r) (take-map g n l)

pub rows_viewed : (m : Matrix) → (view m).rows ≡ map rows.view (take m.count m.rows)
rows_viewed m = ap (map view_row) (take-map rows.given m.count m.rows) ∙ twice (take m.count m.rows)
  where
    twice : (l : List Row) → map view_row (map rows.given l) ≡ map rows.view l
    twice [] = refl
    twice (r ∷ l) = ap (λ (s : List RowOf). rows.view r ∷ s) (twice l)

-- a test of the rows that it is
pub all_viewed : (f : RowOf → Bool) (m : Matrix) → all f (view m).rows ≡ all (λ (r : Row). f (rows.view r)) (take m.count m.rows)
all_viewed f m = ap (all f) (rows_viewed m) ∙ all_map f rows.view (take m.count m.rows)

-- a test of the slots
pub all-given : (f : GivenRow → Bool) (m : Matrix) → all f (take m.count (given m).rows) ≡ all (λ (r : Row). f (rows.given r)) (take m.count m.rows)
all-given f m = ap (all f) (take-map rows.given m.count m.rows) ∙ all_map f rows.given (take m.count m.rows)

-- ---- the six conditions, of what the code finds of the nets and of the rows in use

pub faults_path : (f g : Faults) → f.form ≡ g.form → f.columns ≡ g.columns → f.rows ≡ g.rows → f.shape ≡ g.shape → f.net ≡ g.net → f.rules ≡ g.rules → f ≡ g
faults_path f g p q r s t u = λ i. record { form = p i; columns = q i; rows = r i; shape = s i; net = t i; rules = u i }

module _ (m : Matrix) where
  abbrev used : List Row
  used = take m.count m.rows

  pub faults_is : (ns : List ℕ) (rs : List Row) (a b c d : Bool) → ns ≡ take m.columns m.value → rs ≡ used
      → a ≡ (all is_net ns && all formed rs) → b ≡ all (shaped m.columns) used → c ≡ (all_low ns && all named rs) → d ≡ all few used
      → record { form = not a; columns = ltb columns_max m.columns; rows = ltb rows_max m.count; shape = not b; net = not c; rules = not d } ≡ faults_of (given m)
  faults_is ns rs a b c d n r h j k l =
      faults_path _ _
      (rw (h, n, r, all_viewed formed_row m))
      refl
      refl
      (ap not (j ∙ sym (all-given (λ (r : GivenRow). eqb r.len m.columns) m)))
      (rw (k, n, r, all_viewed (λ (r : RowOf). all is_name r.rules) m))
      (ap not (l ∙ sym (all-given (λ (r : GivenRow). leb r.count rules_max) m)))
