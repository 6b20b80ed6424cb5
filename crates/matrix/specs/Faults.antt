-- What is wrong with a matrix handed in, of the structs. Assumes nothing: these are definitions.
use Rattle.std.specs.Prelude.{eqb, leb, Bool, cond, false, ◌||◌, [], ◌∷◌, ◌≡◌, ◌+◌, ℕ}
use Rattle.lists.specs.Lists.{all}
use Rattle.matrix.specs.declared.Faults.{Faults}
use Rattle.matrix.specs.declared.Matrix.{Matrix}
use Rattle.matrix.specs.Mat.{given}
use Rattle.rows.specs.declared.Row.{Row}
use Rattle.rows.specs.Rows as rows
use Rattle.rules.specs.Bounds.{net_max, rules_max}
use Rattle.rules.specs.Given.{bad_columns, bad_form, bad_net, bad_rows, bad_rules, bad_shape, formed_row, Given}
use Rattle.rules.specs.Nets.{cell, is_name, is_net}
use Rattle.rules.specs.Refuse.{COLUMNS, FORM, NET, ROWS, RULES, SHAPE, Table}

-- ---- the tests of one row

abbrev pub formed : Row → Bool
formed r = formed_row (rows.view r)

abbrev pub shaped : ℕ → Row → Bool
shaped n r = eqb r.len n

abbrev pub named : Row → Bool
named r = all is_name (rows.view r).rules

abbrev pub few : Row → Bool
few r = leb r.rules.count rules_max

-- ---- all conditions of the matrix by itself

abbrev pub faults_of : Given → Faults
faults_of g =
    record { form = bad_form g; columns = bad_columns g; rows = bad_rows g; shape = bad_shape g; net = bad_net g; rules = bad_rules g }

-- those of either
abbrev pub either : Faults → Faults → Faults
either f g =
    record { form = f.form || g.form; columns = f.columns || g.columns; rows = f.rows || g.rows; shape = f.shape || g.shape; net = f.net || g.net; rules = f.rules || g.rules }

-- with the number that each is
abbrev pub table : Faults → Table
table f = (FORM, f.form) ∷ (COLUMNS, f.columns) ∷ (ROWS, f.rows) ∷ (SHAPE, f.shape) ∷ (NET, f.net) ∷ (RULES, f.rules) ∷ []

-- none of the four that say its size
pub record Fits (m : Matrix) : Type 0 where
  pub columns : bad_columns (given m) ≡ false
  pub rows : bad_rows (given m) ≡ false
  pub shape : bad_shape (given m) ≡ false
  pub rules : bad_rules (given m) ≡ false

-- a number that codes no net is as good as the first that codes none: no rule of a formed matrix is either
abbrev pub clipped : ℕ → ℕ
clipped n = cond (is_net n) n (cell net_max + 1)
