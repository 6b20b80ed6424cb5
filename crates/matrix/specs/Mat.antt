-- How a struct holds a matrix. Assumes nothing: these are definitions.
use Rattle.std.specs.Prelude.{map, ◌≡◌, Bool, List, ℕ, Option, Some, None}
use Rattle.lists.specs.Lists.{kept}
use Rattle.lists.specs.Vec.{vec}
use Rattle.rules.specs.Bounds.{columns_max}
use Rattle.std.proofs.Math.Option.{Option as Last, none, some}
use Rattle.rows.specs.declared.Row.{Row}
use Rattle.rows.specs.Rows as rows
use Rattle.rules.specs.Answers.{Made as MadeOf}
use Rattle.rules.specs.Given.{Given, Sized, spread}
use Rattle.rules.specs.Given.{view as view_of}
use Rattle.rules.specs.Matrix.{Matrix as MatrixOf}
use Rattle.matrix.specs.declared.Made.{Made}
use Rattle.matrix.specs.declared.Matrix.{Matrix}

-- the slots and counts of the struct, and back
abbrev pub given : Matrix → Given
given m = record { value = m.value; columns = m.columns; rows = map rows.given m.rows; count = m.count }

abbrev pub from : Given → Matrix
from g = record { value = g.value; columns = g.columns; rows = map rows.from g.rows; count = g.count }

-- the matrix that it is
abbrev pub view : Matrix → MatrixOf
view m = view_of (given m)

-- the pattern of the last row, where there is one
abbrev pub asked : Option Row → Last (List ℕ)
asked None = none
asked (Some r) = some (rows.view r).pattern

-- a row whose columns are stripped, of which k stay
abbrev pub stripped : List Bool → ℕ → Row → Row
stripped gs k r = record { pattern = vec columns_max 0 (kept gs (rows.view r).pattern); len = k; rules = r.rules }

-- a matrix with 0 past every count
abbrev pub matrix_from : MatrixOf → Matrix
matrix_from m = from (spread m)

-- 01's number, 0 where accepted, with the matrix
abbrev pub made_from : MadeOf → Made
made_from a = record { no = a.number; matrix = from a.matrix }

-- a matrix that a call made: within the bounds, and 0 past every count
-- It is asked as a fact and is no type's invariant: an operation writes slot by slot, and between two writes its matrix is not clean.
pub record Clean (m : Matrix) : Type 0 where
  pub sized : Sized (view m)
  pub tidy : m ≡ matrix_from (view m)
