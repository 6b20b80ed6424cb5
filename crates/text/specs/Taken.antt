-- What is taken from a line, as the structs say it, where the line is taken. Assumes nothing: these are definitions.
use Rattle.std.specs.Prelude.{ℕ, cond, List, [], Option, Some, None}
use Rattle.rows.specs.Rows.{nets_from, row_from}
use Rattle.rows.specs.declared.Nets.{Nets}
use Rattle.rows.specs.declared.Row.{Row as Struct}
use Rattle.rules.specs.Matrix.{Row}
use Rattle.rules.specs.Read.{is_row_line, is_value_line, nets_in, row_in}

abbrev pub value_taken : List ℕ → Option Nets
value_taken l = cond (is_value_line l) (Some (nets_from (nets_in l))) None

abbrev pub bare : Row
bare = record { pattern = []; rules = [] }

abbrev pub row_taken : ℕ → List ℕ → Option Struct
row_taken w l = cond (is_row_line w l) (Some (row_from (row_in l))) None
