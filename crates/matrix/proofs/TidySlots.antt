-- Every matrix that a function is handed has as many slots as its arrays have places. Assumes nothing.
use denote.Array.{each}
use denote.Shadow.{shadow}
use lib.ListN.{length, length-map}
use mathlib.Core.List.{[], ◌∷◌, List, map}
use mathlib.Core.Path.{◌∙◌, ◌≡◌, sym}
use mir.Val.{Val}
use Rattle.matrix.specs.contracts.Matrix.{the_row}
use Rattle.matrix.specs.declared.Matrix.{Matrix}
use Rattle.matrix.specs.Mat.{given}
use Rattle.rows.specs.contracts.Row.{the_row as row}
use Rattle.rows.specs.declared.Row.{Row}
use Rattle.rows.specs.Rows as rows
use Rattle.rules.specs.Bounds.{rows_max}
use Rattle.rules.specs.Given.{SlotRows, Slots}

slot_rows : (l : List Row) (us : List Val) → shadow (each row.Denot row.own_val l us) → SlotRows (map rows.given l)
unfolding SlotRows
slot_rows [] us s = tt
slot_rows (r ∷ l) [] s = absurd s
slot_rows (r ∷ l) (u ∷ us) s =
    let g = s.0.1.1 in
    let k = g.1.1.0.1 in
    (g.0.1.0.1, k.1.0.1.0.1, slot_rows l us s.1)

pub slots : (m : Matrix) (vs : List Val) → shadow (the_row.own_val m vs) → Slots (given m)
slots m vs s =
    let g = s.1.1 in
    let r = g.1.1.0.1 in
    record {
      value = g.0.1.0.1;
      rows = length-map m.rows rows.given ∙ r.0.1;
      each = slot_rows m.rows _ r.1;
    }

pub rows_long : (m : Matrix) (vs : List Val) → shadow (the_row.own_val m vs) → length m.rows ≡ rows_max
rows_long m vs s = sym (length-map m.rows rows.given) ∙ (slots m vs s).rows
