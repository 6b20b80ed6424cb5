use lib.ListN.{take}
use mathlib.Core.List.{◌++◌, map}
use mathlib.Core.Path.{◌≡◌}
use Rattle.lists.specs.Vec.{vec}
use Rattle.matrix.proofs.StepHeld.{zero_row}
use Rattle.matrix.specs.Mat.{view}
use Rattle.rows.specs.Rows as rows
use Rattle.rows.specs.Rows.{row_from}
use Rattle.rules.specs.Bounds.{rows_max}
use Rattle.rules.specs.Matrix.{joined}
use Rattle.matrix.proofs.inner.merge.add_joined.Given as goal

abbrev pub invariant-loop-i : goal.invariant-loop-i
invariant-loop-i l =
    record {
      rows : l.made.rows ≡ vec rows_max zero_row (map row_from (view l.initial.made).rows ++ take l.i (map row_from (map (joined (rows.view l.row)) (view l.fn.child).rows)));
      value : l.made.value ≡ l.initial.made.value;
      columns : l.made.columns ≡ l.initial.made.columns;
      count : l.made.count ≡ l.initial.made.count;
    }
