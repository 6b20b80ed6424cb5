use lib.ListN.{drop}
use mathlib.Core.List.{map}
use mathlib.Core.Path.{◌≡◌}
use Prim.Native.Nat.{◌*◌, ◌+◌, ◌≤◌}
use Rattle.matrix.proofs.MergeCount.{shares}
use Rattle.rows.specs.Rows as rows
use Rattle.rules.specs.Bounds.{rows_max}
use Rattle.matrix.proofs.inner.merge.count_rows.Given as goal

abbrev pub invariant-loop-row : goal.invariant-loop-row
invariant-loop-row l =
    record {
      low : l.total ≤ l.row-index * (rows_max + 1);
      sum : l.total + shares l.t l.k (map rows.view (drop l.row-index l.row-items)) ≡ shares l.t l.k (map rows.view l.row-items);
    }
