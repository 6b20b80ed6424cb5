use lib.ListN.{take}
use mathlib.Core.List.{◌++◌}
use mathlib.Core.Path.{◌≡◌}
use Rattle.matrix.specs.Mat.{matrix_from, view}
use Rattle.rules.specs.Matrix.{merge_rows}
use Rattle.matrix.proofs.inner.merge.merge.Given as goal

abbrev pub invariant-loop-row : goal.invariant-loop-row
invariant-loop-row l = l.made ≡ matrix_from (record { nets = (view l.fn.m).nets ++ (view l.fn.child).nets; rows = merge_rows l.t (view l.fn.child) (take l.row-index (view l.fn.m).rows) })
