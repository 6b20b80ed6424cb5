use Rattle.std.specs.Prelude.{◌≡◌, ◌≤◌, drop, length, take}
use Rattle.dispatch.specs.Choice.{upto}
use Rattle.lists.specs.Vec.{vec}
use Rattle.matrix.specs.Mat.{view}
use Rattle.rules.specs.Bounds.{columns_max}
use Rattle.rules.specs.Dispatch.{count_x}
use Rattle.dispatch.proofs.column_of.Given as goal

abbrev pub invariant-loop-row : goal.invariant-loop-row
invariant-loop-row l =
    let rest = l.row-iterator.iter.rest.now in
    (length rest ≤ l.fn.m.count) × (rest ≡ take (length rest) l.fn.m.rows) × (l.counts ≡ vec columns_max 0 (upto (count_x (drop (length rest) (view l.fn.m).rows)) l.n))
