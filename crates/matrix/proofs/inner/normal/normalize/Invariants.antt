use lib.ListN.{drop}
use mathlib.Core.Option.{none}
use mathlib.Core.Path.{◌≡◌}
use Rattle.matrix.proofs.NormalRows.{Sofar}
use Rattle.matrix.specs.Mat.{asked, view}
use Rattle.rules.specs.Steps.{walk_rows}
use Rattle.matrix.proofs.inner.normal.normalize.Given as goal

abbrev pub invariant-loop-j : goal.invariant-loop-j
invariant-loop-j l =
    record {
      value : l.m.value ≡ l.initial.m.value;
      columns : l.m.columns ≡ l.initial.m.columns;
      count : l.m.count ≡ l.initial.m.count;
      sofar : Sofar (view l.initial.m).nets (walk_rows (view l.initial.m).nets none (view l.initial.m).rows) (walk_rows (view l.initial.m).nets (asked l.last) (drop l.j (view l.initial.m).rows)) l.initial.m.rows l.m.rows l.used l.j l.k;
    }
