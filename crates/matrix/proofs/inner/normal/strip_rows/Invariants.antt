use mathlib.Core.Path.{◌≡◌}
use Rattle.lists.specs.Lists.{map_to}
use Rattle.matrix.specs.Mat.{stripped}
use Rattle.matrix.proofs.inner.normal.strip_rows.Given as goal

abbrev pub invariant-loop-i : goal.invariant-loop-i
invariant-loop-i l =
    record {
      rows : l.m.rows ≡ map_to (stripped l.gone l.columns) l.i l.initial.m.rows;
      value : l.m.value ≡ l.initial.m.value;
      count : l.m.count ≡ l.initial.m.count;
    }
