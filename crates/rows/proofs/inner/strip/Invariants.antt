use lib.ListN.{length}
use Rattle.lists.specs.Keep.{Kept}
use Rattle.rows.proofs.inner.strip.Given as goal

abbrev pub invariant-loop-goes : goal.invariant-loop-goes
invariant-loop-goes g l =
    record {
      can : (goal.iterator-loop-goes g).can_next l.goes-iterator;
      finite : (goal.iterator-loop-goes g).is_finite l.goes-iterator;
      kept : Kept g.row.N l.fn.filler l.gone l.items (length l.yielded) l.made l.k;
    }
