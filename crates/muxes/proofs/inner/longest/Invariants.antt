use Prim.Native.Nat.{◌+◌}
use lib.ListN.{drop, take}
use mathlib.Core.Bool.{true}
use mathlib.Core.Path.{◌≡◌}
use Rattle.rules.specs.Prefix.{among, prefix, prefix_from}
use Rattle.rules.specs.Store.{encode}
use Rattle.rules.specs.Tree.{Tree, fine}
use Rattle.muxes.proofs.inner.longest.Given as goal

abbrev pub invariant-loop-i : goal.invariant-loop-i
invariant-loop-i l = (among l.outputs (take l.i l.enables) ≡ true) × ((t : Tree) → l.store ≡ encode t → fine t ≡ true → l.i + prefix_from l.outputs t (take l.i l.enables) (drop l.i l.enables) ≡ prefix l.outputs t l.enables)
