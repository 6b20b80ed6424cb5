use mathlib.Core.List.{List, ◌++◌}
use mathlib.Core.Path.{◌∙◌, ap}
use lib.ListN.{drop}
use Prim.Native.Nat.{ℕ}
use Rattle.matrix.proofs.StepLaws.{assumed, map_front}
use Rattle.rules.specs.Matrix.{swap}
use Rattle.matrix.proofs.inner.step.assume.Goals as goal

pub returns : goal.returns
returns c =
    let m = c.args.m in
    assumed m c.args.target c.args.value _ c.requires
    (ap (λ (l : List ℕ). l ++ drop m.columns m.value) c.assume_nets.ensures ∙ map_front (swap c.args.target c.args.value) m.columns m.value)
