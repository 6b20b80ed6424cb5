use mathlib.Core.List.{List, ◌++◌}
use mathlib.Core.Path.{ap, ◌∙◌}
use native.Mathlib.Omega.{arith}
use Prim.Native.Nat.{ℕ}
use Rattle.lists.specs.Vec.{vec}
use Rattle.rows.proofs.Laws.{take-replicate}
use Rattle.rules.specs.Bounds.{columns_max}
use Rattle.rows.proofs.inner.alone.Goals as goal

pub returns : goal.returns
returns c =
    let a = c.args in
    c.joined.ensures ∙ ap (λ (l : List ℕ). vec columns_max 0 (a.a.now ++ l)) (take-replicate a.w columns_max 2 (omega arith))
