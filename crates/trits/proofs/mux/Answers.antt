use Prim.Native.Nat.{◌+◌, ◌*◌}
use mathlib.Core.Path.{ap, ◌∙◌}
use native.Mathlib.Omega.{arith}
use Rattle.trits.proofs.Laws.{mux-read}
use Rattle.trits.specs.Codes.{cut}
use Rattle.trits.specs.Mux.{in_table}
use Rattle.trits.proofs.mux.Goals as goal

pub entry-requires : goal.entry-requires
entry-requires c = let a = c.args in omega (arith, in_table a.select a.one a.zero)

pub returns : goal.returns
returns c =
    let a = c.args in
    let k = 9 * c.from-s.result + 3 * c.from-a.result + c.from-b.result in
    c.trit.ensures ∙ ap cut c.entry.ensures ∙ mux-read a.select a.one a.zero k (omega arith)
