use Rattle.std.proofs.Common.{◌≡◌, ◌++◌, take}
use Rattle.print.specs.Texts.{rows_text}
use Rattle.print.proofs.inner.put.Text.matrix.Given as goal

abbrev pub invariant-loop-r : goal.invariant-loop-r
invariant-loop-r g l = l.self ≡ l.initial.self ++ rows_text (take l.r-index (take l.m.count l.m.rows))
