use Rattle.std.proofs.Common.{◌≡◌, ◌++◌, take, drop, length}
use Rattle.text.specs.Scan.{pattern_at}
use Rattle.text.proofs.inner.parse.Line.pattern.Given as goal

abbrev pub invariant-loop-i : goal.invariant-loop-i
invariant-loop-i l = (length l.initial.t-items ≡ l.self.columns) × (l.t-items ≡ take l.i (pattern_at l.self.columns l.self.bytes.now) ++ drop l.i l.initial.t-items)
