-- How a struct holds the outputs. Assumes nothing: these are definitions.
use Rattle.std.specs.Prelude.{length, [], List, ℕ}
use Rattle.lists.specs.Vec.{vec}
use Rattle.matrix.specs.declared.Outputs.{Outputs}
use Rattle.rules.specs.Bounds.{outputs_max}
use Rattle.rules.specs.Refuse.{done, Outcome, refused}

-- 01's number, 0 where accepted, with the nets; every slot past the count is 0
abbrev pub outputs_from : Outcome (List ℕ) → Outputs
outputs_from (done l) = record { no = 0; nets = vec outputs_max 0 l; count = length l }
outputs_from (refused n) = record { no = n; nets = vec outputs_max 0 []; count = 0 }
