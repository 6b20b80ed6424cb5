-- Updates as they are lent, and what is found among them, in the words of the definitions. Assumes nothing: these are definitions.
use Rattle.std.specs.Prelude.{ℕ, Bool, List, Option, Some, None, ◌≡◌}
use Rattle.std.specs.Borrow.{Bor}
use Rattle.std.proofs.Math.Option as Math
use Rattle.muxes.specs.declared.inner.Update.{Update}
use Rattle.muxes.specs.declared.inner.Updates.{Updates}
use Rattle.rules.specs.Emit.{updates_of}
use Rattle.rules.specs.Emit as Emit

-- an update: its net and its bits
abbrev pub update : Update → Emit.Update
update u = record { target = u.target; bits = u.bits.now }

-- the updates, one after the other
abbrev pub lent : Updates → List Emit.Update
lent u = updates_of u.nets.now u.widths.now u.bits.now

-- the bits that are found, if any
abbrev pub found : Option (Bor (List ℕ)) → Math.Option (List ℕ)
found (Some b) = Math.some b.now
found None = Math.none

-- a call on an update answers what p says of it
abbrev pub Tests : (Update → Bool → Type 0) → (Emit.Update → Bool) → Type 0
Tests post p = (u : Update) (b : Bool) → post u b → b ≡ p (update u)
