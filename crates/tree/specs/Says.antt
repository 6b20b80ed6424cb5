-- A test and what it tests. Assumes nothing: these are definitions.
use Rattle.std.specs.Prelude.{Bool, true, false, ◌≡◌}

-- r says whether P
pub record Says (r : Bool) (P : Type 0) : Type 0 where
  pub yes : r ≡ true → P
  pub no : r ≡ false → P → ⊥
