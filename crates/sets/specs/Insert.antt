-- What the one insertion says. Assumes nothing: this is a definition.
use Rattle.std.specs.Prelude.{ℕ, length, List, ◌≡◌}
use Rattle.lists.specs.Vec.{vec}
use Rattle.rules.specs.Matrix.{ins}

-- an array v that holds the n of l, and 0 after them, becomes w, which holds those of `ins x l`, r in number
abbrev pub Inserted : List ℕ → ℕ → ℕ → List ℕ → ℕ → Type 0
Inserted v n x w r = (l : List ℕ) → v ≡ vec (length v) 0 l → n ≡ length l → (w ≡ vec (length v) 0 (ins x l)) × (r ≡ length (ins x l))
