-- Text as bytes. Assumes nothing: these are definitions.
use Prim.Native.Char.{Char, code}
use Rattle.std.specs.Prelude.{ℕ, List, [], ◌∷◌}
use Prim.Native.String.{String, [] as end, ◌∷◌ as ◌then◌}

-- the ASCII codes of a fixed text
abbrev pub byte : Char → ℕ
byte c = code c

unfoldable pub bytes : String → List ℕ
bytes end = []
bytes (c then s) = code c ∷ bytes s

abbrev pub LF : ℕ
LF = 10
