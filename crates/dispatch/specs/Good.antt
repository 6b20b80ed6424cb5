-- What the recursion is given, and the answer as 01 gives it. Assumes nothing: these are definitions.
use Rattle.std.specs.Prelude.{true, Bool, cond, eqb, List, ◌≡◌, ◌<◌, ℕ, Result}
use Rattle.lists.specs.Lists.{mem}
use Rattle.matrix.specs.declared.Matrix.{Matrix}
use Rattle.matrix.specs.Mat.{Clean, view}
use Rattle.rules.proofs.Leafs.{Named}
use Rattle.rules.specs.Matrix.{Matrix as MatrixOf}
use Rattle.rules.specs.Nets.{first_mux}
use Rattle.rules.specs.Refuse.{CATCH, Outcome}
use Rattle.rules.specs.Refused.{told}
use Rattle.rules.specs.Tree.{fine_leaf}
use Rattle.rules.specs.declared.refusal.Refusal.{Refusal}
use Rattle.tree.specs.declared.Built.{Built}

abbrev pub Fine : List ℕ → Type 0
Fine rs = fine_leaf rs ≡ true

-- nets up to 9,999, and rules that a leaf may have
pub record Plain (m : MatrixOf) : Type 0 where
  pub low : (n : ℕ) → mem n m.nets ≡ true → n < first_mux
  pub leaves : Named Fine m.rows

-- a matrix that a call made, and plain: nothing more is checked on the way down
pub record Good (m : Matrix) : Type 0 where
  pub clean : Clean m
  pub plain : Plain (view m)

-- root place and size, or the number
abbrev pub built_read : Result Built Refusal → Outcome (ℕ × ℕ)
built_read r = told (λ (b : Built). (b.root.0, b.size)) r

-- the number that is known before a tree is built, of that of the matrix with its enable and of whether its last row is all X; 0 where there is none
abbrev pub door : ℕ → Bool → ℕ
door n k = cond (eqb n 0) (cond k 0 CATCH) n
