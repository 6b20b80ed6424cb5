-- The struct, its slots and the matrix that it is: there and back. Assumes nothing.
use mathlib.Core.List.{List, [], ◌∷◌, map}
use mathlib.Core.Path.{◌≡◌, refl, sym, ap, ◌∙◌, subst}
use Rattle.rows.specs.Rows as rows
use Rattle.rows.specs.declared.Row.{Row}
use Rattle.rules.proofs.Givens.{view-spread}
use Rattle.rules.specs.Given.{Given, GivenRow, Sized, spread}
use Rattle.rules.specs.Matrix.{Matrix as MatrixOf}
use Rattle.matrix.specs.Mat.{Clean, from, given, matrix_from, view}
use Rattle.matrix.specs.declared.Matrix.{Matrix}

rows-given : (rs : List GivenRow) → map rows.given (map rows.from rs) ≡ rs
rows-given [] = refl
rows-given (r ∷ rs) = ap (λ (l : List GivenRow). r ∷ l) (rows-given rs)

rows-from : (rs : List Row) → map rows.from (map rows.given rs) ≡ rs
rows-from [] = refl
rows-from (r ∷ rs) = ap (λ (l : List Row). r ∷ l) (rows-from rs)

pub given-from : (g : Given) → given (from g) ≡ g
given-from g = λ i. record { value = g.value; columns = g.columns; rows = rows-given g.rows i; count = g.count }

-- so a refused call that hands back `from (given m)` hands back the very matrix
pub from-given : (m : Matrix) → from (given m) ≡ m
from-given m = λ i. record { value = m.value; columns = m.columns; rows = rows-from m.rows i; count = m.count }

pub view-from : (m : MatrixOf) → Sized m → view (matrix_from m) ≡ m
view-from m s = ap Rattle.rules.specs.Given.view (given-from (spread m)) ∙ view-spread m s

pub clean_from : (m : MatrixOf) → Sized m → Clean (matrix_from m)
clean_from m s = record { sized = subst Sized (sym (view-from m s)) s; tidy = ap matrix_from (sym (view-from m s)) }

-- an equation of a call's result is enough to use it as a clean matrix
pub clean_is : (r : Matrix) (m : MatrixOf) → Sized m → r ≡ matrix_from m → Clean r × (view r ≡ m)
clean_is r m s e = (subst Clean (sym e) (clean_from m s), ap view e ∙ view-from m s)

pub matrix_path : (r s : Matrix) → r.value ≡ s.value → r.columns ≡ s.columns → r.rows ≡ s.rows → r.count ≡ s.count → r ≡ s
matrix_path r s p q u w = λ i. record { value = p i; columns = q i; rows = u i; count = w i }
