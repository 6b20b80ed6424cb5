-- A text in lines: lines of which each is a line wherever it stands are those of their text, and the lines of a text together are that text. Assumes nothing.
use Prim.Native.Nat.{ℕ, ◌<◌}
use mathlib.Core.Bool.{Bool, true, false, cond}
use mathlib.Core.List.{List, [], ◌∷◌, ◌++◌}
use mathlib.Core.Path.{◌≡◌, refl, ap, ◌∙◌}
use native.Mathlib.Omega.{arith}
use borrow.Author.Tests.{ne_eqb}
use lib.Dec.{eqb}
use Rattle.rules.specs.Bytes.{LF}
use Rattle.rules.specs.Matrix.{Above}
use Rattle.rules.specs.Print.{together}
use Rattle.rules.specs.Read.{grown, lines}

-- a line wherever it stands
abbrev pub Line : List ℕ → Type 0
Line q = (t : List ℕ) → lines (q ++ t) ≡ q ∷ lines t

pub line_end : Line (LF ∷ [])
unfolding lines
line_end t = refl

front_of : (x : ℕ) (q t : List ℕ) → LF < x → lines (q ++ t) ≡ q ∷ lines t → lines (x ∷ (q ++ t)) ≡ (x ∷ q) ∷ lines t
unfolding lines
front_of x q t h e = rw (ne_eqb x LF (λ p. omega arith), e)

pub line-front : (p q : List ℕ) → Above LF p → Line q → Line (p ++ q)
unfolding Above
line-front [] q a h = h
line-front (x ∷ p) q a h = λ t. front_of x (p ++ q) t a.0 (line-front p q a.1 h t)

-- each of them is one
unfoldable pub Lines : List (List ℕ) → Type 0
Lines [] = Unit {0}
Lines (l ∷ ls) = Line l × Lines ls

pub lines-together : (ls : List (List ℕ)) → Lines ls → lines (together ls) ≡ ls
unfolding Lines lines
lines-together [] h = refl
lines-together (l ∷ ls) h = h.0 (together ls) ∙ ap (λ (k : List (List ℕ)). l ∷ k) (lines-together ls h.1)

pub together-lines : (s : List ℕ) → together (lines s) ≡ s
unfolding lines
together-lines [] = refl
together-lines (x ∷ s) = go (eqb x LF) (lines s) (together-lines s)
  where
    go : (b : Bool) (ls : List (List ℕ)) → together ls ≡ s → together (cond b ((x ∷ []) ∷ ls) (grown x ls)) ≡ x ∷ s
    go true ls e = ap (λ (l : List ℕ). x ∷ l) e
    go false [] e = ap (λ (l : List ℕ). x ∷ l) e
    go false (l ∷ ls) e = ap (λ (k : List ℕ). x ∷ k) e
