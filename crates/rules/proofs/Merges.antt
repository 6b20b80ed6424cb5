-- What a merge means. Assumes nothing.
use Prim.Native.Nat.{ℕ}
use mathlib.Core.Path.{◌≡◌, refl, sym, ap, ◌∙◌}
use mathlib.Core.List.{List, [], ◌∷◌, ◌++◌, map}
use mathlib.Core.Bool.{Bool, true, false, cond, ◌&&◌, and_assoc, and-true}
use mathlib.Core.Option.{some}
use native.Mathlib.Omega.{arith}
use lib.ListN.{length, replicate}
use Rattle.lists.specs.Bools.{by_bool}
use Rattle.lists.specs.Lists.{mem}
use Rattle.rules.proofs.Enables.{all_x-replicate}
use Rattle.rules.proofs.Normal.{all_x-matches}
use Rattle.rules.specs.Matrix.{Matrix, Row, alone, joined, merge, merge_rows, union}
use Rattle.rules.specs.Meaning.{Setting, Shaped, first_match, first_row, fits, matches, value, with_child}

matches-join : (f : ℕ → ℕ) (ns ms ns' ms' : List ℕ) → length ms ≡ length ns → matches f (ns ++ ns') (ms ++ ms') ≡ (matches f ns ms && matches f ns' ms')
unfolding matches
matches-join f [] [] ns' ms' l = refl
matches-join f [] (m ∷ ms) ns' ms' l = absurd (omega arith)
matches-join f (n ∷ ns) [] ns' ms' l = absurd (omega arith)
matches-join f (n ∷ ns) (m ∷ ms) ns' ms' l = rw (matches-join f ns ms ns' ms' (omega arith)) (sym (and_assoc (fits m (f n)) (matches f ns ms) (matches f ns' ms')))

-- a parent row that matches, with the child's rows: the child's first
joined_on : (f : ℕ → ℕ) (ns cs : List ℕ) (r : Row) (c : List ℕ) (crs rest : List Row) → length r.pattern ≡ length ns → matches f ns r.pattern ≡ true → first_row f cs crs ≡ some c
    → first_row f (ns ++ cs) (map (joined r) crs ++ rest) ≡ some (union r.rules c)
unfolding first_row
joined_on f ns cs r c [] rest l h e = let z : ◌≡◌ {A = ℕ} 0 1 = cc in absurd (omega arith)
joined_on f ns cs r c (d ∷ crs) rest l h e =
    let one = joined_on f ns cs r c crs rest l h in
    by_bool (matches f cs d.pattern)
    (λ p.
    let q : some d.rules ≡ some c = rw p at e in
    let s : d.rules ≡ c = cc in
    rw (matches-join f ns r.pattern cs d.pattern l, h, p, s))
    (λ p. rw (matches-join f ns r.pattern cs d.pattern l, h, p) (one (rw p at e)))

joined-off : (f : ℕ → ℕ) (ns cs : List ℕ) (r : Row) (crs rest : List Row) → length r.pattern ≡ length ns → matches f ns r.pattern ≡ false
    → first_row f (ns ++ cs) (map (joined r) crs ++ rest) ≡ first_row f (ns ++ cs) rest
unfolding first_row
joined-off f ns cs r [] rest l h = refl
joined-off f ns cs r (d ∷ crs) rest l h = rw (matches-join f ns r.pattern cs d.pattern l, h) (joined-off f ns cs r crs rest l h)

alone-matches : (f : ℕ → ℕ) (ns cs : List ℕ) (r : Row) → length r.pattern ≡ length ns → matches f (ns ++ cs) (alone (length cs) r).pattern ≡ matches f ns r.pattern
alone-matches f ns cs r l =
    matches-join f ns r.pattern cs (replicate (length cs) 2) l
    ∙ ap (λ (b : Bool). matches f ns r.pattern && b) (all_x-matches f cs (replicate (length cs) 2) (all_x-replicate (length cs))) ∙ and-true (matches f ns r.pattern)

merged : (f : ℕ → ℕ) (t : ℕ) (ns : List ℕ) (child : Matrix) (c : List ℕ) (rs : List Row) → Shaped (length ns) rs → first_row f child.nets child.rows ≡ some c
    → first_row f (ns ++ child.nets) (merge_rows t child rs) ≡ with_child t (first_row f ns rs) c
unfolding merge_rows Shaped first_row
merged f t ns child c [] s e = refl
merged f t ns child c (r ∷ rs) s e =
    let one = merged f t ns child c rs s.1 e in
    by_bool (mem t r.rules)
    (λ i. by_bool (matches f ns r.pattern)
    (λ p. rw (i, p) (joined_on f ns child.nets r c child.rows (merge_rows t child rs) s.0 p e ∙ sym (ap (λ (b : Bool). some (cond b (union r.rules c) r.rules)) i)))
    (λ p. rw (i, p) (joined-off f ns child.nets r child.rows (merge_rows t child rs) s.0 p ∙ one)))
    (λ i. by_bool (matches f ns r.pattern)
    (λ p. rw (i, alone-matches f ns child.nets r s.0, p, i))
    (λ p. rw (i, alone-matches f ns child.nets r s.0, p) one))

pub merge-first : (σ : Setting) (t : ℕ) (parent child : Matrix) (c : List ℕ) → Shaped (length parent.nets) parent.rows → first_match σ child ≡ some c
    → first_match σ (merge t parent child) ≡ with_child t (first_match σ parent) c
merge-first σ t parent child c s e = merged (value σ) t parent.nets child c parent.rows s e
