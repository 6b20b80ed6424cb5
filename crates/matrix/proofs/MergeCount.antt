-- merge before it is made: how many rows, and whether one has too many rules, of slots that may say more than there are. Assumes nothing.
use borrow.Author.Tests.{le-leb}
use lib.Dec.{leb}
use lib.ListN.{drop, drop_of_length-le, get_or, length, length-append, length-map}
use lib.Seq.{drop-cons}
use mathlib.Core.Bool.{◌&&◌, ◌||◌, and_assoc, Bool, cond, false, not, true}
use mathlib.Core.List.{[], ◌++◌, ◌∷◌, append-nil, List, map}
use mathlib.Core.Path.{◌∙◌, ◌≡◌, ap, refl, sym}
use native.Mathlib.Numerals.{add-one}
use native.Mathlib.Omega.{arith}
use Prim.Native.Nat.{◌+◌, ◌<◌, ◌≤◌, ℕ}
use Rattle.lists.specs.Bools.{by_bool}
use Rattle.lists.specs.Lists.{all, mem}
use Rattle.matrix.proofs.StepHeld.{past}
use Rattle.rows.specs.declared.Row.{Row as Slot}
use Rattle.rows.specs.Rows as rows
use Rattle.rules.specs.Bounds.{rules_max}
use Rattle.rules.specs.Matrix.{alone, joined, Matrix as MatrixOf, merge_rows, Row, union}
use Rattle.std.specs.List.{list_any}

-- ---- how many rows

unfoldable pub shares : ℕ → ℕ → List Row → ℕ
shares t k [] = 0
shares t k (r ∷ rs) = cond (mem t r.rules) k 1 + shares t k rs

pub length-merge : (t : ℕ) (child : MatrixOf) (rs : List Row) → shares t (length child.rows) rs ≡ length (merge_rows t child rs)
unfolding merge_rows shares
length-merge t child [] = refl
length-merge t child (r ∷ rs) =
    let one = length-merge t child rs in
    let k = length-map child.rows (joined r) in
    by_bool (mem t r.rules)
    (λ p. rw (p, length-append (map (joined r) child.rows) (merge_rows t child rs)) (omega arith))
    (λ p. rw p (omega arith))

pub shares_more : (t k : ℕ) (l : List Slot) (i : ℕ) → i < length l
    → shares t k (map rows.view (drop i l)) ≡ cond (mem t (rows.view (get_or l i past)).rules) k 1 + shares t k (map rows.view (drop (i + 1) l))
unfolding shares
shares_more t k l i h = rw (add-one, drop-cons l i past h)

pub shares_end : (t k : ℕ) (l : List Slot) (i : ℕ) → length l ≤ i → shares t k (map rows.view (drop i l)) ≡ 0
unfolding shares
shares_end t k l i h = rw (drop_of_length-le l h)

-- ---- whether one has too many rules

abbrev pub few : Row → Bool
few r = leb (length r.rules) rules_max

abbrev pub few_with : List ℕ → Row → Bool
few_with l c = leb (length (union l c.rules)) rules_max

not_and : (a b : Bool) → (not a || not b) ≡ not (a && b)
not_and true b = refl
not_and false b = refl

-- what `any` of the slots answers
pub any_many : (named : List ℕ) (l : List Slot) → list_any (λ (r : Slot). not (few_with named (rows.view r))) l ≡ not (all (few_with named) (map rows.view l))
any_many named [] = refl
any_many named (r ∷ l) =
    ap (λ (b : Bool). not (few_with named (rows.view r)) || b) (any_many named l) ∙ not_and (few_with named (rows.view r)) (all (few_with named) (map rows.view l))

pub all_append : (f : Row → Bool) (a b : List Row) → all f (a ++ b) ≡ (all f a && all f b)
all_append f [] b = refl
all_append f (x ∷ a) b = ap (λ (c : Bool). f x && c) (all_append f a b) ∙ sym (and_assoc (f x) (all f a) (all f b))

all-joined : (r : Row) (cs : List Row) → all few (map (joined r) cs) ≡ all (few_with r.rules) cs
all-joined r [] = refl
all-joined r (c ∷ cs) = ap (λ (b : Bool). few_with r.rules c && b) (all-joined r cs)

module _ (t : ℕ) (child : MatrixOf) (r : Row) where
  pub merge-named : mem t r.rules ≡ true → merge_rows t child (r ∷ []) ≡ map (joined r) child.rows
  unfolding merge_rows
  merge-named e = rw e (append-nil (map (joined r) child.rows))

  pub merge_other : mem t r.rules ≡ false → merge_rows t child (r ∷ []) ≡ alone (length child.nets) r ∷ []
  unfolding merge_rows
  merge_other e = rw e

  pub merge_cons : (rs : List Row) → merge_rows t child (r ∷ rs) ≡ merge_rows t child (r ∷ []) ++ merge_rows t child rs
  unfolding merge_rows
  merge_cons rs = ap (λ (l : List Row). l ++ merge_rows t child rs) (sym (append-nil (cond (mem t r.rules) (map (joined r) child.rows) (alone (length child.nets) r ∷ []))))

  pub over-named : mem t r.rules ≡ true → not (all (few_with r.rules) child.rows) ≡ not (all few (merge_rows t child (r ∷ [])))
  over-named e = ap not (sym (all-joined r child.rows) ∙ ap (all few) (sym (merge-named e)))

  pub over_other : mem t r.rules ≡ false → length r.rules ≤ rules_max → false ≡ not (all few (merge_rows t child (r ∷ [])))
  over_other e h = rw (merge_other e, le-leb (length r.rules) rules_max h)

pub any_over : (t : ℕ) (child : MatrixOf) (l : List Slot) → list_any (λ (r : Slot). not (all few (merge_rows t child (rows.view r ∷ [])))) l ≡ not (all few (merge_rows t child (map rows.view l)))
unfolding merge_rows
any_over t child [] = refl
any_over t child (r ∷ l) =
    let one : List Row = merge_rows t child (rows.view r ∷ []) in
    let rest : List Row = merge_rows t child (map rows.view l) in
    ap (λ (b : Bool). not (all few one) || b) (any_over t child l) ∙ not_and (all few one) (all few rest)
    ∙ ap not (sym (all_append few one rest) ∙ ap (all few) (sym (merge_cons t child (rows.view r) (map rows.view l))))
