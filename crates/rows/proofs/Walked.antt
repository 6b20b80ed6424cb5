-- A row's columns gone through one by one, in an array. Assumes nothing.
use lib.ListN.{length, get_or, take, set, length-set}
use lib.Seq.{get_or-take, length-take-le, take-set-lt}
use mathlib.Core.Bool.{true, false}
use mathlib.Core.List.{List, [], ◌∷◌}
use mathlib.Core.Option.{none, some}
use mathlib.Core.Path.{◌≡◌, refl, sym, ap, ◌∙◌}
use native.Mathlib.Nat.{sub-zero}
use native.Mathlib.Numerals.{add-one}
use native.Mathlib.Omega.{arith}
use Prim.Native.Nat.{ℕ, zero, suc, ◌+◌, ◌-◌, ◌≤◌, ◌<◌}
use Rattle.lists.specs.Bools.{by_bool}
use Rattle.lists.specs.Vec.{vec, get_or-vec, length-vec}
use Rattle.rows.proofs.Laws.{places-at, set_vec}
use Rattle.rows.specs.Rows.{places, settled}
use Rattle.rules.proofs.Columns.{get_or-mem}
use Rattle.rules.proofs.Places.{place_lt}
use Rattle.rules.specs.Bounds.{columns_max}
use Rattle.rules.specs.Steps.{drops, place, takes, walk}
use Rattle.std.specs.Prelude.{None, Some}

-- ---- on lists: a column that drops the row, one that does not, and none left

module _ (ns : List ℕ) (n j : ℕ) (ms : List ℕ) (h : j < n) where
  abbrev at : ℕ
  at = place (get_or ns j 0) ns

  left : n - j ≡ suc (n - (j + 1))
  left = omega arith

  walk-drop : drops (get_or ns j 0) (get_or ms at 2) (get_or ms j 2) ≡ true → walk ns (n - j) j ms ≡ none
  unfolding walk
  walk-drop e = rw (left, e)

  walk_on : drops (get_or ns j 0) (get_or ms at 2) (get_or ms j 2) ≡ false
      → walk ns (n - j) j ms ≡ walk ns (n - (j + 1)) (j + 1) (set ms at (takes (get_or ns j 0) (get_or ms at 2) (get_or ms j 2)))
  unfolding walk
  walk_on e = rw (left, e, add-one)

walk_end : (ns : List ℕ) (n j : ℕ) (ms : List ℕ) → n ≤ j → walk ns (n - j) j ms ≡ some ms
unfolding walk
walk_end ns n j ms h =
    let z : n - j ≡ 0 = omega arith in
    rw z

-- a walk changes masks, and no length
pub length-walk : (ns : List ℕ) (k j : ℕ) (ms l : List ℕ) → walk ns k j ms ≡ some l → length l ≡ length ms
unfolding walk
length-walk ns zero j ms l e = let p : l ≡ ms = cc in ap length p
length-walk ns (suc k) j ms l e =
    let f = place (get_or ns j 0) ns in
    let y = takes (get_or ns j 0) (get_or ms f 2) (get_or ms j 2) in
    let r = length-walk ns k (suc j) (set ms f y) l in
    by_bool (drops (get_or ns j 0) (get_or ms f 2) (get_or ms j 2))
    (λ d. let q = rw d at e in let z : ◌≡◌ {A = ℕ} 0 1 = cc in absurd (omega arith))
    (λ d. r (rw d at e) ∙ length-set ms f y)

-- ---- in an array: it has 0 past the columns, and what is left to walk gives what the whole walk gives

pub record Going (ns p₀ p : List ℕ) (j : ℕ) : Type 0 where
  pub clean : p ≡ vec columns_max 0 (take (length ns) p)
  pub walks : walk ns (length ns - j) j (take (length ns) p) ≡ walk ns (length ns) 0 (take (length ns) p₀)

pub going : (ns p : List ℕ) → p ≡ vec columns_max 0 (take (length ns) p) → Going ns p p 0
going ns p e = record { clean = e; walks = rw sub-zero }

-- what is looked up for column j is its net's first column
pub record First (ns fs : List ℕ) (j : ℕ) : Type 0 where
  pub at : get_or fs j 0 ≡ place (get_or ns j 0) ns
  pub below : get_or fs j 0 < length ns

pub first_is : (ns fs : List ℕ) (j : ℕ) → length ns ≤ columns_max → j < length ns → fs ≡ vec columns_max 0 (places ns) → First ns fs j
first_is ns fs j h b e =
    let q : get_or fs j 0 ≡ place (get_or ns j 0) ns =
    ap (λ (r : List ℕ). get_or r j 0) e ∙ get_or-vec columns_max 0 (places ns) j (omega arith) ∙ places-at ns j b in
    let s = place_lt (get_or ns j 0) ns (get_or-mem ns j 0 b) in
    record { at = q; below = omega arith }

-- column j, whose net is coded x and stands first where fs says
module _ (ns fs p₀ p : List ℕ) (j x : ℕ) (h : length ns ≤ columns_max) (b : j < length ns) (net : x ≡ get_or ns j 0)
    (looked : fs ≡ vec columns_max 0 (places ns)) (g : Going ns p₀ p j) where
  abbrev f : ℕ
  f = get_or fs j 0

  first : First ns fs j
  first = first_is ns fs j h b looked

  long : length p ≡ columns_max
  long = ap length g.clean ∙ length-vec columns_max 0 (take (length ns) p)

  -- what is read in the array is what stands in the list
  read : (i : ℕ) → i < length ns → get_or (take (length ns) p) i 2 ≡ get_or p i 0
  read i k = get_or-take (length ns) p i 2 k ∙ within p i (let s = long in omega arith)
    where
      within : (q : List ℕ) (i : ℕ) → i < length q → get_or q i 2 ≡ get_or q i 0
      within [] i k = absurd (omega arith)
      within (x ∷ q) zero k = refl
      within (x ∷ q) (suc i) k = within q i (omega arith)

  drops_is : drops (get_or ns j 0) (get_or (take (length ns) p) (place (get_or ns j 0) ns) 2) (get_or (take (length ns) p) j 2) ≡ drops x (get_or p f 0) (get_or p j 0)
  drops_is = rw (← first.at, read f first.below, read j b, net)

  takes_is : takes (get_or ns j 0) (get_or (take (length ns) p) (place (get_or ns j 0) ns) 2) (get_or (take (length ns) p) j 2) ≡ takes x (get_or p f 0) (get_or p j 0)
  takes_is = rw (← first.at, read f first.below, read j b, net)

  pub going_drop : drops x (get_or p f 0) (get_or p j 0) ≡ true → settled (walk ns (length ns) 0 (take (length ns) p₀)) ≡ None
  going_drop e = ap settled (sym g.walks ∙ walk-drop ns (length ns) j (take (length ns) p) b (drops_is ∙ e))

  pub going_on : (y : ℕ) → drops x (get_or p f 0) (get_or p j 0) ≡ false → y ≡ takes x (get_or p f 0) (get_or p j 0) → Going ns p₀ (set p f y) (j + 1)
  going_on y e q =
      let t : length (take (length ns) p) ≡ length ns = length-take-le (length ns) p (let s = long in omega arith) in
      let s : take (length ns) (set p f y) ≡ set (take (length ns) p) f y = take-set-lt (length ns) p f y first.below in
      record {
        clean = ap (λ (r : List ℕ). set r f y) g.clean ∙ set_vec columns_max 0 (take (length ns) p) f y (let w = first.below in omega arith) ∙ ap (vec columns_max 0) (sym s);
        walks = ap (walk ns (length ns - (j + 1)) (j + 1))
            (s ∙ ap (λ (i : ℕ). set (take (length ns) p) i y) first.at ∙ ap (set (take (length ns) p) (place (get_or ns j 0) ns)) (q ∙ sym takes_is))
            ∙ sym (walk_on ns (length ns) j (take (length ns) p) b (drops_is ∙ e)) ∙ g.walks;
      }

pub going_end : (ns p₀ p : List ℕ) (j : ℕ) → length ns ≤ j → Going ns p₀ p j → settled (walk ns (length ns) 0 (take (length ns) p₀)) ≡ Some p
going_end ns p₀ p j h g =
    ap settled (sym g.walks ∙ walk_end ns (length ns) j (take (length ns) p) h)
    ∙ ap (λ (r : List ℕ). Some r) (sym g.clean)
