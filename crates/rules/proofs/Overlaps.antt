-- Two rules with updates in a set are two different nets. Assumes nothing.
use Prim.Native.Nat.{ℕ, ◌+◌, ◌≤◌, ◌<◌}
use mathlib.Core.Bool.{true}
use mathlib.Core.List.{List, [], ◌∷◌}
use mathlib.Core.Path.{◌≡◌, refl, sym, ap, ◌∙◌, subst}
use native.Mathlib.Omega.{arith}
use borrow.Author.Tests.{eq-eqb, eqb-true, le-leb, leb-true}
use lib.Dec.{eqb}
use Rattle.lists.specs.Bools.{by_bool, clash, or_cases, or_right}
use Rattle.lists.specs.Lists.{mem}
use Rattle.rules.specs.Emit.{TwoUpdated, Update, is_some, overlap, update_for, updated}
use Rattle.rules.specs.Matrix.{Above, Ascends}
use Rattle.rules.specs.Trits.{bit}

above_not : (b : ℕ) (xs : List ℕ) (q : ℕ) → Above b xs → mem q xs ≡ true → b < q
unfolding Above mem
above_not b [] q h i = absurd (clash i)
above_not b (x ∷ xs) q h i = or_cases (eqb x q) (mem q xs) i (λ e. subst (λ (k : ℕ). b < k) (eqb-true x q e) h.0) (λ j. above_not b xs q h.1 j)

-- one at least
some_updated : (us : List Update) (rs : List ℕ) → 1 ≤ updated us rs → (q : ℕ) × (mem q rs ≡ true) × (is_some (update_for us q) ≡ true)
unfolding updated mem
some_updated us [] h = absurd (omega arith)
some_updated us (r ∷ rs) h =
    let one = some_updated us rs in
    by_bool (is_some (update_for us r))
    (λ p. (r, rw (eq-eqb r r refl), p))
    (λ p.
    let k : 1 ≤ 0 + updated us rs = rw p at h in
    let w = one (omega arith) in
    (w.0, or_right (eqb r w.0) (mem w.0 rs) w.1, w.2))

pub updated_some : (us : List Update) (rs : List ℕ) (q : ℕ) → mem q rs ≡ true → is_some (update_for us q) ≡ true → 1 ≤ updated us rs
unfolding updated mem
updated_some us [] q i s = absurd (clash i)
updated_some us (r ∷ rs) q i s =
    let one = updated_some us rs q in
    or_cases (eqb r q) (mem q rs) i
    (λ e. let p : is_some (update_for us r) ≡ true = ap (λ (k : ℕ). is_some (update_for us k)) (eqb-true r q e) ∙ s in rw p (omega arith))
    (λ j. let w = one j s in omega arith)

pub overlap_two : (us : List Update) (rs : List ℕ) → Ascends rs → overlap us rs ≡ true → TwoUpdated us rs
unfolding updated mem Ascends
overlap_two us [] a h = absurd (omega (arith, leb-true 2 0 h))
overlap_two us (r ∷ rs) a h =
    let one = overlap_two us rs a.1 in
    let l = leb-true 2 (updated us (r ∷ rs)) h in
    by_bool (is_some (update_for us r))
    (λ p.
    let k : 2 ≤ 1 + updated us rs = rw p at l in
    let w = some_updated us rs (omega arith) in
    let m = above_not r rs w.0 a.0 w.1 in
    record { first = r; second = w.0; differ = λ e. omega arith; names-first = rw (eq-eqb r r refl); names_second = or_right (eqb r w.0) (mem w.0 rs) w.1; first_has = p; second_has = w.2 })
    (λ p.
    let k : 2 ≤ 0 + updated us rs = rw p at l in
    let w = one (le-leb 2 (updated us rs) (omega arith)) in
    record {
      first = w.first;
      second = w.second;
      differ = w.differ;
      names-first = or_right (eqb r w.first) (mem w.first rs) w.names-first;
      names_second = or_right (eqb r w.second) (mem w.second rs) w.names_second;
      first_has = w.first_has;
      second_has = w.second_has;
    })

pub two_overlap : (us : List Update) (rs : List ℕ) → TwoUpdated us rs → overlap us rs ≡ true
unfolding updated mem
two_overlap us [] w = absurd (clash w.names-first)
two_overlap us (r ∷ rs) w =
    let one = two_overlap us rs in
    by_bool (eqb r w.first)
    (λ e.
    let p : is_some (update_for us r) ≡ true = ap (λ (k : ℕ). is_some (update_for us k)) (eqb-true r w.first e) ∙ w.first_has in
    or_cases (eqb r w.second) (mem w.second rs) w.names_second
    (λ f. absurd (w.differ (sym (eqb-true r w.first e) ∙ eqb-true r w.second f)))
    (λ j. let k = updated_some us rs w.second j w.second_has in rw p (le-leb 2 (1 + updated us rs) (omega arith))))
    (λ e. or_cases (eqb r w.second) (mem w.second rs) w.names_second
    (λ f.
    let p : is_some (update_for us r) ≡ true = ap (λ (k : ℕ). is_some (update_for us k)) (eqb-true r w.second f) ∙ w.second_has in
    let k = updated_some us rs w.first (rw e at w.names-first) w.first_has in
    rw p (le-leb 2 (1 + updated us rs) (omega arith)))
    (λ j.
    let t = one (record { first = w.first; second = w.second; differ = w.differ; names-first = rw e at w.names-first; names_second = j; first_has = w.first_has; second_has = w.second_has }) in
    let l = leb-true 2 (updated us rs) t in
    le-leb 2 (updated us (r ∷ rs)) (more (bit (is_some (update_for us r))) l)))
  where
    more : (b : ℕ) {k : ℕ} → 2 ≤ k → 2 ≤ b + k
    more b h = omega arith
