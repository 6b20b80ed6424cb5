-- Fuel that is at least the rank is enough, and more changes nothing. Assumes nothing.
use Prim.Native.Nat.{ℕ, zero, suc, ◌≤◌, ◌<◌}
use mathlib.Core.Path.{◌≡◌, refl, sym, ap₂, subst, ◌∙◌}
use mathlib.Core.List.{List}
use mathlib.Core.Bool.{Bool, true, false}
use native.Mathlib.Omega.{arith}
use native.Mathlib.Nat.{le_refl}
use lib.ListN.{length}
use Rattle.rules.specs.Bounds.{rules_max}
use Rattle.rules.specs.Fuel.{raw}
use Rattle.rules.specs.Tree.{Fit, Once, Untested, leaf, node}

module _ (M : Type 0) (done : M → Bool) (rules : M → List ℕ) (test : M → ℕ) (sub : Bool → M → M)
    (rank : M → ℕ) (falls : (m : M) (b : Bool) → done m ≡ false → rank (sub b m) < rank m) where
  -- the step, by what the test says
  raw_true : (f : ℕ) (m : M) → done m ≡ true → raw M done rules test sub (suc f) m ≡ leaf (rules m)
  unfolding raw
  raw_true f m e = rw (e, raw)

  raw_false : (f : ℕ) (m : M) → done m ≡ false
      → raw M done rules test sub (suc f) m ≡ node (test m) (raw M done rules test sub f (sub false m)) (raw M done rules test sub f (sub true m))
  unfolding raw
  raw_false f m e = rw (e, raw)

  fuel_go : (f g : ℕ) (m : M) (b : Bool) → done m ≡ b → rank m ≤ f → rank m ≤ g
      → raw M done rules test sub f m ≡ raw M done rules test sub g m
  unfolding raw
  fuel_go zero zero m b e h k = refl
  fuel_go zero (suc g) m true e h k = sym (raw_true g m e)
  fuel_go zero (suc g) m false e h k = let l = falls m true e in absurd (omega arith)
  fuel_go (suc f) zero m true e h k = raw_true f m e
  fuel_go (suc f) zero m false e h k = let l = falls m true e in absurd (omega arith)
  fuel_go (suc f) (suc g) m true e h k = raw_true f m e ∙ sym (raw_true g m e)
  fuel_go (suc f) (suc g) m false e h k =
      let l = falls m false e in
      let r = falls m true e in
      let p = fuel_go f g (sub false m) (done (sub false m)) refl (omega arith) (omega arith) in
      let q = fuel_go f g (sub true m) (done (sub true m)) refl (omega arith) (omega arith) in
      raw_false f m e ∙ ap₂ (node (test m)) p q ∙ sym (raw_false g m e)

  pub fuel : (f g : ℕ) (m : M) → rank m ≤ f → rank m ≤ g → raw M done rules test sub f m ≡ raw M done rules test sub g m
  fuel f g m h k = fuel_go f g m (done m) refl h k

  pub raw-done : (f : ℕ) (m : M) → done m ≡ true → raw M done rules test sub f m ≡ leaf (rules m)
  unfolding raw
  raw-done zero m e = refl
  raw-done (suc f) m e = raw_true f m e

  pub raw_split : (f : ℕ) (m : M) → done m ≡ false → rank m ≤ f
      → raw M done rules test sub f m ≡ node (test m) (raw M done rules test sub (rank (sub false m)) (sub false m)) (raw M done rules test sub (rank (sub true m)) (sub true m))
  raw_split zero m e h = let l = falls m true e in absurd (omega arith)
  raw_split (suc f) m e h =
      let l = falls m false e in
      let r = falls m true e in
      raw_false f m e ∙ ap₂ (node (test m)) (fuel f (rank (sub false m)) (sub false m) (omega arith) (le_refl _)) (fuel f (rank (sub true m)) (sub true m) (omega arith) (le_refl _))

module _ (M : Type 0) (done : M → Bool) (rules : M → List ℕ) (test : M → ℕ) (sub : Bool → M → M)
    (P : M → Type 0) (keeps : (m : M) (b : Bool) → P m → P (sub b m)) (few : (m : M) → P m → length (rules m) ≤ rules_max) where
  fit-go : (f : ℕ) (m : M) (b : Bool) → P m → Fit (raw M done rules test sub f (sub false m)) → Fit (raw M done rules test sub f (sub true m)) → done m ≡ b
      → Fit (raw M done rules test sub (suc f) m)
  unfolding raw Fit
  fit-go f m true p h g e = rw (e, raw) (few m p)
  fit-go f m false p h g e = rw (e, raw) (h, g)

  pub raw-fit : (f : ℕ) (m : M) → P m → Fit (raw M done rules test sub f m)
  unfolding raw Fit
  raw-fit zero m p = few m p
  raw-fit (suc f) m p = fit-go f m (done m) p (raw-fit f (sub false m) (keeps m false p)) (raw-fit f (sub true m) (keeps m true p)) refl

-- no path tests a net twice: where a net that is set is gone, and no new one comes
module _ (M : Type 0) (done : M → Bool) (rules : M → List ℕ) (test : M → ℕ) (sub : Bool → M → M)
    (In : ℕ → M → Type 0) (old : (n : ℕ) (m : M) (b : Bool) → In n (sub b m) → In n m)
    (gone : (m : M) (b : Bool) → In (test m) (sub b m) → ⊥) (there : (m : M) → done m ≡ false → In (test m) m) where
  untested-go : (n f : ℕ) (m : M) (b : Bool) → (In n m → ⊥) → Untested n (raw M done rules test sub f (sub false m)) → Untested n (raw M done rules test sub f (sub true m))
      → done m ≡ b → Untested n (raw M done rules test sub (suc f) m)
  unfolding raw Untested
  untested-go n f m true p h g e = rw (e, raw) tt
  untested-go n f m false p h g e = rw (e, raw) ((λ q. p (subst (λ (k : ℕ). In k m) (sym q) (there m e))), h, g)

  pub raw-untested : (n f : ℕ) (m : M) → (In n m → ⊥) → Untested n (raw M done rules test sub f m)
  unfolding raw Untested
  raw-untested n zero m p = tt
  raw-untested n (suc f) m p =
      untested-go n f m (done m) p (raw-untested n f (sub false m) (λ i. p (old n m false i))) (raw-untested n f (sub true m) (λ i. p (old n m true i))) refl

  once-go : (f : ℕ) (m : M) (b : Bool) → Once (raw M done rules test sub f (sub false m)) → Once (raw M done rules test sub f (sub true m))
      → done m ≡ b → Once (raw M done rules test sub (suc f) m)
  unfolding raw Once
  once-go f m true h g e = rw (e, raw) tt
  once-go f m false h g e = rw (e, raw) (raw-untested (test m) f (sub false m) (gone m false), raw-untested (test m) f (sub true m) (gone m true), h, g)

  pub raw-once : (f : ℕ) (m : M) → Once (raw M done rules test sub f m)
  unfolding raw Once
  raw-once zero m = tt
  raw-once (suc f) m = once-go f m (done m) (raw-once f (sub false m)) (raw-once f (sub true m)) refl
