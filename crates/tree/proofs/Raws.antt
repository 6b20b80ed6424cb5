-- Every test and every rule of a tree by fuel is a cell, if those of what is dispatched are. Assumes nothing.
use Prim.Native.Nat.{ℕ, zero, suc, ◌≤◌}
use mathlib.Core.Bool.{Bool, true, false}
use mathlib.Core.List.{List}
use mathlib.Core.Path.{◌≡◌, refl}
use Rattle.rules.proofs.Stores.{AllCells, Cells}
use Rattle.rules.specs.Fuel.{raw}

module _ (M : Type 0) (done : M → Bool) (rules : M → List ℕ) (test : M → ℕ) (sub : Bool → M → M)
    (P : M → Type 0) (keeps : (m : M) (b : Bool) → P m → P (sub b m)) (named : (m : M) → P m → AllCells (rules m)) (tested : (m : M) → P m → done m ≡ false → 3 ≤ test m) where
  cells-go : (f : ℕ) (m : M) (b : Bool) → P m → Cells (raw M done rules test sub f (sub false m)) → Cells (raw M done rules test sub f (sub true m)) → done m ≡ b
      → Cells (raw M done rules test sub (suc f) m)
  unfolding raw Cells
  cells-go f m true p h g e = rw (e, raw) (named m p)
  cells-go f m false p h g e = rw (e, raw) (tested m p e, h, g)

  pub raw-cells : (f : ℕ) (m : M) → P m → Cells (raw M done rules test sub f m)
  unfolding raw Cells
  raw-cells zero m p = named m p
  raw-cells (suc f) m p = cells-go f m (done m) p (raw-cells f (sub false m) (keeps m false p)) (raw-cells f (sub true m) (keeps m true p)) refl
