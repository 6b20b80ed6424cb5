-- 01, "Emission": a tree as muxes appended to a table. Assumes nothing: these are definitions.
use Prim.Native.Nat.{ℕ, suc, ◌+◌, ◌*◌, min}
use Rattle.std.specs.Prelude.{Bool, true, false, not, cond, ◌&&◌, ◌||◌, ◌≡◌, eqb, leb, ltb, length, take, drop, get_or}
use mathlib.Core.List.{List, [], ◌∷◌, ◌++◌, map}
use Rattle.std.proofs.Math.Option.{Option, none, some}
use Rattle.lists.specs.Lists.{mem}
use Rattle.lists.specs.Runs.{entries, runs}
use Rattle.rules.specs.Bounds.{mux_max, mux_run}
use Rattle.rules.specs.Nets.{first_mux}
use Rattle.rules.specs.Tree.{Tree, leaf, node}
use Rattle.rules.specs.Trits.{bit}

-- ---- the table: three nets an entry

pub record Mux : Type 0 where
  pub select : ℕ
  pub one_arm : ℕ
  pub zero_arm : ℕ

abbrev pub mux_of : List ℕ → Mux
mux_of r = record { select = get_or r 0 0; one_arm = get_or r 1 0; zero_arm = get_or r 2 0 }

unfoldable pub flat : List Mux → List ℕ
flat [] = []
flat (x ∷ xs) = x.select ∷ x.one_arm ∷ x.zero_arm ∷ flat xs

-- entries that a table has, "or 8,192"
abbrev pub room : List ℕ → ℕ
room xs = min (entries mux_run xs) mux_max

-- those in use
abbrev pub in_use : ℕ → List ℕ → List Mux
in_use count xs = map mux_of (runs mux_run (min count (room xs)) xs)

-- 12: "an operand over 9,999 driven by this entry, a later one or none", of the entries from the k-th on
unfoldable pub formed : ℕ → List Mux → Bool
formed k [] = true
formed k (x ∷ xs) = (ltb x.select (first_mux + k) && (ltb x.one_arm (first_mux + k) && ltb x.zero_arm (first_mux + k))) && formed (suc k) xs

-- 12: or "more entries in use than the table has, or than 8,192"
abbrev pub bad_table : ℕ → List ℕ → Bool
bad_table count xs = ltb (room xs) count || not (formed 0 (in_use count xs))

-- "muxes are appended to the table after those in use, and no other entry changes"
abbrev pub appended : ℕ → List Mux → List ℕ → List ℕ
appended count new xs = take (mux_run * count) xs ++ (flat new ++ drop (mux_run * (count + length new)) xs)

-- ---- one mux more

-- a table, select, one arm and zero arm give a table and the net to use
abbrev pub Adder : Type 0
Adder = List Mux → ℕ → ℕ → ℕ → (List Mux × ℕ)

-- "table entry k drives net 10,000 + k", and "the base simplifies nothing"
abbrev pub plain : Adder
plain T t x y = (T ++ (record { select = t; one_arm = x; zero_arm = y } ∷ []), first_mux + length T)

-- the net that a test selects by, and that a data bit stands for: each itself
abbrev pub selects : ℕ → ℕ
selects t = t

abbrev pub carries : List ℕ → List ℕ
carries ns = ns

-- ---- a tree: "One arm first, then zero arm, then this branch's muxes, bit 0 first"

-- what a leaf with these rules gives, bit by bit, as nets
abbrev pub Gives : Type 0
Gives = List ℕ → List ℕ

module _ (add : Adder) where
  unfoldable pub add_all : ℕ → List ℕ → List ℕ → List Mux → (List Mux × List ℕ)
  add_all t [] ys T = (T, [])
  add_all t (x ∷ xs) [] T = (T, [])
  add_all t (x ∷ xs) (y ∷ ys) T =
      let a : List Mux × ℕ = add T t x y in
      let r : List Mux × List ℕ = add_all t xs ys a.0 in
      (r.0, a.1 ∷ r.1)

  unfoldable pub build : Gives → Tree → List Mux → (List Mux × List ℕ)
  unfolding add_all
  build g (leaf rs) T = (T, carries (g rs))
  build g (node t z o) T =
      let a : List Mux × List ℕ = build g o T in
      let b : List Mux × List ℕ = build g z a.0 in
      add_all (selects t) a.1 b.1 b.0

-- what emission makes of a table, and the nets of its value
unfoldable pub emitted : Gives → Tree → List Mux → (List Mux × List ℕ)
unfolding build
emitted g t T = build plain g t T

-- ---- "One-hot: bit i is 1 in leaves naming output i, 0 in all others."

abbrev pub one_hot : List ℕ → Gives
one_hot outs rs = map (λ (q : ℕ). bit (mem q rs)) outs

-- ---- "Disjoint: a leaf gives the update of its rule that has one, else the default"

pub record Update : Type 0 where
  pub target : ℕ
  pub bits : List ℕ

abbrev pub or_else : Option (List ℕ) → Option (List ℕ) → Option (List ℕ)
or_else (some x) y = some x
or_else none y = y

abbrev pub get_else : Option (List ℕ) → List ℕ → List ℕ
get_else (some x) y = x
get_else none y = y

abbrev pub is_some : Option (List ℕ) → Bool
is_some (some x) = true
is_some none = false

-- "a later update for the same net replaces the earlier"
unfoldable pub update_for : List Update → ℕ → Option (List ℕ)
update_for [] n = none
update_for (u ∷ us) n = or_else (update_for us n) (cond (eqb u.target n) (some u.bits) none)

unfoldable pub disjoint : List Update → List ℕ → Gives
unfolding update_for
disjoint us d [] = d
disjoint us d (r ∷ rs) = get_else (update_for us r) (disjoint us d rs)

-- 9: "some leaf holds two rules that both have an update"
unfoldable pub updated : List Update → List ℕ → ℕ
unfolding update_for
updated us [] = 0
updated us (r ∷ rs) = bit (is_some (update_for us r)) + updated us rs

abbrev pub overlap : List Update → List ℕ → Bool
overlap us rs = leb 2 (updated us rs)

-- the same of the rules' nets: two that differ and have updates
pub record TwoUpdated (us : List Update) (rs : List ℕ) : Type 0 where
  pub first : ℕ
  pub second : ℕ
  pub differ : first ≡ second → ⊥
  pub names-first : mem first rs ≡ true
  pub names_second : mem second rs ≡ true
  pub first_has : is_some (update_for us first) ≡ true
  pub second_has : is_some (update_for us second) ≡ true

-- updates as lent: their nets, their widths, and their bits end to end; a width is cut to what is left, and 0 where none is given
unfoldable pub updates_of : List ℕ → List ℕ → List ℕ → List Update
updates_of [] ws bs = []
updates_of (n ∷ ns) [] bs = record { target = n; bits = [] } ∷ updates_of ns [] bs
updates_of (n ∷ ns) (w ∷ ws) bs = record { target = n; bits = take w bs } ∷ updates_of ns ws (drop w bs)
