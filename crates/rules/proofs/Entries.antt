-- A mux table as numbers: the entries in use are read back, those appended stand after them, and they are well formed. Assumes nothing.
use Prim.Native.Nat.{ℕ, zero, suc, ◌+◌, ◌*◌, ◌/◌, ◌≤◌, ◌<◌, min}
use mathlib.Core.Bool.{true, ◌&&◌}
use mathlib.Core.List.{List, [], ◌∷◌, ◌++◌, append_assoc, map}
use mathlib.Core.Path.{◌≡◌, refl, sym, ap, ap₂, ◌∙◌}
use native.Mathlib.Omega.{arith}
use borrow.Author.Tests.{lt-ltb}
use lib.Dec.{ltb}
use lib.ListN.{drop, length, length-append, length-drop, length-map, take}
use lib.Seq.{take-add}
use Rattle.lists.specs.Bools.{and_both, and_left, and_right}
use Rattle.lists.specs.Runs.{runs}
use Rattle.rules.proofs.Added.{emits-length}
use Rattle.rules.proofs.Tables.{Fine, drives-low, low_le}
use Rattle.rules.specs.Bounds.{mux_max, mux_run}
use Rattle.rules.specs.Closed.{Low, branch, emits, muxes, nets_of}
use Rattle.rules.specs.Emit.{Gives, Mux, appended, flat, formed, in_use, mux_of, room}
use Rattle.rules.specs.Nets.{first_mux}
use Rattle.rules.specs.Tree.{Tree, leaf, node}

-- ---- numbers and entries

pub flat_append : (S T : List Mux) → flat (S ++ T) ≡ flat S ++ flat T
unfolding flat
flat_append [] T = refl
flat_append (x ∷ S) T = ap (λ (l : List ℕ). x.select ∷ x.one_arm ∷ x.zero_arm ∷ l) (flat_append S T)

pub flat-length : (T : List Mux) → length (flat T) ≡ mux_run * length T
unfolding flat
flat-length [] = refl
flat-length (x ∷ T) = omega (arith, flat-length T)

-- what was written is read
pub entries_back : (T : List Mux) (xs : List ℕ) → map mux_of (runs mux_run (length T) (flat T ++ xs)) ≡ T
unfolding runs flat
entries_back [] xs = refl
entries_back (x ∷ T) xs = ap (λ (l : List Mux). x ∷ l) (entries_back T xs)

-- what is read is what was written
three : (xs : List ℕ) → mux_run ≤ length xs → flat (mux_of (take mux_run xs) ∷ []) ≡ take mux_run xs
unfolding flat
three [] h = absurd (omega arith)
three (a ∷ []) h = absurd (omega arith)
three (a ∷ b ∷ []) h = absurd (omega arith)
three (a ∷ b ∷ c ∷ xs) h = refl

runs-flat : (n : ℕ) (xs : List ℕ) → mux_run * n ≤ length xs → flat (map mux_of (runs mux_run n xs)) ≡ take (mux_run * n) xs
unfolding runs flat
runs-flat zero xs h = refl
runs-flat (suc n) xs h =
    let l = length-drop mux_run xs in
    let r = runs-flat n (drop mux_run xs) (omega arith) in
    let e : mux_run * suc n ≡ mux_run + mux_run * n = omega arith in
    flat_append (mux_of (take mux_run xs) ∷ []) (map mux_of (runs mux_run n (drop mux_run xs)))
    ∙ ap₂ ◌++◌ (three xs (omega arith)) r
    ∙ sym (ap (λ (k : ℕ). take k xs) e ∙ take-add mux_run (mux_run * n) xs)

runs_count : (n : ℕ) (xs : List ℕ) → length (runs mux_run n xs) ≡ n
unfolding runs
runs_count zero xs = refl
runs_count (suc n) xs = ap suc (runs_count n (drop mux_run xs))

module _ (count : ℕ) (xs : List ℕ) (h : count ≤ room xs) where
  pub in_use-length : length (in_use count xs) ≡ count
  in_use-length = length-map (runs mux_run (min count (room xs)) xs) mux_of ∙ runs_count (min count (room xs)) xs ∙ omega arith

  in_use-flat : flat (in_use count xs) ≡ take (mux_run * count) xs
  in_use-flat =
      let e : min count (room xs) ≡ count = omega arith in
      ap (λ (n : ℕ). flat (map mux_of (runs mux_run n xs))) e ∙ runs-flat count xs (omega arith)

  module _ (new : List Mux) (k : count + length new ≤ room xs) where
    appended_is : appended count new xs ≡ flat (in_use count xs ++ new) ++ drop (mux_run * (count + length new)) xs
    appended_is =
        sym (ap (λ (l : List ℕ). l ++ drop (mux_run * (count + length new)) xs) (flat_append (in_use count xs) new)
        ∙ append_assoc (flat (in_use count xs)) (flat new) (drop (mux_run * (count + length new)) xs)
        ∙ ap (λ (l : List ℕ). l ++ (flat new ++ drop (mux_run * (count + length new)) xs)) in_use-flat)

    pub appended-length : length (appended count new xs) ≡ length xs
    appended-length =
        let T : List Mux = in_use count xs ++ new in
        let a = length-append (in_use count xs) new in
        let b = flat-length T in
        let c = length-append (flat T) (drop (mux_run * (count + length new)) xs) in
        let d = length-drop (mux_run * (count + length new)) xs in
        ap length appended_is ∙ omega (arith, a, b, c, d, in_use-length)

    -- the entries in use afterwards are those before, then the new ones
    pub appended-in_use : in_use (count + length new) (appended count new xs) ≡ in_use count xs ++ new
    appended-in_use =
        let T : List Mux = in_use count xs ++ new in
        let r : room (appended count new xs) ≡ room xs = ap (λ (n : ℕ). min (n / mux_run) mux_max) appended-length in
        let l : length T ≡ count + length new = length-append (in_use count xs) new ∙ ap (λ (n : ℕ). n + length new) in_use-length in
        let m : min (count + length new) (room (appended count new xs)) ≡ length T = omega (arith, r, l) in
        ap₂ (λ (n : ℕ) (ys : List ℕ). map mux_of (runs mux_run n ys)) m appended_is ∙ entries_back T (drop (mux_run * (count + length new)) xs)

-- ---- what emission writes is well formed

pub formed-append : (k : ℕ) (S T : List Mux) → formed k S ≡ true → formed (k + length S) T ≡ true → formed k (S ++ T) ≡ true
unfolding formed
formed-append k [] T p q = rw (zero_right k) at q
  where
    zero_right : (k : ℕ) → k + 0 ≡ k
    zero_right k = omega arith
formed-append k (x ∷ S) T p q =
    let b = (ltb x.select (first_mux + k) && (ltb x.one_arm (first_mux + k) && ltb x.zero_arm (first_mux + k))) in
    let e : suc k + length S ≡ k + suc (length S) = omega arith in
    and_both b (formed (suc k) (S ++ T)) (and_left b (formed (suc k) S) p)
    (formed-append (suc k) S T (and_right b (formed (suc k) S) p) (ap (λ (n : ℕ). formed n T) e ∙ q))

branch-formed : (k t : ℕ) (xs ys : List ℕ) → t < first_mux → Low (first_mux + k) xs → Low (first_mux + k) ys → formed k (branch t xs ys) ≡ true
unfolding formed branch Low
branch-formed k t [] ys h p q = refl
branch-formed k t (x ∷ xs) [] h p q = refl
branch-formed k t (x ∷ xs) (y ∷ ys) h p q =
    let up = low_le (first_mux + k) (first_mux + suc k) (omega arith) in
    rw (lt-ltb t (first_mux + k) (omega arith), lt-ltb x (first_mux + k) p.0, lt-ltb y (first_mux + k) q.0) (branch-formed (suc k) t xs ys h (up xs p.1) (up ys q.1))

-- the nets of a tree's value are driven by its own muxes at the latest
pub nets_driven : (g : Gives) (w k : ℕ) (t : Tree) → Fine g w t → Low (first_mux + (k + muxes w t)) (nets_of g w k t)
unfolding nets_of muxes Fine
nets_driven g w k (leaf rs) h = low_le first_mux (first_mux + (k + 0)) (omega arith) (g rs) h.1
nets_driven g w k (node t z o) h = drives-low (k + (muxes w o + muxes w z)) w (first_mux + (k + (muxes w o + muxes w z + w))) (omega arith)

pub emits-formed : (g : Gives) (w k : ℕ) (t : Tree) → Fine g w t → formed k (emits g w k t) ≡ true
unfolding emits muxes Fine formed
emits-formed g w k (leaf rs) h = refl
emits-formed g w k (node t z o) h =
    let ko : ℕ = k + muxes w o in
    let kz : ℕ = ko + muxes w z in
    let xs : List ℕ = nets_of g w k o in
    let ys : List ℕ = nets_of g w ko z in
    let a = emits-formed g w k o h.2 in
    let b = emits-formed g w ko z h.1 in
    let p : Low (first_mux + kz) xs = low_le (first_mux + ko) (first_mux + kz) (omega arith) xs (nets_driven g w k o h.2) in
    let c = branch-formed kz t xs ys h.0 p (nets_driven g w ko z h.1) in
    let lz : ko + length (emits g w ko z) ≡ kz = ap (λ (n : ℕ). ko + n) (emits-length g w ko z h.1) in
    let lo : k + length (emits g w k o) ≡ ko = ap (λ (n : ℕ). k + n) (emits-length g w k o h.2) in
    let d : formed ko (emits g w ko z ++ branch t xs ys) ≡ true = formed-append ko (emits g w ko z) (branch t xs ys) b (ap (λ (n : ℕ). formed n (branch t xs ys)) lz ∙ c) in
    formed-append k (emits g w k o) (emits g w ko z ++ branch t xs ys) a (ap (λ (n : ℕ). formed n (emits g w ko z ++ branch t xs ys)) lo ∙ d)
