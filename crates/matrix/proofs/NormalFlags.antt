-- A flag a column: written one by one, and gathered over the rows. Assumes nothing.
use lib.Dec.{eqb}
use lib.ListN.{get_or, length, set, take}
use lib.Seq.{ext_get_or, take_all}
use mathlib.Core.Bool.{◌&&◌, ◌||◌, and_assoc, Bool, false, not, true}
use mathlib.Core.List.{[], ◌++◌, ◌∷◌, List}
use mathlib.Core.Path.{◌∙◌, ◌≡◌, ap, ap₂, refl, sym}
use native.Mathlib.Nat.{add-zero, le_of_suc-le-suc, not-suc-le-zero}
use native.Mathlib.Omega.{arith}
use Prim.Native.Nat.{◌+◌, ◌<◌, ◌≤◌, suc, zero, ℕ}
use Rattle.lists.specs.Vec.{fill, get_or-vec, vec}
use Rattle.matrix.proofs.StepHeld.{get_d_any}
use Rattle.rows.proofs.Laws.{length-flags}
use Rattle.rows.specs.Rows.{flags, flags_from}
use Rattle.rules.specs.Matrix.{Row}
use Rattle.rules.specs.Nets.{is_cell}
use Rattle.rules.specs.Steps.{goes, place, x_at}
use Rattle.rules.specs.Trits.{is_x}

module _ (go : ℕ → ℕ → Bool) where
  flag_from : (ns : List ℕ) (j k : ℕ) (d : Bool) → k < length ns → get_or (flags_from go j ns) k d ≡ go (j + k) (get_or ns k 0)
  unfolding flags_from
  flag_from [] j k d h = absurd (not-suc-le-zero h)
  flag_from (n ∷ ns) j zero d h = ap (λ (i : ℕ). go i n) (sym (add-zero j))
  flag_from (n ∷ ns) j (suc k) d h =
      let e : suc j + k ≡ j + suc k = omega arith in
      flag_from ns (suc j) k d (le_of_suc-le-suc h) ∙ ap (λ (i : ℕ). go i (get_or ns k 0)) e

  pub flag_at : (ns : List ℕ) (k : ℕ) (d : Bool) → k < length ns → get_or (flags go ns) k d ≡ go k (get_or ns k 0)
  flag_at ns k d h =
      let e : 0 + k ≡ k = omega arith in
      flag_from ns 0 k d h ∙ ap (λ (i : ℕ). go i (get_or ns k 0)) e

  -- a turn of a loop that writes them into a fresh array, and its end
  pub flags_turn : (N : ℕ) (ns : List ℕ) (a : List Bool) (i : ℕ) (y : Bool) → i < length ns → length ns ≤ N → a ≡ vec N false (take i (flags go ns)) → y ≡ go i (get_or ns i 0)
      → set a i y ≡ vec N false (take (i + 1) (flags go ns))
  flags_turn N ns a i y h k e f =
      let l = length-flags go 0 ns in
      ap₂ (λ (b : List Bool) (x : Bool). set b i x) e (f ∙ sym (flag_at ns i false h)) ∙ fill N false (flags go ns) i (omega arith) (omega arith)

  pub flags_end : (N : ℕ) (ns : List ℕ) (a : List Bool) (i : ℕ) → length ns ≤ i → a ≡ vec N false (take i (flags go ns)) → a ≡ vec N false (flags go ns)
  flags_end N ns a i h e =
      let l = length-flags go 0 ns in
      e ∙ ap (vec N false) (take_all i (flags go ns) (omega arith))

-- ---- the columns where some row has no X

abbrev pub used : List Row → ℕ → ℕ → Bool
used rs j n = not (x_at rs j)

x_more : (rs : List Row) (r : Row) (j : ℕ) → x_at (rs ++ (r ∷ [])) j ≡ (x_at rs j && is_x (get_or r.pattern j 2))
unfolding x_at
x_more [] r j = last (is_x (get_or r.pattern j 2))
  where
    last : (b : Bool) → (b && true) ≡ b
    last true = refl
    last false = refl
x_more (q ∷ rs) r j =
    ap (λ (b : Bool). is_x (get_or q.pattern j 2) && b) (x_more rs r j)
    ∙ sym (and_assoc (is_x (get_or q.pattern j 2)) (x_at rs j) (is_x (get_or r.pattern j 2)))

used_none : (N k : ℕ) (ns : List ℕ) → vec N false [] ≡ vec N false (flags_from (used []) k ns)
unfolding vec flags_from x_at
used_none zero k ns = refl
used_none (suc N) k [] = refl
used_none (suc N) k (n ∷ ns) = ap (λ (l : List Bool). false ∷ l) (used_none N (suc k) ns)

pub used_start : (N : ℕ) (ns : List ℕ) → vec N false [] ≡ vec N false (flags (used []) ns)
used_start N ns = used_none N 0 ns

pub used-at : (N : ℕ) (ns : List ℕ) (rs : List Row) (a : List Bool) (j : ℕ) → length ns ≤ N → j < length ns → a ≡ vec N false (flags (used rs) ns) → get_or a j false ≡ not (x_at rs j)
used-at N ns rs a j w h e = ap (λ (v : List Bool). get_or v j false) e ∙ get_or-vec N false (flags (used rs) ns) j (omega arith) ∙ flag_at (used rs) ns j false h

-- a row more
pub used_more : (N : ℕ) (ns : List ℕ) (rs : List Row) (r : Row) (a : List Bool) → length ns ≤ N → length r.pattern ≡ length ns → a ≡ vec N false (flags (used rs) ns)
    → flags (λ (j mask : ℕ). get_or a j false || not (is_x mask)) r.pattern ≡ flags (used (rs ++ (r ∷ []))) ns
used_more N ns rs r a w l e =
    let q : List ℕ = r.pattern in
    let go : ℕ → ℕ → Bool = λ j mask. get_or a j false || not (is_x mask) in
    let x = length-flags go 0 q in
    let y = length-flags (used (rs ++ (r ∷ []))) 0 ns in
    ext_get_or false (flags go q) (flags (used (rs ++ (r ∷ []))) ns) (omega arith)
    (λ j k.
    let b : j < length ns = omega arith in
    let u : get_or a j false ≡ not (x_at rs j) = used-at N ns rs a j w b e in
    let t : x_at (rs ++ (r ∷ [])) j ≡ (x_at rs j && is_x (get_or q j 0)) =
    x_more rs r j ∙ ap (λ (m : ℕ). x_at rs j && is_x m) (get_d_any q j 2 0 (omega arith)) in
    flag_at go q j false (omega arith) ∙ ap (λ (c : Bool). c || not (is_x (get_or q j 0))) u ∙ deep (x_at rs j) (is_x (get_or q j 0)) ∙ ap not (sym t) ∙ sym (flag_at (used (rs ++ (r ∷ []))) ns j false b))
  where
    deep : (c d : Bool) → (not c || not d) ≡ not (c && d)
    deep true d = refl
    deep false d = refl

-- ---- the columns that go

-- by a flag for each column, where some row has no X
abbrev pub gone_by : List ℕ → List Bool → ℕ → ℕ → Bool
gone_by ns u j x = not (is_cell x) || (not (eqb (place x ns) j) || not (get_or u j false))

pub gone_at : (ns : List ℕ) (u : List Bool) (j x f : ℕ) → x ≡ get_or ns j 0 → f ≡ place (get_or ns j 0) ns → (not (is_cell x) || (not (eqb f j) || not (get_or u j false))) ≡ gone_by ns u j (get_or ns j 0)
gone_at ns u j x f p q = rw (p, q)

pub gone_is : (N : ℕ) (ns : List ℕ) (rs : List Row) (u : List Bool) → length ns ≤ N → u ≡ vec N false (flags (used rs) ns) → flags (gone_by ns u) ns ≡ flags (goes ns rs) ns
gone_is N ns rs u w e =
    let x = length-flags (gone_by ns u) 0 ns in
    let y = length-flags (goes ns rs) 0 ns in
    ext_get_or false (flags (gone_by ns u) ns) (flags (goes ns rs) ns) (omega arith)
    (λ j k.
    let b : j < length ns = omega arith in
    let n : ℕ = get_or ns j 0 in
    let t : not (get_or u j false) ≡ x_at rs j = ap not (used-at N ns rs u j w b e) ∙ twice (x_at rs j) in
    flag_at (gone_by ns u) ns j false b ∙ ap (λ (c : Bool). not (is_cell n) || (not (eqb (place n ns) j) || c)) t ∙ sym (flag_at (goes ns rs) ns j false b))
  where
    twice : (b : Bool) → not (not b) ≡ b
    twice true = refl
    twice false = refl
