-- Emission in closed form; and any function that adds muxes well gives a tree's bits. Assumes nothing.
use Prim.Native.Nat.{ℕ, zero, suc, ◌+◌, ◌-◌, ◌*◌, ◌≤◌, ◌<◌}
use mathlib.Core.Bool.{Bool, true, false}
use mathlib.Core.List.{List, [], ◌∷◌, ◌++◌, map, append_assoc, append-nil}
use mathlib.Core.Path.{◌≡◌, refl, sym, ap, ap₂, ◌∙◌}
use native.Mathlib.Nat.{add-mul}
use native.Mathlib.Omega.{arith}
use lib.ListN.{get_or, length, length-append}
use borrow.Author.Tests.{leb-false, le-ltb}
use Rattle.lists.specs.Bools.{by_bool}
use Rattle.rules.proofs.Answers.{run-append, run_length, run_more}
use Rattle.rules.proofs.Muxes.{Under, bits_under, fills-nets}
use Rattle.rules.proofs.Tables.{Fine, get_d_at, low_le, net-low, net_more, nets-low}
use Rattle.rules.specs.Adds.{Adds, Reads}
use Rattle.rules.specs.Closed.{Low, bits_of, branch, drives, emits, mux_all, muxes, nets_of}
use Rattle.rules.specs.Emit.{Adder, Gives, Mux, add_all, build, plain}
use Rattle.rules.specs.Evaluate.{net_in, run}
use Rattle.rules.specs.Meaning.{Fills, Setting, Trits, bit_at, value, value_at}
use Rattle.rules.specs.Nets.{first_mux, is_cell}
use Rattle.rules.specs.Tree.{Tree, branches, leaf, node}
use Rattle.rules.specs.Trits.{bit, mux}

abbrev entry : ℕ → ℕ → ℕ → Mux
entry t x y = record { select = t; one_arm = x; zero_arm = y }

-- 01's closed form: which entries and which nets
drives-length : (k w : ℕ) → length (drives k w) ≡ w
unfolding drives
drives-length k zero = refl
drives-length k (suc w) = ap suc (drives-length (suc k) w)

pub nets-length : (g : Gives) (w k : ℕ) (t : Tree) → Fine g w t → length (nets_of g w k t) ≡ w
unfolding nets_of Fine
nets-length g w k (leaf rs) h = h.0
nets-length g w k (node t z o) h = drives-length (k + (muxes w o + muxes w z)) w

branch-length : (t w : ℕ) (xs ys : List ℕ) → length xs ≡ w → length ys ≡ w → length (branch t xs ys) ≡ w
unfolding branch
branch-length t w [] ys h k = h
branch-length t w (x ∷ xs) [] h k = absurd (omega arith)
branch-length t zero (x ∷ xs) (y ∷ ys) h k = absurd (omega arith)
branch-length t (suc w) (x ∷ xs) (y ∷ ys) h k = ap suc (branch-length t w xs ys (omega arith) (omega arith))

-- branches times width
pub muxes_are : (w : ℕ) (t : Tree) → muxes w t ≡ branches t * w
unfolding muxes branches
muxes_are w (leaf rs) = omega arith
muxes_are w (node t z o) =
    let a = muxes_are w z in
    let b = muxes_are w o in
    let c : (branches z + branches o + 1) * w ≡ branches z * w + branches o * w + w = add-mul (branches z + branches o) 1 w ∙ ap (λ (n : ℕ). n + 1 * w) (add-mul (branches z) (branches o) w) ∙ omega arith in
    omega arith

pub emits-length : (g : Gives) (w k : ℕ) (t : Tree) → Fine g w t → length (emits g w k t) ≡ muxes w t
unfolding emits muxes Fine
emits-length g w k (leaf rs) h = refl
emits-length g w k (node t z o) h =
    let xs : List ℕ = nets_of g w k o in
    let ys : List ℕ = nets_of g w (k + muxes w o) z in
    let a = emits-length g w k o h.2 in
    let b = emits-length g w (k + muxes w o) z h.1 in
    let c = branch-length t w xs ys (nets-length g w k o h.2) (nets-length g w (k + muxes w o) z h.1) in
    omega (arith, length-append (emits g w k o) (emits g w (k + muxes w o) z ++ branch t xs ys), length-append (emits g w (k + muxes w o) z) (branch t xs ys))

all_plain : (t w : ℕ) (xs ys : List ℕ) (T : List Mux) → length xs ≡ w → length ys ≡ w → add_all plain t xs ys T ≡ (T ++ branch t xs ys, drives (length T) w)
unfolding add_all branch drives
all_plain t zero [] ys T h k = λ i. (sym (append-nil T) i, [])
all_plain t (suc w) [] ys T h k = absurd (omega arith)
all_plain t w (x ∷ xs) [] T h k = absurd (omega arith)
all_plain t zero (x ∷ xs) (y ∷ ys) T h k = absurd (omega arith)
all_plain t (suc w) (x ∷ xs) (y ∷ ys) T h k =
    let U : List Mux = T ++ (entry t x y ∷ []) in
    let r = all_plain t w xs ys U (omega arith) (omega arith) in
    let l : length U ≡ suc (length T) = omega (arith, length-append T (entry t x y ∷ [])) in
    let p : (add_all plain t xs ys U).0 ≡ T ++ (entry t x y ∷ branch t xs ys) = ap (λ (q : List Mux × List ℕ). q.0) r ∙ append_assoc T (entry t x y ∷ []) (branch t xs ys) in
    let q : (add_all plain t xs ys U).1 ≡ drives (suc (length T)) w = ap (λ (q : List Mux × List ℕ). q.1) r ∙ ap (λ (k : ℕ). drives k w) l in
    λ i. (p i, (first_mux + length T) ∷ q i)

pub build-plain : (g : Gives) (w : ℕ) (t : Tree) → Fine g w t → (T : List Mux) → build plain g t T ≡ (T ++ emits g w (length T) t, nets_of g w (length T) t)
unfolding build emits nets_of Fine
build-plain g w (leaf rs) h T = λ i. (sym (append-nil T) i, g rs)
build-plain g w (node t z o) h T =
    let k : ℕ = length T in
    let A : List Mux = T ++ emits g w k o in
    let la : length A ≡ k + muxes w o = length-append T (emits g w k o) ∙ ap (λ (n : ℕ). k + n) (emits-length g w k o h.2) in
    let xs : List ℕ = nets_of g w k o in
    let E : List Mux = emits g w (k + muxes w o) z in
    let ys : List ℕ = nets_of g w (k + muxes w o) z in
    let B : List Mux = A ++ E in
    let lb : length B ≡ k + (muxes w o + muxes w z) = omega (arith, length-append A E, la, emits-length g w (k + muxes w o) z h.1) in
    let a : build plain g o T ≡ (A, xs) = build-plain g w o h.2 T in
    let b : build plain g z A ≡ (B, ys) = build-plain g w z h.1 A ∙ ap (λ (n : ℕ). (A ++ emits g w n z, nets_of g w n z)) la in
    let c : add_all plain t xs ys B ≡ (B ++ branch t xs ys, drives (length B) w) = all_plain t w xs ys B (nets-length g w k o h.2) (nets-length g w (k + muxes w o) z h.1) in
    ap (λ (p : List Mux × List ℕ). add_all plain t p.1 (build plain g z p.0).1 (build plain g z p.0).0) a
    ∙ ap (λ (p : List Mux × List ℕ). add_all plain t xs p.1 p.0) b
    ∙ c
    ∙ (λ i. ((append_assoc A E (branch t xs ys) ∙ append_assoc T (emits g w k o) (E ++ branch t xs ys)) i, drives (lb i) w))

-- the values of a table
abbrev pub vals : (ℕ → ℕ) → List Mux → List ℕ
vals f T = run f [] T

vals-length : (f : ℕ → ℕ) (T : List Mux) → length (vals f T) ≡ length T
vals-length f T = omega (arith, run_length f [] T)

-- a net that is driven reads the same in a longer table
net_stays : (f : ℕ → ℕ) (T U : List Mux) (n : ℕ) → n < first_mux + length T → net_in f (vals f (T ++ U)) n ≡ net_in f (vals f T) n
net_stays f T U n h =
    let r = run_more f (vals f T) U in
    let l = vals-length f T in
    ap (λ (vs : List ℕ). net_in f vs n) (run-append f [] T U ∙ r.1) ∙ net_more f (vals f T) r.0 n (omega arith)

nets-stay : (f : ℕ → ℕ) (T U : List Mux) (xs : List ℕ) → Low (first_mux + length T) xs → map (net_in f (vals f (T ++ U))) xs ≡ map (net_in f (vals f T)) xs
unfolding Low
nets-stay f T U [] h = refl
nets-stay f T U (x ∷ xs) h = ap₂ ◌∷◌ (net_stays f T U x h.0) (nets-stay f T U xs h.1)

-- what is made of a table: it grows, and the nets are driven and read as they should
pub record Made (f : ℕ → ℕ) (T : List Mux) (r : List Mux × List ℕ) (bits : List ℕ) : Type 0 where
  pub more : List Mux
  pub grows : r.0 ≡ T ++ more
  pub low : Low (first_mux + length r.0) r.1
  pub reads : map (net_in f (vals f r.0)) r.1 ≡ bits

longer : (T U : List Mux) (S : List Mux) → S ≡ T ++ U → length T ≤ length S
longer T U S e = omega (arith, ap length e ∙ length-append T U)

module _ (add : Adder) (good : Adds add) (f : ℕ → ℕ) (trit : Reads f) where
  all_made : (t : ℕ) → t < first_mux → (xs ys : List ℕ) (T : List Mux) → Low (first_mux + length T) xs → Low (first_mux + length T) ys
      → Made f T (add_all add t xs ys T) (mux_all (f t) (map (net_in f (vals f T)) xs) (map (net_in f (vals f T)) ys))
  unfolding add_all mux_all Low
  all_made t h [] ys T k l = record { more = []; grows = sym (append-nil T); low = tt; reads = refl }
  all_made t h (x ∷ xs) [] T k l = record { more = []; grows = sym (append-nil T); low = tt; reads = refl }
  all_made t h (x ∷ xs) (y ∷ ys) T k l =
      let a : List Mux × ℕ = add T t x y in
      let g : a.0 ≡ T ++ good.more T t x y = good.grows T t x y in
      let n = longer T (good.more T t x y) a.0 g in
      let kx : Low (first_mux + length a.0) xs = low_le (first_mux + length T) (first_mux + length a.0) (omega arith) xs k.1 in
      let ky : Low (first_mux + length a.0) ys = low_le (first_mux + length T) (first_mux + length a.0) (omega arith) ys l.1 in
      let r = all_made t h xs ys a.0 kx ky in
      let s : List Mux = (add_all add t xs ys a.0).0 in
      let m = longer a.0 r.more s r.grows in
      let w = good.low T t x y h k.0 l.0 in
      let sx : map (net_in f (vals f a.0)) xs ≡ map (net_in f (vals f T)) xs = ap (λ (U : List Mux). map (net_in f (vals f U)) xs) g ∙ nets-stay f T (good.more T t x y) xs k.1 in
      let sy : map (net_in f (vals f a.0)) ys ≡ map (net_in f (vals f T)) ys = ap (λ (U : List Mux). map (net_in f (vals f U)) ys) g ∙ nets-stay f T (good.more T t x y) ys l.1 in
      record {
        more = good.more T t x y ++ r.more;
        grows = r.grows ∙ ap (λ (U : List Mux). U ++ r.more) g ∙ append_assoc T (good.more T t x y) r.more;
        low = (omega arith, r.low);
        reads = ap₂ ◌∷◌
            (ap (λ (U : List Mux). net_in f (vals f U) a.1) r.grows ∙ net_stays f a.0 r.more a.1 w ∙ good.reads f trit T t x y h k.0 l.0)
            (r.reads ∙ ap₂ (mux_all (f t)) sx sy);
      }

  pub made : (g : Gives) (w : ℕ) (t : Tree) → Fine g w t → (T : List Mux) → Made f T (build add g t T) (bits_of f g t)
  unfolding build Fine bits_of
  made g w (leaf rs) h T =
      record { more = []; grows = sym (append-nil T); low = low_le first_mux (first_mux + length T) (omega arith) (g rs) h.1; reads = nets-low f (vals f T) (g rs) h.1 }
  made g w (node t z o) h T =
      let a = made g w o h.2 T in
      let A : List Mux × List ℕ = build add g o T in
      let b = made g w z h.1 A.0 in
      let B : List Mux × List ℕ = build add g z A.0 in
      let n = longer A.0 b.more B.0 b.grows in
      let c = all_made t h.0 A.1 B.1 B.0 (low_le (first_mux + length A.0) (first_mux + length B.0) (omega arith) A.1 a.low) b.low in
      let xs : map (net_in f (vals f B.0)) A.1 ≡ bits_of f g o =
      ap (λ (U : List Mux). map (net_in f (vals f U)) A.1) b.grows ∙ nets-stay f A.0 b.more A.1 a.low ∙ a.reads in
      record {
        more = a.more ++ (b.more ++ c.more);
        grows = c.grows ∙ ap (λ (U : List Mux). U ++ c.more) (b.grows ∙ ap (λ (U : List Mux). U ++ b.more) a.grows)
            ∙ append_assoc (T ++ a.more) b.more c.more ∙ append_assoc T a.more (b.more ++ c.more);
        low = c.low;
        reads = c.reads ∙ ap₂ (mux_all (f t)) xs b.reads;
      }

-- 01's function
plain-low : (T : List Mux) (t x y : ℕ) → first_mux + length T < first_mux + length (T ++ (entry t x y ∷ []))
plain-low T t x y = omega (arith, length-append T (entry t x y ∷ []))

plain-reads : (f : ℕ → ℕ) (T : List Mux) (t x y : ℕ) → t < first_mux → net_in f (vals f (T ++ (entry t x y ∷ []))) (first_mux + length T) ≡ mux (f t) (net_in f (vals f T) x) (net_in f (vals f T) y)
unfolding run
plain-reads f T t x y h =
    let vs : List ℕ = vals f T in
    let v : ℕ = mux (net_in f vs t) (net_in f vs x) (net_in f vs y) in
    let e : vals f (T ++ (entry t x y ∷ [])) ≡ vs ++ (v ∷ []) = run-append f [] T (entry t x y ∷ []) in
    let l : length vs ≡ length T = vals-length f T in
    let o : first_mux + length T - first_mux ≡ length vs = omega arith in
    ap (λ (us : List ℕ). net_in f us (first_mux + length T)) e
    ∙ rw (le-ltb (first_mux + length T) first_mux (omega arith), o) (get_d_at vs v [] 2 ∙ ap (λ (s : ℕ). mux s (net_in f vs x) (net_in f vs y)) (net-low f vs t h))

pub plain_adds : Adds plain
plain_adds =
    record {
      more = λ T t x y. entry t x y ∷ [];
      grows = λ T t x y. refl;
      low = λ T t x y h k l. plain-low T t x y;
      reads = λ f c T t x y h k l. plain-reads f T t x y h;
    }

pub value-trit : (σ : Setting) → Reads (value σ)
value-trit σ = record { one_is = refl; zero_is = refl; small = λ n. by_bool (is_cell n) (λ p. rw p (bit_le (bit_at σ n))) (λ p. let l = leb-false 3 n p in rw p (omega arith)) }
  where
    bit_le : (b : Bool) → bit b ≤ 2
    bit_le true = omega arith
    bit_le false = omega arith

pub value_at-trit : (τ : Trits) → ((k : ℕ) → τ k ≤ 2) → Reads (value_at τ)
value_at-trit τ h = record { one_is = refl; zero_is = refl; small = λ n. by_bool (is_cell n) (λ p. rw p (h (n - 3))) (λ p. let l = leb-false 3 n p in rw p (omega arith)) }

-- where a filling is known to be one, known bits stay
pub made-under : (add : Adder) → Adds add → (τ : Trits) (σ : Setting) → ((k : ℕ) → τ k ≤ 2) → Fills τ σ → (g : Gives) (w : ℕ) (t : Tree) → Fine g w t → (T : List Mux) (i : ℕ)
    → Under (get_or (map (net_in (value_at τ) (vals (value_at τ) (build add g t T).0)) (build add g t T).1) i 2) (get_or (map (net_in (value σ) (vals (value σ) (build add g t T).0)) (build add g t T).1) i 2)
made-under add good τ σ small f g w t h T i =
    rw ((made add good (value_at τ) (value_at-trit τ small) g w t h T).reads, (made add good (value σ) (value-trit σ) g w t h T).reads)
    (bits_under (value_at τ) (value σ) (λ n l. fills-nets τ σ f n) g w t h i)
