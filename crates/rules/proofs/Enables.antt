-- The enable, and the catch-all. Assumes nothing.
use Prim.Native.Nat.{ℕ, zero, suc, ◌<◌}
use mathlib.Core.Path.{◌≡◌, refl, sym, ap, ◌∙◌}
use mathlib.Core.List.{List, [], ◌∷◌, ◌++◌, map}
use mathlib.Core.Bool.{Bool, true, false, ◌&&◌, false≢true, and_assoc, and-true, and-false}
use mathlib.Core.Option.{Option, none, some}
use native.Mathlib.Omega.{arith}
use lib.Dec.{eqb}
use lib.ListN.{length, replicate, length-replicate}
use borrow.Author.Tests.{eqb-true, eqb-false, ne_eqb, leb-false}
use Rattle.lists.specs.Bools.{by_bool}
use Rattle.rules.proofs.Normal.{all_x-matches}
use Rattle.rules.specs.Dispatch.{catch_all}
use Rattle.rules.specs.Matrix.{Matrix, Row, add_enable, all_x, off, widened}
use Rattle.rules.specs.Meaning.{Covered, Setting, Shaped, bit_at, first_match, first_row, fits, gated, matches, value}
use Rattle.rules.specs.Nets.{is_cell}
use Rattle.rules.specs.Normalize.{again, asked, columns, keep, kept, normalize, sound, target}
use Rattle.rules.specs.Trits.{bit}

matches_snoc : (f : ℕ → ℕ) (ns ms : List ℕ) (e t : ℕ) → length ms ≡ length ns → matches f (ns ++ (e ∷ [])) (ms ++ (t ∷ [])) ≡ (matches f ns ms && fits t (f e))
unfolding matches
matches_snoc f [] [] e t l = and-true (fits t (f e))
matches_snoc f [] (m ∷ ms) e t l = absurd (omega arith)
matches_snoc f (n ∷ ns) [] e t l = absurd (omega arith)
matches_snoc f (n ∷ ns) (m ∷ ms) e t l = rw (matches_snoc f ns ms e t (omega arith)) (sym (and_assoc (fits m (f n)) (matches f ns ms) (fits t (f e))))

widened_on : (f : ℕ → ℕ) (ns : List ℕ) (e : ℕ) (rs : List Row) → Shaped (length ns) rs → fits 1 (f e) ≡ true → first_row f (ns ++ (e ∷ [])) (map widened rs) ≡ first_row f ns rs
unfolding first_row Shaped
widened_on f ns e [] s h = refl
widened_on f ns e (r ∷ rs) s h = rw (matches_snoc f ns r.pattern e 1 s.0, h, and-true (matches f ns r.pattern), widened_on f ns e rs s.1 h)

widened-off : (f : ℕ → ℕ) (ns : List ℕ) (e : ℕ) (rs : List Row) → Shaped (length ns) rs → fits 1 (f e) ≡ false → first_row f (ns ++ (e ∷ [])) (map widened rs) ≡ none
unfolding first_row Shaped
widened-off f ns e [] s h = refl
widened-off f ns e (r ∷ rs) s h = rw (matches_snoc f ns r.pattern e 1 s.0, h, and-false (matches f ns r.pattern), widened-off f ns e rs s.1 h)

pub all_x-replicate : (n : ℕ) → all_x (replicate n 2) ≡ true
unfolding all_x
all_x-replicate zero = refl
all_x-replicate (suc n) = all_x-replicate n

off-matches : (f : ℕ → ℕ) (m : Matrix) (e : ℕ) → matches f (m.nets ++ (e ∷ [])) (off m).pattern ≡ fits 0 (f e)
off-matches f m e =
    matches_snoc f m.nets (replicate (length m.nets) 2) e 0 (length-replicate (length m.nets) 2)
    ∙ ap (λ (b : Bool). b && fits 0 (f e)) (all_x-matches f m.nets (replicate (length m.nets) 2) (all_x-replicate (length m.nets)))

gate : (f : ℕ → ℕ) (e : ℕ) (m : Matrix) → Shaped (length m.nets) m.rows
    → first_row f (m.nets ++ (e ∷ [])) (off m ∷ map widened m.rows) ≡ gated (f e) (first_row f m.nets m.rows)
unfolding first_row
gate f e m s =
    by_bool (eqb (f e) 1)
    (λ p.
    let q : f e ≡ 1 = eqb-true (f e) 1 p in
    let o : fits 0 (f e) ≡ false = rw q in
    let i : fits 1 (f e) ≡ true = rw q in
    rw (off-matches f m e, o, p) (widened_on f m.nets e m.rows s i))
    (λ p. by_bool (eqb (f e) 0)
    (λ z.
    let q : f e ≡ 0 = eqb-true (f e) 0 z in
    let o : fits 0 (f e) ≡ true = rw q in
    rw (off-matches f m e, o, p, z))
    (λ z.
    let o : fits 0 (f e) ≡ false = ne_eqb 0 (f e) (λ q. eqb-false (f e) 0 z (sym q)) in
    let i : fits 1 (f e) ≡ false = ne_eqb 1 (f e) (λ q. eqb-false (f e) 1 p (sym q)) in
    rw (off-matches f m e, o, p, z) (widened-off f m.nets e m.rows s i)))

pub enable_first : (σ : Setting) (e : ℕ) (m : Matrix) → Shaped (length m.nets) m.rows → first_match σ (add_enable e m) ≡ gated (value σ e) (first_match σ m)
enable_first σ e m s =
    by_bool (eqb e 1)
    (λ p. rw (eqb-true e 1 p))
    (λ p. rw p (gate (value σ) e m s))

some_none : (rs : List ℕ) → some rs ≡ none → ⊥
some_none rs e = let z : ◌≡◌ {A = ℕ} 0 1 = cc in absurd (omega arith)

-- a last row of X matches where none before does
pub catch-first : (f : ℕ → ℕ) (ns : List ℕ) (rs : List Row) → catch_all rs ≡ true → first_row f ns rs ≡ none → ⊥
unfolding catch_all first_row
catch-first f ns [] c = absurd (false≢true c)
catch-first f ns (r ∷ []) c = rw (all_x-matches f ns r.pattern c) (some_none r.rules)
catch-first f ns (r ∷ s ∷ rs) c =
    let one = catch-first f ns (s ∷ rs) c in
    by_bool (matches f ns r.pattern) (λ p. rw p (some_none r.rules)) (λ p. rw p one)

-- with a catch-all and any enable but the constant X, some row matches at every setting
pub covered_enable : (e : ℕ) (m : Matrix) → Shaped (length m.nets) m.rows → catch_all m.rows ≡ true → (e ≡ 2 → ⊥) → Covered (add_enable e m)
covered_enable e m s c h σ z = go (value σ e) (known σ) (sym (enable_first σ e m s) ∙ z)
  where
    go : (v : ℕ) → v < 2 → gated v (first_match σ m) ≡ none → ⊥
    go zero l q = some_none [] q
    go (suc zero) l q = catch-first (value σ) m.nets m.rows c q
    go (suc (suc v)) l q = absurd (omega arith)

    bit-small : (b : Bool) → bit b < 2
    bit-small true = omega arith
    bit-small false = omega arith

    known : (σ : Setting) → value σ e < 2
    known σ = by_bool (is_cell e) (λ p. rw p (bit-small (bit_at σ e))) (λ p. let l = leb-false 3 e p in rw p (omega arith))

-- an enable that is the constant X: no row is left
abbrev Unsound : List ℕ → List Row → Type 0
Unsound ns [] = Unit {0}
Unsound ns (r ∷ rs) = (sound ns r.pattern ≡ false) × Unsound ns rs

keep_none : (ns : List ℕ) (last : Option (List ℕ)) (rs : List Row) → Unsound ns rs → keep ns last rs ≡ []
unfolding keep
keep_none ns last [] u = refl
keep_none ns last (r ∷ rs) u =
    let one = keep_none ns last rs u.1 in
    let two = keep_none ns (some r.pattern) rs u.1 in
    by_bool (again last r.pattern) (λ p. rw p one) (λ p. rw (p, u.0) two)

columns_none : (ask : ℕ → Bool) (before ns : List ℕ) → ((n : ℕ) → ask n ≡ false) → columns ask before ns ≡ []
unfolding columns
columns_none ask before [] h = refl
columns_none ask before (n ∷ ns) h = rw (h n, and-false, and-false) (columns_none ask (n ∷ before) ns h)

-- a row held against a constant X by a mask that is none
snoc_unsound : (ns ms : List ℕ) (t : ℕ) → length ms ≡ length ns → fits t 2 ≡ false → sound (ns ++ (2 ∷ [])) (ms ++ (t ∷ [])) ≡ false
snoc_unsound ns ms t l h =
    matches_snoc (target (ns ++ (2 ∷ [])) (ms ++ (t ∷ []))) ns ms 2 t l
    ∙ ap (λ (b : Bool). matches (target (ns ++ (2 ∷ [])) (ms ++ (t ∷ []))) ns ms && b) h ∙ and-false (matches (target (ns ++ (2 ∷ [])) (ms ++ (t ∷ []))) ns ms)

widened-unsound : (ns : List ℕ) (rs : List Row) → Shaped (length ns) rs → Unsound (ns ++ (2 ∷ [])) (map widened rs)
unfolding Shaped
widened-unsound ns [] s = tt
widened-unsound ns (r ∷ rs) s = (snoc_unsound ns r.pattern 1 s.0 refl, widened-unsound ns rs s.1)

kept_none : (m : Matrix) → Shaped (length m.nets) m.rows → kept (add_enable 2 m) ≡ []
kept_none m s =
    keep_none (m.nets ++ (2 ∷ [])) none (off m ∷ map widened m.rows)
    (snoc_unsound m.nets (replicate (length m.nets) 2) 0 (length-replicate (length m.nets) 2) refl, widened-unsound m.nets m.rows s)

pub enable_x : (m : Matrix) → Shaped (length m.nets) m.rows → normalize (add_enable 2 m) ≡ record { nets = []; rows = [] }
unfolding normalize asked
enable_x m s =
    let k = kept_none m s in
    let ns : List ℕ = m.nets ++ (2 ∷ []) in
    let c : columns (asked ns []) [] ns ≡ [] = columns_none (asked ns []) [] ns (λ n. refl) in
    rw k (λ i. record { nets = c i; rows = [] })
