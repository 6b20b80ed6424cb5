-- What the nets of an emitted tree give, in a table. Assumes nothing.
use Prim.Native.Nat.{ℕ, zero, suc, ◌+◌, ◌<◌}
use mathlib.Core.Path.{◌≡◌, refl, sym, ap, ap₂, ◌∙◌}
use mathlib.Core.List.{List, [], ◌∷◌, ◌++◌, map, append-nil, append_assoc}
use mathlib.Core.Bool.{Bool, true, false, cond}
use mathlib.Core.Option.{Option, none, some}
use native.Mathlib.Omega.{arith}
use native.Mathlib.Nat.{add-zero}
use lib.ListN.{length, get_or, length-append, length-map}
use Rattle.lists.specs.Lists.{mem}
use Rattle.rules.proofs.Tables.{Fine, nets_more, ran}
use Rattle.rules.specs.Closed.{Low, Updates, Wide, answers, bits_of, emits, nets_of}
use Rattle.rules.specs.Emit.{Gives, Mux, Update, disjoint, get_else, one_hot, or_else, update_for}
use Rattle.rules.specs.Evaluate.{net_in, run}
use Rattle.rules.specs.Meaning.{Setting, value}
use Rattle.rules.specs.Nets.{first_mux}
use Rattle.rules.specs.Tree.{Tests, Tree, leaf, node}
use Rattle.rules.specs.Trits.{bit, mux}

pub run-append : (f : ℕ → ℕ) (vs : List ℕ) (xs ys : List Mux) → run f vs (xs ++ ys) ≡ run f (run f vs xs) ys
unfolding run
run-append f vs [] ys = refl
run-append f vs (x ∷ xs) ys = run-append f (vs ++ (mux (net_in f vs x.select) (net_in f vs x.one_arm) (net_in f vs x.zero_arm) ∷ [])) xs ys

-- an entry, a value
pub run_length : (f : ℕ → ℕ) (vs : List ℕ) (xs : List Mux) → length (run f vs xs) ≡ length vs + length xs
unfolding run
run_length f vs [] = sym (add-zero (length vs))
run_length f vs (x ∷ xs) =
    let v : ℕ = mux (net_in f vs x.select) (net_in f vs x.one_arm) (net_in f vs x.zero_arm) in
    omega (arith, run_length f (vs ++ (v ∷ [])) xs, length-append vs (v ∷ []))

-- values so far stay
pub run_more : (f : ℕ → ℕ) (vs : List ℕ) (xs : List Mux) → (us : List ℕ) × (run f vs xs ≡ vs ++ us)
unfolding run
run_more f vs [] = ([], sym (append-nil vs))
run_more f vs (x ∷ xs) =
    let v : ℕ = mux (net_in f vs x.select) (net_in f vs x.one_arm) (net_in f vs x.zero_arm) in
    let r = run_more f (vs ++ (v ∷ [])) xs in
    (v ∷ r.0, r.1 ∙ append_assoc vs (v ∷ []) r.0)

pub answers_bits : (f : ℕ → ℕ) (g : Gives) (w : ℕ) (old more : List Mux) (t : Tree) → Fine g w t → answers f g w old more t ≡ bits_of f g t
unfolding run
answers_bits f g w old more t h =
    let vs : List ℕ = run f [] old in
    let l : length vs ≡ length old = run_length f [] old ∙ none_before in
    let r = ran f g w t h vs in
    let m = run_more f (vs ++ r.news) more in
    let e : run f [] (old ++ (emits g w (length old) t ++ more)) ≡ (vs ++ r.news) ++ m.0 =
    run-append f [] old (emits g w (length old) t ++ more)
    ∙ ap (λ (k : ℕ). run f vs (emits g w k t ++ more)) (sym l)
    ∙ r.runs more ∙ m.1 in
    ap₂ (λ (us : List ℕ) (k : ℕ). map (net_in f us) (nets_of g w k t)) e (sym l)
    ∙ nets_more f (vs ++ r.news) m.0 (nets_of g w (length vs) t) r.low
    ∙ r.reads
  where
    none_before : 0 + length old ≡ length old
    none_before = omega arith

pub fine_of : (g : Gives) (w : ℕ) → Wide g w → (t : Tree) → Tests (λ n. n < first_mux) t → Fine g w t
unfolding Fine Tests
fine_of g w h (leaf rs) c = (h.width rs, h.small rs)
fine_of g w h (node t z o) c = (c.0, fine_of g w h z c.1, fine_of g w h o c.2)

-- one-hot
pub hot_at : (outs rs : List ℕ) (i : ℕ) → i < length outs → get_or (one_hot outs rs) i 2 ≡ bit (mem (get_or outs i 0) rs)
hot_at [] rs i h = absurd (omega arith)
hot_at (q ∷ outs) rs zero h = refl
hot_at (q ∷ outs) rs (suc i) h = hot_at outs rs i (omega arith)

bit-small : (b : Bool) → bit b < first_mux
bit-small true = omega arith
bit-small false = omega arith

hot_low : (outs rs : List ℕ) → Low first_mux (one_hot outs rs)
unfolding Low
hot_low [] rs = tt
hot_low (q ∷ outs) rs = (bit-small (mem q rs), hot_low outs rs)

pub one_hot_wide : (outs : List ℕ) → Wide (one_hot outs) (length outs)
one_hot_wide outs = record { width = λ rs. length-map outs (λ (q : ℕ). bit (mem q rs)); small = λ rs. hot_low outs rs }

value-bit : (σ : Setting) (b : Bool) → value σ (bit b) ≡ bit b
value-bit σ true = refl
value-bit σ false = refl

pub one_hot-value : (σ : Setting) (outs rs : List ℕ) → map (value σ) (one_hot outs rs) ≡ one_hot outs rs
one_hot-value σ [] rs = refl
one_hot-value σ (q ∷ outs) rs = ap₂ ◌∷◌ (value-bit σ (mem q rs)) (one_hot-value σ outs rs)

-- disjoint
abbrev Fits : ℕ → Option (List ℕ) → Type 0
Fits w none = Unit {0}
Fits w (some bits) = (length bits ≡ w) × Low first_mux bits

for_fits : (w : ℕ) (us : List Update) (n : ℕ) → Updates w us → Fits w (update_for us n)
unfolding update_for Updates
for_fits w [] n h = tt
for_fits w (u ∷ us) n h = first (update_for us n) (cond (lib.Dec.eqb u.target n) (some u.bits) none) (for_fits w us n h.2) (second (lib.Dec.eqb u.target n))
  where
    second : (b : Bool) → Fits w (cond b (some u.bits) none)
    second true = (h.0, h.1)
    second false = tt

    first : (a b : Option (List ℕ)) → Fits w a → Fits w b → Fits w (or_else a b)
    first (some x) b p q = p
    first none b p q = q

disjoint-fits : (w : ℕ) (us : List Update) (d : List ℕ) → Updates w us → (length d ≡ w) × Low first_mux d → (rs : List ℕ) → (length (disjoint us d rs) ≡ w) × Low first_mux (disjoint us d rs)
unfolding disjoint
disjoint-fits w us d h k [] = k
disjoint-fits w us d h k (r ∷ rs) = choose (update_for us r) (for_fits w us r h) (disjoint us d rs) (disjoint-fits w us d h k rs)
  where
    choose : (a : Option (List ℕ)) → Fits w a → (b : List ℕ) → (length b ≡ w) × Low first_mux b → (length (get_else a b) ≡ w) × Low first_mux (get_else a b)
    choose (some x) p b q = p
    choose none p b q = q

pub disjoint_wide : (w : ℕ) (us : List Update) (d : List ℕ) → Updates w us → (length d ≡ w) × Low first_mux d → Wide (disjoint us d) w
disjoint_wide w us d h k = record { width = λ rs. (disjoint-fits w us d h k rs).0; small = λ rs. (disjoint-fits w us d h k rs).1 }
