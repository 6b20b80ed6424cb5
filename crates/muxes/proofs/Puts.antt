-- Entries appended to a table one after the other. Assumes nothing.
use Prim.Native.Nat.{ℕ, zero, suc, ◌+◌, ◌*◌, ◌≤◌, ◌<◌}
use lib.ListN.{drop, get_or, length, length-append, replicate, set, take, take-append-drop}
use lib.Seq.{drop_at, drop-drop, length-take-le, sets-eq, take_at}
use mathlib.Core.List.{List, [], ◌∷◌, ◌++◌, append_assoc}
use mathlib.Core.Path.{◌≡◌, refl, sym, ap, ap₂, ◌∙◌}
use native.Mathlib.Numerals.{add-one}
use native.Mathlib.Omega.{arith}
use Rattle.lists.specs.Vec.{push, vec, vec_none}
use Rattle.rules.proofs.Entries.{flat_append, flat-length}
use Rattle.rules.specs.Bounds.{mux_run, width_max}
use Rattle.rules.specs.Closed.{branch, drives}
use Rattle.rules.specs.Emit.{Mux, appended, flat}
use Rattle.rules.specs.Nets.{first_mux}

abbrev pub entry : ℕ → ℕ → ℕ → Mux
entry t x y = record { select = t; one_arm = x; zero_arm = y }

-- three stores write an entry
pub entry-put : (k a b d : ℕ) (xs : List ℕ) → mux_run * (k + 1) ≤ length xs → set (set (set xs (mux_run * k) a) (mux_run * k + 1) b) (mux_run * k + 2) d ≡ appended k (entry a b d ∷ []) xs
unfolding flat
entry-put k a b d xs h =
    let p : ℕ = mux_run * k in
    let e1 : p + 1 ≡ suc p = omega arith in
    let e2 : p + 2 ≡ suc (suc p) = omega arith in
    let e3 : p + length {A = ℕ} (a ∷ b ∷ d ∷ []) ≡ mux_run * (k + 1) = omega arith in
    ap₂ (λ (i j : ℕ). set (set (set xs p a) i b) j d) e1 e2 ∙ sets-eq (a ∷ b ∷ d ∷ []) xs p (omega arith)
    ∙ append_assoc (take p xs) (a ∷ b ∷ d ∷ []) (drop (p + length {A = ℕ} (a ∷ b ∷ d ∷ [])) xs)
    ∙ ap (λ (n : ℕ). take p xs ++ (a ∷ b ∷ d ∷ drop n xs)) e3

pub appended_none : (k : ℕ) (xs : List ℕ) → appended k [] xs ≡ xs
unfolding flat
appended_none k xs =
    let e : k + 0 ≡ k = omega arith in
    ap (λ (n : ℕ). take (mux_run * k) xs ++ drop (mux_run * n) xs) e ∙ take-append-drop (mux_run * k) xs

module _ (k : ℕ) (A : List Mux) (xs : List ℕ) (h : mux_run * (k + length A) ≤ length xs) where
  abbrev front : List ℕ
  front = take (mux_run * k) xs ++ flat A

  front_is : appended k A xs ≡ front ++ drop (mux_run * (k + length A)) xs
  front_is = sym (append_assoc (take (mux_run * k) xs) (flat A) (drop (mux_run * (k + length A)) xs))

  front_long : length front ≡ mux_run * (k + length A)
  front_long =
      let a = length-take-le (mux_run * k) xs (omega arith) in
      omega (arith, a, length-append (take (mux_run * k) xs) (flat A), flat-length A)

  -- what is appended after A stands after A
  pub appended_more : (j : ℕ) (B : List Mux) → j ≡ k + length A → appended j B (appended k A xs) ≡ appended k (A ++ B) xs
  appended_more j B e =
      let n : ℕ = mux_run * (k + length A) in
      let m : ℕ = mux_run * length B in
      let rest : List ℕ = drop n xs in
      let t : take n (appended k A xs) ≡ front = ap (take n) front_is ∙ take_at front rest n front_long in
      let s : n + m ≡ mux_run * (k + length A + length B) = omega arith in
      let l : k + length A + length B ≡ k + length (A ++ B) = omega (arith, length-append A B) in
      let d : drop (mux_run * (k + length A + length B)) (appended k A xs) ≡ drop (mux_run * (k + length A + length B)) xs =
      ap (λ (q : ℕ). drop q (appended k A xs)) (sym s) ∙ sym (drop-drop m n (appended k A xs)) ∙ ap (drop m) (ap (drop n) front_is ∙ drop_at front rest n front_long)
      ∙ drop-drop m n xs ∙ ap (λ (q : ℕ). drop q xs) s in
      ap (λ (q : ℕ). appended q B (appended k A xs)) e
      ∙ ap₂ (λ (u v : List ℕ). u ++ (flat B ++ v)) t d
      ∙ append_assoc (take (mux_run * k) xs) (flat A) (flat B ++ drop (mux_run * (k + length A + length B)) xs)
      ∙ ap (λ (u : List ℕ). take (mux_run * k) xs ++ u) (sym (append_assoc (flat A) (flat B) (drop (mux_run * (k + length A + length B)) xs)))
      ∙ ap₂ (λ (u : List ℕ) (q : ℕ). take (mux_run * k) xs ++ (u ++ drop (mux_run * q) xs)) (sym (flat_append A B)) l

-- ---- a branch's muxes, bit 0 first

branch_snoc : (t i : ℕ) (xs ys : List ℕ) → i < length xs → i < length ys → branch t (take (suc i) xs) (take (suc i) ys) ≡ branch t (take i xs) (take i ys) ++ (entry t (get_or xs i 0) (get_or ys i 0) ∷ [])
unfolding branch
branch_snoc t i [] ys h k = absurd (omega arith)
branch_snoc t i (x ∷ xs) [] h k = absurd (omega arith)
branch_snoc t zero (x ∷ xs) (y ∷ ys) h k = refl
branch_snoc t (suc i) (x ∷ xs) (y ∷ ys) h k = ap (λ (l : List Mux). entry t x y ∷ l) (branch_snoc t i xs ys (omega arith) (omega arith))

branch_long : (t i : ℕ) (xs ys : List ℕ) → i ≤ length xs → i ≤ length ys → length (branch t (take i xs) (take i ys)) ≡ i
unfolding branch
branch_long t zero xs ys h k = refl
branch_long t (suc i) [] ys h k = absurd (omega arith)
branch_long t (suc i) (x ∷ xs) [] h k = absurd (omega arith)
branch_long t (suc i) (x ∷ xs) (y ∷ ys) h k = ap suc (branch_long t i xs ys (omega arith) (omega arith))

drives_snoc : (k i : ℕ) → drives k (suc i) ≡ drives k i ++ ((first_mux + (k + i)) ∷ [])
unfolding drives
drives_snoc k zero = let e : k + 0 ≡ k = omega arith in rw e
drives_snoc k (suc i) =
    let e : suc k + i ≡ k + suc i = omega arith in
    ap (λ (l : List ℕ). (first_mux + k) ∷ l) (drives_snoc (suc k) i ∙ ap (λ (n : ℕ). drives (suc k) i ++ ((first_mux + n) ∷ [])) e)

drives_long : (k w : ℕ) → length (drives k w) ≡ w
unfolding drives
drives_long k zero = refl
drives_long k (suc w) = ap suc (drives_long (suc k) w)

module _ (t k : ℕ) (a b old : List ℕ) (i : ℕ) (la : i < length a) (lb : i < length b) (room : mux_run * (k + (i + 1)) ≤ length old) where
  pub joins_put : (xs ys : List ℕ) (n : ℕ) → n ≡ k + i → xs ≡ appended k (branch t (take i a) (take i b)) old → ys ≡ appended n (entry t (get_or a i 0) (get_or b i 0) ∷ []) xs
      → ys ≡ appended k (branch t (take (i + 1) a) (take (i + 1) b)) old
  joins_put xs ys n e p q =
      let B : List Mux = branch t (take i a) (take i b) in
      let x : Mux = entry t (get_or a i 0) (get_or b i 0) in
      let l : length B ≡ i = branch_long t i a b (omega arith) (omega arith) in
      let m : n ≡ k + length B = omega arith in
      q ∙ ap (appended n (x ∷ [])) p ∙ appended_more k B old (omega arith) n (x ∷ []) m
      ∙ ap (λ (l : List Mux). appended k l old) (sym (branch_snoc t i a b la lb))
      ∙ ap (λ (j : ℕ). appended k (branch t (take j a) (take j b)) old) (sym (add-one i))

pub joins_nets : (k i y : ℕ) (nets : List ℕ) → i < width_max → nets ≡ vec width_max 0 (drives k i) → y ≡ first_mux + (k + i) → set nets i y ≡ vec width_max 0 (drives k (i + 1))
joins_nets k i y nets h e q =
    let l : length (drives k i) ≡ i = drives_long k i in
    ap₂ (λ (v : List ℕ) (x : ℕ). set v i x) e q
    ∙ ap (λ (j : ℕ). set (vec width_max 0 (drives k i)) j (first_mux + (k + i))) (sym l)
    ∙ push width_max 0 (drives k i) (first_mux + (k + i)) (omega arith)
    ∙ ap (vec width_max 0) (sym (drives_snoc k i) ∙ ap (drives k) (sym (add-one i)))

pub nets_start : (k : ℕ) → replicate width_max 0 ≡ vec width_max 0 (drives k 0)
unfolding drives
nets_start k = vec_none width_max 0

pub joins_start : (t k : ℕ) (a b old : List ℕ) → old ≡ appended k (branch t (take 0 a) (take 0 b)) old
unfolding branch
joins_start t k a b old = sym (appended_none k old)
