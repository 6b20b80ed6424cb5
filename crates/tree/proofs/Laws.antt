-- Laws of lists that the crate's proofs share: parts lent and come back, entries written, runs compared. Assumes nothing.
use Prim.Native.Nat.{ℕ, zero, suc, ◌≤◌, ◌<◌, ◌-◌, ◌+◌}
use mathlib.Core.List.{List, [], ◌∷◌, ◌++◌, append-nil, append_assoc, map}
use mathlib.Core.Path.{◌≡◌, refl, sym, ap, ap₂, ◌∙◌}
use native.Mathlib.Nat.{le_antisymm}
use native.Mathlib.Numerals.{add-one, one-add}
use native.Mathlib.Omega.{arith}
use lib.ListN.{drop, drop_of_length-le, get_or, get_or-replicate, length, length-drop, length-map, length-take, get_or-map, replicate, set, take}
use lib.Seq.{ext_get_or, get_or-drop, get_or-take, length-take-le, paste, paste-suc, take_all}
use Rattle.rules.specs.Bounds.{node_run, rules_max}
use Rattle.rules.specs.Nets.{cell, number}
use Rattle.rules.specs.Store.{leaf_run, run_of_node}

-- a loop that filled d up to n, at the end of d
pub filled : (n v : ℕ) (d s : List ℕ) → n ≤ length d → length d ≤ n → s ≡ replicate n v ++ drop n d → s ≡ replicate (length d) v
filled n v d s p q e =
    let e1 : n ≡ length d = le_antisymm p q in
    e ∙ rw (drop_of_length-le d q, e1) (append-nil (replicate (length d) v))

-- the rest from k on, lent and come back as ys
pub rest : (k : ℕ) (xs ys : List ℕ) → k ≤ length xs → take k xs ++ (ys ++ drop (length xs - k) (drop k xs)) ≡ take k xs ++ ys
rest k xs ys h =
    let h2 : length (drop k xs) ≤ length xs - k = simp length-drop (omega arith) in
    let e : drop (length xs - k) (drop k xs) ≡ [] = drop_of_length-le (drop k xs) h2 in
    rw (e, append-nil ys)

pub part_length : (k : ℕ) (xs : List ℕ) → length (take (length xs - k) (drop k xs)) ≡ length xs - k
part_length k xs = simp (length-take, length-drop) (omega arith)

-- ---- an entry that was cleared, in front of what stands after it

pub cleared-run : (xs ys : List ℕ) → node_run ≤ length xs → ys ≡ replicate (length (take node_run xs)) 0
    → ys ++ drop node_run xs ≡ replicate node_run 0 ++ drop node_run xs
cleared-run xs ys h e = ap (λ (l : List ℕ). l ++ drop node_run xs) (e ∙ ap (λ (n : ℕ). replicate n 0) (length-take-le node_run xs h))

-- three stores make a branch of it
pub branch-put : (xs ys : List ℕ) (t k : ℕ) → node_run ≤ length xs → ys ≡ replicate (length (take node_run xs)) 0
    → set (set (set (ys ++ drop node_run xs) 0 node_run) 1 t) 2 k ≡ run_of_node (cell t) k ++ drop node_run xs
branch-put xs ys t k h e =
    let n : number (cell t) ≡ t = omega arith in
    rw (cleared-run xs ys h e, n) refl

-- a leaf's rules, one after the other
pub leaf_turn : (d at s : List ℕ) (i x : ℕ) → s ≡ paste d 1 (map number at) i → i + 1 < length d → i < length at → x ≡ number (get_or at i 0)
    → set s (i + 1) x ≡ paste d 1 (map number at) (i + 1)
leaf_turn d at s i x e h g q =
    let c : i + 1 ≡ 1 + i = omega arith in
    let l : length (map number at) ≡ length at = length-map at number in
    let p : x ≡ get_or (map number at) i 0 = q ∙ sym (get_or-map number at i 0) in
    rw (e, p) (ap (λ (k : ℕ). set (paste d 1 (map number at) i) k (get_or (map number at) i 0)) c ∙ paste-suc d 1 (map number at) i 0 (omega arith) (omega arith)
    ∙ ap (λ (k : ℕ). paste d 1 (map number at) k) (sym (add-one i)))

take-map : (f : ℕ → ℕ) (n : ℕ) (l : List ℕ) → take n (map f l) ≡ map f (take n l)
take-map f zero l = refl
take-map f (suc n) [] = refl
take-map f (suc n) (x ∷ l) = ap (λ (r : List ℕ). f x ∷ r) (take-map f n l)

drop_zeros : (n m : ℕ) (r : List ℕ) → n ≤ m → drop n (replicate m 0 ++ r) ≡ replicate (m - n) 0 ++ r
drop_zeros zero m r h = let e : m - 0 ≡ m = omega arith in rw e
drop_zeros (suc n) zero r h = absurd (omega arith)
drop_zeros (suc n) (suc m) r h = let e : suc m - suc n ≡ m - n = omega arith in rw e (drop_zeros n m r (omega arith))

pub leaf_done : (xs ys at s : List ℕ) → length at ≤ rules_max → node_run ≤ length xs → ys ≡ replicate (length (take node_run xs)) 0
    → s ≡ paste (set (ys ++ drop node_run xs) 0 (length at)) 1 (map number at) (length at) → s ≡ leaf_run at ++ drop node_run xs
leaf_done xs ys at s hn h e p =
    let n : ℕ = length at in
    let r : List ℕ = drop node_run xs in
    let all : take n (map number at) ≡ map number at = take-map number n at ∙ ap (λ (l : List ℕ). map number l) (take_all n at (omega arith)) in
    let d : drop (1 + n) (set (replicate node_run 0 ++ r) 0 n) ≡ replicate (rules_max - n) 0 ++ r =
    ap (λ (k : ℕ). drop k (set (replicate node_run 0 ++ r) 0 n)) (one-add n) ∙ drop_zeros n rules_max r hn in
    p ∙ rw (cleared-run xs ys h e, all, d) (ap (λ (l : List ℕ). n ∷ l) (sym (append_assoc (map number at) (replicate (rules_max - n) 0) r)))

-- ---- of two runs: other lengths; an index at which they differ; no such index

pub runs_long : (a b : ℕ) (xs : List ℕ) → a + b ≤ length xs → (a ≡ b → ⊥) → take a xs ≡ take b (drop a xs) → ⊥
runs_long a b xs h ne e =
    let l : length (take a xs) ≡ a = length-take-le a xs (omega arith) in
    let m : length (take b (drop a xs)) ≡ b = simp (length-take, length-drop) (omega arith) in
    ne (sym l ∙ ap length e ∙ m)

pub runs-at : (a b i : ℕ) (xs : List ℕ) → a ≡ b → i < a → (get_or xs i 0 ≡ get_or xs (a + i) 0 → ⊥) → take a xs ≡ take b (drop a xs) → ⊥
runs-at a b i xs p h ne e =
    let hb : i < b = omega arith in
    ne (sym (get_or-take a xs i 0 h) ∙ ap (λ (l : List ℕ). get_or l i 0) e ∙ get_or-take b (drop a xs) i 0 hb ∙ get_or-drop a xs i 0)

pub runs-all : (a b : ℕ) (xs : List ℕ) → a + b ≤ length xs → a ≡ b → ((k : ℕ) → k < a → get_or xs k 0 ≡ get_or xs (a + k) 0) → take a xs ≡ take b (drop a xs)
runs-all a b xs h p f =
    let l : length (take a xs) ≡ a = length-take-le a xs (omega arith) in
    let m : length (take b (drop a xs)) ≡ b = simp (length-take, length-drop) (omega arith) in
    ext_get_or 0 (take a xs) (take b (drop a xs)) (l ∙ p ∙ sym m) (λ i hi.
    let ha : i < a = omega arith in
    let hb : i < b = omega arith in
    get_or-take a xs i 0 ha ∙ f i ha ∙ sym (get_or-take b (drop a xs) i 0 hb ∙ get_or-drop a xs i 0))

-- ---- a slice of zeros

pub zeros_all : (xs : List ℕ) → ((k : ℕ) → k < length xs → get_or xs k 0 ≡ 0) → xs ≡ replicate (length xs) 0
zeros_all [] f = refl
zeros_all (x ∷ xs) f = ap₂ ◌∷◌ (f 0 (omega arith)) (zeros_all xs (λ k h. f (suc k) (omega arith)))

pub zeros_not : (xs : List ℕ) (i : ℕ) → i < length xs → (get_or xs i 0 ≡ 0 → ⊥) → xs ≡ replicate (length xs) 0 → ⊥
zeros_not xs i h ne e = ne (ap (λ (l : List ℕ). get_or l i 0) e ∙ get_or-replicate (length xs) i 0 0 h)
