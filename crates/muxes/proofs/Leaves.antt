-- Some leaf of a tree is so exactly if some entry is; and the prefix, one enable after the other. Assumes nothing.
use Prim.Native.Nat.{ℕ, suc, ◌+◌, ◌-◌, ◌/◌, ◌≤◌, ◌<◌}
use borrow.Author.Tests.{lt-ltb}
use lib.Dec.{ltb}
use lib.ListN.{drop, drop_of_length-le, get_or, length, length-append, length-map, replicate, take}
use lib.Seq.{drop_at, drop-cons, take_at, take-suc}
use mathlib.Core.Bool.{Bool, true, false, not, cond, ◌&&◌, ◌||◌}
use mathlib.Core.List.{List, [], ◌∷◌, ◌++◌, append_assoc, append-nil, map}
use mathlib.Core.Path.{◌≡◌, refl, sym, ap, ap₂, ◌∙◌}
use native.Mathlib.Numerals.{add-one}
use native.Mathlib.Omega.{arith}
use Rattle.lists.specs.Bools.{and_left, and_right}
use Rattle.lists.specs.Lists.{mem}
use Rattle.muxes.specs.Leaves.{any_leaf, hit}
use Rattle.rules.proofs.Stores.{AllCells, Cells, cells_back, encode-length, fine-cells, fine-fit}
use Rattle.rules.specs.Bounds.{node_run, rules_max}
use Rattle.rules.specs.Nets.{number}
use Rattle.rules.specs.Prefix.{among, crowded, disjoint_all, prefix_from}
use Rattle.rules.specs.Store.{encode, leaf_run, run_of_node}
use Rattle.rules.specs.Tree.{Fit, Tree, fine, leaf, node, size, some_leaf}

-- ---- entries and leaves

hit_leaf : (p : List ℕ → Bool) (rs : List ℕ) → length rs ≤ rules_max → AllCells rs → hit p (leaf_run rs) ≡ p rs
hit_leaf p rs h c =
    let a : ltb (length rs) node_run ≡ true = lt-ltb (length rs) node_run (omega arith) in
    let b : take (length rs) (map number rs ++ replicate (rules_max - length rs) 0) ≡ map number rs = take_at (map number rs) (replicate (rules_max - length rs) 0) (length rs) (length-map rs number) in
    rw (a, b, cells_back rs c)

or_assoc : (a b c : Bool) → ((a || b) || c) ≡ (a || (b || c))
or_assoc true b c = refl
or_assoc false b c = refl

any_append : (p : List ℕ → Bool) (t : Tree) → Fit t → Cells t → (k j : ℕ) (r : List ℕ) → j ≡ size t + k → any_leaf p j (encode t ++ r) ≡ (some_leaf p t || any_leaf p k r)
unfolding any_leaf encode some_leaf size Fit Cells
any_append p (leaf rs) h c k j r e =
    let l : length (leaf_run rs) ≡ node_run = encode-length (leaf rs) h in
    let s : j ≡ suc k = omega arith in
    rw (s, take_at (leaf_run rs) r node_run l, drop_at (leaf_run rs) r node_run l, hit_leaf p rs h c)
any_append p (node t z o) h c k j r e =
    let w : List ℕ = run_of_node t (size o) in
    let a : (encode z ++ (encode o ++ w)) ++ r ≡ encode z ++ (encode o ++ (w ++ r)) =
    append_assoc (encode z) (encode o ++ w) r ∙ ap (λ (l : List ℕ). encode z ++ l) (append_assoc (encode o) w r) in
    let q = any_append p z h.0 c.1 (size o + suc k) j (encode o ++ (w ++ r)) (omega arith) in
    let s = any_append p o h.1 c.2 (suc k) (size o + suc k) (w ++ r) refl in
    rw (a, q, s) (sym (or_assoc (some_leaf p z) (some_leaf p o) (any_leaf p k r)))

pub any_tree : (p : List ℕ → Bool) (t : Tree) (xs : List ℕ) → xs ≡ encode t → fine t ≡ true → any_leaf p (length xs / node_run) xs ≡ some_leaf p t
unfolding any_leaf
any_tree p t xs i f =
    let n : length xs / node_run ≡ size t = omega (arith, ap length i, encode-length t (fine-fit t f)) in
    ap₂ (λ (m : ℕ) (l : List ℕ). any_leaf p m l) n (i ∙ sym (append-nil (encode t)))
    ∙ any_append p t (fine-fit t f) (fine-cells t f) 0 (size t) [] (omega arith) ∙ last (some_leaf p t)
  where
    last : (b : Bool) → (b || false) ≡ b
    last true = refl
    last false = refl

-- ---- an entry, and those after it

module _ (p : List ℕ → Bool) (xs x ys : List ℕ) (e : xs ≡ x ++ ys) (l : length x ≡ node_run) where
  any_step : any_leaf p (length xs / node_run) xs ≡ (hit p x || any_leaf p (length ys / node_run) ys)
  unfolding any_leaf
  any_step =
      let n : length xs / node_run ≡ suc (length ys / node_run) = omega (arith, ap length e, length-append x ys) in
      ap₂ (any_leaf p) n e ∙ ap₂ (λ (a b : List ℕ). hit p a || any_leaf p (length ys / node_run) b) (take_at x ys node_run l) (drop_at x ys node_run l)

  pub any_stop : hit p x ≡ true → any_leaf p (length xs / node_run) xs ≡ true
  any_stop h = any_step ∙ rw h

  pub any_more : hit p x ≡ false → any_leaf p (length xs / node_run) xs ≡ any_leaf p (length ys / node_run) ys
  any_more h = any_step ∙ rw h

pub any_end : (p : List ℕ → Bool) (xs : List ℕ) → length xs < node_run → any_leaf p (length xs / node_run) xs ≡ false
unfolding any_leaf
any_end p xs h = let s : length xs / node_run ≡ 0 = omega arith in ap (λ (k : ℕ). any_leaf p k xs) s

-- ---- the prefix, one enable after the other

among_snoc : (outs xs : List ℕ) (e : ℕ) → among outs xs ≡ true → among outs (xs ++ (e ∷ [])) ≡ mem e outs
unfolding among
among_snoc outs [] e h = last (mem e outs)
  where
    last : (b : Bool) → (b && true) ≡ b
    last true = refl
    last false = refl
among_snoc outs (x ∷ xs) e h =
    let a = and_left (mem x outs) (among outs xs) h in
    let r = among_snoc outs xs e in
    rw a (r (and_right (mem x outs) (among outs xs) h))

module _ (outs es : List ℕ) (t : Tree) (i : ℕ) (h : i < length es) (fine-so-far : among outs (take i es) ≡ true) where
  front : take (i + 1) es ≡ take i es ++ (get_or es i 0 ∷ [])
  front = ap (λ (k : ℕ). take k es) (add-one i) ∙ take-suc es i 0 h

  among_next : among outs (take (i + 1) es) ≡ mem (get_or es i 0) outs
  among_next = ap (among outs) front ∙ among_snoc outs (take i es) (get_or es i 0) fine-so-far

  all_next : disjoint_all outs t (take i es ++ (get_or es i 0 ∷ [])) ≡ (mem (get_or es i 0) outs && not (some_leaf (crowded (take (i + 1) es)) t))
  all_next = ap (disjoint_all outs t) (sym front) ∙ ap (λ (b : Bool). b && not (some_leaf (crowded (take (i + 1) es)) t)) among_next

  rest_is : drop i es ≡ get_or es i 0 ∷ drop (i + 1) es
  rest_is = drop-cons es i 0 h ∙ ap (λ (k : ℕ). get_or es i 0 ∷ drop k es) (sym (add-one i))

  from_step : prefix_from outs t (take i es) (drop i es) ≡ cond (mem (get_or es i 0) outs && not (some_leaf (crowded (take (i + 1) es)) t)) (suc (prefix_from outs t (take (i + 1) es) (drop (i + 1) es))) 0
  unfolding prefix_from
  from_step =
      ap (prefix_from outs t (take i es)) rest_is
      ∙ ap₂ (λ (b : Bool) (l : List ℕ). cond b (suc (prefix_from outs t l (drop (i + 1) es))) 0) all_next (sym front)

  pub among_more : mem (get_or es i 0) outs ≡ true → among outs (take (i + 1) es) ≡ true
  among_more e = among_next ∙ e

  pub from_alien : mem (get_or es i 0) outs ≡ false → prefix_from outs t (take i es) (drop i es) ≡ 0
  from_alien e = from_step ∙ rw e

  pub from_crowd : mem (get_or es i 0) outs ≡ true → some_leaf (crowded (take (i + 1) es)) t ≡ true → prefix_from outs t (take i es) (drop i es) ≡ 0
  from_crowd e q = from_step ∙ rw (e, q)

  pub from_more : mem (get_or es i 0) outs ≡ true → some_leaf (crowded (take (i + 1) es)) t ≡ false → prefix_from outs t (take i es) (drop i es) ≡ suc (prefix_from outs t (take (i + 1) es) (drop (i + 1) es))
  from_more e q = from_step ∙ rw (e, q)

pub from_end : (outs es : List ℕ) (t : Tree) (i : ℕ) → length es ≤ i → prefix_from outs t (take i es) (drop i es) ≡ 0
unfolding prefix_from
from_end outs es t i h = ap (prefix_from outs t (take i es)) (drop_of_length-le es h)
