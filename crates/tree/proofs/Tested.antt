-- No entry of a tree tests a net exactly if no branch of it does. Assumes nothing.
use Prim.Native.Nat.{ℕ, suc, ◌+◌, ◌/◌, ◌≤◌, ◌<◌}
use mathlib.Core.Bool.{Bool, true, false, not, ◌&&◌}
use mathlib.Core.List.{List, [], ◌++◌, append_assoc, append-nil}
use mathlib.Core.Path.{◌≡◌, refl, sym, ap, ◌∙◌}
use native.Mathlib.Omega.{arith}
use borrow.Author.Tests.{eq-eqb, eqb-false, eqb-true, ne_eqb}
use lib.Dec.{eqb}
use lib.ListN.{get_or, length, length-append}
use lib.Seq.{drop_at}
use Rattle.std.proofs.lemmas.List.{get_or_append_left}
use Rattle.lists.specs.Bools.{by_bool}
use Rattle.rules.proofs.Stores.{Cells, encode-length}
use Rattle.rules.specs.Bounds.{node_run}
use Rattle.rules.specs.Nets.{cell, number}
use Rattle.rules.specs.Store.{encode, leaf_run, run_of_node}
use Rattle.rules.specs.Tree.{Fit, Tree, leaf, node, size, untested}
use Rattle.tree.specs.Form.{none_tests}

same_test : (t n : ℕ) → 3 ≤ t → eqb (number t) n ≡ eqb (cell n) t
same_test t n h =
    by_bool (eqb (number t) n)
    (λ e. let o : eqb (cell n) t ≡ true = eq-eqb (cell n) t (omega (arith, eqb-true (number t) n e)) in rw (e, o))
    (λ e. let o : eqb (cell n) t ≡ false = ne_eqb (cell n) t (λ q. eqb-false (number t) n e (omega arith)) in rw (e, o))

turn : (a b c d : Bool) → (a && (b && (c && d))) ≡ ((c && (a && b)) && d)
turn true true true d = refl
turn true true false d = refl
turn true false true d = refl
turn true false false d = refl
turn false b true d = refl
turn false b false d = refl

pub none_append : (n : ℕ) (t : Tree) → Fit t → Cells t → (k j : ℕ) (r : List ℕ) → j ≡ size t + k
    → none_tests n j (encode t ++ r) ≡ (untested (cell n) t && none_tests n k r)
unfolding none_tests encode untested size Fit Cells
none_append n (leaf rs) h c k j r e =
    let l : length (leaf_run rs) ≡ node_run = encode-length (leaf rs) h in
    let s : j ≡ suc k = omega arith in
    let b : eqb (length rs) node_run ≡ false = ne_eqb (length rs) node_run (λ q. omega arith) in
    rw (s, b, drop_at (leaf_run rs) r node_run l)
none_append n (node t z o) h c k j r e =
    let w : List ℕ = run_of_node t (size o) in
    let a : (encode z ++ (encode o ++ w)) ++ r ≡ encode z ++ (encode o ++ (w ++ r)) =
    append_assoc (encode z) (encode o ++ w) r ∙ ap (λ (l : List ℕ). encode z ++ l) (append_assoc (encode o) w r) in
    let p = none_append n z h.0 c.1 (size o + suc k) j (encode o ++ (w ++ r)) (omega arith) in
    let q = none_append n o h.1 c.2 (suc k) (size o + suc k) (w ++ r) refl in
    rw (a, p, q, same_test t n c.0) (turn (untested (cell n) z) (untested (cell n) o) (not (eqb (cell n) t)) (none_tests n k r))

and_true : (a : Bool) → (a && true) ≡ a
and_true true = refl
and_true false = refl

pub none_both : (n : ℕ) (z o : Tree) → Fit z → Fit o → Cells z → Cells o
    → none_tests n (size z + size o) (encode z ++ encode o) ≡ (untested (cell n) z && untested (cell n) o)
unfolding none_tests
none_both n z o fz fo cz co =
    let p = none_append n z fz cz (size o) (size z + size o) (encode o) refl in
    let q = none_append n o fo co 0 (size o) [] (omega arith) in
    rw (p, sym (append-nil (encode o)), q, and_true (untested (cell n) o)) refl

-- ---- an entry at the front, and too few numbers for one

pub none_front : (n : ℕ) (xs run rest : List ℕ) (b : Bool) → xs ≡ run ++ rest → length run ≡ node_run → b ≡ (eqb (get_or run 0 0) node_run && eqb (get_or run 1 0) n)
    → none_tests n (length xs / node_run) xs ≡ (not b && none_tests n (length rest / node_run) rest)
unfolding none_tests
none_front n xs run rest b w h e =
    let s : length (run ++ rest) / node_run ≡ suc (length rest / node_run) = omega (arith, length-append run rest, h) in
    let p : get_or (run ++ rest) 0 0 ≡ get_or run 0 0 = get_or_append_left run rest 0 0 (omega arith) in
    let q : get_or (run ++ rest) 1 0 ≡ get_or run 1 0 = get_or_append_left run rest 0 1 (omega arith) in
    rw (w, s, p, q, e, drop_at run rest node_run h)

pub none_end : (n : ℕ) (xs : List ℕ) → length xs < node_run → none_tests n (length xs / node_run) xs ≡ true
unfolding none_tests
none_end n xs h = let z : length xs / node_run ≡ 0 = omega arith in rw z
