-- Whether numbers are those of one well formed tree: what the last entry must be, both ways. Assumes nothing.
use Prim.Native.Nat.{ℕ, suc, ◌+◌, ◌*◌, ◌-◌, ◌/◌, ◌≤◌, ◌<◌}
use mathlib.Core.Bool.{Bool, true, ◌&&◌}
use mathlib.Core.List.{List, [], ◌∷◌, ◌++◌, append_assoc, map}
use mathlib.Core.Path.{◌≡◌, refl, sym, ap, ap₂, subst, ◌∙◌}
use native.Mathlib.Numerals.{add-one}
use native.Mathlib.Omega.{arith}
use borrow.Author.Tests.{le-leb, leb-true}
use lib.Dec.{leb}
use lib.ListN.{drop, get_or, length, length-append, length-drop, length-map, length-replicate, length-take, replicate, take, take-append-drop}
use lib.Seq.{drop-append-add, drop_at, drop-cons, get_or-append-add, length-take-le, take-add, take_all, take_at}
use Rattle.lists.specs.Bools.{and_both, and_left, and_right}
use Rattle.lists.specs.Lists.{all}
use Rattle.rules.proofs.Stores.{Cells, cells_back, encode-length, fine-cells, fine-fit, fine-one, fine_zero}
use Rattle.rules.proofs.Trees.{size_pos}
use Rattle.rules.specs.Bounds.{cell_max, node_run, rules_max}
use Rattle.rules.specs.Given.{ascends}
use Rattle.rules.specs.Nets.{cell, is_name, number}
use Rattle.rules.specs.Store.{encode, run_of_node}
use Rattle.rules.specs.Tree.{Tree, fine, leaf, node, size, untested}
use Rattle.tree.proofs.Named.{name_cell}
use Rattle.tree.proofs.Tails.{ends_run, leaf_few, leaf_head, node_end}
use Rattle.tree.proofs.Tested.{none_both}
use Rattle.tree.specs.Form.{Ends, IsTree, LastOf, Split, none_tests}
use Rattle.tree.specs.Says.{Says}
use Rattle.tree.specs.declared.inner.Last.{Last}
use Rattle.tree.specs.declared.inner.Last.TheVariants.{Alone, Joins}
use Rattle.std.specs.Prelude.{Option, Some, None}

pub tree_ends : (xs : List ℕ) (w : IsTree xs) → Ends w.tree xs
tree_ends xs w = record { front = []; is = w.is; good = w.good }

pub tree-run : (xs : List ℕ) → IsTree xs → node_run ≤ length xs
tree-run xs w = ends_run w.tree xs (tree_ends xs w)

pub tree-size : (xs : List ℕ) (w : IsTree xs) → length xs ≡ node_run * size w.tree
tree-size xs w = ap length w.is ∙ encode-length w.tree (fine-fit w.tree w.good)

-- the rest of a slice, as a part of it has it
pub zeros_of : (r : Bool) (a : ℕ) (xs : List ℕ) → Says r (take (length xs - a) (drop a xs) ≡ replicate (length (take (length xs - a) (drop a xs))) 0)
    → Says r (drop a xs ≡ replicate (length (drop a xs)) 0)
zeros_of r a xs h =
    let l : length (drop a xs) ≤ length xs - a = simp length-drop (omega arith) in
    subst (λ (q : List ℕ). Says r (q ≡ replicate (length q) 0)) (take_all (length xs - a) (drop a xs) l) h

-- ---- the last entry is no branch's

pub too_high : (xs : List ℕ) (t : Tree) → Ends t xs → node_run < get_or xs (length xs - node_run) 0 → ⊥
too_high xs (leaf rs) e h = omega (arith, leaf_head rs xs e, leaf_few rs xs e)
too_high xs (node t z o) e h = omega (arith, (node_end t z o xs e).head)

pub lone : (xs : List ℕ) (t : Tree) → xs ≡ encode t → fine t ≡ true → (get_or xs (length xs - node_run) 0 ≡ node_run → ⊥) → length xs ≡ node_run
unfolding size
lone xs (leaf rs) e f ne = ap length e ∙ encode-length (leaf rs) (fine-fit (leaf rs) f)
lone xs (node t z o) e f ne = absurd (ne (node_end t z o xs (record { front = []; is = e; good = f })).head)

-- the rules of a leaf's numbers have those numbers
numbers_back : (l : List ℕ) → map number (map cell l) ≡ l
numbers_back [] = refl
numbers_back (x ∷ l) =
    let p : number (cell x) ≡ x = omega arith in
    let q : map number (map cell l) ≡ l = numbers_back l in
    cc

-- the rules of an entry of n
abbrev pub ruled : ℕ → List ℕ → List ℕ
ruled n xs = map cell (take (n + 1 - 1) (drop 1 xs))

pub leaf_is : (xs : List ℕ) (n : ℕ) → length xs ≡ node_run → n ≡ get_or xs 0 0 → n < node_run → drop (n + 1) xs ≡ replicate (length (drop (n + 1) xs)) 0
    → (all is_name (ruled n xs) && ascends (ruled n xs)) ≡ true → IsTree xs
unfolding encode fine
leaf_is [] n l p h z r = absurd (omega arith)
leaf_is (x ∷ xs) n l p h z r =
    let k : n + 1 - 1 ≡ n = omega arith in
    let m : n ≤ length xs = omega arith in
    let t : length (take n xs) ≡ n = length-take-le n xs m in
    let c : length (map cell (take n xs)) ≡ n = length-map (take n xs) cell ∙ t in
    let a : drop (n + 1) (x ∷ xs) ≡ drop n xs = ap (λ (j : ℕ). drop j (x ∷ xs)) (add-one n) in
    let b : length (drop n xs) ≡ rules_max - n = simp length-drop (omega arith) in
    let d : drop n xs ≡ replicate (rules_max - n) 0 = sym a ∙ z ∙ ap (λ (j : ℕ). replicate j 0) (ap length a ∙ b) in
    let few : leb (length (map cell (take n xs))) rules_max ≡ true = le-leb (length (map cell (take n xs))) rules_max (omega arith) in
    let q : (all is_name (map cell (take n xs)) && ascends (map cell (take n xs))) ≡ true = rw k at r in
    record {
      tree = leaf (map cell (take n xs));
      is = rw (c, numbers_back (take n xs)) (ap₂ ◌∷◌ (sym p) (sym (take-append-drop n xs) ∙ ap (λ (j : List ℕ). take n xs ++ j) d));
      good = and_both (leb (length (map cell (take n xs))) rules_max) (all is_name (map cell (take n xs)) && ascends (map cell (take n xs))) few q;
    }

pub record Lone (xs : List ℕ) (n : ℕ) : Type 0 where
  pub pad : drop (n + 1) xs ≡ replicate (length (drop (n + 1) xs)) 0
  pub rules : (all is_name (ruled n xs) && ascends (ruled n xs)) ≡ true

leaf_parts : (xs : List ℕ) (t : Tree) (n : ℕ) → xs ≡ encode t → fine t ≡ true → length xs ≡ node_run → n ≡ get_or xs 0 0 → Lone xs n
unfolding encode fine Cells size
leaf_parts xs (leaf rs) n e f l p =
    let k : n ≡ length rs = p ∙ ap (λ (q : List ℕ). get_or q 0 0) e in
    let j : n + 1 - 1 ≡ length rs = omega arith in
    let few : length rs ≤ rules_max = leb-true (length rs) rules_max (and_left (leb (length rs) rules_max) (all is_name rs && ascends rs) f) in
    let ln : length (map number rs) ≡ length rs = length-map rs number in
    let a : drop (n + 1) xs ≡ drop (length rs) (map number rs ++ replicate (rules_max - length rs) 0) = ap (λ (i : ℕ). drop i xs) (add-one n) ∙ ap₂ (λ (i : ℕ) (q : List ℕ). drop (suc i) q) k e in
    let b : drop (n + 1) xs ≡ replicate (rules_max - length rs) 0 = a ∙ drop_at (map number rs) (replicate (rules_max - length rs) 0) (length rs) ln in
    let c : ruled n xs ≡ rs =
    ap₂ (λ (i : ℕ) (q : List ℕ). map cell (take i (drop 1 q))) j e
    ∙ ap (map cell) (take_at (map number rs) (replicate (rules_max - length rs) 0) (length rs) ln)
    ∙ cells_back rs (fine-cells (leaf rs) f) in
    record {
      pad = b ∙ ap (λ (i : ℕ). replicate i 0) (sym (ap length b ∙ length-replicate (rules_max - length rs) 0));
      rules = rw c (and_right (leb (length rs) rules_max) (all is_name rs && ascends rs) f);
    }
leaf_parts xs (node t z o) n e f l p =
    absurd (omega (arith, ap length e, encode-length (node t z o) (fine-fit (node t z o) f), size_pos z, size_pos o))

pub leaf_of : (xs : List ℕ) (n : ℕ) → length xs ≡ node_run → n ≡ get_or xs 0 0 → IsTree xs → Lone xs n
leaf_of xs n l p w = leaf_parts xs w.tree n w.is w.good l p

-- ---- the last entry is a branch's, after e numbers

pub record Parts (xs : List ℕ) (e c : ℕ) : Type 0 where
  pub pad : drop (e + 3) xs ≡ replicate (length (drop (e + 3) xs)) 0
  pub low : get_or xs (e + 1) 0 ≤ cell_max
  pub room : node_run * c ≤ e
  pub none : none_tests (get_or xs (e + 1) 0) (length (take e xs) / node_run) (take e xs) ≡ true
  pub zer : IsTree (take (e - node_run * c) xs)
  pub one : IsTree (take (e - (e - node_run * c)) (drop (e - node_run * c) xs))

-- what a fine branch has
test_low : (t : ℕ) → is_name t ≡ true → (number t ≤ cell_max) × (3 ≤ t)
test_low t h =
    let a : 3 ≤ t = leb-true 3 t (and_left (leb 3 t) _ h) in
    let b : cell (number t) ≡ t = omega arith in
    (leb-true (number t) cell_max (sym (name_cell (number t)) ∙ ap is_name b ∙ h), a)

module _ (xs : List ℕ) (e c : ℕ) (l : length xs ≡ e + node_run) (h : get_or xs e 0 ≡ node_run) (p : c ≡ get_or xs (e + 2) 0) where
  branch-parts : (t : Tree) → xs ≡ encode t → fine t ≡ true → Parts xs e c
  unfolding encode size fine
  branch-parts (leaf rs) q f =
      let few : length rs ≤ rules_max = leb-true (length rs) rules_max (and_left (leb (length rs) rules_max) (all is_name rs && ascends rs) f) in
      let lx : length xs ≡ node_run = ap length q ∙ encode-length (leaf rs) (fine-fit (leaf rs) f) in
      let z : e ≡ 0 = omega arith in
      let a : get_or xs e 0 ≡ length rs = ap₂ (λ (i : ℕ) (y : List ℕ). get_or y i 0) z q in
      absurd (omega arith)
  branch-parts (node t z o) q f =
      let name : is_name t ≡ true = and_left (is_name t) _ f in
      let rest = and_right (is_name t) (untested t z && (untested t o && (fine z && fine o))) f in
      let uz : untested t z ≡ true = and_left (untested t z) (untested t o && (fine z && fine o)) rest in
      let uo : untested t o ≡ true = and_left (untested t o) (fine z && fine o) (and_right (untested t z) (untested t o && (fine z && fine o)) rest) in
      let gz : fine z ≡ true = fine_zero t z o f in
      let go : fine o ≡ true = fine-one t z o f in
      let lz = encode-length z (fine-fit z gz) in
      let lo = encode-length o (fine-fit o go) in
      let run : List ℕ = run_of_node t (size o) in
      let both : List ℕ = encode z ++ encode o in
      let q2 : xs ≡ both ++ run = q ∙ sym (append_assoc (encode z) (encode o) run) in
      let lb : length both ≡ length (encode z) + length (encode o) = length-append (encode z) (encode o) in
      let lx : length xs ≡ length both + node_run = ap length q2 ∙ length-append both run in
      let le : length both ≡ e = omega arith in
      let at : (i : ℕ) → get_or xs (e + i) 0 ≡ get_or run i 0 = λ i. ap₂ (λ (y : List ℕ) (j : ℕ). get_or y (j + i) 0) q2 (sym le) ∙ get_or-append-add both run i 0 in
      let k : c ≡ size o = p ∙ at 2 in
      let m : length (encode z) ≡ e - node_run * c = omega arith in
      let n : length (encode o) ≡ e - (e - node_run * c) = omega arith in
      let d : drop (e + 3) xs ≡ replicate (rules_max - 2) 0 = ap₂ (λ (y : List ℕ) (j : ℕ). drop (j + 3) y) q2 (sym le) ∙ drop-append-add both run 3 in
      let te : take e xs ≡ both = ap (take e) q2 ∙ take_at both run e le in
      let s : length (take e xs) / node_run ≡ size z + size o = omega (arith, ap length te) in
      let b : cell (number t) ≡ t = omega (arith, (test_low t name).1) in
      let nb : none_tests (number t) (size z + size o) both ≡ true =
      none_both (number t) z o (fine-fit z gz) (fine-fit o go) (fine-cells z gz) (fine-cells o go)
      ∙ ap (λ (u : ℕ). untested u z && untested u o) b ∙ and_both (untested t z) (untested t o) uz uo in
      record {
        pad = d ∙ sym (ap (λ (y : List ℕ). replicate (length y) 0) d);
        low = omega (arith, at 1, (test_low t name).0);
        room = omega arith;
        none = rw (at 1, s, te) nb;
        zer = record { tree = z; is = ap (take (e - node_run * c)) q ∙ take_at (encode z) (encode o ++ run) (e - node_run * c) m; good = gz };
        one = record {
          tree = o;
          is = ap (λ (y : List ℕ). take (e - (e - node_run * c)) (drop (e - node_run * c) y)) q
              ∙ ap (take (e - (e - node_run * c))) (drop_at (encode z) (encode o ++ run) (e - node_run * c) m)
              ∙ take_at (encode o) run (e - (e - node_run * c)) n;
          good = go;
        };
      }

  pub parts : IsTree xs → Parts xs e c
  parts w = branch-parts w.tree w.is w.good

  last-run : drop (e + 3) xs ≡ replicate (length (drop (e + 3) xs)) 0 → drop e xs ≡ run_of_node (cell (get_or xs (e + 1) 0)) c
  last-run z =
      let ld : length (drop (e + 3) xs) ≡ rules_max - 2 = simp length-drop (omega arith) in
      let h0 : e < length xs = omega arith in
      let h1 : suc e < length xs = omega arith in
      let h2 : suc (suc e) < length xs = omega arith in
      let k1 : e + 1 ≡ suc e = omega arith in
      let k2 : e + 2 ≡ suc (suc e) = omega arith in
      let k3 : e + 3 ≡ suc (suc (suc e)) = omega arith in
      let b : number (cell (get_or xs (e + 1) 0)) ≡ get_or xs (e + 1) 0 = omega arith in
      drop-cons xs e 0 h0
      ∙ ap₂ ◌∷◌ h (drop-cons xs (suc e) 0 h1 ∙ ap₂ ◌∷◌ (ap (λ (j : ℕ). get_or xs j 0) (sym k1) ∙ sym b)
      (drop-cons xs (suc (suc e)) 0 h2 ∙ ap₂ ◌∷◌ (ap (λ (j : ℕ). get_or xs j 0) (sym k2) ∙ sym p) (ap (λ (j : ℕ). drop j xs) (sym k3) ∙ z ∙ ap (λ (j : ℕ). replicate j 0) ld)))

  joined : drop (e + 3) xs ≡ replicate (length (drop (e + 3) xs)) 0 → get_or xs (e + 1) 0 ≤ cell_max → node_run * c ≤ e
      → none_tests (get_or xs (e + 1) 0) (length (take e xs) / node_run) (take e xs) ≡ true
      → IsTree (take (e - node_run * c) xs) → IsTree (take (e - (e - node_run * c)) (drop (e - node_run * c) xs)) → IsTree xs
  unfolding encode fine
  joined z low room none w o =
      let t : ℕ = cell (get_or xs (e + 1) 0) in
      let m : ℕ = e - node_run * c in
      let me : m + (e - m) ≡ e = omega arith in
      let lw : length (take m xs) ≡ m = length-take-le m xs (omega arith) in
      let lo : length (take (e - m) (drop m xs)) ≡ e - m = simp (length-take, length-drop) (omega arith) in
      let sw = tree-size (take m xs) w in
      let so = tree-size (take (e - m) (drop m xs)) o in
      let sc : c ≡ size o.tree = omega arith in
      let te : take e xs ≡ encode w.tree ++ encode o.tree = ap (λ (j : ℕ). take j xs) (sym me) ∙ take-add m (e - m) xs ∙ ap₂ ◌++◌ w.is o.is in
      let le : length (take e xs) ≡ e = length-take-le e xs (omega arith) in
      let s : length (take e xs) / node_run ≡ size w.tree + size o.tree = omega arith in
      let u : (untested t w.tree && untested t o.tree) ≡ true =
      sym (none_both (get_or xs (e + 1) 0) w.tree o.tree (fine-fit w.tree w.good) (fine-fit o.tree o.good) (fine-cells w.tree w.good) (fine-cells o.tree o.good))
      ∙ ap₂ (none_tests (get_or xs (e + 1) 0)) (sym s) (sym te) ∙ none in
      let name : is_name t ≡ true = name_cell (get_or xs (e + 1) 0) ∙ le-leb (get_or xs (e + 1) 0) cell_max low in
      let arms = and_both (fine w.tree) (fine o.tree) w.good o.good in
      let uo = and_both (untested t o.tree) (fine w.tree && fine o.tree) (and_right (untested t w.tree) (untested t o.tree) u) arms in
      let uz = and_both (untested t w.tree) (untested t o.tree && (fine w.tree && fine o.tree)) (and_left (untested t w.tree) (untested t o.tree) u) uo in
      record {
        tree = node t w.tree o.tree;
        is = sym (take-append-drop e xs) ∙ ap₂ ◌++◌ te (last-run z ∙ ap (run_of_node t) sc) ∙ append_assoc (encode w.tree) (encode o.tree) (run_of_node t (size o.tree));
        good = and_both (is_name t) (untested t w.tree && (untested t o.tree && (fine w.tree && fine o.tree))) name uz;
      }

  pub split : drop (e + 3) xs ≡ replicate (length (drop (e + 3) xs)) 0 → get_or xs (e + 1) 0 ≤ cell_max → node_run * c ≤ e
      → none_tests (get_or xs (e + 1) 0) (length (take e xs) / node_run) (take e xs) ≡ true → Split xs (e - node_run * c) e
  split z low room none = record {
    order = omega arith;
    below = omega arith;
    whole = joined z low room none;
    zero_arm = λ w. (parts w).zer;
    one_arm = λ w. (parts w).one;
  }

-- ---- the answer on the last entry, taken apart

pub last-bad : (xs : List ℕ) (r : Option Last) → LastOf xs r → r ≡ None → IsTree xs → ⊥
unfolding LastOf
last-bad xs r h e = subst (LastOf xs) e h

pub last-alone : (xs : List ℕ) (r : Last) → LastOf xs (Some r) → r ≡ Alone → IsTree xs
unfolding LastOf
last-alone xs r h e = subst (λ (q : Last). LastOf xs (Some q)) e h

pub last_joins : (xs : List ℕ) (r : Last) (z o : ℕ) → LastOf xs (Some r) → r ≡ Joins z o → Split xs z o
unfolding LastOf
last_joins xs r z o h e = subst (λ (q : Last). LastOf xs (Some q)) e h

pub part_long : (a e : ℕ) (xs : List ℕ) → length (take (e - a) (drop a xs)) ≤ e - a
part_long a e xs = omega (arith, length-take (e - a) (drop a xs))
