-- A tree handed in: it is found exactly where the entries up to the root are those of one well formed tree. Assumes nothing.
use Prim.Native.Nat.{ℕ, ◌+◌, ◌*◌, ◌≤◌, ◌<◌}
use mathlib.Core.Bool.{Bool, true, false, cond, ◌&&◌}
use mathlib.Core.List.{List, [], ◌∷◌, ◌++◌}
use mathlib.Core.Option.{Option, none, some}
use mathlib.Core.Path.{◌≡◌, refl, sym, ap, ◌∙◌}
use native.Mathlib.Omega.{arith}
use borrow.Author.Tests.{le-ltb, lt-ltb, ltb-true}
use lib.Dec.{ltb}
use lib.ListN.{drop, length, take, take-append-drop}
use lib.Seq.{length-take-le}
use Rattle.lists.specs.Bools.{and_left, and_right}
use Rattle.lists.specs.Lists.{same_refl as list_refl, same_true as list_true, same as same_list}
use Rattle.lists.specs.Runs.{runs}
use Rattle.rules.proofs.Stores.{fine-cells, fine-fit, read-encode}
use Rattle.rules.specs.Answers.{check_answer}
use Rattle.rules.specs.Bounds.{node_run}
use Rattle.rules.specs.Refusals.{tree_in}
use Rattle.rules.specs.Refuse.{FORM, done, refused}
use Rattle.rules.specs.Store.{encode, is_none, one_tree, read_all, tree_at, used}
use Rattle.rules.specs.Tree.{Tree, fine, size}
use Rattle.tree.proofs.Forms.{tree-size}
use Rattle.tree.specs.Checked.{check_read}
use Rattle.tree.specs.Form.{Ends, IsTree}
use Rattle.rules.specs.Refused.{number_of}
use Rattle.rules.specs.declared.refusal.Refusal.{Refusal}
use Rattle.std.specs.Prelude.{Result, Ok, Err}

-- ---- there is one

module _ (xs : List ℕ) (root : ℕ) (h : root < used xs) where
  room : node_run * (root + 1) ≤ length xs
  room = omega arith

  pub tree_at-size : (w : IsTree (take (node_run * (root + 1)) xs)) → size w.tree ≡ root + 1
  tree_at-size w = omega (arith, room, tree-size (take (node_run * (root + 1)) xs) w, length-take-le (node_run * (root + 1)) xs room)

  read_one : (w : IsTree (take (node_run * (root + 1)) xs)) → read_all (runs node_run (root + 1) xs) [] ≡ w.tree ∷ []
  unfolding read_all runs
  read_one w =
      let k : ℕ = node_run * (root + 1) in
      let e : xs ≡ encode w.tree ++ drop k xs = sym (take-append-drop k xs) ∙ ap (λ (l : List ℕ). l ++ drop k xs) w.is in
      ap (λ (l : List ℕ). read_all (runs node_run (root + 1) l) []) e
      ∙ read-encode w.tree (fine-fit w.tree w.good) (fine-cells w.tree w.good) (drop k xs) 0 (root + 1) [] (omega (arith, tree_at-size w))

  pub tree-there : (w : IsTree (take (node_run * (root + 1)) xs)) → tree_at xs root ≡ some w.tree
  unfolding tree_at one_tree
  tree-there w = rw (lt-ltb root (used xs) h, read_one w, w.is, list_refl (encode w.tree), w.good)

-- ---- and if one is found, it is so

one_is : (xs : List ℕ) (st : List Tree) (t : Tree) → one_tree xs st ≡ some t → (xs ≡ encode t) × (fine t ≡ true)
unfolding one_tree
one_is xs [] t e = let z : ◌≡◌ {A = ℕ} 0 1 = cc in absurd (omega arith)
one_is xs (u ∷ []) t e = go (same_list (encode u) xs && fine u) refl e
  where
    go : (b : Bool) → (same_list (encode u) xs && fine u) ≡ b → cond b (some u) none ≡ some t → (xs ≡ encode t) × (fine t ≡ true)
    go true p q =
        let i : u ≡ t = cc in
        let s : xs ≡ encode u = sym (list_true (encode u) xs (and_left (same_list (encode u) xs) (fine u) p)) in
        (s ∙ ap encode i, sym (ap fine i) ∙ and_right (same_list (encode u) xs) (fine u) p)
    go false p q = let z : ◌≡◌ {A = ℕ} 0 1 = cc in absurd (omega arith)
one_is xs (u ∷ v ∷ st) t e = let z : ◌≡◌ {A = ℕ} 0 1 = cc in absurd (omega arith)

pub record Handed (xs : List ℕ) (root : ℕ) (t : Tree) : Type 0 where
  pub within : root < used xs
  pub is : take (node_run * (root + 1)) xs ≡ encode t
  pub good : fine t ≡ true

pub tree_handed : (xs : List ℕ) (root : ℕ) (t : Tree) → tree_at xs root ≡ some t → Handed xs root t
unfolding tree_at
tree_handed xs root t e = go (ltb root (used xs)) refl e
  where
    ys : List ℕ
    ys = take (node_run * (root + 1)) xs

    go : (b : Bool) → ltb root (used xs) ≡ b → cond b (one_tree ys (read_all (runs node_run (root + 1) xs) [])) none ≡ some t → Handed xs root t
    go true p q = let w = one_is ys (read_all (runs node_run (root + 1) xs) []) t q in record { within = ltb-true root (used xs) p; is = w.0; good = w.1 }
    go false p q = let z : ◌≡◌ {A = ℕ} 0 1 = cc in absurd (omega arith)

-- the entries up to the root end in it
pub handed_ends : (xs : List ℕ) (root : ℕ) (t : Tree) → tree_at xs root ≡ some t → Ends t (take (node_run * (root + 1)) xs)
handed_ends xs root t e = let w = tree_handed xs root t e in record { front = []; is = w.is; good = w.good }

-- ---- there is none

pub tree_far : (xs : List ℕ) (root : ℕ) → used xs ≤ root → tree_at xs root ≡ none
unfolding tree_at
tree_far xs root h = rw (le-ltb root (used xs) h)

pub tree_none : (xs : List ℕ) (root : ℕ) → (IsTree (take (node_run * (root + 1)) xs) → ⊥) → tree_at xs root ≡ none
tree_none xs root no-tree = go (tree_at xs root) refl
  where
    go : (v : Option Tree) → tree_at xs root ≡ v → tree_at xs root ≡ none
    go none e = e
    go (some t) e = let w = tree_handed xs root t e in absurd (no-tree (record { tree = t; is = w.is; good = w.good }))

-- ---- the answer

pub check_some : (xs : List ℕ) (root : ℕ) (t : Tree) → tree_at xs root ≡ some t → check_answer xs root ≡ done (size t)
unfolding check_answer
check_some xs root t e = rw e

pub check_none : (xs : List ℕ) (root : ℕ) → tree_at xs root ≡ none → check_answer xs root ≡ refused FORM
unfolding check_answer
check_none xs root e = rw e

pub checked : (xs : List ℕ) (root n : ℕ) → check_answer xs root ≡ done n → tree_at xs root ≡ some (tree_in xs root)
checked xs root n e = go (tree_at xs root) refl
  where
    go : (v : Option Tree) → tree_at xs root ≡ v → tree_at xs root ≡ some (tree_in xs root)
    go none q = let p = check_none xs root q in let z : ◌≡◌ {A = ℕ} 0 1 = cc in absurd (omega arith)
    go (some t) q = rw q

pub unchecked : (xs : List ℕ) (root n : ℕ) → check_answer xs root ≡ refused n → tree_at xs root ≡ none
unchecked xs root n e = go (tree_at xs root) refl
  where
    go : (v : Option Tree) → tree_at xs root ≡ v → tree_at xs root ≡ none
    go none q = q
    go (some t) q = let p = check_some xs root t q in let z : ◌≡◌ {A = ℕ} 0 1 = cc in absurd (omega arith)

-- ---- what the answer of the check says

pub tree_seen : (store : List ℕ) (root n : ℕ) (r : Result ℕ Refusal) → check_read r ≡ check_answer store root → r ≡ Ok n → tree_at store root ≡ some (tree_in store root)
tree_seen store root n r e q = checked store root n (sym e ∙ ap check_read q)

pub tree_unseen : (store : List ℕ) (root : ℕ) (why : Refusal) (r : Result ℕ Refusal) → check_read r ≡ check_answer store root → r ≡ Err why → is_none (tree_at store root) ≡ true
tree_unseen store root why r e q = ap is_none (unchecked store root (number_of why) (sym e ∙ ap check_read q))
