-- A tree at whose root a branch is read: the test, and where the arms end. Assumes nothing.
use Prim.Native.Nat.{ℕ, ◌-◌, ◌*◌, ◌<◌}
use borrow.Author.Tests.{leb-false}
use lib.ListN.{length, take}
use mathlib.Core.Bool.{true, not, ◌&&◌}
use mathlib.Core.List.{List}
use mathlib.Core.Path.{◌≡◌, sym, ap, ◌∙◌, subst}
use native.Mathlib.Omega.{arith}
use Rattle.lists.specs.Bools.{and_left, and_right, not_is}
use Rattle.rules.specs.Bounds.{node_run}
use Rattle.rules.specs.Nets.{cell, first_mux, is_cell, is_name, number, over}
use Rattle.rules.specs.Tree.{Tree, fine, leaf, node, size, untested}
use Rattle.rules.specs.declared.Cell.{Cell}
use Rattle.tree.proofs.Tails.{node_end, test_back}
use Rattle.tree.specs.Form.{Ends, RootOf}
use Rattle.tree.specs.declared.inner.Root.TheVariants.{Branch}
use Rattle.tree.specs.declared.inner.Root.{Root}

-- the tests of a well formed tree are nets up to 9,999
pub test_low : (t : ℕ) (z o : Tree) → fine (node t z o) ≡ true → t < first_mux
unfolding fine
test_low t z o e =
    let name = and_left (is_name t) (untested t z && (untested t o && (fine z && fine o))) e in
    leb-false first_mux t (not_is (over t) (and_right (is_cell t) (not (over t)) name))

pub record Split (t : Tree) (xs : List ℕ) (u one zer : ℕ) : Type 0 where
  pub z : Tree
  pub o : Tree
  pub is : t ≡ node (cell u) z o
  pub one_ends : Ends o (take one xs)
  pub zero_ends : Ends z (take zer xs)
  pub one_in : one < length xs
  pub zero_in : zer < length xs
  pub low : cell u < first_mux

pub split : (t : Tree) (xs : List ℕ) (r : Root) (u : Cell) (one zer : ℕ) → Ends t xs → RootOf t xs r → r ≡ Branch u one zer → Split t xs u.0 one zer
unfolding RootOf
split (leaf rs) xs r u one zer h e q = let w : ◌≡◌ {A = ℕ} 0 1 = cc in absurd (omega arith)
split (node t z o) xs r u one zer h e q =
    let n = node_end t z o xs h in
    let a : record { 0 = number t } ≡ u = cc in
    let b : length xs - node_run ≡ one = cc in
    let c : length xs - node_run - node_run * size o ≡ zer = cc in
    let d : number t ≡ u.0 = ap (λ (x : Cell). x.0) a in
    let l = test_low t z o h.good in
    let k = test_back t z o xs h in
    record {
      z = z;
      o = o;
      is = ap (λ (k : ℕ). node k z o) (sym k ∙ ap cell d);
      one_ends = subst (λ (k : ℕ). Ends o (take k xs)) b n.one;
      zero_ends = subst (λ (k : ℕ). Ends z (take k xs)) c n.zero_arm;
      one_in = omega (arith, n.room);
      zero_in = omega (arith, n.room);
      low = omega (arith, d, l, k);
    }
