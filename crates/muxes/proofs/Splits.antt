-- What a branch sends, from what its arms do. Assumes nothing.
use Prim.Native.Nat.{ℕ, ◌+◌, ◌*◌, ◌≤◌, ◌<◌}
use lib.ListN.{length, length-append, take}
use lib.Seq.{length-take-le}
use mathlib.Core.Bool.{true}
use mathlib.Core.List.{List, ◌++◌, append_assoc}
use mathlib.Core.Path.{◌≡◌, refl, subst, sym, ap, ap₂, ◌∙◌}
use native.Mathlib.Omega.{arith}
use Rattle.lists.specs.Vec.{take-vec, vec}
use Rattle.muxes.proofs.Puts.{appended_more, appended_none}
use Rattle.muxes.specs.Sends.{CanEmit, Joined, Sends}
use Rattle.muxes.specs.declared.inner.Sent.{Sent}
use Rattle.rules.proofs.Added.{emits-length, nets-length}
use Rattle.rules.proofs.Answers.{fine_of}
use Rattle.rules.proofs.Stores.{fine-one, fine_zero}
use Rattle.rules.proofs.Tables.{Fine}
use Rattle.rules.specs.Bounds.{cell_max, mux_max, mux_run, rules_max, width_max}
use Rattle.rules.specs.Closed.{Wide, branch, drives, emits, muxes, nets_of}
use Rattle.rules.specs.Emit.{Gives, Mux, appended}
use Rattle.rules.specs.Nets.{cell, first_mux}
use Rattle.rules.specs.Tree.{Tests, Tree, fine, leaf, node}
use Rattle.rules.specs.declared.Cell.{Cell}
use Rattle.tree.proofs.Splits.{Split, split, test_low}
use Rattle.tree.proofs.Tails.{leaf_few}
use Rattle.tree.specs.Form.{Ends, RootOf}
use Rattle.tree.specs.declared.inner.Root.TheVariants.{Branch, Leaf}
use Rattle.tree.specs.declared.inner.Root.{Root}

-- ---- the tests of a well formed tree are nets up to 9,999

pub tests-low : (t : Tree) → fine t ≡ true → Tests (λ (n : ℕ). n < first_mux) t
unfolding Tests
tests-low (leaf rs) e = tt
tests-low (node t z o) e = (test_low t z o e, tests-low z (fine_zero t z o e), tests-low o (fine-one t z o e))

pub tree-fine : (g : Gives) (w : ℕ) → Wide g w → (t : Tree) → fine t ≡ true → Fine g w t
tree-fine g w h t e = fine_of g w h t (tests-low t e)

-- ---- a leaf

pub leaf_long : (t : Tree) (xs : List ℕ) (r : Root) (n : ℕ) → Ends t xs → RootOf t xs r → r ≡ Leaf n → n ≤ rules_max
unfolding RootOf
leaf_long (leaf rs) xs r n h e q = let a : n ≡ length rs = cc in omega (arith, leaf_few rs xs h)
leaf_long (node t z o) xs r n h e q = let w : ◌≡◌ {A = ℕ} 0 1 = cc in absurd (omega arith)

pub sends_leaf : (g : Gives) (w k n : ℕ) (t : Tree) (xs old nets : List ℕ) (r : Root) → Ends t xs → RootOf t xs r → r ≡ Leaf n
    → ((rs : List ℕ) → Ends (leaf rs) xs → n ≡ length rs → nets ≡ vec width_max 0 (g rs)) → Sends g w k t old old (record { nets = nets; used = k })
unfolding RootOf emits muxes nets_of
sends_leaf g w k n (leaf rs) xs old nets r h e q f =
    let a : n ≡ length rs = cc in
    record { nets_are = f rs h a; used_is = omega arith; put = sym (appended_none k old) }
sends_leaf g w k n (node t z o) xs old nets r h e q f = let w : ◌≡◌ {A = ℕ} 0 1 = cc in absurd (omega arith)

-- ---- a branch: xs the table before, ys after the one arm, zs after the zero arm, vs at last

pub sends_node : (g : Gives) (w k u : ℕ) (z o : Tree) (xs ys zs vs : List ℕ) (a b r : Sent) → Fine g w (node u z o) → w ≤ width_max
    → mux_run * (k + muxes w (node u z o)) ≤ length xs → Sends g w k o xs ys a → Sends g w a.used z ys zs b → Joined u a.nets b.nets w b.used zs vs r
    → Sends g w k (node u z o) xs vs r
unfolding Fine emits muxes nets_of
sends_node g w k u z o xs ys zs vs a b r h nw room p q j =
    let A : List Mux = emits g w k o in
    let B : List Mux = emits g w (k + muxes w o) z in
    let X : List ℕ = nets_of g w k o in
    let Y : List ℕ = nets_of g w (k + muxes w o) z in
    let C : List Mux = branch u X Y in
    let la : length A ≡ muxes w o = emits-length g w k o h.2 in
    let lb : length B ≡ muxes w z = emits-length g w (k + muxes w o) z h.1 in
    let lab : length (A ++ B) ≡ length A + length B = length-append A B in
    let ex : take w a.nets ≡ X = taken a.nets X (nets-length g w k o h.2) p.nets_are in
    let ey : take w b.nets ≡ Y = taken b.nets Y (nets-length g w (k + muxes w o) z h.1) (q.nets_are ∙ ap (λ (n : ℕ). vec width_max 0 (nets_of g w n z)) p.used_is) in
    let ea : a.used ≡ k + length A = omega (arith, p.used_is) in
    let eb : b.used ≡ k + length (A ++ B) = omega (arith, p.used_is, q.used_is) in
    let fa : mux_run * (k + length A) ≤ length xs = omega arith in
    let fb : mux_run * (k + length (A ++ B)) ≤ length xs = omega arith in
    let e1 : zs ≡ appended k (A ++ B) xs =
    q.put ∙ ap₂ (λ (n : ℕ) (l : List ℕ). appended a.used (emits g w n z) l) p.used_is p.put ∙ appended_more k A xs fa a.used B ea in
    let e2 : vs ≡ appended k ((A ++ B) ++ C) xs =
    j.put ∙ ap₂ (λ (m l : List ℕ). appended b.used (branch u m l) zs) ex ey ∙ ap (appended b.used C) e1 ∙ appended_more k (A ++ B) xs fb b.used C eb in
    let en : b.used ≡ k + (muxes w o + muxes w z) = omega (arith, p.used_is, q.used_is) in
    record {
      nets_are = j.nets_are ∙ ap (λ (n : ℕ). vec width_max 0 (drives n w)) en;
      used_is = omega (arith, j.used_is, en);
      put = e2 ∙ ap (λ (l : List Mux). appended k l xs) (append_assoc A B C);
    }
  where
    taken : (v l : List ℕ) → length l ≡ w → v ≡ vec width_max 0 l → take w v ≡ l
    taken v l e i = ap₂ (λ (n : ℕ) (x : List ℕ). take n x) (sym e) i ∙ take-vec width_max 0 l (omega arith)

pub muxes_node : (w u : ℕ) (z o : Tree) → muxes w (node u z o) ≡ muxes w o + muxes w z + w
unfolding muxes
muxes_node w u z o = refl

-- ---- the recursion's calls, where a branch is read at the root

module _ (g : Gives) (w k : ℕ) (xs old : List ℕ) (can : CanEmit g w xs (length old) k) (r : Root) (test : Cell) (one zer : ℕ) (roots : (t : Tree) → Ends t xs → RootOf t xs r) (is : r ≡ Branch test one zer) where
  parts : (t : Tree) → Ends t xs → Split t xs test.0 one zer
  parts t e = split t xs r test one zer e (roots t e) is

  here : Split can.tree xs test.0 one zer
  here = parts can.tree can.ends

  needed : muxes w can.tree ≡ muxes w here.o + muxes w here.z + w
  unfolding muxes
  needed = ap (muxes w) here.is

  pub one_long : length (take one xs) ≡ one
  one_long = length-take-le one xs (omega (arith, here.one_in))

  pub zero_long : length (take zer xs) ≡ zer
  zero_long = length-take-le zer xs (omega (arith, here.zero_in))

  pub can_one : (length (take one xs) < length xs) × CanEmit g w (take one xs) (length old) k
  can_one = (omega (arith, one_long, here.one_in), record { tree = here.o; ends = here.one_ends; wide = can.wide; narrow = can.narrow; fits = omega (arith, needed, can.fits); few = omega (arith, needed, can.few) })

  -- after the one arm, which left the table as long as it was
  module _ (ys : List ℕ) (a : Sent) (la : length ys ≡ length old) (ea : (t : Tree) → Ends t (take one xs) → Sends g w k t old ys a) where
    used : a.used ≡ k + muxes w here.o
    used = (ea here.o here.one_ends).used_is

    pub can_zero : (length (take zer xs) < length xs) × CanEmit g w (take zer xs) (length ys) a.used
    can_zero = (omega (arith, zero_long, here.zero_in), record { tree = here.z; ends = here.zero_ends; wide = can.wide; narrow = can.narrow; fits = omega (arith, needed, used, can.fits, la); few = omega (arith, needed, used, can.few) })

    -- after the zero arm
    module _ (zs : List ℕ) (b : Sent) (lb : length zs ≡ length ys) (eb : (t : Tree) → Ends t (take zer xs) → Sends g w a.used t ys zs b) where
      used_then : b.used ≡ a.used + muxes w here.z
      used_then = (eb here.z here.zero_ends).used_is

      pub can_join : (w ≤ width_max) × (mux_run * (b.used + w) ≤ length zs) × (b.used + w ≤ mux_max) × (test.0 ≤ cell_max)
      can_join = (can.narrow, omega (arith, needed, used, used_then, can.fits, la, lb), omega (arith, needed, used, used_then, can.few), omega (arith, here.low))

      -- and after the branch's own muxes
      pub sends_branch : (vs : List ℕ) (s : Sent) → Joined (cell test.0) a.nets b.nets w b.used zs vs s → (t : Tree) → Ends t xs → Sends g w k t old vs s
      sends_branch vs s j t e =
          let h = parts t e in
          let u = (ea h.o h.one_ends).used_is in
          let v = (eb h.z h.zero_ends).used_is in
          let m = muxes_node w (cell test.0) h.z h.o in
          let f : Fine g w (node (cell test.0) h.z h.o) = subst (Fine g w) h.is (tree-fine g w can.wide t e.good) in
          rw h.is (sends_node g w k (cell test.0) h.z h.o old ys zs vs a b s f can.narrow (omega (arith, needed, m, u, v, used, used_then, can.fits)) (ea h.o h.one_ends) (eb h.z h.zero_ends) j)
