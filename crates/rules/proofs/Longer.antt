-- A longer store gives the same answer and the same tree. Assumes nothing.
use Prim.Native.Nat.{ℕ, ◌-◌, ◌*◌, ◌≤◌}
use mathlib.Core.Bool.{false}
use mathlib.Core.List.{List, ◌++◌}
use mathlib.Core.Path.{◌≡◌, sym, ap, ◌∙◌}
use native.Mathlib.Omega.{arith}
use borrow.Author.Tests.{le-ltb}
use lib.Dec.{ltb}
use lib.ListN.{drop, length, replicate, take}
use lib.Seq.{take_at}
use Rattle.rules.proofs.Promised.{dispatched}
use Rattle.rules.proofs.Stores.{encode-length, fine-fit}
use Rattle.rules.specs.Answers.{dispatch_answer, dispatch_store}
use Rattle.rules.specs.Bounds.{node_run}
use Rattle.rules.specs.Dispatch.{dispatch, peak_of}
use Rattle.rules.specs.Given.{Given, Slots, view}
use Rattle.rules.specs.Refusals.{dispatch_table}
use Rattle.rules.specs.Refuse.{done, or_refused, refusal}
use Rattle.rules.specs.Store.{encode, stored, used}
use Rattle.rules.specs.Tree.{Tree, size}

-- only the room decides between two stores
same_number : (e : ℕ) (g : Given) (store longer : List ℕ) → ltb (used store) (peak_of e (view g)) ≡ ltb (used longer) (peak_of e (view g))
    → refusal (dispatch_table e g store) ≡ refusal (dispatch_table e g longer)
same_number e g store longer h = rw h

pub longer_answer : (e : ℕ) (g : Given) (store longer : List ℕ) (root n : ℕ) → Slots g → length store ≤ length longer → dispatch_answer e g store ≡ done (root, n)
    → dispatch_answer e g longer ≡ done (root, n)
unfolding dispatch_answer
longer_answer e g store longer root n s l a =
    let d = dispatched e g store root n s a in
    let p = d.taken.fits in
    let t : Tree = dispatch e (view g) in
    let u : used store ≤ used longer = omega arith in
    let i : ltb (used store) (peak_of e (view g)) ≡ false = le-ltb (used store) (peak_of e (view g)) p in
    let j : ltb (used longer) (peak_of e (view g)) ≡ false = le-ltb (used longer) (peak_of e (view g)) (omega arith) in
    ap (λ (k : ℕ). or_refused k (size t - 1, size t)) (sym (same_number e g store longer (i ∙ sym j))) ∙ a

-- the tree is the coding at the front
front_is : (t : Tree) (xs : List ℕ) → length (encode t) ≡ node_run * size t → take (node_run * size t) (stored t xs) ≡ encode t
unfolding stored
front_is t xs h = take_at (encode t) (replicate (node_run * used xs - node_run * size t) 0 ++ drop (node_run * used xs) xs) (node_run * size t) h

pub tree_at-front : (e : ℕ) (g : Given) (store : List ℕ) (root n : ℕ) → Slots g → dispatch_answer e g store ≡ done (root, n)
    → take (node_run * n) (dispatch_store e g store) ≡ encode (dispatch e (view g))
tree_at-front e g store root n s a =
    let d = dispatched e g store root n s a in
    let t : Tree = dispatch e (view g) in
    ap (λ (k : ℕ). take (node_run * k) (dispatch_store e g store)) d.size_is
    ∙ ap (take (node_run * size t)) d.after
    ∙ front_is t store (encode-length t (fine-fit t d.good))
