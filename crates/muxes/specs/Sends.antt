-- What the recursion of emission is asked and does, and what a leaf gives. Assumes nothing: these are definitions.
use Rattle.std.specs.Prelude.{ℕ, ◌+◌, ◌*◌, ◌≤◌, take, List, ◌≡◌}
use Rattle.lists.specs.Vec.{vec}
use Rattle.muxes.specs.declared.inner.Sent.{Sent}
use Rattle.rules.specs.Bounds.{mux_max, mux_run, width_max}
use Rattle.rules.specs.Closed.{Wide, branch, drives, emits, muxes, nets_of}
use Rattle.rules.specs.Emit.{Gives, appended}
use Rattle.rules.specs.Tree.{Tree}
use Rattle.tree.specs.Form.{Ends}

-- a tree ends here, its leaves give w nets each, and there is room for its muxes from the k-th entry on
pub record CanEmit (g : Gives) (w : ℕ) (xs : List ℕ) (long k : ℕ) : Type 0 where
  pub tree : Tree
  pub ends : Ends tree xs
  pub wide : Wide g w
  pub narrow : w ≤ width_max
  pub fits : mux_run * (k + muxes w tree) ≤ long
  pub few : k + muxes w tree ≤ mux_max

-- the nets of the tree's value, and the entries in use then
pub record Sends (g : Gives) (w k : ℕ) (t : Tree) (xs ys : List ℕ) (r : Sent) : Type 0 where
  pub nets_are : r.nets ≡ vec width_max 0 (nets_of g w k t)
  pub used_is : r.used ≡ k + muxes w t
  pub put : ys ≡ appended k (emits g w k t) xs

-- the same of a branch's own muxes, where the arms' nets are a and b
pub record Joined (t : ℕ) (a b : List ℕ) (w k : ℕ) (xs ys : List ℕ) (r : Sent) : Type 0 where
  pub nets_are : r.nets ≡ vec width_max 0 (drives k w)
  pub used_is : r.used ≡ k + w
  pub put : ys ≡ appended k (branch t (take w a) (take w b)) xs
