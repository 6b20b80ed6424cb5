-- What emission is asked once its input is fine, and what an answer says. Assumes nothing: these are definitions.
use Rattle.std.specs.Prelude.{ℕ, ◌≤◌, eqb, leb, length, Bool, false, cond, ◌&&◌, List, [], Result, ◌≡◌}
use Rattle.std.proofs.Math.Option.{some}
use Rattle.emit.specs.declared.Emitted.{Emitted}
use Rattle.lists.specs.Lists.{all}
use Rattle.lists.specs.Vec.{vec}
use Rattle.rules.specs.Answers.{emission, emission_table}
use Rattle.rules.specs.Bounds.{width_max}
use Rattle.rules.specs.Closed.{Wide}
use Rattle.rules.specs.Emit.{Gives, Update, bad_table}
use Rattle.rules.specs.Refusals.{no_room, tree_in}
use Rattle.rules.specs.Refuse.{Outcome, ROOM, done, refused}
use Rattle.rules.specs.Refused.{told}
use Rattle.rules.specs.Store.{tree_at}
use Rattle.rules.specs.declared.refusal.Refusal.{Refusal}

-- a tree was handed in, the table is well formed, and the leaves give w nets each
pub record CanPlace (g : Gives) (w : ℕ) (store : List ℕ) (root count : ℕ) (table : List ℕ) : Type 0 where
  pub there : tree_at store root ≡ some (tree_in store root)
  pub wide : Wide g w
  pub narrow : w ≤ width_max
  pub formed : bad_table count table ≡ false

-- the number where no other than ROOM is left
abbrev pub room_no : Gives → List ℕ → ℕ → ℕ → List ℕ → ℕ
room_no g store root count table = cond (no_room g (tree_in store root) count table) ROOM 0

unfoldable pub placed : Gives → List ℕ → ℕ → ℕ → List ℕ → Outcome (List ℕ × ℕ)
placed g store root count table = emission (room_no g store root count table) g (tree_in store root) count table

unfoldable pub placed_after : Gives → List ℕ → ℕ → ℕ → List ℕ → List ℕ
placed_after g store root count table = emission_table (room_no g store root count table) g (tree_in store root) count table

-- a code in a range
abbrev pub between : ℕ → ℕ → ℕ → Bool
between a b n = leb a n && leb n b

-- an update's net in a range, and its bits in another
abbrev pub update_in : ℕ → ℕ → ℕ → ℕ → Update → Bool
update_in a b c e u = between a b u.target && all (between c e) u.bits

-- an update of w bits
abbrev pub update_wide : ℕ → Update → Bool
update_wide w u = eqb (length u.bits) w

-- an answer: the nets of the value with 0 after them, how many, and the entries in use; or the number
abbrev pub emitted_from : Outcome (List ℕ × ℕ) → Emitted
emitted_from (done p) = record { no = 0; nets = vec width_max 0 p.0; width = length p.0; used = p.1 }
emitted_from (refused n) = record { no = n; nets = vec width_max 0 []; width = 0; used = 0 }

-- the length of the prefix, or the number
abbrev pub prefix_read : Result ℕ Refusal → Outcome ℕ
prefix_read r = told (λ n. n) r
