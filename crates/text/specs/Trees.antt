-- What the printers of a tree's lines are asked and do. Assumes nothing: these are definitions.
use Rattle.std.specs.Prelude.{ℕ, ◌+◌, ◌-◌, ◌≤◌, drop, length, take, true, List, [], ◌∷◌, ◌++◌, map, ◌≡◌}
use Rattle.rules.specs.Bounds.{node_run, rules_max}
use Rattle.rules.specs.Bytes.{LF}
use Rattle.rules.specs.Nets.{cell}
use Rattle.rules.specs.Print.{arm, arm_head, rule_text}
use Rattle.rules.specs.Refusals.{all_low}
use Rattle.rules.specs.Tree.{Tree}
use Rattle.text.specs.Longs.{tree_max}
use Rattle.text.specs.declared.inner.trees.Sheet.{Sheet}
use Rattle.tree.specs.Form.{Ends}

-- d with the bytes bs from index at, and no other byte changed
unfoldable pub put_at : List ℕ → ℕ → List ℕ → List ℕ
put_at d at bs = take at d ++ (bs ++ drop (at + length bs) d)

-- bs fits into d from index at
abbrev pub Room : List ℕ → ℕ → List ℕ → Type 0
Room d at bs = at + length bs ≤ length d

-- bs is counted from index at, and is put there if it fits; if not, no more is said of the bytes
pub record Laid (d : List ℕ) (at : ℕ) (bs : List ℕ) (e : List ℕ) (r : ℕ) : Type 0 where
  pub next : r ≡ at + length bs
  pub text : Room d at bs → e ≡ put_at d at bs

-- bs is laid behind what a sheet has, in the same buffer
pub record Lays (s t : Sheet) (bs : List ℕ) : Type 0 where
  pub same_reference : t.out.ghost_name ≡ s.out.ghost_name
  pub same_length : length t.out.now ≡ length s.out.now
  pub laid : Laid s.out.now s.at bs t.out.now t.at

-- the rules of a leaf of n in which xs ends
unfoldable pub last_rules : List ℕ → ℕ → List ℕ
last_rules xs n = map cell (take n (drop (length xs - node_run + 1) xs))

-- rules to the end of a line, and the line of a branch
abbrev pub rule_end : List ℕ → List ℕ
rule_end rs = rule_text rs ++ (LF ∷ [])

abbrev pub branch_line : ℕ → ℕ → ℕ → List ℕ
branch_line level t b = arm_head level t b ++ (LF ∷ [])

pub record LeafFits (xs : List ℕ) (n : ℕ) : Type 0 where
  pub long : node_run ≤ length xs
  pub few : n ≤ rules_max
  pub low : all_low (last_rules xs n) ≡ true

-- a tree ends here, and the count stays within the bounds
pub record CanLay (level t b : ℕ) (xs : List ℕ) (at : ℕ) : Type 0 where
  pub tree : Tree
  pub ends : Ends tree xs
  pub fits : at + length (arm level t b tree) ≤ tree_max
