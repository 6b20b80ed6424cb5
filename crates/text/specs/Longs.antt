-- The longest lines and text of a tree, by the bounds. Assumes nothing: these are definitions.
use Rattle.std.specs.Prelude.{ℕ, ◌+◌, ◌-◌, ◌*◌}
use Rattle.rules.proofs.Longest.{net_long, rules_long}
use Rattle.rules.specs.Bounds.{nodes_max}

-- a tree's line after its indent: the net, the equals sign, the bit and the arrow; the rules, LF
abbrev pub head_max : ℕ
head_max = net_long - 1 + 3 + 1 + 3

abbrev pub line_max : ℕ
line_max = head_max + rules_long + 1

-- a tree: no entry has more than a line, and none is deeper than there are entries
abbrev pub tree_max : ℕ
tree_max = nodes_max * (2 * nodes_max + line_max)
