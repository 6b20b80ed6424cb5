-- 01, "Nets, trits, sizes": the most of each thing, by name. Assumes nothing: these are definitions.
use Rattle.std.specs.Prelude.{ℕ, ◌+◌, ◌*◌}

-- "columns, enable included"
abbrev pub columns_max : ℕ
columns_max = 16

-- "rows, the enable's row included"
abbrev pub rows_max : ℕ
rows_max = 64

-- "rules in a row"
abbrev pub rules_max : ℕ
rules_max = 8

-- "node entries used"
abbrev pub nodes_max : ℕ
nodes_max = 1024

-- "bits of an emitted value"
abbrev pub width_max : ℕ
width_max = 64

-- "mux table"
abbrev pub mux_max : ℕ
mux_max = 8192

-- "a cell with a number, 0 to 9,999"
abbrev pub cell_max : ℕ
cell_max = 9999

-- "table entry k drives net 10,000 + k": the first such number, and the last
abbrev pub mux_first : ℕ
mux_first = cell_max + 1

abbrev pub net_max : ℕ
net_max = cell_max + mux_max

-- all rules of all rows
abbrev pub outputs_max : ℕ
outputs_max = rows_max * rules_max

-- "a fixed run per entry": numbers for a node (a count and the rules) and for a mux (select, one arm, zero arm)
abbrev pub node_run : ℕ
node_run = rules_max + 1

abbrev pub mux_run : ℕ
mux_run = 3
