-- 01, "Refusal numbers", call by call: when each number that a call may give applies. Assumes nothing: these are definitions.
use Rattle.std.specs.Prelude.{ℕ, ◌+◌, Bool, not, ◌&&◌, ◌||◌, List, [], ◌∷◌, eqb, leb, ltb, length, take}
use Rattle.lists.specs.Lists.{all}
use Rattle.rules.specs.Bounds.{mux_first, rules_max, width_max}
use Rattle.rules.specs.Dispatch.{catch_all, peak_of}
use Rattle.rules.specs.Emit.{Gives, Update, bad_table, emitted, in_use, one_hot, disjoint, overlap, room}
use Rattle.rules.specs.Given.{Given, bad_columns, bad_form, bad_net, bad_rows, bad_rules, bad_shape, too_many, too_tall, too_wide, view}
use Rattle.rules.specs.Matrix.{add, add_enable, merge, new, set_of}
use Rattle.rules.specs.Nets.{first_mux, is_name, is_net, over}
use Rattle.rules.specs.Print.{printed, printed_tree}
use Rattle.rules.specs.Refuse.{Table, CATCH, COLUMNS, FORM, NET, NODES, OVERLAP, ROOM, ROWS, RULES, SHAPE, WIDTH}
use Rattle.rules.specs.Store.{found, is_none, tree_at, used}
use Rattle.rules.specs.Tree.{Tree, some_leaf}
use Rattle.rules.specs.Trits.{is_trit}

-- nets of a value: cells up to 9,999 or constants
abbrev pub all_low : List ℕ → Bool
all_low ns = all (λ (n : ℕ). not (over n)) ns

-- ---- matrices

-- new, of nets in a slice
abbrev pub new_table : List ℕ → Table
new_table ns = (FORM, not (all is_net ns)) ∷ (COLUMNS, too_wide (new ns)) ∷ (NET, not (all_low ns)) ∷ []

-- add, of a pattern and a list of rules
abbrev pub add_table : Given → List ℕ → List ℕ → Table
add_table g p rs =
    (FORM, bad_form g || not (all is_trit p && all is_net rs))
    ∷ (COLUMNS, bad_columns g)
    ∷ (ROWS, bad_rows g || too_tall (add p rs (view g)))
    ∷ (SHAPE, bad_shape g || not (eqb (length p) g.columns))
    ∷ (NET, bad_net g || not (all is_name rs))
    ∷ (RULES, bad_rules g || ltb rules_max (length (set_of rs)))
    ∷ []

-- merge at the net t of a parent with a child
abbrev pub merge_table : ℕ → Given → Given → Table
merge_table t g c =
    (FORM, bad_form g || bad_form c)
    ∷ (COLUMNS, bad_columns g || (bad_columns c || too_wide (merge t (view g) (view c))))
    ∷ (ROWS, bad_rows g || (bad_rows c || too_tall (merge t (view g) (view c))))
    ∷ (SHAPE, bad_shape g || bad_shape c)
    ∷ (NET, bad_net g || (bad_net c || not (is_name t)))
    ∷ (RULES, bad_rules g || (bad_rules c || too_many (merge t (view g) (view c))))
    ∷ []

-- add_enable of the net e
abbrev pub enable_table : ℕ → Given → Table
enable_table e g =
    (FORM, bad_form g)
    ∷ (COLUMNS, bad_columns g || too_wide (add_enable e (view g)))
    ∷ (ROWS, bad_rows g || too_tall (add_enable e (view g)))
    ∷ (SHAPE, bad_shape g)
    ∷ (NET, bad_net g || over e)
    ∷ (RULES, bad_rules g)
    ∷ []

-- assume of the net t
abbrev pub assume_table : ℕ → Given → Table
assume_table t g =
    (FORM, bad_form g)
    ∷ (COLUMNS, bad_columns g)
    ∷ (ROWS, bad_rows g)
    ∷ (SHAPE, bad_shape g)
    ∷ (NET, bad_net g || over t)
    ∷ (RULES, bad_rules g)
    ∷ []

-- dispatch with the enable e into a store
abbrev pub dispatch_table : ℕ → Given → List ℕ → Table
dispatch_table e g store =
    (FORM, bad_form g)
    ∷ (COLUMNS, bad_columns g || too_wide (add_enable e (view g)))
    ∷ (ROWS, bad_rows g || too_tall (add_enable e (view g)))
    ∷ (SHAPE, bad_shape g)
    ∷ (NET, bad_net g || over e)
    ∷ (RULES, bad_rules g)
    ∷ (CATCH, not (catch_all (view g).rows))
    ∷ (NODES, ltb (used store) (peak_of e (view g)))
    ∷ []

-- ---- trees handed in: a store and a root

abbrev pub tree_table : List ℕ → ℕ → Table
tree_table store root = (FORM, is_none (tree_at store root)) ∷ []

abbrev pub tree_in : List ℕ → ℕ → Tree
tree_in store root = found (tree_at store root)

-- 10: "the muxes ... needed exceed the room left"
abbrev pub no_room : Gives → Tree → ℕ → List ℕ → Bool
no_room g t count table = ltb (room table) (length (emitted g t (in_use count table)).0)

-- one-hot emission of a list of outputs
abbrev pub one_hot_table : List ℕ → ℕ → List ℕ → ℕ → List ℕ → Table
one_hot_table store root outs count table =
    (FORM, is_none (tree_at store root) || (not (all is_net outs) || bad_table count table))
    ∷ (NET, not (all is_name outs))
    ∷ (WIDTH, ltb width_max (length outs))
    ∷ (ROOM, no_room (one_hot outs) (tree_in store root) count table)
    ∷ []

-- disjoint emission of updates and a default
abbrev pub disjoint_table : List ℕ → ℕ → List Update → List ℕ → ℕ → List ℕ → Table
disjoint_table store root us d count table =
    (FORM, is_none (tree_at store root) || (not (all (λ (u : Update). is_net u.target && all is_net u.bits) us && all is_net d) || bad_table count table))
    ∷ (NET, not (all (λ (u : Update). is_name u.target && all_low u.bits) us && all_low d))
    ∷ (WIDTH, ltb width_max (length d) || not (all (λ (u : Update). eqb (length u.bits) (length d)) us))
    ∷ (OVERLAP, some_leaf (overlap us) (tree_in store root))
    ∷ (ROOM, no_room (disjoint us d) (tree_in store root) count table)
    ∷ []

-- the disjoint prefix of enables among outputs
abbrev pub prefix_table : List ℕ → ℕ → List ℕ → List ℕ → Table
prefix_table store root outs es =
    (FORM, is_none (tree_at store root) || not (all is_net outs && all is_net es)) ∷ (NET, not (all is_name outs && all is_name es)) ∷ []

-- the evaluator, asked for a net: "trits at places up to 9,999 are all in use (12)"; "an asked net with no driving entry and a number over 9,999"
abbrev pub evaluate_table : ℕ → List ℕ → List ℕ → ℕ → Table
evaluate_table count table ts asked = (FORM, bad_table count table || (not (all is_trit (take mux_first ts)) || leb (first_mux + count) asked)) ∷ []

-- ---- text: "printed bytes needed exceed the room left"

abbrev pub print_table : Given → List ℕ → Table
print_table g out =
    (FORM, bad_form g)
    ∷ (COLUMNS, bad_columns g)
    ∷ (ROWS, bad_rows g)
    ∷ (SHAPE, bad_shape g)
    ∷ (NET, bad_net g)
    ∷ (RULES, bad_rules g)
    ∷ (ROOM, ltb (length out) (length (printed (view g))))
    ∷ []

abbrev pub print_tree_table : List ℕ → ℕ → List ℕ → Table
print_tree_table store root out = (FORM, is_none (tree_at store root)) ∷ (ROOM, ltb (length out) (length (printed_tree (tree_in store root)))) ∷ []
