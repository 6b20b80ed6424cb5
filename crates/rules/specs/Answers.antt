-- 01, "What each call owes its reader": every public call's whole answer, and what it was lent afterwards. Assumes nothing: these are definitions.
use Rattle.std.specs.Prelude.{ℕ, ◌+◌, ◌-◌, cond, List, ◌++◌, eqb, length, drop}
use Rattle.rules.specs.Dispatch.{dispatch}
use Rattle.rules.specs.Emit.{Gives, Update, Mux, appended, disjoint, emitted, in_use, one_hot, updates_of}
use Rattle.rules.specs.Evaluate.{evaluated}
use Rattle.rules.specs.Given.{Given, matrix_table, spread, view}
use Rattle.rules.specs.Matrix.{Matrix, add, add_enable, assume, merge, new, none_yet, outputs}
use Rattle.rules.specs.Normalize.{normalize}
use Rattle.rules.specs.Prefix.{prefix}
use Rattle.rules.specs.Print.{printed, printed_tree}
use Rattle.rules.specs.Read.{Read, read, whole, wrong}
use Rattle.rules.specs.Refusals.{add_table, assume_table, disjoint_table, dispatch_table, enable_table, evaluate_table, merge_table, new_table, one_hot_table, prefix_table, print_table, print_tree_table, tree_in, tree_table}
use Rattle.rules.specs.Refuse.{Outcome, LINE, or_refused, refusal}
use Rattle.rules.specs.Store.{cleared, stored}
use Rattle.rules.specs.Tree.{Tree, size}

-- ---- matrix operations: a number, 0 where accepted, and a matrix

pub record Made : Type 0 where
  pub number : ℕ
  pub matrix : Given

-- "refuse with the matrix unchanged"; a matrix that a call makes has 0 past every count
abbrev pub made : ℕ → Given → Matrix → Made
made n old m = record { number = n; matrix = cond (eqb n 0) (spread m) old }

-- "a refused new one or read gives the matrix without columns and rows"
unfoldable pub new_answer : List ℕ → Made
new_answer ns = made (refusal (new_table ns)) (spread none_yet) (new ns)

unfoldable pub add_answer : List ℕ → List ℕ → Given → Made
add_answer p rs g = made (refusal (add_table g p rs)) g (add p rs (view g))

unfoldable pub merge_answer : ℕ → Given → Given → Made
merge_answer t g c = made (refusal (merge_table t g c)) g (merge t (view g) (view c))

unfoldable pub enable_answer : ℕ → Given → Made
enable_answer e g = made (refusal (enable_table e g)) g (add_enable e (view g))

unfoldable pub assume_answer : ℕ → ℕ → Given → Made
assume_answer t b g = made (refusal (assume_table t g)) g (assume t b (view g))

unfoldable pub normalize_answer : Given → Made
normalize_answer g = made (refusal (matrix_table g)) g (normalize (view g))

unfoldable pub outputs_answer : Given → Outcome (List ℕ)
outputs_answer g = or_refused (refusal (matrix_table g)) (outputs (view g))

-- ---- dispatch: "the root is the last entry in use and its place is returned", and the size; the store afterwards

unfoldable pub dispatch_answer : ℕ → Given → List ℕ → Outcome (ℕ × ℕ)
unfolding dispatch size
dispatch_answer e g store = or_refused (refusal (dispatch_table e g store)) (size (dispatch e (view g)) - 1, size (dispatch e (view g)))

unfoldable pub dispatch_store : ℕ → Given → List ℕ → List ℕ
unfolding dispatch stored
dispatch_store e g store = cond (eqb (refusal (dispatch_table e g store)) 0) (stored (dispatch e (view g)) store) (cleared store)

-- ---- trees handed in

-- the check of a tree: its size, or 12
unfoldable pub check_answer : List ℕ → ℕ → Outcome ℕ
unfolding size
check_answer store root = or_refused (refusal (tree_table store root)) (size (tree_in store root))

-- emission: the nets of the value and the entries then in use; the table afterwards
abbrev pub added : Gives → Tree → ℕ → List ℕ → List Mux
added g t count table = drop (length (in_use count table)) (emitted g t (in_use count table)).0

abbrev pub emission : ℕ → Gives → Tree → ℕ → List ℕ → Outcome (List ℕ × ℕ)
emission n g t count table = or_refused n ((emitted g t (in_use count table)).1, count + length (added g t count table))

abbrev pub emission_table : ℕ → Gives → Tree → ℕ → List ℕ → List ℕ
emission_table n g t count table = cond (eqb n 0) (appended count (added g t count table) table) table

unfoldable pub one_hot_answer : List ℕ → ℕ → List ℕ → ℕ → List ℕ → Outcome (List ℕ × ℕ)
one_hot_answer store root outs count table = emission (refusal (one_hot_table store root outs count table)) (one_hot outs) (tree_in store root) count table

unfoldable pub one_hot_after : List ℕ → ℕ → List ℕ → ℕ → List ℕ → List ℕ
one_hot_after store root outs count table = emission_table (refusal (one_hot_table store root outs count table)) (one_hot outs) (tree_in store root) count table

-- updates are lent as their nets, their widths, and their bits end to end
unfoldable pub disjoint_answer : List ℕ → ℕ → List ℕ → List ℕ → List ℕ → List ℕ → ℕ → List ℕ → Outcome (List ℕ × ℕ)
unfolding updates_of
disjoint_answer store root ns ws bs d count table =
    let us : List Update = updates_of ns ws bs in
    emission (refusal (disjoint_table store root us d count table)) (disjoint us d) (tree_in store root) count table

unfoldable pub disjoint_after : List ℕ → ℕ → List ℕ → List ℕ → List ℕ → List ℕ → ℕ → List ℕ → List ℕ
unfolding updates_of
disjoint_after store root ns ws bs d count table =
    let us : List Update = updates_of ns ws bs in
    emission_table (refusal (disjoint_table store root us d count table)) (disjoint us d) (tree_in store root) count table

unfoldable pub prefix_answer : List ℕ → ℕ → List ℕ → List ℕ → Outcome ℕ
prefix_answer store root outs es = or_refused (refusal (prefix_table store root outs es)) (prefix outs (tree_in store root) es)

-- ---- the evaluator: the asked net's trit

unfoldable pub evaluate_answer : ℕ → List ℕ → List ℕ → ℕ → Outcome ℕ
unfolding evaluated
evaluate_answer count table ts asked = or_refused (refusal (evaluate_table count table ts asked)) (evaluated (in_use count table) ts asked)

-- ---- print: how many bytes; "Printing changes no byte after what it wrote"

abbrev pub put : ℕ → List ℕ → List ℕ → List ℕ
put n text out = cond (eqb n 0) (text ++ drop (length text) out) out

unfoldable pub print_answer : Given → List ℕ → Outcome ℕ
print_answer g out = or_refused (refusal (print_table g out)) (length (printed (view g)))

unfoldable pub print_after : Given → List ℕ → List ℕ
print_after g out = put (refusal (print_table g out)) (printed (view g)) out

unfoldable pub print_tree_answer : List ℕ → ℕ → List ℕ → Outcome ℕ
print_tree_answer store root out = or_refused (refusal (print_tree_table store root out)) (length (printed_tree (tree_in store root)))

unfoldable pub print_tree_after : List ℕ → ℕ → List ℕ → List ℕ
print_tree_after store root out = put (refusal (print_tree_table store root out)) (printed_tree (tree_in store root)) out

-- ---- read: the matrix, or "text that isn't a printed matrix; with a line number"

pub record ReadMade : Type 0 where
  pub number : ℕ
  pub line : ℕ
  pub matrix : Given

abbrev pub read_made : Read → ReadMade
read_made (whole m) = record { number = 0; line = 0; matrix = spread m }
read_made (wrong k) = record { number = LINE; line = k; matrix = spread none_yet }

unfoldable pub read_answer : List ℕ → ReadMade
unfolding read
read_answer s = read_made (read s)
