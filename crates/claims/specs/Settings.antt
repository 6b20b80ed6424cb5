-- 01, "Bench settings" 1 to 10, by computing (C5). Patterns and nets stand from column 0 up, so right to left of the print. Assumes nothing.
use Rattle.std.specs.Prelude.{ℕ, List, [], ◌∷◌, map, ◌≡◌, refl, replicate}
use Rattle.lists.specs.Lists.{mem}
use Rattle.lists.specs.Lists.{same as same_list}
use Rattle.lists.specs.Runs.{runs}
use Rattle.lists.specs.Vec.{vec}
use Rattle.rules.specs.Answers.{dispatch_answer, dispatch_store, evaluate_answer, merge_answer, one_hot_after}
use Rattle.rules.specs.Bytes.{bytes}
use Rattle.rules.specs.Dispatch.{catch_all, dispatch, peak_of}
use Rattle.rules.specs.Emit.{emitted, flat, formed, one_hot}
use Rattle.rules.specs.Given.{above, ascends, cells, spread}
use Rattle.rules.specs.Matrix.{Matrix, Row, merge_rows, union}
use Rattle.rules.specs.Nets.{cell}
use Rattle.rules.specs.Normalize.{normalize}
use Rattle.rules.specs.Print.{printed, printed_tree}
use Rattle.rules.specs.Refuse.{CATCH, NODES, done, refused}
use Rattle.rules.specs.Store.{encode, stored, tree_at}
use Rattle.rules.specs.Tree.{fine, size}

abbrev row : List ℕ → List ℕ → Row
row p rs = record { pattern = p; rules = map cell rs }

abbrev m1 : Matrix
m1 = record { nets = cell 0 ∷ cell 1 ∷ []; rows = row (0 ∷ 0 ∷ []) (10 ∷ []) ∷ row (0 ∷ 1 ∷ []) (10 ∷ []) ∷ row (2 ∷ 2 ∷ []) (11 ∷ []) ∷ [] }

abbrev m2 : Matrix
m2 = record { nets = cell 0 ∷ []; rows = row (1 ∷ []) (10 ∷ []) ∷ row (2 ∷ []) [] ∷ [] }

abbrev m4 : Matrix
m4 = record { nets = 2 ∷ []; rows = row (1 ∷ []) (10 ∷ []) ∷ row (2 ∷ []) (11 ∷ []) ∷ [] }

abbrev m5 : Matrix
m5 = record { nets = cell 0 ∷ cell 0 ∷ []; rows = row (2 ∷ 1 ∷ []) (10 ∷ []) ∷ row (1 ∷ 0 ∷ []) (12 ∷ []) ∷ row (2 ∷ 2 ∷ []) (11 ∷ []) ∷ [] }

abbrev m6 : Matrix
m6 = record { nets = cell 0 ∷ 0 ∷ []; rows = row (2 ∷ 0 ∷ []) (10 ∷ []) ∷ row (0 ∷ 2 ∷ []) (11 ∷ []) ∷ row (2 ∷ 2 ∷ []) (12 ∷ []) ∷ [] }

abbrev m7 : Matrix
m7 = record { nets = cell 0 ∷ []; rows = row (1 ∷ []) (10 ∷ []) ∷ [] }

abbrev m8 : Matrix
m8 = record { nets = []; rows = row [] (10 ∷ []) ∷ [] }

abbrev m9 : Matrix
m9 = record { nets = cell 0 ∷ []; rows = row (0 ∷ []) (10 ∷ 12 ∷ []) ∷ row (2 ∷ []) (11 ∷ 12 ∷ []) ∷ [] }

abbrev m10 : Matrix
m10 = record { nets = cell 1 ∷ []; rows = row (1 ∷ []) (20 ∷ []) ∷ row (2 ∷ []) [] ∷ [] }

abbrev merged : Matrix
merged = record { nets = cell 0 ∷ cell 1 ∷ []; rows = row (1 ∷ 1 ∷ []) (10 ∷ 20 ∷ []) ∷ row (1 ∷ 2 ∷ []) (10 ∷ []) ∷ row (2 ∷ 2 ∷ []) [] ∷ [] }

-- n numbers lent, all sevens: nine are an entry of a store, three one of a table
abbrev lent : ℕ → List ℕ
lent n = replicate n 7

-- setting 9's table: three muxes for one tree, appended to an empty table, and a net asked of it where nothing is known
abbrev nine_store : List ℕ
nine_store = dispatch_store 1 (spread m9) (lent 27)

abbrev nine_table : List ℕ
nine_table = one_hot_after nine_store 2 (cell 10 ∷ cell 11 ∷ cell 12 ∷ []) 0 (lent 9)

pub record Settings : Type 0 where
  pub one-given : printed m1 ≡ bytes "[ %1 %0 ]:\n  00 => %10\n  10 => %10\n  XX => %11\n"
  pub one_text : printed_tree (dispatch 1 m1) ≡ bytes "%0 = 0 => %10\n%0 = 1 => %11\n"
  pub one-peak : peak_of 1 m1 ≡ 3
  pub one_answer : dispatch_answer 1 (spread m1) (lent 27) ≡ done (2, 3)
  pub one_short : dispatch_answer 1 (spread m1) (lent 26) ≡ refused NODES
  pub one-muxes : emitted (one_hot (cell 10 ∷ cell 11 ∷ [])) (dispatch 1 m1) []
      ≡ (record { select = cell 0; one_arm = 0; zero_arm = 1 } ∷ record { select = cell 0; one_arm = 1; zero_arm = 0 } ∷ [], cell 10000 ∷ cell 10001 ∷ [])
  pub two_given : printed m2 ≡ bytes "[ %0 ]:\n  1 => %10\n  X => (empty)\n"
  pub two_tree : printed_tree (dispatch (cell 5) m2) ≡ bytes "%5 = 1 =>\n  %0 = 1 => %10\n"
  pub two_nodes : dispatch_answer (cell 5) (spread m2) (lent 45) ≡ done (4, 5)
  pub three_answer : dispatch_answer 2 (spread m2) (lent 9) ≡ done (0, 1)
  pub three_tree : printed_tree (dispatch 2 m2) ≡ bytes "=> (empty)\n"
  pub four_given : printed m4 ≡ bytes "[ X ]:\n  1 => %10\n  X => %11\n"
  pub four_answer : dispatch_answer 1 (spread m4) (lent 9) ≡ done (0, 1)
  pub four_tree : printed_tree (dispatch 1 m4) ≡ bytes "=> %11\n"
  pub five_given : printed m5 ≡ bytes "[ %0 %0 ]:\n  1X => %10\n  01 => %12\n  XX => %11\n"
  pub five_answer : dispatch_answer 1 (spread m5) (lent 27) ≡ done (2, 3)
  pub five_tree : printed_tree (dispatch 1 m5) ≡ bytes "%0 = 0 => %11\n%0 = 1 => %10\n"
  pub six-given : printed m6 ≡ bytes "[ 0 %0 ]:\n  0X => %10\n  X0 => %11\n  XX => %12\n"
  pub six_normal : printed (normalize m6) ≡ bytes "[ %0 ]:\n  X => %10\n  0 => %11\n  X => %12\n"
  pub six-tree : printed_tree (dispatch 1 m6) ≡ bytes "=> %10\n"
  pub six_short : dispatch_answer 1 (spread m6) (lent 9) ≡ refused NODES
  pub six_enough : dispatch_answer 1 (spread m6) (lent 18) ≡ done (0, 1)
  pub seven-given : printed m7 ≡ bytes "[ %0 ]:\n  1 => %10\n"
  pub seven_refused : dispatch_answer 1 (spread m7) (lent 18) ≡ refused CATCH
  pub eight_given : printed m8 ≡ bytes "[ ]:\n   => %10\n"
  pub eight_answer : dispatch_answer 1 (spread m8) (lent 9) ≡ done (0, 1)
  pub eight_tree : printed_tree (dispatch 1 m8) ≡ bytes "=> %10\n"
  pub nine_given : printed m9 ≡ bytes "[ %0 ]:\n  0 => %10 %12\n  X => %11 %12\n"
  pub nine_outputs : map (evaluate_answer 3 nine_table []) (cell 10000 ∷ cell 10001 ∷ cell 10002 ∷ []) ≡ done 2 ∷ done 2 ∷ done 1 ∷ []
  pub ten_given : printed m10 ≡ bytes "[ %1 ]:\n  1 => %20\n  X => (empty)\n"
  pub ten_merged : merge_answer (cell 10) (spread m2) (spread m10) ≡ record { number = 0; matrix = spread merged }
  pub ten_printed : printed merged ≡ bytes "[ %1 %0 ]:\n  11 => %10 %20\n  X1 => %10\n  XX => (empty)\n"

pub settings : Settings
unfolding printed printed_tree bytes dispatch peak_of emitted size normalize dispatch_answer dispatch_store one_hot_after evaluate_answer merge_answer mem same_list runs vec catch_all flat formed above ascends cells merge_rows union encode stored tree_at fine
settings =
    record {
      one-given = refl;
      one_text = refl;
      one-peak = refl;
      one_answer = refl;
      one_short = refl;
      one-muxes = refl;
      two_given = refl;
      two_tree = refl;
      two_nodes = refl;
      three_answer = refl;
      three_tree = refl;
      four_given = refl;
      four_answer = refl;
      four_tree = refl;
      five_given = refl;
      five_answer = refl;
      five_tree = refl;
      six-given = refl;
      six_normal = refl;
      six-tree = refl;
      six_short = refl;
      six_enough = refl;
      seven-given = refl;
      seven_refused = refl;
      eight_given = refl;
      eight_answer = refl;
      eight_tree = refl;
      nine_given = refl;
      nine_outputs = refl;
      ten_given = refl;
      ten_merged = refl;
      ten_printed = refl;
    }
