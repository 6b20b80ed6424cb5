-- 01's number of each refusal in code, and what an answer in code says. Assumes nothing: these are definitions.
use Rattle.std.specs.Prelude.{ℕ, Result, Ok, Err}
use Rattle.rules.specs.Refuse.{Outcome, done, refused, COLUMNS, ROWS, SHAPE, NET, RULES, CATCH, NODES, WIDTH, OVERLAP, ROOM, LINE, FORM}
use Rattle.rules.specs.declared.refusal.Refusal.{Refusal}
use Rattle.rules.specs.declared.refusal.Refusal.TheVariants as why

abbrev pub number_of : Refusal → ℕ
number_of why.Columns = COLUMNS
number_of why.Rows = ROWS
number_of why.Shape = SHAPE
number_of why.Net = NET
number_of why.Rules = RULES
number_of why.Catch = CATCH
number_of why.Nodes = NODES
number_of why.Width = WIDTH
number_of why.Overlap = OVERLAP
number_of why.Room = ROOM
number_of why.Line = LINE
number_of why.Form = FORM

-- what was made, as f reads it, or the number
abbrev pub told : {A B : Type 0} → (A → B) → Result A Refusal → Outcome B
told f (Ok a) = done (f a)
told f (Err e) = refused (number_of e)

-- the number, and 0 where none was given
abbrev pub number_or_0 : {A : Type 0} → Result A Refusal → ℕ
number_or_0 (Ok a) = 0
number_or_0 (Err e) = number_of e
