-- A contract that leaves no choice: at the same arguments, two results that it takes are the same, and so is what they leave in what was lent.
-- Assumes nothing: this is a definition.
use Rattle.std.specs.Prelude.{ℕ, List, ◌≡◌}
use borrow.Fn.Kinds.{Dens, Out, ParamKind, ResultKind, ended_of, res_t}
use contract.Lifetimes.{Lfts}
use denote.Triple.Clauses.{Lasts, at_exit}

abbrev pub One : (n : ℕ) (ps : List (ParamKind n)) (r : ResultKind n) → Out n ps r → Type 0
One n ps r P =
    (κs : Lfts n) (a : Dens κs ps) (x y : (res_t r κs).Denot) (ws vs : Lasts (ended_of n ps r) κs a)
    → P κs a x (at_exit (ended_of n ps r) κs a ws) → P κs a y (at_exit (ended_of n ps r) κs a vs)
    → (x ≡ y) × (ws ≡ vs)
