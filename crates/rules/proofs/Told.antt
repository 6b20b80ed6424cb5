-- A refusal is known by its number, so an answer in code is known by what it says. Assumes nothing.
use Rattle.std.specs.Prelude.{ℕ, Result, Ok, Err, ◌≡◌, refl, cond, eqb}
use Rattle.std.proofs.Common.{ap, arith, sym, ◌∙◌}
use Rattle.rules.specs.Refuse.{Outcome, done, refused}
use Rattle.rules.specs.Refused.{number_of}
use Rattle.rules.specs.declared.refusal.Refusal.{Refusal}
use Rattle.rules.specs.declared.refusal.Refusal.TheVariants as why

abbrev refusal_at : ℕ → Refusal
refusal_at n =
    cond (eqb n 1) why.Columns
    (cond (eqb n 2) why.Rows
    (cond (eqb n 3) why.Shape
    (cond (eqb n 4) why.Net
    (cond (eqb n 5) why.Rules
    (cond (eqb n 6) why.Catch
    (cond (eqb n 7) why.Nodes
    (cond (eqb n 8) why.Width
    (cond (eqb n 9) why.Overlap
    (cond (eqb n 10) why.Room
    (cond (eqb n 11) why.Line why.Form))))))))))

at_number : (e : Refusal) → refusal_at (number_of e) ≡ e
at_number why.Columns = refl
at_number why.Rows = refl
at_number why.Shape = refl
at_number why.Net = refl
at_number why.Rules = refl
at_number why.Catch = refl
at_number why.Nodes = refl
at_number why.Width = refl
at_number why.Overlap = refl
at_number why.Room = refl
at_number why.Line = refl
at_number why.Form = refl

pub number_one : (d e : Refusal) → number_of d ≡ number_of e → d ≡ e
number_one d e h = sym (at_number d) ∙ ap refusal_at h ∙ at_number e

-- two answers in which g reads the same are the same, where f tells values apart
pub read_one : {A B : Type 0} (f : A → B) → ((a b : A) → f a ≡ f b → a ≡ b) → (g : Result A Refusal → Outcome B) → ((a : A) → g (Ok a) ≡ done (f a)) → ((e : Refusal) → g (Err e) ≡ refused (number_of e)) → (r q : Result A Refusal) → g r ≡ g q → r ≡ q
read_one f h g m n (Ok a) (Ok b) e = let i : done (f a) ≡ done (f b) = sym (m a) ∙ e ∙ m b in let j : f a ≡ f b = cc in ap Ok (h a b j)
read_one f h g m n (Ok a) (Err d) e = let i : done (f a) ≡ refused (number_of d) = sym (m a) ∙ e ∙ n d in let z : ◌≡◌ {A = ℕ} 0 1 = cc in absurd (omega arith)
read_one f h g m n (Err d) (Ok b) e = let i : refused (number_of d) ≡ done (f b) = sym (n d) ∙ e ∙ m b in let z : ◌≡◌ {A = ℕ} 0 1 = cc in absurd (omega arith)
read_one f h g m n (Err d) (Err c) e = let i : refused (number_of d) ≡ refused (number_of c) = sym (n d) ∙ e ∙ n c in let j : number_of d ≡ number_of c = cc in ap Err (number_one d c j)
