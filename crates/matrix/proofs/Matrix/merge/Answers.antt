use Rattle.std.proofs.Common.{◌≡◌, ◌∙◌, ◌<◌, ap, rules, subst, sym, ℕ}
use Rattle.matrix.proofs.CallMerges.{merge_child_fits, merge-fine, merge-fits, merge_low}
use Rattle.matrix.proofs.Calls.{accept, refuse}
use Rattle.matrix.proofs.Tidies.{fits_sized, tidied_clean}
use Rattle.matrix.proofs.TidySlots.{slots}
use Rattle.matrix.proofs.Views.{from-given}
use Rattle.matrix.specs.Mat.{Clean, given, matrix_from, view}
use Rattle.rules.specs.Answers.{merge_answer}
use Rattle.rules.specs.Codes.{net_code}
use Rattle.rules.specs.Given.{Sized}
use Rattle.rules.specs.Matrix.{merge}
use Rattle.rules.specs.Nets.{first_mux}
use Rattle.rules.specs.Refusals.{merge_table}
use Rattle.rules.specs.Refuse.{refusal}
use Rattle.matrix.proofs.Matrix.merge.Goals as goal
use Rattle.matrix.proofs.Matrix.merge.Goals.{After-from-at, After-tidy}

-- the number is one of the net's code
coded : (c : After-from-at) → refusal (merge_table c.from-at.result (given c.args.self) (given c.args.child)) ≡ refusal (merge_table (net_code c.args.at) (given c.args.self) (given c.args.child))
coded c = ap (λ (t : ℕ). refusal (merge_table t (given c.args.self) (given c.args.child))) c.from-at.ensures

tidied : (c : After-tidy) → Clean c.tidy-self.result × (view c.tidy-self.result ≡ view c.args.self)
tidied c =
    let m = c.args.self in
    tidied_clean m _ (merge-fits m c.args.child c.from-at.result (sym c.in_default.ensures)) (slots m _ c.well_formed.0) c.tidy-self.ensures

tidied_child : (c : After-tidy) → Clean c.tidy.result × (view c.tidy.result ≡ view c.args.child)
tidied_child c =
    let d = c.args.child in
    tidied_clean d _ (merge_child_fits c.args.self d c.from-at.result (sym c.in_default.ensures)) (slots d _ c.well_formed.1.1.0) c.tidy.ensures

pub returns-in-Err : goal.returns-in-Err
unfolding merge_answer
returns-in-Err c =
    let a = c.args in
    let m = a.self in
    let d = a.child in
    let n = c.in-Err.ensures ∙ coded (goal.at.returns-in-Err c).After-from-at in
    c.refused.ensures ∙ refuse (refusal (merge_table (net_code a.at) (given m) (given d))) (given m) (merge (net_code a.at) (view m) (view d)) _ _ n (sym (from-given m))

pub merge-self-requires : goal.merge-self-requires
merge-self-requires c =
    let a = c.args in
    let m = a.self in
    let d = a.child in
    let t = c.from-at.result in
    let z = sym c.in_default.ensures in
    let p = tidied (goal.at.merge-self-requires c).After-tidy in
    let q = tidied_child (goal.at.merge-self-requires c).After-tidy in
    let h = merge-fine m d t z (fits_sized m (merge-fits m d t z) (slots m _ c.well_formed.0)) (fits_sized d (merge_child_fits m d t z) (slots d _ c.well_formed.1.1.0)) in
    let x : merge t (view c.tidy-self.result) (view c.tidy.result) ≡ merge t (view m) (view d) = λ i. merge t (p.1 i) (q.1 i) in
    (p.0, q.0, subst Sized (sym x) h)

pub returns : goal.returns
unfolding merge_answer
returns c =
    let a = c.args in
    let m = a.self in
    let d = a.child in
    let n = c.in_default.ensures ∙ coded (goal.at.returns c).After-from-at in
    let p = (tidied (goal.at.returns c).After-tidy).1 in
    let q = (tidied_child (goal.at.returns c).After-tidy).1 in
    let t = c.from-at.ensures in
    c.done.ensures
    ∙ accept (refusal (merge_table (net_code a.at) (given m) (given d))) (given m) (merge (net_code a.at) (view m) (view d)) _ n
    (c.merge-self.ensures ∙ (λ i. matrix_from (merge (t i) (p i) (q i))))
