use Rattle.std.proofs.Common.{rules, ◌≡◌, ℕ, eqb}
use borrow.Author.Tests.{tests}
use Rattle.std.proofs.lemmas.Iterator.{YieldsList-from_slice}
use Rattle.std.proofs.lemmas.Iterator.Search.{position_from_yields_List}
use Rattle.std.specs.List.{position}
use Rattle.text.proofs.Reader.{end_found, end_missing}
use Rattle.text.proofs.inner.reader.end.Goals as goal

pub returns-in-Some : goal.returns-in-Some
returns-in-Some c =
    let e : c.position.result ≡ position (λ (x : ℕ). eqb x 10) c.args.s.now = position_from_yields_List (λ (x : ℕ). eqb x 10) _ _ c.position.result c.position.ensures.ran (YieldsList-from_slice c.args.s.now cc) (λ x b q k. search (rules, tests)) in
    end_found c.args.s.now c.requires c.position.result e c.in-Some.i c.in-Some.is

pub returns-in-None : goal.returns-in-None
returns-in-None c =
    let e : c.position.result ≡ position (λ (x : ℕ). eqb x 10) c.args.s.now = position_from_yields_List (λ (x : ℕ). eqb x 10) _ _ c.position.result c.position.ensures.ran (YieldsList-from_slice c.args.s.now cc) (λ x b q k. search (rules, tests)) in
    end_missing c.args.s.now c.requires c.position.result e c.in-None.is
