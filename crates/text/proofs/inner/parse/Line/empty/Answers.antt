use Rattle.std.proofs.Common.{arith, ◌≡◌, ◌<◌, drop, length, ap, ◌∙◌}
use lib.Dec.{eqb}
use lib.Pointwise.{pointwise}
use Rattle.std.proofs.lemmas.Grind.{common_steps}
use Rattle.rules.specs.Bytes.{bytes}
use Rattle.rules.specs.Print.{rule_text}
use Rattle.text.specs.Scan.{rules_at}
use Rattle.text.proofs.Values.{empty_is, empty_past}
use Rattle.text.proofs.inner.parse.Line.empty.Goals as goal

pub returns-in_default : goal.returns-in_default
returns-in_default c =
    let h : length c.args.self.bytes.now < rules_at c.args.self.columns = grind (arith, common_steps) in
    empty_past (rules_at c.args.self.columns) c.args.self.bytes.now h

pub returns : goal.returns
unfolding bytes rule_text
returns c =
    let e : c.in-Some.end.now ≡ drop (rules_at c.args.self.columns) c.args.self.bytes.now = grind (arith, common_steps) in
    empty_is (rules_at c.args.self.columns) c.args.self.bytes.now c.in-Some.end.now c.eq.result e (c.eq.ensures ∙ ap (pointwise eqb c.in-Some.end.now) c.as_slice.ensures)
