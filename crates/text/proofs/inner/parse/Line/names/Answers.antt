use Rattle.std.proofs.Common.{ℕ, ap, ◌∙◌}
use Rattle.rules.specs.Bounds.{rules_max}
use Rattle.sets.specs.Sets.{rules_from}
use Rattle.text.specs.Scan.{rules_at, scanned}
use Rattle.text.proofs.Values.{names-made, names_none}
use Rattle.text.proofs.inner.parse.Line.names.Goals as goal

pub returns-then-empty : goal.returns-then-empty
returns-then-empty c = names_none c.args.self.bytes.now (rules_at c.args.self.columns) c.empty.result c.none.result c.empty.ensures c.if-empty.true c.none.ensures

pub returns : goal.returns
returns c =
    let l = c.args.self.bytes.now in
    names-made l c.start.result c.scan-count.new.out c.scan-count.result c.scan-count.ensures.out_after c.scan-count.ensures.value ∙ ap (λ (k : ℕ). rules_from (scanned rules_max l k)) c.start.ensures
