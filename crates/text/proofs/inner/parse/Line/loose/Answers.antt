use Rattle.std.proofs.Common.{ap, refl}
use Rattle.sets.specs.declared.Rules.{Rules}
use Rattle.text.proofs.RowsIn.{row_made}
use Rattle.text.proofs.inner.parse.Line.loose.Goals as goal

pub returns : goal.returns
returns c =
    let l = c.args.self.bytes.now in
    row_made c.args.self.columns l _ c.pattern.ensures refl (ap (λ (s : Rules). s.items) c.names.ensures) (ap (λ (s : Rules). s.count) c.names.ensures)
