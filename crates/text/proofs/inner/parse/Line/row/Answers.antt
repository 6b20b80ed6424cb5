use borrow.Author.Tests.{not-false, not-true}
use Rattle.std.proofs.Common.{arith, ℕ, List, ◌++◌, length, ap, sym, ◌∙◌}
use Rattle.lists.specs.Bools.{clash}
use Rattle.rows.specs.Rows.{view}
use Rattle.rules.specs.Print.{row_line}
use Rattle.text.proofs.RowsIn.{row-few, row-fits-found, row_no, row_yes}
use Rattle.text.proofs.Values.{equal_no, equal_yes}
use Rattle.text.proofs.inner.parse.Line.row.Goals as goal

pub returns-then-not-named : goal.returns-then-not-named
returns-then-not-named c = row_no c.args.self.columns c.args.self.bytes.now c.loose-found.result c.args.self.few c.loose-found.ensures (λ n a p. clash (sym c.if-not-named.true ∙ c.named.ensures ∙ n))

pub returns-then-not-ascending : goal.returns-then-not-ascending
returns-then-not-ascending c = row_no c.args.self.columns c.args.self.bytes.now c.loose-found.result c.args.self.few c.loose-found.ensures (λ n a p. clash (sym c.if-not-ascending.true ∙ c.ascending.ensures ∙ a))

pub row-requires : goal.row-requires
row-requires c =
    let w = c.args.self.columns in
    let l = c.args.self.bytes.now in
    let s = c.loose-found.result in
    let e = c.loose-found.ensures in
    (omega arith, (row-fits-found w l s c.args.self.few e (sym c.named.ensures ∙ c.if-not-named.false), omega (arith, row-few w l s c.args.self.few e, ap length c.new-text.ensures)))

pub returns-then-ne : goal.returns-then-ne
returns-then-ne c =
    let s = c.loose-found.result in
    let t = c.as_bytes.ensures ∙ c.row.ensures ∙ ap (λ (l : List ℕ). l ++ row_line (view s)) c.new-text.ensures in
    row_no c.args.self.columns c.args.self.bytes.now s c.args.self.few c.loose-found.ensures (λ n a p. equal_no _ _ (not-true _ (sym c.if-ne.ensures)) (t ∙ p))

pub returns : goal.returns
returns c =
    let s = c.loose-found.result in
    let t = c.as_bytes.ensures ∙ c.row.ensures ∙ ap (λ (l : List ℕ). l ++ row_line (view s)) c.new-text.ensures in
    row_yes c.args.self.columns c.args.self.bytes.now s c.args.self.few c.loose-found.ensures (sym c.named.ensures ∙ c.if-not-named.false) (sym c.ascending.ensures ∙ c.if-not-ascending.false)
    (sym t ∙ equal_yes _ _ (not-false _ (sym c.if-ne.ensures)))
