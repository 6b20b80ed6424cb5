use Rattle.std.proofs.Common.{arith, ℕ, List, ◌++◌, length, take, ap, sym, ◌∙◌}
use Rattle.rules.specs.Print.{value_line}
use Rattle.text.proofs.Values.{equal_no, equal_yes, struct_few, struct_low, struct_short, value_no, value_yes}
use Rattle.text.proofs.inner.parse.value.Goals as goal

pub shared_ref_as_front-value : goal.shared_ref_as_front-value
shared_ref_as_front-value c = (struct_few c.args.line.now c.nets-found.result c.nets-found.ensures).0

pub value-requires : goal.value-requires
value-requires c =
    let l = c.args.line.now in
    let n = c.nets-found.result in
    let e = c.nets-found.ensures in
    (omega arith, (struct_low l n e, omega (arith, struct_short l n e, ap length c.new-text.ensures)))

pub returns-then-eq : goal.returns-then-eq
returns-then-eq c =
    let n = c.nets-found.result in
    let t = c.as_bytes.ensures ∙ c.value.ensures ∙ ap (λ (l : List ℕ). l ++ value_line (take n.columns n.value)) c.new-text.ensures in
    value_yes c.args.line.now n c.nets-found.ensures (sym t ∙ equal_yes _ _ (sym c.eq.ensures ∙ c.if-eq.true))

pub returns-else-eq : goal.returns-else-eq
returns-else-eq c =
    let n = c.nets-found.result in
    let t = c.as_bytes.ensures ∙ c.value.ensures ∙ ap (λ (l : List ℕ). l ++ value_line (take n.columns n.value)) c.new-text.ensures in
    value_no c.args.line.now n c.nets-found.ensures (λ p. equal_no _ _ (sym c.eq.ensures ∙ c.if-eq.false) (t ∙ p))
