use Rattle.std.proofs.Common.{rules, ℕ, [], ◌∷◌, length, ap, sym, ◌∙◌, arith, length-append}
use Rattle.print.proofs.Laws.{put_as, put_then}
use Rattle.print.proofs.Numbers.{marked_first, marked_no, marked_yes, trit-cut}
use Rattle.rules.specs.Print.{trit}
use Rattle.print.proofs.inner.put.Text.marked.Goals as goal
use Rattle.print.proofs.inner.put.Text.marked.Goals.{then-i-ne0+then-i-eq0, else-i-ne0, else-i-ne0-via-then-i-ne0+else-i-eq0, else-i-ne0-via-else-i-ne0}

pub byte-requires : goal.byte-requires
byte-requires g c = (search rules, omega (arith, length-append {A = ℕ}, ap length (marked_yes c.args.i c.args.x c.if-i-ne0.true c.if-i-eq0.true)))

pub byte-requires-2 : goal.byte-requires-2
byte-requires-2 g c = (
  search rules,
  elim c.if-i-ne0.branch [
    | then-i-ne0+then-i-eq0 w ↦ omega (arith, length-append {A = ℕ}, ap length w.self-is, ap length w.byte.ensures, ap length (marked_yes c.args.i c.args.x w.if-i-ne0.true w.if-i-eq0.true))
    | else-i-ne0 w ↦ elim w.else-i-ne0.branch [
      | else-i-ne0-via-then-i-ne0+else-i-eq0 v ↦ omega (arith, length-append {A = ℕ}, ap length w.self-is, ap length (marked_no c.args.i c.args.x v.if-i-eq0.false))
      | else-i-ne0-via-else-i-ne0 v ↦ omega (arith, length-append {A = ℕ}, ap length w.self-is, ap length (marked_first c.args.i c.args.x v.if-i-ne0.false))
    ]
  ],
)

pub returns : goal.returns
returns g c =
    let t = put_as _ (ap (λ (x : ℕ). x ∷ []) (c.trit-2.ensures ∙ ap trit c.trit.ensures ∙ trit-cut c.args.x)) c.byte-2.ensures in
    elim c.if-i-ne0.branch [
      | then-i-ne0+then-i-eq0 w ↦ put_as c.args.self.now (sym (marked_yes c.args.i c.args.x w.if-i-ne0.true w.if-i-eq0.true)) (put_then c.args.self.now _ _ (w.self-is ∙ w.byte.ensures) t)
      | else-i-ne0 w ↦ elim w.else-i-ne0.branch [
        | else-i-ne0-via-then-i-ne0+else-i-eq0 v ↦ put_as c.args.self.now (sym (marked_no c.args.i c.args.x v.if-i-eq0.false)) (rw w.self-is at t)
        | else-i-ne0-via-else-i-ne0 v ↦ put_as c.args.self.now (sym (marked_first c.args.i c.args.x v.if-i-ne0.false)) (rw w.self-is at t)
      ]
    ]
