use Rattle.std.proofs.Common.{rules, ℕ, [], ◌∷◌, length, ap, sym, ◌∙◌, arith, length-append}
use Rattle.print.proofs.Laws.{put_as, put_then}
use Rattle.print.proofs.Numbers.{net_const, net_is}
use Rattle.rules.specs.Codes.{net_code}
use Rattle.print.proofs.inner.put.Text.net.Goals as goal

pub byte-requires : goal.byte-requires
byte-requires g c = (search rules, omega (arith, length-append {A = ℕ}, ap length (net_const c.args.n c.in-Const.t (sym (ap net_code c.in-Const.is) ∙ c.from.ensures))))

pub byte-requires-in-Cell : goal.byte-requires-in-Cell
byte-requires-in-Cell g c = (search rules, omega (arith, length-append {A = ℕ}, ap length (net_is c.args.n c.in-Cell.k.0 (sym (ap net_code c.in-Cell.is) ∙ c.from.ensures))))

pub number-requires : goal.number-requires
number-requires g c =
    let e = sym (ap net_code c.in-Cell.is) ∙ c.from.ensures in
    (search rules, (omega (arith, length-append {A = ℕ}, e), omega (arith, length-append {A = ℕ}, ap length c.byte-in-Cell.ensures, ap length (net_is c.args.n c.in-Cell.k.0 e))))

pub returns-in-Const : goal.returns-in-Const
returns-in-Const g c = put_as c.args.self.now (ap (λ (x : ℕ). x ∷ []) c.trit.ensures ∙ net_const c.args.n c.in-Const.t (sym (ap net_code c.in-Const.is) ∙ c.from.ensures)) c.byte.ensures

pub returns-in-Cell : goal.returns-in-Cell
returns-in-Cell g c = put_as c.args.self.now (net_is c.args.n c.in-Cell.k.0 (sym (ap net_code c.in-Cell.is) ∙ c.from.ensures)) (put_then c.args.self.now _ _ c.byte-in-Cell.ensures c.number.ensures)
