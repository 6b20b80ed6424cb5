use Rattle.std.proofs.Common.{rules, ℕ, [], ◌∷◌, ap, arith, length, length-append}
use Rattle.print.proofs.Laws.{put_as, put_then}
use Rattle.print.proofs.Numbers.{digits_are, digits_long}
use Rattle.print.proofs.inner.put.Text.number.Goals as goal

pub lead-requires : goal.lead-requires
lead-requires g c = (search rules, (omega arith, omega (arith, length-append {A = ℕ}, digits_long c.args.n)))

pub lead-requires-2 : goal.lead-requires-2
lead-requires-2 g c = (search rules, (omega arith, omega (arith, length-append {A = ℕ}, digits_long c.args.n, ap length c.lead.ensures)))

pub lead-requires-3 : goal.lead-requires-3
lead-requires-3 g c = (search rules, (omega arith, omega (arith, length-append {A = ℕ}, digits_long c.args.n, ap length c.lead.ensures, ap length c.lead-2.ensures)))

pub byte-requires : goal.byte-requires
byte-requires g c = (search rules, omega (arith, length-append {A = ℕ}, digits_long c.args.n, ap length c.lead.ensures, ap length c.lead-2.ensures, ap length c.lead-3.ensures))

pub returns : goal.returns
returns g c =
    let o = c.args.self.now in
    let last = put_as c.lead-3.new.self (ap (λ (x : ℕ). x ∷ []) c.figure.ensures) c.byte.ensures in
    put_as o (digits_are c.args.n) (put_then o _ _ c.lead.ensures (put_then c.lead.new.self _ _ c.lead-2.ensures (put_then c.lead-2.new.self _ _ c.lead-3.ensures last)))
