use Rattle.std.proofs.Common.{rules, ℕ, length, length-append, take, ap, sym, ◌∙◌, arith}
use Rattle.print.proofs.Laws.{put_as, put_then}
use Rattle.print.proofs.Rows.{row_is, row_long}
use Rattle.print.specs.Texts.{trits}
use Rattle.rules.specs.Print.{rule_text}
use Rattle.rules.specs.Refusals.{all_low}
use Rattle.print.proofs.inner.put.Text.row.Goals as goal

pub bytes-requires : goal.bytes-requires
bytes-requires g c =
    let r = c.args.r.now in
    (search rules, omega (arith, row_long (take r.len r.pattern) (take r.rules.count r.rules.items)))

pub pattern-requires : goal.pattern-requires
pattern-requires g c =
    let r = c.args.r.now in
    (search rules, omega (arith, row_long (take r.len r.pattern) (take r.rules.count r.rules.items), length-append {A = ℕ}, ap length c.bytes.ensures, ap length (ap trits c.masks_in_use.ensures)))

pub bytes-requires-2 : goal.bytes-requires-2
bytes-requires-2 g c =
    let r = c.args.r.now in
    (search rules, omega (arith, row_long (take r.len r.pattern) (take r.rules.count r.rules.items), length-append {A = ℕ}, ap length c.bytes.ensures, ap length (ap trits c.masks_in_use.ensures), ap length c.pattern.ensures))

pub names-requires : goal.names-requires
names-requires g c =
    let r = c.args.r.now in
    let e = c.slice.ensures.items in
    (search rules, (ap all_low e ∙ c.requires.row_fits.low, omega (arith, row_long (take r.len r.pattern) (take r.rules.count r.rules.items), length-append {A = ℕ}, ap length c.bytes.ensures, ap length (ap trits c.masks_in_use.ensures), ap length c.pattern.ensures, ap length c.bytes-2.ensures, ap length (ap rule_text e))))

pub byte-requires : goal.byte-requires
byte-requires g c =
    let r = c.args.r.now in
    (search rules, omega (arith, row_long (take r.len r.pattern) (take r.rules.count r.rules.items), length-append {A = ℕ}, ap length c.bytes.ensures, ap length (ap trits c.masks_in_use.ensures), ap length c.pattern.ensures, ap length c.bytes-2.ensures, ap length (ap rule_text c.slice.ensures.items), ap length c.names.ensures))

pub returns : goal.returns
returns g c =
    let r = c.args.r.now in
    let o = c.args.self.now in
    let p = put_as c.bytes.new.self (ap trits c.masks_in_use.ensures) c.pattern.ensures in
    let n = put_as c.bytes-2.new.self (ap rule_text c.slice.ensures.items) c.names.ensures in
    put_as o (sym (row_is (take r.len r.pattern) (take r.rules.count r.rules.items)))
    (put_then o _ _ c.bytes.ensures
    (put_then c.bytes.new.self _ _ p
    (put_then c.pattern.new.self _ _ c.bytes-2.ensures
    (put_then c.bytes-2.new.self _ _ n c.byte.ensures))))
