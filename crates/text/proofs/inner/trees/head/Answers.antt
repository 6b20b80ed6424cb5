use Rattle.std.proofs.Common.{ℕ, [], ◌∷◌, ◌+◌, length, length-append, ap, sym, ◌∙◌, arith}
use Rattle.print.proofs.Laws.{put_as, put_then}
use Rattle.rules.specs.Trits.{bit}
use Rattle.text.proofs.Lays.{head_is, head_long, sign}
use Rattle.text.proofs.inner.trees.head.Goals as goal

pub net-requires : goal.net-requires
net-requires c = (omega arith, (c.args.arm.low, omega (arith, c.requires, head_long (3 + c.args.arm.test.0) (bit c.args.arm.one))))

pub bytes-requires : goal.bytes-requires
bytes-requires c = (omega arith, omega (arith, c.requires, head_long (3 + c.args.arm.test.0) (bit c.args.arm.one), length-append {A = ℕ}, ap length c.net.ensures))

pub byte-requires : goal.byte-requires
byte-requires c = (omega arith, omega (arith, c.requires, head_long (3 + c.args.arm.test.0) (bit c.args.arm.one), length-append {A = ℕ}, ap length c.net.ensures, ap length c.bytes.ensures))

pub bytes-requires-2 : goal.bytes-requires-2
bytes-requires-2 c = (omega arith, omega (arith, c.requires, head_long (3 + c.args.arm.test.0) (bit c.args.arm.one), length-append {A = ℕ}, ap length c.net.ensures, ap length c.bytes.ensures, ap length c.byte.ensures))

pub returns : goal.returns
returns c =
    let o = c.args.text.now in
    let b = put_as c.bytes.new.self (ap (λ (x : ℕ). x ∷ []) (ap (λ (n : ℕ). 48 + n) c.from.ensures ∙ sign c.args.arm.one)) c.byte.ensures in
    put_as o (sym (head_is (3 + c.args.arm.test.0) (bit c.args.arm.one))) (put_then o _ _ c.net.ensures (put_then c.net.new.self _ _ c.bytes.ensures (put_then c.bytes.new.self _ _ b c.bytes-2.ensures)))
