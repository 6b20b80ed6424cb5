use Rattle.std.proofs.Common.{arith, ◌≡◌, ◌+◌, ◌-◌, ◌/◌, get_or}
use Rattle.std.proofs.lemmas.Grind.{common_steps}
use Rattle.text.proofs.RowsIn.{trit_at, trit_else}
use Rattle.text.proofs.inner.parse.Line.trit.Goals as goal

pub returns-in-Some-eq48 : goal.returns-in-Some-eq48
returns-in-Some-eq48 c =
    let j = c.args.self.columns - 1 - c.args.i in
    let e : get_or c.args.self.bytes.now (2 + j + j / 4) 0 ≡ 48 = grind (arith, common_steps) in
    trit_at c.args.self.columns c.args.self.bytes.now c.args.i 48 c.requires e

pub returns-in-Some-eq49 : goal.returns-in-Some-eq49
returns-in-Some-eq49 c =
    let j = c.args.self.columns - 1 - c.args.i in
    let e : get_or c.args.self.bytes.now (2 + j + j / 4) 0 ≡ 49 = grind (arith, common_steps) in
    trit_at c.args.self.columns c.args.self.bytes.now c.args.i 49 c.requires e

pub returns-in_default : goal.returns-in_default
returns-in_default c =
    let t = c.in_default.field-0-test in
    let m = trit_else c.args.self.columns c.args.self.bytes.now c.args.i c.requires t.0.1 t.1 in
    m (grind (arith, common_steps))

pub returns-in_default-2 : goal.returns-in_default-2
returns-in_default-2 c =
    let j = c.args.self.columns - 1 - c.args.i in
    let e : get_or c.args.self.bytes.now (2 + j + j / 4) 0 ≡ 0 = grind (arith, common_steps) in
    trit_at c.args.self.columns c.args.self.bytes.now c.args.i 0 c.requires e
