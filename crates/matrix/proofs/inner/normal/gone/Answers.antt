use mathlib.Core.Path.{◌∙◌, refl}
use native.Mathlib.Omega.{arith}
use Rattle.lists.specs.Vec.{vec}
use Rattle.matrix.proofs.NormalFlags.{flags_end, flags_turn, gone_at, gone_by}
use Rattle.rows.proofs.Walked.{first_is}
use Rattle.rules.specs.Bounds.{columns_max}
use Rattle.matrix.proofs.inner.normal.gone.Goals as goal

pub loop-j-init : goal.loop-j-init
unfolding vec
loop-j-init c = refl

pub loop-j-preserved : goal.loop-j-preserved
loop-j-preserved c =
    let ns = c.args.nets.now in
    let j = c.loop-j.j in
    let f = first_is ns c.args.firsts j c.requires.narrow (omega arith) c.requires.looked_up in
    let e = c.goes.ensures ∙ gone_at ns c.args.used j _ _ c.from.ensures f.at in
    flags_turn (gone_by ns c.args.used) columns_max ns _ j _ (omega arith) c.requires.narrow c.loop-j.invariant e

pub returns : goal.returns
returns c = flags_end (gone_by c.args.nets.now c.args.used) columns_max c.args.nets.now _ c.loop-j.j (omega arith) c.loop-j.invariant
