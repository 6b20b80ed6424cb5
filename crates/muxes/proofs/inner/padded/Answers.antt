use Rattle.muxes.proofs.Hots.{pads}
use Rattle.rules.specs.Bounds.{width_max}
use Rattle.muxes.proofs.inner.padded.Goals as goal

pub returns : goal.returns
returns c = rw c.copy_from_slice.ensures.after (pads width_max c.args.bits.now c.requires)
