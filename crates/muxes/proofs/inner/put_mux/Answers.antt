use Rattle.muxes.proofs.Puts.{entry-put}
use Rattle.std.proofs.Common.{refl}
use Rattle.muxes.proofs.inner.put_mux.Goals as goal

pub returns : goal.returns
returns c = (refl, entry-put c.args.k c.args.select c.args.one c.args.zero c.args.table.now c.requires.0)
