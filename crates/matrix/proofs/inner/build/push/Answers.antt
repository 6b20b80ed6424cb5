use Rattle.matrix.proofs.Calls.{push_made}
use Rattle.matrix.proofs.inner.build.push.Goals as goal

pub returns : goal.returns
returns c = push_made c.args.m c.requires.0 c.args.row _ c.requires.1 c.requires.2
