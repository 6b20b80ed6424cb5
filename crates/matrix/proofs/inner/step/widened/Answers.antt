use Rattle.matrix.proofs.StepLaws.{widened_is}
use Rattle.matrix.proofs.inner.step.widened.Goals as goal

pub returns : goal.returns
returns c = widened_is c.args.r c.requires.0 c.requires.1
