use Rattle.std.proofs.Common.{rules, arith, ℕ, length, length-append, ap}
use Rattle.print.proofs.Laws.{put_then}
use Rattle.print.specs.Texts.{spaced}
use Rattle.print.proofs.inner.put.Text.spaced.Goals as goal

pub byte-requires : goal.byte-requires
unfolding spaced
byte-requires g c = (search rules, omega arith)

pub net-requires : goal.net-requires
unfolding spaced
net-requires g c = (search rules, (c.requires.n_lt_first_mux, omega (arith, length-append {A = ℕ}, ap length c.byte.ensures)))

pub returns : goal.returns
unfolding spaced
returns g c = put_then c.args.self.now _ _ c.byte.ensures c.net.ensures
