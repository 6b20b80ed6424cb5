use Rattle.std.proofs.Common.{List, ℕ, ◌++◌, drop, ap}
use Rattle.text.proofs.Values.{nets-made}
use Rattle.text.proofs.inner.parse.nets.Goals as goal

pub returns : goal.returns
returns c =
    let r = c.scan-columns in
    nets-made c.args.line.now r.new.out _ r.result r.ensures.out_after r.ensures.value (ap (λ (l : List ℕ). l ++ drop r.result r.new.out) c.reverse.ensures.after)
