use Rattle.muxes.proofs.Hots.{hits_here, hits_none, twice_end, twice_more, twice_once, twice_start, twice_stop}
use Rattle.rules.specs.Nets.{cell}
use Rattle.rules.specs.Prefix.{hits}
use Rattle.rules.specs.Trits.{bit}
use Rattle.std.proofs.Common.{drop, leb, map, sym, ◌+◌, ◌≡◌, ◌∙◌}
use Rattle.muxes.proofs.inner.CrowdedLeafTest.meets.Goals.{then-names+else-seen, else-names}
use Rattle.muxes.proofs.inner.CrowdedLeafTest.meets.Goals as goal

pub loop-net-init : goal.loop-net-init
loop-net-init c = twice_start (hits c.args.self.now.nets.now (map cell c.args.rules.now))

pub returns-then-seen : goal.returns-then-seen
returns-then-seen c =
    let es = c.args.self.now.nets.now in
    let rs = map cell c.args.rules.now in
    let here = hits_here es rs c.loop-net.net-index c.loop-net-test.true in
    let v : leb 2 (1 + hits (drop c.loop-net.net-index es) rs) ≡ leb 2 (hits es rs) = rw c.if-seen.true at c.loop-net.invariant in
    sym (twice_stop _ _ _ here (sym c.names.ensures ∙ c.if-names.true)) ∙ v

pub loop-net-preserved : goal.loop-net-preserved
loop-net-preserved c =
    let es = c.args.self.now.nets.now in
    let rs = map cell c.args.rules.now in
    let here = hits_here es rs c.loop-net.net-index c.loop-net-test.true in
    elim c.if-names.branch [
      | then-names+else-seen w ↦
          let v : leb 2 (0 + hits (drop c.loop-net.net-index es) rs) ≡ leb 2 (hits es rs) = rw w.if-seen.false at c.loop-net.invariant in
          rw w.seen-is (sym (twice_once _ _ _ here (sym c.names.ensures ∙ w.if-names.true)) ∙ v)
      | else-names w ↦ rw w.seen-is (sym (twice_more _ _ _ here (bit c.loop-net.seen) (sym c.names.ensures ∙ w.if-names.false)) ∙ c.loop-net.invariant)
    ]

pub returns : goal.returns
returns c = sym (twice_end c.loop-net.seen _ (hits_none c.args.self.now.nets.now (map cell c.args.rules.now) c.loop-net.net-index c.loop-net-test.false)) ∙ c.loop-net.invariant
