use lib.ListN.{length-map}
use Rattle.lists.specs.Vec.{vec, vec_none}
use Rattle.print.proofs.Laws.{put_as, put_then}
use Rattle.rules.specs.Bounds.{rules_max}
use Rattle.rules.specs.Nets.{cell}
use Rattle.rules.specs.Print.{rule_text}
use Rattle.rules.specs.Refusals.{all_low}
use Rattle.std.proofs.Common.{◌≡◌, ◌≤◌, ℕ, List, length, length-append, map, take, ap, ◌∙◌, arith}
use Rattle.text.proofs.inner.trees.Leaf.end.Goals as goal
use Rattle.text.proofs.Lays.{cell_at_lem, end_long, nets_taken}
use Rattle.text.proofs.Values.{fill_end, fill_turn}

pub loop-i-init : goal.loop-i-init
loop-i-init c = vec_none rules_max 0

pub loop-i-preserved : goal.loop-i-preserved
loop-i-preserved c =
    let xs = c.args.self.rules.now in
    let l = length-map xs cell in
    fill_turn rules_max (map cell xs) c.loop-i.nets c.loop-i.i _ c.loop-i.invariant (cell_at_lem xs c.loop-i.i c.loop-i-test.true) (omega (arith, l)) (omega (arith, l, c.args.self.few))

-- what the loop wrote is the leaf's nets
filled : (xs v : List ℕ) (i : ℕ) → length xs ≤ rules_max → v ≡ vec rules_max 0 (take i (map cell xs)) → length xs ≤ i → take (length xs) v ≡ map cell xs
filled xs v i few e h = nets_taken xs v few (fill_end rules_max (map cell xs) v i e (omega (arith, length-map xs cell)))

pub names-requires : goal.names-requires
names-requires c =
    let e = filled c.args.self.rules.now c.loop-i.nets c.loop-i.i c.args.self.few c.loop-i.invariant (omega arith) in
    (omega arith, (ap all_low e ∙ c.args.self.low, omega (arith, ap (λ (l : List ℕ). length (rule_text l)) e, end_long (map cell c.args.self.rules.now), c.requires)))

pub byte-requires : goal.byte-requires
byte-requires c =
    let e = filled c.args.self.rules.now c.loop-i.nets c.loop-i.i c.args.self.few c.loop-i.invariant (omega arith) in
    (omega arith, omega (arith, ap (λ (l : List ℕ). length (rule_text l)) e, end_long (map cell c.args.self.rules.now), c.requires, ap length c.names.ensures, length-append {A = ℕ}))

pub returns : goal.returns
returns c =
    let e = filled c.args.self.rules.now c.loop-i.nets c.loop-i.i c.args.self.few c.loop-i.invariant (omega arith) in
    put_then c.args.text.now _ _ (put_as c.args.text.now (ap rule_text e) c.names.ensures) c.byte.ensures
