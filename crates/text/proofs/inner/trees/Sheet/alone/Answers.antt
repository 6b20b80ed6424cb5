use lib.ListN.{length-map}
use Rattle.std.proofs.Common.{ℕ, List, ◌++◌, length, length-append, map, ap, sym, ◌∙◌, arith}
use Rattle.print.proofs.Laws.{put_then}
use Rattle.rules.specs.Nets.{cell}
use Rattle.rules.specs.Print.{indent}
use Rattle.text.proofs.Lays.{end_few, first_in, indent_long, lays_as, root_line, stem}
use Rattle.text.specs.Trees.{rule_end}
use Rattle.text.proofs.inner.trees.Sheet.alone.Goals as goal

pub end-requires : goal.end-requires
end-requires c =
    let l = c.args.leaf.rules.now in
    omega (arith, ap length (first_in stem c.new-line.ensures c.bytes.ensures), end_few (map cell l) (omega (arith, c.args.leaf.few, length-map l cell)))

pub lay-requires : goal.lay-requires
lay-requires c =
    let l = c.args.leaf.rules.now in
    let t = c.as_bytes.ensures ∙ c.end.ensures in
    omega (arith, c.requires, length-append {A = ℕ}, indent_long 0, ap length t, ap length (first_in stem c.new-line.ensures c.bytes.ensures), end_few (map cell l) (omega (arith, c.args.leaf.few, length-map l cell)))

pub returns : goal.returns
returns c =
    let rs = map cell c.args.leaf.rules.now in
    let t = c.as_bytes.ensures ∙ first_in (stem ++ rule_end rs) c.new-line.ensures (put_then c.new-line.result stem (rule_end rs) c.bytes.ensures c.end.ensures) in
    lays_as (ap (λ (k : List ℕ). indent 0 ++ k) t ∙ sym (root_line rs)) c.lay.ensures
