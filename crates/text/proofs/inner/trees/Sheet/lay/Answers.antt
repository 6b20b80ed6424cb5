use Rattle.std.proofs.Common.{arith, ℕ, List, [], ◌++◌, take, ap, refl, ◌∙◌}
use Rattle.text.proofs.Lays.{behind, gap, lay_long, lays_past, lays_put}
use Rattle.text.specs.declared.inner.trees.Sheet.{Sheet}
use Rattle.text.proofs.inner.trees.Sheet.lay.Goals as goal
use Rattle.text.proofs.inner.trees.Sheet.lay.Goals.{then-end-self, else-end-self}

pub overflow_mul-end : goal.overflow_mul-end
overflow_mul-end c = omega (arith, c.requires, lay_long c.args.self.now.at c.args.level c.args.line.now)

pub overflow_add-end : goal.overflow_add-end
overflow_add-end c = omega (arith, c.requires, lay_long c.args.self.now.at c.args.level c.args.line.now)

pub overflow_add-end-2 : goal.overflow_add-end-2
overflow_add-end-2 c = omega (arith, c.requires, lay_long c.args.self.now.at c.args.level c.args.line.now)

pub returns : goal.returns
returns c = elim c.if-end-self.branch [
  | then-end-self w ↦ lays_put c.args.self.now _ c.args.level c.args.line.now w.indented.new.out _ refl w.if-end-self.true (gap c.args.self.now.at c.args.level _ c.args.self.now.out.now w.if-end-self.true) w.indented.ensures (ap (λ (s : Sheet). s.out.ghost_name) w.self-is)
      (ap (λ (s : Sheet). s.out.now) w.self-is ∙ ap (λ (l : List ℕ). take c.args.self.now.at c.args.self.now.out.now ++ (w.indented.new.out ++ l)) (behind c.args.self.now.at _ c.args.self.now.out.now (omega arith)))
  | else-end-self w ↦ lays_past c.args.self.now _ c.args.level c.args.line.now [] 0 refl w.if-end-self.false (ap (λ (s : Sheet). s.out) w.self-is)
]
