use Prim.Native.Nat.{ℕ, ◌+◌}
use mathlib.Core.Bool.{true≢false}
use mathlib.Core.List.{List}
use mathlib.Core.Path.{sym, ◌∙◌}
use borrow.Author.Tests.{not-false, not-true}
use Rattle.tree.proofs.Forms.{leaf_is, leaf_of, zeros_of}
use Rattle.std.proofs.Common.{ap}
use Rattle.std.proofs.Common.{not}
use Rattle.tree.proofs.inner.is_leaf.Goals as goal

pub returns-then-not-zeros : goal.returns-then-not-zeros
returns-then-not-zeros c =
    let xs : List ℕ = c.args.run.now in
    let s = zeros_of c.zeros.result (c.args.n + 1) xs c.zeros.ensures in
    record { yes = λ q. absurd (true≢false (sym q)); no = λ q w. s.no (not-true _ (ap not c.if-not-zeros.true)) (leaf_of xs c.args.n c.requires.0 c.requires.1 w).pad }

pub returns : goal.returns
returns c =
    let xs : List ℕ = c.args.run.now in
    let n : ℕ = c.args.n in
    let s = zeros_of c.zeros.result (n + 1) xs c.zeros.ensures in
    record {
      yes = λ q. leaf_is xs n c.requires.0 c.requires.1 c.requires.2 (s.yes (not-false _ (ap not c.if-not-zeros.false))) (sym c.ascend.ensures ∙ q);
      no = λ q w. true≢false (sym (leaf_of xs n c.requires.0 c.requires.1 w).rules ∙ sym c.ascend.ensures ∙ q);
    }
