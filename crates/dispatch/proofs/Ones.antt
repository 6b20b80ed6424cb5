-- What each public call of this crate promises leaves no choice. Assumes nothing.
use mathlib.Core.List.{List}
use mathlib.Core.Path.{◌≡◌, ap, refl, sym, ◌∙◌}
use Prim.Native.Nat.{ℕ}
use Rattle.dispatch.proofs.dispatch.Kinds as dispatch-kinds
use Rattle.dispatch.proofs.dispatch.Reads as dispatch-reads
use Rattle.dispatch.specs.Good.{built_read}
use Rattle.lists.specs.One.{One}
use Rattle.rules.proofs.Told.{read_one}
use Rattle.tree.specs.declared.Built.{Built}

built_one : (a b : Built) → ◌≡◌ {A = ℕ × ℕ} (a.root.0, a.size) (b.root.0, b.size) → a ≡ b
built_one a b e = ap (λ (x : ℕ × ℕ). record { root = record { 0 = x.0 }; size = x.1 }) e

pub dispatch-one : One 1 dispatch-kinds.ps dispatch-kinds.r dispatch-reads.Post
dispatch-one κs a x y ws vs e f = (read_one (λ (b : Built). (b.root.0, b.size)) built_one built_read (λ b. refl) (λ why. refl) x y (e.0 ∙ sym f.0), ap (λ (s : List ℕ). (tt, (tt, (s, tt)))) (e.1 ∙ sym f.1))
