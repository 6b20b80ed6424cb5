-- What each public call of this crate promises leaves no choice. Assumes nothing.
use Prim.Native.Nat.{ℕ}
use mathlib.Core.List.{List}
use mathlib.Core.Path.{ap, refl, sym, ◌∙◌}
use Rattle.emit.proofs.one_hot.Kinds as one-hot-kinds
use Rattle.emit.proofs.one_hot.Reads as one-hot-reads
use Rattle.emit.proofs.disjoint.Kinds as disjoint-kinds
use Rattle.emit.proofs.disjoint.Reads as disjoint-reads
use Rattle.emit.proofs.prefix.Kinds as prefix-kinds
use Rattle.emit.proofs.prefix.Reads as prefix-reads
use Rattle.emit.specs.Calls.{prefix_read}
use Rattle.lists.specs.One.{One}
use Rattle.rules.proofs.Told.{read_one}

pub one_hot-one : One 3 one-hot-kinds.ps one-hot-kinds.r one-hot-reads.Post
one_hot-one κs a x y ws vs e f = (e.0 ∙ sym f.0, ap (λ (s : List ℕ). (tt, (tt, (tt, (tt, (s, tt)))))) (e.1 ∙ sym f.1))

pub disjoint-one : One 6 disjoint-kinds.ps disjoint-kinds.r disjoint-reads.Post
disjoint-one κs a x y ws vs e f = (e.0 ∙ sym f.0, ap (λ (s : List ℕ). (tt, (tt, (tt, (tt, (tt, (tt, (tt, (s, tt))))))))) (e.1 ∙ sym f.1))

pub prefix-one : One 3 prefix-kinds.ps prefix-kinds.r prefix-reads.Post
prefix-one κs a x y ws vs e f = (read_one (λ n. n) (λ m n h. h) prefix_read (λ n. refl) (λ why. refl) x y (e ∙ sym f), refl)
