-- Unknown trits of a slice, filled in. Assumes nothing.
use Prim.Native.Nat.{ℕ, zero, suc, ◌<◌}
use mathlib.Core.Bool.{true}
use mathlib.Core.List.{List, [], ◌∷◌}
use mathlib.Core.Path.{◌≡◌, refl}
use native.Mathlib.Omega.{arith}
use borrow.Author.Tests.{leb-true, lt-ltb}
use lib.ListN.{get_or, take}
use Rattle.lists.specs.Bools.{and_both, by_bool}
use Rattle.lists.specs.Lists.{all}
use Rattle.rules.proofs.Answers.{answers_bits}
use Rattle.rules.proofs.Muxes.{Under, bits_under}
use Rattle.rules.proofs.Tables.{Fine}
use Rattle.rules.specs.Closed.{answers}
use Rattle.rules.specs.Emit.{Gives, Mux}
use Rattle.rules.specs.Evaluate.{Filling, trits_of}
use Rattle.rules.specs.Meaning.{value_at}
use Rattle.rules.specs.Nets.{first_mux, is_cell, number}
use Rattle.rules.specs.Tree.{Tree}
use Rattle.rules.specs.Trits.{is_trit}

-- what reads as a trit at every place in use is in form
pub known_form : (n : ℕ) (us : List ℕ) → ((k : ℕ) → k < n → get_or us k 2 < 2) → all is_trit (take n us) ≡ true
known_form zero us h = refl
known_form (suc n) [] h = refl
known_form (suc n) (u ∷ us) h =
    let a : u < 2 = h 0 (omega arith) in
    and_both (is_trit u) (all is_trit (take n us)) (lt-ltb u 3 (omega arith)) (known_form n us (λ k l. h (suc k) (omega arith)))

nets-under : (ts us : List ℕ) → Filling ts us → (n : ℕ) → n < first_mux → Under (value_at (trits_of ts) n) (value_at (trits_of us) n)
nets-under ts us f n l =
    by_bool (is_cell n)
    (λ p. let c = leb-true 3 n p in rw p (f.agrees (number n) (omega arith)))
    (λ p. rw p (λ h. refl))

pub answers_filled : (ts us : List ℕ) → Filling ts us → (g : Gives) (w : ℕ) (old : List Mux) (t : Tree) → Fine g w t → (i : ℕ)
    → Under (get_or (answers (value_at (trits_of ts)) g w old [] t) i 2) (get_or (answers (value_at (trits_of us)) g w old [] t) i 2)
answers_filled ts us f g w old t h i =
    rw (answers_bits (value_at (trits_of ts)) g w old [] t h, answers_bits (value_at (trits_of us)) g w old [] t h)
    (bits_under (value_at (trits_of ts)) (value_at (trits_of us)) (nets-under ts us f) g w t h i)
