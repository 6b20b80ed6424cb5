-- Only the tests and the leaves' nets matter. Assumes nothing.
use Prim.Native.Nat.{ℕ}
use mathlib.Core.Path.{◌≡◌, refl, ap₂}
use mathlib.Core.List.{List, [], ◌∷◌, map}
use mathlib.Core.Bool.{Bool, true, false}
use Rattle.lists.specs.Lists.{mem}
use Rattle.rules.proofs.Columns.{columns-from}
use Rattle.rules.proofs.Tested.{dispatch-tests}
use Rattle.rules.specs.Closed.{bits_of}
use Rattle.rules.specs.Dispatch.{dispatch}
use Rattle.rules.specs.Emit.{Gives, one_hot}
use Rattle.rules.specs.Matrix.{Matrix, add_enable}
use Rattle.rules.specs.Meaning.{Knows, Setting, Trits, value, value_at}
use Rattle.rules.specs.Normalize.{asked, kept, normalize}
use Rattle.rules.specs.Tree.{Tests, Tree, leaf, node}
use Rattle.rules.specs.Trits.{bit}

pub bits_agree : (f f' : ℕ → ℕ) (g : Gives) → ((rs : List ℕ) → map f (g rs) ≡ map f' (g rs)) → (t : Tree) → Tests (λ n. f n ≡ f' n) t → bits_of f g t ≡ bits_of f' g t
unfolding bits_of Tests
bits_agree f f' g h (leaf rs) c = h rs
bits_agree f f' g h (node t z o) c = rw (c.0, bits_agree f f' g h z c.1, bits_agree f f' g h o c.2)

pub hot_agree : (τ : Trits) (σ : Setting) (outs rs : List ℕ) → map (value_at τ) (one_hot outs rs) ≡ map (value σ) (one_hot outs rs)
hot_agree τ σ [] rs = refl
hot_agree τ σ (q ∷ outs) rs = ap₂ ◌∷◌ (either (mem q rs)) (hot_agree τ σ outs rs)
  where
    either : (b : Bool) → value_at τ (bit b) ≡ value σ (bit b)
    either true = refl
    either false = refl

pub tests_known : (τ : Trits) (σ : Setting) (e : ℕ) (m : Matrix) → Knows τ σ (add_enable e m) → Tests (λ n. value_at τ n ≡ value σ n) (dispatch e m)
unfolding normalize
tests_known τ σ e m h =
    let w : Matrix = add_enable e m in
    dispatch-tests (λ n. value_at τ n ≡ value σ n) e m
    (λ n i. let p = columns-from (asked w.nets (kept w)) [] w.nets n i in rw p.0 (h n p.0 p.1))
