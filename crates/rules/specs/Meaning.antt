-- Demand 3: what a matrix means at a setting of its cells, the rules of the first row that matches. Assumes nothing: these are definitions.
use Rattle.std.specs.Prelude.{ℕ, Bool, true, cond, ◌&&◌, ◌||◌, List, [], ◌∷◌, ◌≡◌, eqb, length}
use Rattle.std.proofs.Math.Option.{Option, none, some}
use Rattle.lists.specs.Lists.{mem}
use Rattle.rules.specs.Matrix.{Row, Matrix, union, add_enable}
use Rattle.rules.specs.Nets.{number, is_cell}
use Rattle.rules.specs.Trits.{is_x, bit}

-- "every net 0 or 1": a bit for each cell's number
abbrev pub Setting : Type 0
Setting = ℕ → Bool

-- the bit of the cell that is coded n
abbrev pub bit_at : Setting → ℕ → Bool
bit_at σ n = σ (number n)

-- a constant is what it is
abbrev pub value : Setting → ℕ → ℕ
value σ n = cond (is_cell n) (bit (bit_at σ n)) n

-- an X in a pattern fits anything, and "a constant X matches only don't-cares"
abbrev pub fits : ℕ → ℕ → Bool
fits mask v = is_x mask || eqb mask v

-- each mask fits the value of its column's net
unfoldable pub matches : (ℕ → ℕ) → List ℕ → List ℕ → Bool
matches f [] ms = true
matches f (n ∷ ns) [] = true
matches f (n ∷ ns) (m ∷ ms) = fits m (f n) && matches f ns ms

unfoldable pub first_row : (ℕ → ℕ) → List ℕ → List Row → Option (List ℕ)
first_row f ns [] = none
first_row f ns (r ∷ rs) = cond (matches f ns r.pattern) (some r.rules) (first_row f ns rs)

-- "the first matching row": its rules
abbrev pub first_match : Setting → Matrix → Option (List ℕ)
first_match σ m = first_row (value σ) m.nets m.rows

-- the rules that it names, "so too if no row matches"
abbrev pub named : Option (List ℕ) → List ℕ
named none = []
named (some rs) = rs

-- the same of a matrix with its enable
abbrev pub wins : Setting → ℕ → Matrix → List ℕ
wins σ e m = named (first_match σ (add_enable e m))

-- what an output owes: "1 exactly when the first matching row names it, and 0 otherwise"
abbrev pub owes : Setting → ℕ → Matrix → ℕ → ℕ
owes σ e m q = bit (mem q (wins σ e m))

-- "With some nets unknown": a trit for each cell's number
abbrev pub Trits : Type 0
Trits = ℕ → ℕ

abbrev pub value_at : Trits → ℕ → ℕ
value_at τ n = cond (is_cell n) (τ (number n)) n

-- "however the unknowns are later filled with 0 and 1"
abbrev pub Fills : Trits → Setting → Type 0
Fills τ σ = (k : ℕ) → (τ k ≡ 2 → ⊥) → τ k ≡ bit (σ k)

-- the trits are the setting's bits at the matrix's cells
abbrev pub Knows : Trits → Setting → Matrix → Type 0
Knows τ σ m = (n : ℕ) → is_cell n ≡ true → mem n m.nets ≡ true → τ (number n) ≡ bit (σ (number n))

-- the setting with the cell k set to b
abbrev pub update : Setting → ℕ → Bool → Setting
update σ k b j = cond (eqb j k) b (σ j)

-- at every setting some row matches
abbrev pub Covered : Matrix → Type 0
Covered m = (σ : Setting) → first_match σ m ≡ none → ⊥

-- every pattern has n masks
unfoldable pub Shaped : ℕ → List Row → Type 0
Shaped n [] = Unit {0}
Shaped n (r ∷ rs) = (length r.pattern ≡ n) × Shaped n rs

-- what an enable of value v makes of an answer: at 1 that answer, at 0 a row without rules, at X no row
abbrev pub gated : ℕ → Option (List ℕ) → Option (List ℕ)
gated v a = cond (eqb v 1) a (cond (eqb v 0) (some []) none)

-- a parent's answer with the child's rules c, where it names the merge point
abbrev pub with_child : ℕ → Option (List ℕ) → List ℕ → Option (List ℕ)
with_child t none c = none
with_child t (some rs) c = some (cond (mem t rs) (union rs c) rs)
