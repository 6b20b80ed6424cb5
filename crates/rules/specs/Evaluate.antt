-- 01, "Evaluator": a table evaluated in entry order over trits. Assumes nothing: these are definitions.
use Rattle.std.specs.Prelude.{ℕ, ◌-◌, ◌<◌, cond, List, [], ◌∷◌, ◌++◌, ◌≡◌, ltb, get_or}
use Rattle.rules.specs.Bounds.{mux_first}
use Rattle.rules.specs.Emit.{Mux}
use Rattle.rules.specs.Meaning.{Trits, value_at}
use Rattle.rules.specs.Nets.{first_mux}
use Rattle.rules.specs.Trits.{mux}

-- "trits given in a slice by cell number; a cell past its end reads X"
abbrev pub trits_of : List ℕ → Trits
trits_of ts k = get_or ts k 2

-- a net, where f says what constants and cells are and vs what the entries so far are
abbrev pub net_in : (ℕ → ℕ) → List ℕ → ℕ → ℕ
net_in f vs n = cond (ltb n first_mux) (f n) (get_or vs (n - first_mux) 2)

-- "in entry order"
unfoldable pub run : (ℕ → ℕ) → List ℕ → List Mux → List ℕ
run f vs [] = vs
run f vs (x ∷ xs) = run f (vs ++ (mux (net_in f vs x.select) (net_in f vs x.one_arm) (net_in f vs x.zero_arm) ∷ [])) xs

-- the trit of the asked net
unfoldable pub evaluated : List Mux → List ℕ → ℕ → ℕ
unfolding run
evaluated T ts asked = net_in (value_at (trits_of ts)) (run (value_at (trits_of ts)) [] T) asked

-- C3's "filling": a slice that agrees wherever the first reads 0 or 1, and reads 0 or 1 at every cell up to 9,999
pub record Filling (ts us : List ℕ) : Type 0 where
  pub agrees : (k : ℕ) → k < mux_first → (trits_of ts k ≡ 2 → ⊥) → trits_of ts k ≡ trits_of us k
  pub known : (k : ℕ) → k < mux_first → trits_of us k < 2
