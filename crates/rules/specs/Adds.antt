-- What emission asks of a function that adds one mux, so that the function may change. Assumes nothing: these are definitions.
use Rattle.std.specs.Prelude.{ℕ, ◌+◌, ◌≤◌, ◌<◌, List, [], ◌++◌, ◌≡◌, length}
use Rattle.rules.specs.Emit.{Adder, Mux}
use Rattle.rules.specs.Evaluate.{net_in, run}
use Rattle.rules.specs.Nets.{first_mux}
use Rattle.rules.specs.Trits.{mux}

-- constants are what they are, and every net is a trit
pub record Reads (f : ℕ → ℕ) : Type 0 where
  pub one_is : f 1 ≡ 1
  pub zero_is : f 0 ≡ 0
  pub small : (n : ℕ) → f n ≤ 2

-- it only appends, its net is driven by then, and reads as the mux of the three
pub record Adds (add : Adder) : Type 0 where
  pub more : List Mux → ℕ → ℕ → ℕ → List Mux
  pub grows : (T : List Mux) (t x y : ℕ) → (add T t x y).0 ≡ T ++ more T t x y
  pub low : (T : List Mux) (t x y : ℕ) → t < first_mux → x < first_mux + length T → y < first_mux + length T → (add T t x y).1 < first_mux + length (add T t x y).0
  pub reads : (f : ℕ → ℕ) → Reads f → (T : List Mux) (t x y : ℕ) → t < first_mux → x < first_mux + length T → y < first_mux + length T
      → net_in f (run f [] (add T t x y).0) (add T t x y).1 ≡ mux (f t) (net_in f (run f [] T) x) (net_in f (run f [] T) y)
