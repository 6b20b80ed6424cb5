-- The tree means what the matrix means. Assumes nothing.
use Prim.Native.Nat.{ℕ, zero, suc, ◌≤◌}
use mathlib.Core.Path.{◌≡◌, refl, sym, ap, ◌∙◌, subst}
use mathlib.Core.List.{List, [], ◌∷◌}
use mathlib.Core.Bool.{Bool, true, false, ◌||◌, cond}
use mathlib.Core.Option.{none}
use native.Mathlib.Omega.{arith}
use native.Mathlib.Nat.{le_refl}
use lib.Dec.{eqb}
use lib.ListN.{length}
use borrow.Author.Tests.{eqb-true, eqb-false, eq-eqb}
use Rattle.rules.proofs.Fuels as fuels
use Rattle.lists.specs.Bools.{by_bool, or_cases}
use Rattle.lists.specs.Lists.{mem}
use Rattle.rules.proofs.Assumes.{covered-assume, covered-normalize, taken_first}
use Rattle.rules.proofs.Columns.{falls, normal_cells, sub-from, test-mem}
use Rattle.rules.proofs.Enables.{covered_enable, enable_x}
use Rattle.rules.proofs.Normal.{normalize-first}
use Rattle.rules.proofs.Trees.{reduce-eval, reduce-once}
use Rattle.rules.specs.Dispatch.{catch_all, dispatch, done, head_rules, raw_of, rules, sub, test}
use Rattle.rules.specs.Fuel.{raw}
use Rattle.rules.specs.Matrix.{Matrix, Row, add_enable, assume}
use Rattle.rules.specs.Meaning.{Covered, Setting, Shaped, bit_at, first_match, first_row, matches, named, value}
use Rattle.rules.specs.Nets.{is_cell}
use Rattle.rules.specs.Normalize.{normalize}
use Rattle.rules.specs.Tree.{Once, Tree, eval, leaf, node}
use Rattle.rules.specs.Trits.{bit}

abbrev tree : ℕ → Matrix → Tree
tree f m = raw Matrix done rules test sub f m

-- no columns, or one row that always matches: the first row
leaf_first : (f : ℕ → ℕ) (ns : List ℕ) (rs : List Row) → (eqb (length ns) 0 || eqb (length rs) 1) ≡ true → (first_row f ns rs ≡ none → ⊥) → named (first_row f ns rs) ≡ head_rules rs
unfolding first_row matches
leaf_first f ns [] d h = refl
leaf_first f [] (r ∷ rs) d h = refl
leaf_first f (n ∷ ns) (r ∷ []) d h = by_bool (matches f (n ∷ ns) r.pattern) (λ p. rw (p, first_row)) (λ p. absurd (h (rw (p, first_row))))
leaf_first f (n ∷ ns) (r ∷ s ∷ rs) d h =
    or_cases (eqb (length (n ∷ ns)) 0) (eqb (length (r ∷ s ∷ rs)) 1) d
    (λ p. let q = eqb-true (length (n ∷ ns)) 0 p in absurd (omega arith))
    (λ p. let q = eqb-true (length (r ∷ s ∷ rs)) 1 p in absurd (omega arith))

abbrev pub Cells : Matrix → Type 0
Cells m = (n : ℕ) → mem n m.nets ≡ true → is_cell n ≡ true

sub_cells : (m : Matrix) (b : Bool) → Cells (sub b m)
unfolding sub
sub_cells m b = normal_cells (assume (test m) (bit b) m)

sub_covers : (m : Matrix) (b : Bool) → is_cell (test m) ≡ true → Covered m → Covered (sub b m)
unfolding sub
sub_covers m b t h = covered-normalize (assume (test m) (bit b) m) (covered-assume (test m) b m t h)

sub-first : (σ : Setting) (m : Matrix) (b : Bool) → is_cell (test m) ≡ true → bit_at σ (test m) ≡ b → first_match σ (sub b m) ≡ first_match σ m
unfolding sub
sub-first σ m b t e = taken_first σ (test m) b m t e

-- by the fuel
raw-eval : (σ : Setting) (f : ℕ) (m : Matrix) → length m.nets ≤ f → Cells m → Covered m → eval (bit_at σ) (tree f m) ≡ named (first_match σ m)
unfolding raw eval
raw-eval σ zero m l c h = sym (leaf_first (value σ) m.nets m.rows (rw (eq-eqb (length m.nets) 0 (omega arith))) (h σ))
raw-eval σ (suc f) m l c h =
    let z = raw-eval σ f (sub false m) in
    let o = raw-eval σ f (sub true m) in
    by_bool (done m)
    (λ d. rw (d, raw) (sym (leaf_first (value σ) m.nets m.rows d (h σ))))
    (λ d. rw (d, raw) (arms d z o))
  where
    arms : done m ≡ false
        → (length (sub false m).nets ≤ f → Cells (sub false m) → Covered (sub false m) → eval (bit_at σ) (tree f (sub false m)) ≡ named (first_match σ (sub false m)))
        → (length (sub true m).nets ≤ f → Cells (sub true m) → Covered (sub true m) → eval (bit_at σ) (tree f (sub true m)) ≡ named (first_match σ (sub true m)))
        → cond (bit_at σ (test m)) (eval (bit_at σ) (tree f (sub true m))) (eval (bit_at σ) (tree f (sub false m))) ≡ named (first_match σ m)
    arms d z o =
        let t : is_cell (test m) ≡ true = c (test m) (test-mem m d) in
        let less : (b : Bool) → length (sub b m).nets ≤ f = λ b. omega (arith, falls m b d) in
        by_bool (bit_at σ (test m))
        (λ e. rw e (o (less true) (sub_cells m true) (sub_covers m true t h) ∙ ap named (sub-first σ m true t e)))
        (λ e. rw e (z (less false) (sub_cells m false) (sub_covers m false t h) ∙ ap named (sub-first σ m false t e)))

-- a matrix where some row always matches
pub raw_of-eval : (σ : Setting) (m : Matrix) → Covered m → eval (bit_at σ) (raw_of m) ≡ named (first_match σ m)
unfolding raw_of
raw_of-eval σ m h = raw-eval σ (length (normalize m).nets) (normalize m) (le_refl _) (normal_cells m) (covered-normalize m h) ∙ ap named (normalize-first σ m)

-- a matrix of which no row is left
pub raw_of_none : (σ : Setting) (m : Matrix) → normalize m ≡ record { nets = []; rows = [] } → eval (bit_at σ) (raw_of m) ≡ named (first_match σ m)
unfolding raw_of raw eval first_row
raw_of_none σ m e =
    ap (λ (x : Matrix). eval (bit_at σ) (tree (length x.nets) x)) e
    ∙ sym (ap named (sym (normalize-first σ m) ∙ ap (first_match σ) e))

pub dispatch-eval : (σ : Setting) (e : ℕ) (m : Matrix) → Shaped (length m.nets) m.rows → catch_all m.rows ≡ true
    → eval (bit_at σ) (dispatch e m) ≡ named (first_match σ (add_enable e m))
unfolding dispatch
dispatch-eval σ e m s c =
    reduce-eval (bit_at σ) (raw_of (add_enable e m))
    ∙ by_bool (eqb e 2)
    (λ p.
    let q : e ≡ 2 = eqb-true e 2 p in
    subst (λ (x : ℕ). eval (bit_at σ) (raw_of (add_enable x m)) ≡ named (first_match σ (add_enable x m))) (sym q) (raw_of_none σ (add_enable 2 m) (enable_x m s)))
    (λ p. raw_of-eval σ (add_enable e m) (covered_enable e m s c (eqb-false e 2 p)))

-- no path tests a net twice
pub dispatch-once : (e : ℕ) (m : Matrix) → Once (dispatch e m)
unfolding dispatch raw_of
dispatch-once e m =
    reduce-once (raw_of (add_enable e m))
    (fuels.raw-once Matrix done rules test sub (λ n x. mem n x.nets ≡ true) (λ n x b i. (sub-from x b n i).0) (λ x b i. (sub-from x b (test x) i).1 refl) test-mem
    (length (normalize (add_enable e m)).nets) (normalize (add_enable e m)))

-- the tree before same arms are one, by 01's recursion
pub raw_of_leaf : (m : Matrix) → done (normalize m) ≡ true → raw_of m ≡ leaf (rules (normalize m))
unfolding raw_of
raw_of_leaf m e = fuels.raw-done Matrix done rules test sub (λ x. length x.nets) falls (length (normalize m).nets) (normalize m) e

pub raw_of-branch : (m : Matrix) → done (normalize m) ≡ false
    → raw_of m ≡ node (test (normalize m)) (raw_of (assume (test (normalize m)) 0 (normalize m))) (raw_of (assume (test (normalize m)) 1 (normalize m)))
unfolding raw_of sub
raw_of-branch m e = fuels.raw_split Matrix done rules test sub (λ x. length x.nets) falls (length (normalize m).nets) (normalize m) e (le_refl _)
