-- The numbers that stand for trits and nets are those of the enums, both ways. Assumes nothing.
use Rattle.std.specs.Prelude.{ℕ, ◌≤◌, true, cond, ◌≡◌, refl, eqb}
use Rattle.std.proofs.Math.Option.{Option, none, some}
use Rattle.std.proofs.Common.{sym, ap, ◌∙◌, arith, eqb-true, le-leb, leb-true}
use Rattle.lists.specs.Bools.{by_bool}
use Rattle.rules.specs.Bounds.{net_max}
use Rattle.rules.specs.Nets.{cell, number, is_cell, is_net}
use Rattle.rules.specs.Refuse.{Outcome, FORM, NET, done, refused}
use Rattle.rules.specs.declared.Net.{Net}
use Rattle.rules.specs.declared.Net.TheVariants.{Const, Cell}
use Rattle.rules.specs.declared.Trit.{Trit}
use Rattle.rules.specs.declared.Trit.TheVariants.{Zero, One, Undef}

abbrev pub trit_code : Trit → ℕ
trit_code Zero = 0
trit_code One = 1
trit_code Undef = 2

abbrev pub trit_of : ℕ → Option Trit
trit_of n = cond (eqb n 0) (some Zero) (cond (eqb n 1) (some One) (cond (eqb n 2) (some Undef) none))

abbrev pub net_code : Net → ℕ
net_code (Const t) = trit_code t
net_code (Cell c) = cell c.0

abbrev pub const_of : Option Trit → Option Net
const_of none = none
const_of (some t) = some (Const t)

abbrev pub net_of : ℕ → Option Net
net_of n = cond (is_cell n) (cond (is_net n) (some (Cell (record { 0 = number n }))) none) (const_of (trit_of n))

-- ---- answers: "a number in use codes no trit or net" is 12

abbrev pub or_form : {A : Type 0} → Option A → Outcome A
or_form none = refused FORM
or_form (some a) = done a

abbrev pub trit_answer : ℕ → Outcome Trit
trit_answer n = or_form (trit_of n)

abbrev pub net_answer : ℕ → Outcome Net
net_answer n = or_form (net_of n)

-- a cell past the last mux has no code, and is over 9,999
abbrev pub code_answer : Net → Outcome ℕ
code_answer x = cond (is_net (net_code x)) (done (net_code x)) (refused NET)

-- ---- both ways

-- a net of the enum that a number codes: a cell up to the last mux
abbrev pub Coded : Net → Type 0
Coded (Const t) = Unit {0}
Coded (Cell c) = c.0 ≤ net_max

pub trit_of_code : (t : Trit) → trit_of (trit_code t) ≡ some t
trit_of_code Zero = refl
trit_of_code One = refl
trit_of_code Undef = refl

pub code_of_trit : (n : ℕ) (t : Trit) → trit_of n ≡ some t → trit_code t ≡ n
code_of_trit n t e =
    by_bool (eqb n 0)
    (λ p. let q = rw p at e in let x : t ≡ Zero = cc in ap trit_code x ∙ sym (eqb-true n 0 p))
    (λ p. by_bool (eqb n 1)
    (λ r. let q = rw (p, r) at e in let x : t ≡ One = cc in ap trit_code x ∙ sym (eqb-true n 1 r))
    (λ r. by_bool (eqb n 2)
    (λ s. let q = rw (p, r, s) at e in let x : t ≡ Undef = cc in ap trit_code x ∙ sym (eqb-true n 2 s))
    (λ s. let q = rw (p, r, s) at e in let z : ◌≡◌ {A = ℕ} 0 1 = cc in absurd (omega arith))))

pub net_of_code : (x : Net) → Coded x → net_of (net_code x) ≡ some x
net_of_code (Const Zero) h = refl
net_of_code (Const One) h = refl
net_of_code (Const Undef) h = refl
net_of_code (Cell c) h =
    let a : is_cell (cell c.0) ≡ true = le-leb 3 (cell c.0) (omega arith) in
    let b : is_net (cell c.0) ≡ true = le-leb (cell c.0) (cell net_max) (omega arith) in
    let k : number (cell c.0) ≡ c.0 = omega arith in
    rw (a, b) (λ i. some (Cell (record { 0 = k i })))

pub code_of_net : (n : ℕ) (x : Net) → net_of n ≡ some x → net_code x ≡ n
code_of_net n x e =
    by_bool (is_cell n)
    (λ p. by_bool (is_net n)
    (λ q. let r = rw (p, q) at e in
    let y : x ≡ Cell (record { 0 = number n }) = cc in
    let h = leb-true 3 n p in
    let k : cell (number n) ≡ n = omega arith in
    ap net_code y ∙ k)
    (λ q. let r = rw (p, q) at e in let z : ◌≡◌ {A = ℕ} 0 1 = cc in absurd (omega arith)))
    (λ p. const_code n x (trit_of n) refl (rw p at e))
  where
    const_code : (n : ℕ) (x : Net) (o : Option Trit) → trit_of n ≡ o → const_of o ≡ some x → net_code x ≡ n
    const_code n x none q r = let z : ◌≡◌ {A = ℕ} 0 1 = cc in absurd (omega arith)
    const_code n x (some t) q r = let y : x ≡ Const t = cc in ap net_code y ∙ code_of_trit n t q
