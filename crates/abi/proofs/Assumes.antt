-- What the answer for a number that may code a trit says. Assumes nothing.
use Rattle.std.proofs.Common.{ℕ, ◌≡◌, ◌∙◌, ◌<◌, true, false, refl, sym, ap, arith, eqb, le-ltb, lt-ltb}
use Rattle.std.proofs.lemmas.Bool.{eqb-false}
use Rattle.std.proofs.Math.Option.{Option, none, some}
use Rattle.lists.specs.Bools.{by_bool}
use Rattle.rules.specs.Codes.{code_of_trit, or_form, trit_answer, trit_code, trit_of}
use Rattle.rules.specs.Refuse.{FORM, done, refused}
use Rattle.rules.specs.Trits.{is_trit}
use Rattle.rules.specs.declared.Trit.{Trit}
use Rattle.trits.specs.Mux.{small}

pub trit_done : (n : ℕ) (t : Trit) → done t ≡ trit_answer n → (trit_code t ≡ n) × (is_trit n ≡ true)
trit_done n t e = go (trit_of n) refl e
  where
    go : (o : Option Trit) → trit_of n ≡ o → done t ≡ or_form o → (trit_code t ≡ n) × (is_trit n ≡ true)
    go none q e = let z : ◌≡◌ {A = ℕ} 0 1 = cc in absurd (omega arith)
    go (some s) q e =
        let i : t ≡ s = cc in
        let c : trit_code t ≡ n = ap trit_code i ∙ code_of_trit n s q in
        (c, lt-ltb n 3 (omega (arith, c, small t)))

pub trit_refused : (n k : ℕ) → refused k ≡ trit_answer n → (k ≡ FORM) × (is_trit n ≡ false)
trit_refused n k e =
    by_bool (eqb n 0)
    (λ p. let w = rw p at e in let z : ◌≡◌ {A = ℕ} 0 1 = cc in absurd (omega arith))
    (λ p. by_bool (eqb n 1)
    (λ q. let w = rw (p, q) at e in let z : ◌≡◌ {A = ℕ} 0 1 = cc in absurd (omega arith))
    (λ q. by_bool (eqb n 2)
    (λ r. let w = rw (p, q, r) at e in let z : ◌≡◌ {A = ℕ} 0 1 = cc in absurd (omega arith))
    (λ r.
    let w = rw (p, q, r) at e in
    let i : k ≡ FORM = cc in
    let a = eqb-false n 0 p in
    let b = eqb-false n 1 q in
    let c = eqb-false n 2 r in
    (i, le-ltb n 3 (omega (arith, a, b, c))))))
