-- The mux as a table of 27 trits: each entry follows the rule, and where an input becomes known, an output that was known stays.
-- Assumes nothing.
use Rattle.std.specs.Prelude.{ℕ, ◌+◌, ◌*◌, ◌<◌, T, eqb, get_or, length, Bool, true, false, ◌&&◌, ◌||◌, List, [], ◌∷◌, ◌≡◌, refl}
use Rattle.std.proofs.Common.{eqb→eq, lit<, subst, sym, arith}
use Rattle.rules.specs.Codes.{trit_code}
use Rattle.rules.specs.Trits.{is_x, mux}
use Rattle.rules.specs.declared.Trit.{Trit}
use Rattle.rules.specs.declared.Trit.TheVariants.{Zero, One, Undef}

-- a row a select, 0 then 1 then X; in it the one arm's trit counts threes, the zero arm's ones
abbrev pub table : List ℕ
table =
    0 ∷ 1 ∷ 2 ∷ 0 ∷ 1 ∷ 2 ∷ 0 ∷ 1 ∷ 2
    ∷ 0 ∷ 0 ∷ 0 ∷ 1 ∷ 1 ∷ 1 ∷ 2 ∷ 2 ∷ 2
    ∷ 0 ∷ 2 ∷ 2 ∷ 2 ∷ 1 ∷ 2 ∷ 2 ∷ 2 ∷ 2 ∷ []

abbrev pub at : Trit → Trit → Trit → ℕ
at s a b = 9 * trit_code s + 3 * trit_code a + trit_code b

abbrev pub entry : Trit → Trit → Trit → ℕ
entry s a b = get_or table (at s a b) 0

-- a test that holds at the three holds at each
abbrev all3 : (Trit → Bool) → Bool
all3 f = f Zero && (f One && f Undef)

every3 : (f : Trit → Bool) → T (all3 f) → (t : Trit) → T (f t)
every3 f h t = go (f Zero) (f One) (f Undef) h t refl refl refl
  where
    go : (x y z : Bool) → T (x && (y && z)) → (t : Trit) → f Zero ≡ x → f One ≡ y → f Undef ≡ z → T (f t)
    go true true true h Zero p q r = subst (λ (b : Bool). T b) (sym p) tt
    go true true true h One p q r = subst (λ (b : Bool). T b) (sym q) tt
    go true true true h Undef p q r = subst (λ (b : Bool). T b) (sym r) tt
    go true true false h t p q r = absurd h
    go true false z h t p q r = absurd h
    go false y z h t p q r = absurd h

-- ---- the rule, tested at all 27

abbrev right : Trit → Trit → Trit → Bool
right s a b = eqb (entry s a b) (mux (trit_code s) (trit_code a) (trit_code b))

all_right : T (all3 (λ s. all3 (λ a. all3 (λ b. right s a b))))
all_right = tt

pub mux_rule : (s a b : Trit) → entry s a b ≡ mux (trit_code s) (trit_code a) (trit_code b)
mux_rule s a b =
    eqb→eq _ _
    (every3 (λ z. right s a z)
    (every3 (λ y. all3 (λ z. right s y z)) (every3 (λ x. all3 (λ y. all3 (λ z. right x y z))) all_right s) a) b)

pub small : (t : Trit) → trit_code t < 3
small Zero = lit< tt
small One = lit< tt
small Undef = lit< tt

pub in_table : (s a b : Trit) → at s a b < length table
in_table s a b = omega (arith, small s, small a, small b)

-- ---- monotone, tested at all 729 pairs of inputs

-- x says no more than y does: it is X, or the two are equal
abbrev pub below : ℕ → ℕ → Bool
below x y = is_x x || eqb x y

abbrev pub under : Trit → Trit → Bool
under t u = below (trit_code t) (trit_code u)

abbrev implies : Bool → Bool → Bool
implies true b = b
implies false b = true

abbrev mono : Trit → Trit → Trit → Trit → Trit → Trit → Bool
mono s s' a a' b b' = implies (under s s') (implies (under a a') (implies (under b b') (below (entry s a b) (entry s' a' b'))))

all-mono : T (all3 (λ s. all3 (λ s'. all3 (λ a. all3 (λ a'. all3 (λ b. all3 (λ b'. mono s s' a a' b b')))))))
all-mono = tt

each : (s s' a a' b b' : Trit) → T (mono s s' a a' b b')
each s s' a a' b b' =
    every3 (λ y. mono s s' a a' b y)
    (every3 (λ x. all3 (λ y. mono s s' a a' x y))
    (every3 (λ w. all3 (λ x. all3 (λ y. mono s s' a w x y)))
    (every3 (λ v. all3 (λ w. all3 (λ x. all3 (λ y. mono s s' v w x y))))
    (every3 (λ u. all3 (λ v. all3 (λ w. all3 (λ x. all3 (λ y. mono s u v w x y)))))
    (every3 (λ t. all3 (λ u. all3 (λ v. all3 (λ w. all3 (λ x. all3 (λ y. mono t u v w x y)))))) all-mono s) s') a) a') b) b'

pub mux_monotone : (s s' a a' b b' : Trit) → under s s' ≡ true → under a a' ≡ true → under b b' ≡ true → below (entry s a b) (entry s' a' b') ≡ true
mux_monotone s s' a a' b b' p q r = told (under s s') (under a a') (under b b') _ (each s s' a a' b b') p q r
  where
    told : (x y z w : Bool) → T (implies x (implies y (implies z w))) → x ≡ true → y ≡ true → z ≡ true → w ≡ true
    told x y z true h p q r = refl
    told x y z false h p q r = absurd (rw (p, q, r) at h)
