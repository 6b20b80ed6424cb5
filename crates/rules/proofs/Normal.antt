-- The normal form means the same. Assumes nothing.
use Prim.Native.Nat.{ℕ}
use mathlib.Core.Path.{◌≡◌, refl, sym, ◌∙◌}
use mathlib.Core.List.{List, [], ◌∷◌, map}
use mathlib.Core.Bool.{Bool, true, false, not, ◌&&◌, true≢false, false≢true}
use mathlib.Core.Option.{Option, none, some}
use lib.Dec.{eqb}
use borrow.Author.Tests.{eqb-true, eq-eqb}
use Rattle.lists.specs.Bools.{and_both, and_left, and_right, by_bool, contra, or_cases, or_left, or_right}
use Rattle.lists.specs.Lists.{mem, same, same_true}
use Rattle.rules.proofs.Masks.{fits_x, is_x_not, not_is_x}
use Rattle.rules.proofs.Rows.{Consts, match_sound, row_moved, wanted-mem}
use Rattle.rules.specs.Matrix.{Matrix, Row, all_x}
use Rattle.rules.specs.Meaning.{Setting, first_match, first_row, fits, matches, value}
use Rattle.rules.specs.Nets.{is_cell}
use Rattle.rules.specs.Normalize.{again, asked, columns, keep, kept, moved, normalize, sound, stay, wanted}
use Rattle.rules.specs.Trits.{is_x}

-- all X matches anything
pub all_x-matches : (f : ℕ → ℕ) (ns ms : List ℕ) → all_x ms ≡ true → matches f ns ms ≡ true
unfolding all_x matches
all_x-matches f [] ms e = refl
all_x-matches f (n ∷ ns) [] e = refl
all_x-matches f (n ∷ ns) (m ∷ ms) e =
    and_both (fits m (f n)) (matches f ns ms) (fits_x m (f n) (eqb-true m 2 (and_left (is_x m) (all_x ms) e))) (all_x-matches f ns ms (and_right (is_x m) (all_x ms) e))

-- the row that the next is held against does not match
abbrev Miss : (ℕ → ℕ) → List ℕ → Option (List ℕ) → Type 0
Miss f ns none = Unit {0}
Miss f ns (some ms) = matches f ns ms ≡ false

again-miss : (f : ℕ → ℕ) (ns : List ℕ) (last : Option (List ℕ)) (ms : List ℕ) → Miss f ns last → again last ms ≡ true → matches f ns ms ≡ false
again-miss f ns none ms h e = absurd (false≢true e)
again-miss f ns (some last) ms h e =
    or_cases (same ms last) (all_x last) e
    (λ p. rw (same_true ms last p) h)
    (λ p. absurd (true≢false (sym (all_x-matches f ns last p) ∙ h)))

-- rows that go never decide
kept-first : (f : ℕ → ℕ) → Consts f → (ns : List ℕ) (last : Option (List ℕ)) (rs : List Row) → Miss f ns last → first_row f ns (keep ns last rs) ≡ first_row f ns rs
unfolding keep first_row
kept-first f k ns last [] h = refl
kept-first f k ns last (r ∷ rs) h =
    let one = kept-first f k ns last rs h in
    let two = kept-first f k ns (some r.pattern) rs in
    by_bool (again last r.pattern)
    (λ p. rw (p, again-miss f ns last r.pattern h p) one)
    (λ p. by_bool (sound ns r.pattern)
    (λ s. by_bool (matches f ns r.pattern) (λ q. rw (p, s, q)) (λ q. rw (p, s, q) (two q)))
    (λ s.
    let q : matches f ns r.pattern ≡ false = contra (matches f ns r.pattern) (sound ns r.pattern) (match_sound f k ns r.pattern) s in
    rw (p, s, q) (two q)))

-- the rows that stay are sound
abbrev Sounds : List ℕ → List Row → Type 0
Sounds ns [] = Unit {0}
Sounds ns (r ∷ rs) = (sound ns r.pattern ≡ true) × Sounds ns rs

keep-sound : (ns : List ℕ) (last : Option (List ℕ)) (rs : List Row) → Sounds ns (keep ns last rs)
unfolding keep
keep-sound ns last [] = tt
keep-sound ns last (r ∷ rs) =
    let one = keep-sound ns last rs in
    let two = keep-sound ns (some r.pattern) rs in
    by_bool (again last r.pattern) (λ p. rw p one)
    (λ p. by_bool (sound ns r.pattern) (λ s. rw (p, s) (s, two)) (λ s. rw (p, s) two))

-- at columns that have all that is asked, the same row is first
moved-first : (f : ℕ → ℕ) → Consts f → (ns cs : List ℕ) (rs : List Row) → Sounds ns rs → ((n : ℕ) → is_cell n ≡ true → asked ns rs n ≡ true → mem n cs ≡ true)
    → first_row f cs (map (moved ns cs) rs) ≡ first_row f ns rs
unfolding first_row asked
moved-first f k ns cs [] s c = refl
moved-first f k ns cs (r ∷ rs) s c =
    let one = moved-first f k ns cs rs s.1 (λ n h a. c n h (or_right (not (is_x (wanted ns r.pattern n))) (asked ns rs n) a)) in
    let e : matches f cs (map (wanted ns r.pattern) cs) ≡ matches f ns r.pattern =
    row_moved f k ns r.pattern cs s.0 (λ n h a. c n h (or_left (not (is_x (wanted ns r.pattern n))) (asked ns rs n) (not_is_x (wanted ns r.pattern n) a))) in
    rw (e, one)

asked-mem : (ns : List ℕ) (rs : List Row) (n : ℕ) → asked ns rs n ≡ true → mem n ns ≡ true
unfolding asked
asked-mem ns [] n e = absurd (false≢true e)
asked-mem ns (r ∷ rs) n e =
    let one = asked-mem ns rs n in
    or_cases (not (is_x (wanted ns r.pattern n))) (asked ns rs n) e (λ p. wanted-mem ns r.pattern n (is_x_not (wanted ns r.pattern n) p)) one

-- a cell that is asked for stays
columns_in : (ask : ℕ → Bool) (before ns : List ℕ) (n : ℕ) → is_cell n ≡ true → ask n ≡ true → mem n before ≡ false → mem n ns ≡ true
    → mem n (columns ask before ns) ≡ true
unfolding columns mem
columns_in ask before [] n c a b i = absurd (false≢true i)
columns_in ask before (x ∷ ns) n c a b i =
    let one = columns_in ask (x ∷ before) ns n c a in
    by_bool (eqb x n)
    (λ p.
    let q : x ≡ n = eqb-true x n p in
    rw (q, c, b, a) (or_left (eqb n n) (mem n (columns ask (n ∷ before) ns)) (eq-eqb n n refl)))
    (λ p.
    let r : mem n (columns ask (x ∷ before) ns) ≡ true = one (rw p b) (rw p at i) in
    by_bool (is_cell x && (not (mem x before) && ask x)) (λ g. rw (g, p) r) (λ g. rw g r))

pub normal_first : (f : ℕ → ℕ) → Consts f → (m : Matrix) → first_row f (normalize m).nets (normalize m).rows ≡ first_row f m.nets m.rows
unfolding normalize mem
normal_first f k m =
    moved-first f k m.nets (stay m) (kept m) (keep-sound m.nets none m.rows)
    (λ n c a. columns_in (asked m.nets (kept m)) [] m.nets n c a refl (asked-mem m.nets (kept m) n a))
    ∙ kept-first f k m.nets none m.rows tt

pub value-consts : (σ : Setting) → Consts (value σ)
value-consts σ n e = rw e

pub normalize-first : (σ : Setting) (m : Matrix) → first_match σ (normalize m) ≡ first_match σ m
normalize-first σ m = normal_first (value σ) (value-consts σ) m
