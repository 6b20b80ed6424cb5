-- Lines in words: a printed line is its words with a space before each but the first, and is read back loosely as what was printed. Assumes nothing.
use Prim.Native.Nat.{ℕ, ◌-◌, ◌<◌}
use mathlib.Core.Bool.{Bool, true, false, not, cond}
use mathlib.Core.List.{List, [], ◌∷◌, ◌++◌, append_assoc, append-nil, map, reverse, reverse-cons, reverse-reverse}
use mathlib.Core.Path.{◌≡◌, refl, ap, ◌∙◌, subst}
use native.Mathlib.Omega.{arith}
use borrow.Author.Tests.{ne_eqb}
use lib.ListN.{drop, get_or, length, length-append, take}
use lib.Seq.{take_at}
use Rattle.lists.specs.Bools.{and_both, and_left, and_right}
use Rattle.lists.specs.Lists.{all, same}
use Rattle.rules.proofs.Digits.{grouped_back, grouped-solid, net-cell, net-solid, nets_back}
use Rattle.rules.proofs.Lines.{Line, line_end, line-front}
use Rattle.rules.specs.Bytes.{LF, byte, bytes}
use Rattle.rules.specs.Matrix.{Above, Row}
use Rattle.rules.specs.Nets.{is_cell, is_name, over}
use Rattle.rules.specs.Print.{grouped, net, nets, row_line, rule_text, value_line}
use Rattle.rules.specs.Read.{net_of_word, nets_in, row_in, trits_in, words}
use Rattle.rules.specs.Trits.{is_trit}

-- a space and a word, each, and LF
unfoldable spaced : List (List ℕ) → List ℕ
spaced [] = LF ∷ []
spaced (w ∷ ws) = (byte " " ∷ w) ++ spaced ws

-- words without a space or anything below it
unfoldable Solid : List (List ℕ) → Type 0
Solid [] = Unit {0}
Solid (w ∷ ws) = Above (byte " ") w × Solid ws

-- ---- the words of such a line

spaced_some : (ws : List (List ℕ)) → 0 < length (spaced ws)
unfolding spaced
spaced_some [] = omega arith
spaced_some (w ∷ ws) = omega arith

words-front : (x : ℕ) (t w : List ℕ) (ws : List (List ℕ)) → 0 < length t → byte " " < x → words t ≡ w ∷ ws → words (x ∷ t) ≡ (x ∷ w) ∷ ws
unfolding words
words-front x [] w ws h k e = absurd (omega arith)
words-front x (y ∷ t) w ws h k e = rw (ne_eqb x (byte " ") (λ p. omega arith), e)

words_space : (t : List ℕ) → 0 < length t → words (byte " " ∷ t) ≡ [] ∷ words t
unfolding words
words_space [] h = absurd (omega arith)
words_space (y ∷ t) h = refl

words_word : (w q : List ℕ) (ws : List (List ℕ)) → Above (byte " ") w → 0 < length q → words q ≡ [] ∷ ws → words (w ++ q) ≡ w ∷ ws
unfolding Above
words_word [] q ws a h e = e
words_word (x ∷ w) q ws a h e = words-front x (w ++ q) w ws (omega (arith, length-append w q)) a.0 (words_word w q ws a.1 h e)

words_of : (ws : List (List ℕ)) → Solid ws → words (spaced ws) ≡ [] ∷ ws
unfolding Solid spaced words
words_of [] s = refl
words_of (w ∷ ws) s =
    let h = spaced_some ws in
    words_space (w ++ spaced ws) (omega (arith, length-append w (spaced ws)))
    ∙ ap (λ (l : List (List ℕ)). [] ∷ l) (words_word w (spaced ws) ws s.0 h (words_of ws s.1))

-- ---- such a line is one

solid-line : (w : List ℕ) → Above (byte " ") w → Above LF w
unfolding Above
solid-line [] a = tt
solid-line (x ∷ w) a = (omega (arith, a.0), solid-line w a.1)

spaced-line : (ws : List (List ℕ)) → Solid ws → Line (spaced ws)
unfolding Above Solid spaced
spaced-line [] s = line_end
spaced-line (w ∷ ws) s = line-front (byte " " ∷ w) (spaced ws) (omega arith, solid-line w s.0) (spaced-line ws s.1)

-- ---- value lines

abbrev value_words : List ℕ → List (List ℕ)
value_words ns = map net (reverse ns) ++ (bytes "]:" ∷ [])

nets-spaced : (ns : List ℕ) (ws : List (List ℕ)) → nets ns ++ spaced ws ≡ spaced (map net ns ++ ws)
unfolding nets spaced
nets-spaced [] ws = refl
nets-spaced (n ∷ ns) ws =
    append_assoc (byte " " ∷ net n) (nets ns) (spaced ws) ∙ ap (λ (l : List ℕ). (byte " " ∷ net n) ++ l) (nets-spaced ns ws)

value-spaced : (ns : List ℕ) → value_line ns ≡ (byte "[" ∷ []) ++ spaced (value_words ns)
unfolding value_line spaced bytes
value-spaced ns = ap (λ (l : List ℕ). byte "[" ∷ l) (nets-spaced (reverse ns) (bytes "]:" ∷ []))

nets-solid : (ns : List ℕ) (ws : List (List ℕ)) → Solid ws → Solid (map net ns ++ ws)
unfolding Solid
nets-solid [] ws s = s
nets-solid (n ∷ ns) ws s = (net-solid n, nets-solid ns ws s)

value-solid : (ns : List ℕ) → Solid (value_words ns)
unfolding Above Solid bytes
value-solid ns = nets-solid (reverse ns) (bytes "]:" ∷ []) ((omega arith, (omega arith, tt)), tt)

pub value_line_lem : (ns : List ℕ) → Line (value_line ns)
unfolding Above
value_line_lem ns = rw (value-spaced ns) (line-front (byte "[" ∷ []) (spaced (value_words ns)) (omega arith, tt) (spaced-line (value_words ns) (value-solid ns)))

value_words_lem : (ns : List ℕ) → words (value_line ns) ≡ (byte "[" ∷ []) ∷ value_words ns
unfolding Above
value_words_lem ns =
    ap words (value-spaced ns)
    ∙ words_word (byte "[" ∷ []) (spaced (value_words ns)) (value_words ns) (omega arith, tt) (spaced_some (value_words ns)) (words_of (value_words ns) (value-solid ns))

pub all_append : (p : ℕ → Bool) (xs ys : List ℕ) → all p xs ≡ true → all p ys ≡ true → all p (xs ++ ys) ≡ true
all_append p [] ys h k = k
all_append p (x ∷ xs) ys h k =
    and_both (p x) (all p (xs ++ ys)) (and_left (p x) (all p xs) h) (all_append p xs ys (and_right (p x) (all p xs) h) k)

pub all-reverse : (p : ℕ → Bool) (xs : List ℕ) → all p xs ≡ true → all p (reverse xs) ≡ true
all-reverse p [] h = refl
all-reverse p (x ∷ xs) h =
    let r = all-reverse p xs (and_right (p x) (all p xs) h) in
    rw (reverse-cons x xs) (all_append p (reverse xs) (x ∷ []) r (and_both (p x) true (and_left (p x) (all p xs) h) refl))

middle : (ws : List (List ℕ)) (u v : List ℕ) → take (length (u ∷ (ws ++ (v ∷ []))) - 2) (ws ++ (v ∷ [])) ≡ ws
middle ws u v = take_at ws (v ∷ []) (length (u ∷ (ws ++ (v ∷ []))) - 2) (omega (arith, length-append ws (v ∷ [])))

pub nets_in_lem : (ns : List ℕ) → all (λ (n : ℕ). not (over n)) ns ≡ true → nets_in (value_line ns) ≡ ns
unfolding nets_in
nets_in_lem ns h =
    ap (λ (ws : List (List ℕ)). reverse (map net_of_word (take (length ws - 2) (drop 1 ws)))) (value_words_lem ns)
    ∙ ap (λ (ws : List (List ℕ)). reverse (map net_of_word ws)) (middle (map net (reverse ns)) (byte "[" ∷ []) (bytes "]:"))
    ∙ ap (λ (l : List ℕ). reverse l) (nets_back (reverse ns) (all-reverse (λ (n : ℕ). not (over n)) ns h))
    ∙ reverse-reverse ns

-- ---- rows

abbrev rule_words : List ℕ → List (List ℕ)
rule_words [] = bytes "(empty)" ∷ []
rule_words (n ∷ ns) = map net (n ∷ ns)

abbrev row_words : Row → List (List ℕ)
row_words r = [] ∷ grouped 0 (reverse r.pattern) ∷ bytes "=>" ∷ rule_words r.rules

rules-spaced : (rs : List ℕ) → rule_text rs ++ (LF ∷ []) ≡ spaced (rule_words rs)
unfolding rule_text spaced bytes
rules-spaced [] = refl
rules-spaced (n ∷ ns) = nets-spaced (n ∷ ns) [] ∙ ap spaced (append-nil (map net (n ∷ ns)))

row-spaced : (r : Row) → row_line r ≡ spaced (row_words r)
unfolding row_line spaced bytes
row-spaced r = rw (rules-spaced r.rules)

rules-solid : (rs : List ℕ) → Solid (rule_words rs)
unfolding Above Solid bytes
rules-solid [] = ((omega arith, (omega arith, (omega arith, (omega arith, (omega arith, (omega arith, (omega arith, tt))))))), tt)
rules-solid (n ∷ ns) = subst (λ (ws : List (List ℕ)). Solid ws) (append-nil (map net (n ∷ ns))) (nets-solid (n ∷ ns) [] tt)

row-solid : (r : Row) → Solid (row_words r)
unfolding Above Solid bytes
row-solid r = (tt, (grouped-solid 0 (reverse r.pattern), ((omega arith, (omega arith, tt)), rules-solid r.rules)))

pub row_line_lem : (r : Row) → Line (row_line r)
row_line_lem r = rw (row-spaced r) (spaced-line (row_words r) (row-solid r))

row_words_lem : (r : Row) → words (row_line r) ≡ [] ∷ row_words r
row_words_lem r = ap words (row-spaced r) ∙ words_of (row_words r) (row-solid r)

-- no net is printed as the mark of no rules
net_no_mark : (n : ℕ) → is_cell n ≡ true → same (net n) (bytes "(empty)") ≡ false
unfolding bytes same
net_no_mark n h = rw (net-cell n h)

pub names-low : (ns : List ℕ) → all is_name ns ≡ true → all (λ (n : ℕ). not (over n)) ns ≡ true
names-low [] h = refl
names-low (n ∷ ns) h =
    and_both (not (over n)) (all (λ (k : ℕ). not (over k)) ns)
    (and_right (is_cell n) (not (over n)) (and_left (is_name n) (all is_name ns) h))
    (names-low ns (and_right (is_name n) (all is_name ns) h))

rules_in : (rs : List ℕ) → all is_name rs ≡ true → cond (same (get_or (rule_words rs) 0 []) (bytes "(empty)")) [] (map net_of_word (rule_words rs)) ≡ rs
unfolding bytes same
rules_in [] h = refl
rules_in (n ∷ ns) h =
    let c = net_no_mark n (and_left (is_cell n) (not (over n)) (and_left (is_name n) (all is_name ns) h)) in
    rw c (nets_back (n ∷ ns) (names-low (n ∷ ns) h))

pub row_in_lem : (r : Row) → all is_trit r.pattern ≡ true → all is_name r.rules ≡ true → row_in (row_line r) ≡ r
unfolding row_in
row_in_lem r t n =
    let p : reverse (trits_in (get_or (words (row_line r)) 2 [])) ≡ r.pattern =
    ap (λ (ws : List (List ℕ)). reverse (trits_in (get_or ws 2 []))) (row_words_lem r)
    ∙ ap (λ (l : List ℕ). reverse l) (grouped_back 0 (reverse r.pattern) (all-reverse is_trit r.pattern t))
    ∙ reverse-reverse r.pattern in
    let q : cond (same (get_or (words (row_line r)) 4 []) (bytes "(empty)")) [] (map net_of_word (drop 4 (words (row_line r)))) ≡ r.rules =
    ap (λ (ws : List (List ℕ)). cond (same (get_or ws 4 []) (bytes "(empty)")) [] (map net_of_word (drop 4 ws))) (row_words_lem r)
    ∙ rules_in r.rules n in
    λ i. record { pattern = p i; rules = q i }
