-- A value line is taken exactly if it is one: its nets, taken loosely, print back to it. Assumes nothing.
use Prim.Native.Nat.{ℕ, zero, suc, ◌+◌, ◌≤◌, ◌<◌}
use borrow.Author.Tests.{le-leb, leb-true}
use lib.Dec.{eqb, leb}
use lib.Pointwise.{pointwise}
use lib.ListN.{drop, drop_of_length-le, get_or, length, length-drop, length-reverse, replicate, set, take, take-append-drop}
use lib.Seq.{drop-cons, length-take-le, set_at, take_all, take_at, take-suc}
use native.Mathlib.Numerals.{add-one}
use mathlib.Core.Bool.{Bool, true, false, not, ◌&&◌}
use mathlib.Core.List.{List, [], ◌∷◌, ◌++◌, append_assoc, append-nil, reverse, reverse-reverse}
use mathlib.Core.Path.{◌≡◌, refl, sym, ap, ap₂, ◌∙◌, subst}
use native.Mathlib.Omega.{arith}
use Rattle.lists.specs.Bools.{and_both, and_left, and_right, by_bool, clash}
use Rattle.lists.specs.Lists.{all, same, same_refl, same_true}
use Rattle.lists.specs.Vec.{fill, length-vec, take-vec, vec}
use Rattle.print.proofs.Rows.{closing, value_is}
use Rattle.rows.specs.Rows.{nets_from}
use Rattle.rows.specs.declared.Nets.{Nets}
use Rattle.rules.proofs.Longest.{value-few, value_max}
use Rattle.rules.proofs.Words.{all-reverse, nets_in_lem}
use Rattle.rules.specs.Bounds.{columns_max, rules_max}
use Rattle.rules.specs.Bytes.{byte, bytes}
use Rattle.rules.specs.Nets.{over}
use Rattle.rules.specs.Print.{nets, rule_text, value_line}
use Rattle.rules.specs.Read.{is_value_line, nets_in}
use Rattle.rules.specs.Refusals.{all_low}
use Rattle.sets.specs.Sets.{rules_from}
use Rattle.sets.specs.declared.Rules.{Rules}
use Rattle.text.proofs.Nets.{scan_few, scan_low, scan_printed, scan_stop, word_front}
use Rattle.text.specs.Scan.{figure_of, loose_nets, scanned, word_at}
use Rattle.text.specs.Taken.{value_taken}
use Rattle.text.specs.Trees.{rule_end}
use Rattle.std.proofs.Common.{Some, None}
use Rattle.std.proofs.lemmas.List.{drop_at}

abbrev low : ℕ → Bool
low n = not (over n)

-- ---- arrays

-- a turn of a loop that writes l into a fresh array
pub fill_turn : (m : ℕ) (l v : List ℕ) (i x : ℕ) → v ≡ vec m 0 (take i l) → x ≡ get_or l i 0 → i < length l → length l ≤ m → set v i x ≡ vec m 0 (take (i + 1) l)
fill_turn m l v i x e q h k = ap (λ (u : List ℕ). set u i x) e ∙ ap (set (vec m 0 (take i l)) i) q ∙ fill m 0 l i h k

pub fill_end : (m : ℕ) (l v : List ℕ) (i : ℕ) → v ≡ vec m 0 (take i l) → length l ≤ i → v ≡ vec m 0 l
fill_end m l v i e h = e ∙ ap (vec m 0) (take_all i l h)

-- a turn of a loop that writes the elements of p over those of z
pub written : (p z v : List ℕ) (i x : ℕ) → v ≡ take i p ++ drop i z → x ≡ get_or p i 0 → i < length p → length p ≤ length z → set v i x ≡ take (i + 1) p ++ drop (i + 1) z
written p z v i x e q h k =
    let d : drop i z ≡ get_or z i 0 ∷ drop (i + 1) z = rw add-one (drop-cons z i 0 (omega arith)) in
    let t : take (i + 1) p ≡ take i p ++ (get_or p i 0 ∷ []) = rw add-one (take-suc p i 0 h) in
    ap (λ (u : List ℕ). set u i x) (e ∙ ap (λ (u : List ℕ). take i p ++ u) d)
    ∙ set_at (take i p) (get_or z i 0) (drop (i + 1) z) x i (length-take-le i p (omega arith))
    ∙ sym (append_assoc (take i p) (x ∷ []) (drop (i + 1) z))
    ∙ ap (λ (y : ℕ). (take i p ++ (y ∷ [])) ++ drop (i + 1) z) q
    ∙ ap (λ (u : List ℕ). u ++ drop (i + 1) z) (sym t)

pub written_end : (p z v : List ℕ) (i : ℕ) → v ≡ take i p ++ drop i z → length p ≡ length z → length p ≤ i → v ≡ p
written_end p z v i e k h =
    e ∙ ap (λ (u : List ℕ). u ++ drop i z) (take_all i p h) ∙ ap (λ (u : List ℕ). p ++ u) (drop_of_length-le z (omega arith)) ∙ append-nil p

-- what a scan leaves in a fresh array
pub vec-drop : (n : ℕ) (l : List ℕ) → length l ≤ n → l ++ drop (length l) (replicate n 0) ≡ vec n 0 l
unfolding vec
vec-drop zero [] h = refl
vec-drop zero (x ∷ l) h = absurd (omega arith)
vec-drop (suc n) [] h = ap (λ (k : List ℕ). 0 ∷ k) (vec-drop n [] (omega arith))
vec-drop (suc n) (x ∷ l) h = ap (λ (k : List ℕ). x ∷ k) (vec-drop n l (omega arith))

-- ---- the nets of a value line

pub loose_few : (l : List ℕ) → length (loose_nets l) ≤ columns_max
unfolding loose_nets
loose_few l = omega (arith, length-reverse (scanned columns_max l 1), scan_few columns_max l 1)

pub loose_low : (l : List ℕ) → all_low (loose_nets l) ≡ true
unfolding loose_nets
loose_low l = all-reverse low (scanned columns_max l 1) (scan_low columns_max l 1)

pub nets-made : (l f v : List ℕ) (r : ℕ) → f ≡ scanned columns_max l 1 ++ drop r (replicate columns_max 0) → r ≡ length (scanned columns_max l 1) → v ≡ reverse (take r f) ++ drop r f
    → record { value = v; columns = r } ≡ nets_from (loose_nets l)
unfolding loose_nets
nets-made l f v r e q p =
    let n = scanned columns_max l 1 in
    let t : take r f ≡ n = ap (take r) e ∙ take_at n (drop r (replicate columns_max 0)) r (sym q) in
    let d : drop r f ≡ drop r (replicate columns_max 0) = ap (drop r) e ∙ drop_at n (drop r (replicate columns_max 0)) r (sym q) in
    let b : r ≡ length (reverse n) = q ∙ sym (length-reverse n) in
    let w : reverse n ++ drop (length (reverse n)) (replicate columns_max 0) ≡ vec columns_max 0 (reverse n) = vec-drop columns_max (reverse n) (omega (arith, scan_few columns_max l 1)) in
    let a : v ≡ vec columns_max 0 (reverse n) = p ∙ (λ i. reverse (t i) ++ d i) ∙ ap (λ (k : ℕ). reverse n ++ drop k (replicate columns_max 0)) b ∙ w in
    λ i. record { value = a i; columns = b i }

loose_printed : (ns : List ℕ) → length ns ≤ columns_max → all_low ns ≡ true → loose_nets (value_line ns) ≡ ns
unfolding loose_nets figure_of word_at
loose_printed ns h k =
    let a : all low (reverse ns) ≡ true = all-reverse low ns k in
    let f : length (reverse ns) ≤ columns_max = omega (arith, length-reverse ns) in
    let s : scanned columns_max ((byte "[" ∷ []) ++ (nets (reverse ns) ++ closing)) 1 ≡ reverse ns =
    scan_printed columns_max (byte "[" ∷ []) (reverse ns) closing f a refl refl in
    ap (λ (l : List ℕ). reverse (scanned columns_max l 1)) (value_is ns) ∙ ap reverse s ∙ reverse-reverse ns

-- what `==` says of two slices of bytes
pub same_is : (a b : List ℕ) → pointwise eqb a b ≡ same a b
unfolding same
same_is [] [] = refl
same_is [] (y ∷ b) = refl
same_is (x ∷ a) [] = refl
same_is (x ∷ a) (y ∷ b) = ap (λ (r : Bool). eqb x y && r) (same_is a b)

pub equal_yes : (a b : List ℕ) → pointwise eqb a b ≡ true → a ≡ b
equal_yes a b h = same_true a b (sym (same_is a b) ∙ h)

pub equal_no : (a b : List ℕ) → pointwise eqb a b ≡ false → a ≡ b → ⊥
equal_no a b h q = clash (sym h ∙ same_is a b ∙ subst (λ (k : List ℕ). same a k ≡ true) q (same_refl a))

-- ---- taken or not

is_value : (l : List ℕ) → value_line (loose_nets l) ≡ l → (is_value_line l ≡ true) × (nets_in l ≡ loose_nets l)
unfolding is_value_line
is_value l e =
    let n = loose_nets l in
    let q : nets_in l ≡ n = ap nets_in (sym e) ∙ nets_in_lem n (loose_low l) in
    let s : same (value_line n) l ≡ true = subst (λ (k : List ℕ). same (value_line n) k ≡ true) e (same_refl (value_line n)) in
    let t : (same (value_line n) l && (leb (length n) columns_max && all low n)) ≡ true =
    and_both (same (value_line n) l) (leb (length n) columns_max && all low n) s
    (and_both (leb (length n) columns_max) (all low n) (le-leb (length n) columns_max (loose_few l)) (loose_low l)) in
    (ap (λ (k : List ℕ). same (value_line k) l && (leb (length k) columns_max && all low k)) q ∙ t, q)

value_back : (l : List ℕ) → is_value_line l ≡ true → value_line (loose_nets l) ≡ l
unfolding is_value_line
value_back l h =
    let n = nets_in l in
    let rest = leb (length n) columns_max && all low n in
    let e : value_line n ≡ l = same_true (value_line n) l (and_left (same (value_line n) l) rest h) in
    let r = and_right (same (value_line n) l) rest h in
    let f = leb-true (length n) columns_max (and_left (leb (length n) columns_max) (all low n) r) in
    let g = and_right (leb (length n) columns_max) (all low n) r in
    let q : loose_nets l ≡ n = ap loose_nets (sym e) ∙ loose_printed n f g in
    ap value_line q ∙ e

-- the printed nets of the struct
module _ (l : List ℕ) (ns : Nets) (e : ns ≡ nets_from (loose_nets l)) where
  pub struct_nets : take ns.columns ns.value ≡ loose_nets l
  struct_nets = ap (λ (x : Nets). take x.columns x.value) e ∙ take-vec columns_max 0 (loose_nets l) (loose_few l)

  pub struct_few : (ns.columns ≤ columns_max) × (length ns.value ≡ columns_max)
  struct_few = (omega (arith, loose_few l, ap (λ (x : Nets). x.columns) e), ap (λ (x : Nets). length x.value) e ∙ length-vec columns_max 0 (loose_nets l))

  pub struct_low : all_low (take ns.columns ns.value) ≡ true
  struct_low = ap all_low struct_nets ∙ loose_low l

  pub value_yes : value_line (take ns.columns ns.value) ≡ l → Some ns ≡ value_taken l
  value_yes p =
      let t = is_value l (ap value_line (sym struct_nets) ∙ p) in
      let q : ns ≡ nets_from (nets_in l) = e ∙ ap nets_from (sym t.1) in
      rw t.0 (ap Some q)

  pub value_no : (value_line (take ns.columns ns.value) ≡ l → ⊥) → None ≡ value_taken l
  value_no p =
      let f : is_value_line l ≡ false = by_bool (is_value_line l) (λ b. absurd (p (ap value_line struct_nets ∙ value_back l b))) (λ b. b) in
      rw f

-- ---- rules, taken into a fresh array

pub names-made : (l : List ℕ) (at : ℕ) (f : List ℕ) (r : ℕ) → f ≡ scanned rules_max l at ++ drop r (replicate rules_max 0) → r ≡ length (scanned rules_max l at)
    → record { items = f; count = r } ≡ rules_from (scanned rules_max l at)
names-made l at f r e q =
    let n = scanned rules_max l at in
    let a : f ≡ vec rules_max 0 n = e ∙ ap (λ (k : ℕ). n ++ drop k (replicate rules_max 0)) q ∙ vec-drop rules_max n (scan_few rules_max l at) in
    λ i. record { items = a i; count = q i }

-- the fixed bytes for no rules, where a line ends in them

pub empty_past : (at : ℕ) (l : List ℕ) → length l < at → false ≡ same (drop at l) (rule_end [])
unfolding bytes rule_text same
empty_past at l h = let k : length l ≤ at = omega arith in sym (ap (λ (d : List ℕ). same d (rule_end [])) (drop_of_length-le l k))

pub empty_is : (at : ℕ) (l e : List ℕ) (r : Bool) → e ≡ drop at l → r ≡ pointwise eqb e (rule_end []) → r ≡ same (drop at l) (rule_end [])
empty_is at l e r q p = p ∙ same_is e (rule_end []) ∙ ap (λ (d : List ℕ). same d (rule_end [])) q

pub empty_none : (k at : ℕ) (l : List ℕ) → same (drop at l) (rule_end []) ≡ true → scanned k l at ≡ []
unfolding bytes rule_text word_at
empty_none k at l h =
    let e : drop at l ≡ rule_end [] = same_true (drop at l) (rule_end []) h in
    let t : length (take at l) ≡ at = length-take-le at l (omega (arith, ap length e, length-drop at l)) in
    let w : word_at l at ≡ None =
    ap₂ word_at (sym (take-append-drop at l) ∙ ap (λ (d : List ℕ). take at l ++ d) e) (sym t) ∙ word_front (take at l) (rule_end []) in
    scan_stop k l at w

pub names_none : (l : List ℕ) (at : ℕ) (b : Bool) (r : Rules) → b ≡ same (drop at l) (rule_end []) → b ≡ true → r ≡ rules_from [] → r ≡ rules_from (scanned rules_max l at)
names_none l at b r e h q = q ∙ ap rules_from (sym (empty_none rules_max at l (sym e ∙ h)))

pub struct_short : (l : List ℕ) (ns : Nets) → ns ≡ nets_from (loose_nets l) → length (value_line (take ns.columns ns.value)) ≤ value_max
struct_short l ns e = subst (λ (k : List ℕ). length (value_line k) ≤ value_max) (sym (struct_nets l ns e)) (value-few (loose_nets l) (loose_few l))
