-- Which nets the rules of a leaf name, by a search and by a loop that counts to two, and what a leaf of a one-hot emission gives. Assumes nothing.
use Prim.Native.Nat.{ℕ, zero, suc, ◌+◌, ◌≤◌, ◌<◌}
use borrow.Author.Tests.{eq-eqb, le-leb, ne_eqb}
use lib.Dec.{eqb, leb}
use lib.ListN.{drop, drop_of_length-le, get_or, length, length-map, replicate, set, take}
use lib.Seq.{drop-cons}
use mathlib.Core.Bool.{Bool, true, false, ◌||◌}
use mathlib.Core.List.{List, [], ◌∷◌, ◌++◌, map}
use mathlib.Core.Path.{◌≡◌, refl, sym, ap, ap₂, ◌∙◌}
use mir.Val.{bool_byte}
use native.Mathlib.Numerals.{add-one}
use native.Mathlib.Omega.{arith}
use Rattle.lists.specs.Lists.{mem}
use Rattle.lists.specs.Vec.{fill, vec}
use Rattle.rules.specs.Bounds.{width_max}
use Rattle.rules.specs.Emit.{Update, is_some, one_hot, update_for, updated}
use Rattle.rules.specs.Nets.{cell}
use Rattle.rules.specs.Prefix.{hits}
use Rattle.rules.specs.Trits.{bit}
use Rattle.std.specs.List.{list_any}

-- ---- a rule is searched

module _ (n i : ℕ) (xs : List ℕ) (h : i < length xs) where
  pub mem_found : cell (get_or xs i 0) ≡ n → mem n (map cell (drop i xs)) ≡ true
  unfolding mem
  mem_found e = rw (drop-cons xs i 0 h, eq-eqb (cell (get_or xs i 0)) n e)

  pub mem_next : (cell (get_or xs i 0) ≡ n → ⊥) → mem n (map cell (drop i xs)) ≡ mem n (map cell (drop (i + 1) xs))
  unfolding mem
  mem_next e = rw (add-one, drop-cons xs i 0 h, ne_eqb (cell (get_or xs i 0)) n e)

pub mem_none : (n i : ℕ) (xs : List ℕ) → length xs ≤ i → mem n (map cell (drop i xs)) ≡ false
unfolding mem
mem_none n i xs h = rw (drop_of_length-le xs h)

pub mem_held : (n : ℕ) (xs : List ℕ) → list_any (λ x. eqb x n) xs ≡ mem n xs
unfolding mem
mem_held n [] = refl
mem_held n (x ∷ xs) = ap (λ (b : Bool). eqb x n || b) (mem_held n xs)

-- ---- how many positions are named, and how many rules have updates, from an index on

pub hits_here : (es rs : List ℕ) (i : ℕ) → i < length es → hits (drop i es) rs ≡ bit (mem (get_or es i 0) rs) + hits (drop (i + 1) es) rs
unfolding hits
hits_here es rs i h = rw (add-one, drop-cons es i 0 h)

pub hits_none : (es rs : List ℕ) (i : ℕ) → length es ≤ i → hits (drop i es) rs ≡ 0
unfolding hits
hits_none es rs i h = rw (drop_of_length-le es h)

pub updated_here : (us : List Update) (rs : List ℕ) (i : ℕ) → i < length rs → updated us (map cell (drop i rs)) ≡ bit (is_some (update_for us (cell (get_or rs i 0)))) + updated us (map cell (drop (i + 1) rs))
unfolding updated
updated_here us rs i h = rw (add-one, drop-cons rs i 0 h)

pub updated_none : (us : List Update) (rs : List ℕ) (i : ℕ) → length rs ≤ i → updated us (map cell (drop i rs)) ≡ 0
unfolding updated
updated_none us rs i h = rw (drop_of_length-le rs h)

-- ---- a loop that stops at the second: n are left with this element, m after it, and b is whether it is one

module _ (n m : ℕ) (b : Bool) (here : n ≡ bit b + m) where
  pub twice_stop : b ≡ true → leb 2 (1 + n) ≡ true
  twice_stop e = let k : bit b ≡ 1 = rw e in le-leb 2 (1 + n) (omega arith)

  pub twice_once : b ≡ true → leb 2 (0 + n) ≡ leb 2 (1 + m)
  twice_once e = let k : bit b ≡ 1 = rw e in let s : 0 + n ≡ 1 + m = omega arith in ap (leb 2) s

  pub twice_more : (seen : ℕ) → b ≡ false → leb 2 (seen + n) ≡ leb 2 (seen + m)
  twice_more seen e = let k : bit b ≡ 0 = rw e in let s : n ≡ m = omega arith in ap (λ (j : ℕ). leb 2 (seen + j)) s

pub twice_start : (n : ℕ) → leb 2 (0 + n) ≡ leb 2 n
twice_start n = let k : 0 + n ≡ n = omega arith in ap (leb 2) k

pub twice_end : (seen : Bool) (n : ℕ) → n ≡ 0 → leb 2 (bit seen + n) ≡ false
twice_end true n e = rw e
twice_end false n e = rw e

-- ---- bits with 0 after them

pub byte_bit : (b : Bool) → bool_byte b ≡ bit b
byte_bit true = refl
byte_bit false = refl

pub pads : (n : ℕ) (l : List ℕ) → length l ≤ n → l ++ drop (length l) (replicate n 0) ≡ vec n 0 l
unfolding vec
pads zero [] h = refl
pads zero (x ∷ l) h = absurd (omega arith)
pads (suc n) [] h = ap (λ (r : List ℕ). 0 ∷ r) (pads n [] (omega arith))
pads (suc n) (x ∷ l) h = ap (λ (r : List ℕ). x ∷ r) (pads n l (omega arith))

-- ---- the bits

hot_get : (outs rs : List ℕ) (i : ℕ) → i < length outs → get_or (one_hot outs rs) i 0 ≡ bit (mem (get_or outs i 0) rs)
hot_get [] rs i h = absurd (omega arith)
hot_get (q ∷ outs) rs zero h = refl
hot_get (q ∷ outs) rs (suc i) h = hot_get outs rs i (omega arith)

pub hot_turn : (outs rs nets : List ℕ) (i y : ℕ) → i < length outs → length outs ≤ width_max → nets ≡ vec width_max 0 (take i (one_hot outs rs)) → y ≡ bit (mem (get_or outs i 0) rs)
    → set nets i y ≡ vec width_max 0 (take (i + 1) (one_hot outs rs))
hot_turn outs rs nets i y h w e q =
    let l : length (one_hot outs rs) ≡ length outs = length-map outs (λ (q : ℕ). bit (mem q rs)) in
    ap₂ (λ (v : List ℕ) (x : ℕ). set v i x) e (q ∙ sym (hot_get outs rs i h)) ∙ fill width_max 0 (one_hot outs rs) i (omega arith) (omega arith)
