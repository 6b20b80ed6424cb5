-- What is found among updates that are lent, and the rules of a leaf. Assumes nothing.
use Prim.Native.Nat.{ℕ, ◌+◌, ◌-◌, ◌≤◌, ◌<◌, min}
use borrow.Author.Tests.{ltb-false, ltb-true}
use lib.Dec.{eqb, ltb}
use lib.ListN.{drop, drop_of_length-le, get_or, length, take}
use lib.Seq.{drop-cons, take_all}
use mathlib.Core.Bool.{Bool, true, false, cond}
use mathlib.Core.List.{List, [], ◌∷◌, map}
use mathlib.Core.Option.{Option, none, some}
use mathlib.Core.Path.{◌≡◌, refl, sym, ap, ap₂, ◌∙◌}
use native.Mathlib.Numerals.{add-one}
use native.Mathlib.Omega.{arith}
use Rattle.lists.specs.Bools.{by_bool, clash}
use Rattle.muxes.specs.Lent.{found}
use Rattle.rules.specs.Bounds.{node_run}
use Rattle.rules.specs.Emit.{Update, disjoint, get_else, or_else, update_for, updates_of}
use Rattle.rules.specs.Nets.{cell}
use Rattle.rules.specs.Tree.{leaf}
use Rattle.tree.proofs.Tails.{leaf_rules}
use Rattle.tree.specs.Form.{Ends}
use Rattle.std.specs.Borrow.{Bor}
use Rattle.std.specs.Prelude.{None, Some}
use Rattle.std.specs.Prelude as Std

-- ---- the first update, and the others

-- its width is cut to the bits that are left
take_cut : (w : ℕ) (l : List ℕ) → take (min w (length l)) l ≡ take w l
take_cut w l =
    by_bool (ltb w (length l))
    (λ p. let h = ltb-true w (length l) p in let i : min w (length l) ≡ w = omega arith in ap (λ (k : ℕ). take k l) i)
    (λ p. let h = ltb-false w (length l) p in let i : length l ≤ min w (length l) = omega arith in take_all (min w (length l)) l i ∙ sym (take_all w l h))

drop_cut : (w : ℕ) (l : List ℕ) → drop (min w (length l)) l ≡ drop w l
drop_cut w l =
    by_bool (ltb w (length l))
    (λ p. let h = ltb-true w (length l) p in let i : min w (length l) ≡ w = omega arith in ap (λ (k : ℕ). drop k l) i)
    (λ p. let h = ltb-false w (length l) p in let i : length l ≤ min w (length l) = omega arith in drop_of_length-le l i ∙ sym (drop_of_length-le l h))

abbrev pub up : ℕ → List ℕ → Update
up n bs = record { target = n; bits = bs }

pub updates_none : (ns ws bs : List ℕ) → length ns ≡ 0 → updates_of ns ws bs ≡ []
unfolding updates_of
updates_none [] ws bs e = refl
updates_none (n ∷ ns) ws bs e = absurd (omega arith)

module _ (n : ℕ) (ms ns bs front back : List ℕ) (p : ms ≡ n ∷ ns) where
  pub first_wide : (ws us : List ℕ) (w : ℕ) → ws ≡ w ∷ us → front ≡ take (min w (length bs)) bs → back ≡ drop (min w (length bs)) bs
      → updates_of ms ws bs ≡ up n front ∷ updates_of ns us back
  unfolding updates_of
  first_wide ws us w q f b =
      ap₂ (λ (k l : List ℕ). updates_of k l bs) p q
      ∙ ap₂ (λ (k l : List ℕ). up n k ∷ updates_of ns us l) (sym (f ∙ take_cut w bs)) (sym (b ∙ drop_cut w bs))

  pub first_bare : (ws : List ℕ) → length ws ≡ 0 → front ≡ take (min 0 (length bs)) bs → back ≡ drop (min 0 (length bs)) bs
      → updates_of ms ws bs ≡ up n front ∷ updates_of ns ws back
  unfolding updates_of
  first_bare [] e f b =
      ap (λ (k : List ℕ). updates_of k [] bs) p
      ∙ ap₂ (λ (k l : List ℕ). up n k ∷ updates_of ns [] l) (sym (f ∙ take_cut 0 bs)) (sym (b ∙ drop_cut 0 bs))
  first_bare (w ∷ ws) e f b = absurd (omega arith)

-- ---- the last one of a net

-- of the updates that are left, else what was found before
abbrev pub later : List Update → ℕ → Option (List ℕ) → Option (List ℕ)
later us n o = or_else (update_for us n) o

or_turn : (a : Option (List ℕ)) (b : Bool) (bits : List ℕ) (o : Option (List ℕ)) → or_else (or_else a (cond b (some bits) none)) o ≡ or_else a (cond b (some bits) o)
or_turn (some x) b bits o = refl
or_turn none true bits o = refl
or_turn none false bits o = refl

pub later_turn : (us vs : List Update) (u : Update) (n : ℕ) (o q : Option (List ℕ)) → us ≡ u ∷ vs → q ≡ cond (eqb u.target n) (some u.bits) o → later vs n q ≡ later us n o
unfolding update_for
later_turn us vs u n o q e f = ap (later vs n) f ∙ sym (or_turn (update_for vs n) (eqb u.target n) u.bits o) ∙ ap (λ (l : List Update). later l n o) (sym e)

pub later_end : (us : List Update) (n : ℕ) (o : Option (List ℕ)) → us ≡ [] → later us n o ≡ o
unfolding update_for
later_end us n o e = ap (λ (l : List Update). later l n o) e

-- ---- the first rule that has one

pub found_yes : (o : Std.Option (Bor (List ℕ))) (a b : List ℕ) → Std.is_some o ≡ true → get_else (found o) a ≡ get_else (found o) b
found_yes (Some x) a b e = refl
found_yes None a b e = absurd (clash e)

pub found_no : (o : Std.Option (Bor (List ℕ))) (a : List ℕ) → Std.is_some o ≡ false → get_else (found o) a ≡ a
found_no (Some x) a e = absurd (clash (sym e))
found_no None a e = refl

module _ (us : List Update) (rs : List ℕ) (i : ℕ) (o : Option (List ℕ)) (h : i < length rs) (q : o ≡ update_for us (cell (get_or rs i 0))) where
  pub gives_here : (d : List ℕ) → disjoint us d (map cell (drop i rs)) ≡ get_else o (disjoint us d (map cell (drop (i + 1) rs)))
  unfolding disjoint
  gives_here d =
      ap (λ (l : List ℕ). disjoint us d (map cell l)) (drop-cons rs i 0 h)
      ∙ ap₂ (λ (p : Option (List ℕ)) (k : ℕ). get_else p (disjoint us d (map cell (drop k rs)))) (sym q) (sym (add-one i))

pub rules_end : (us : List Update) (rs d : List ℕ) (i : ℕ) → length rs ≤ i → d ≡ disjoint us d (map cell (drop i rs))
unfolding disjoint
rules_end us rs d i h = sym (ap (λ (l : List ℕ). disjoint us d (map cell l)) (drop_of_length-le rs h))

-- ---- the rules of the leaf in which a slice ends

pub leaf_slice : (rs xs : List ℕ) (n : ℕ) → Ends (leaf rs) xs → n ≡ length rs
    → map cell (take (length xs - node_run + 1 + n - (length xs - node_run + 1)) (drop (length xs - node_run + 1) xs)) ≡ rs
leaf_slice rs xs n h e =
    let i : length xs - node_run + 1 + n - (length xs - node_run + 1) ≡ length rs = omega arith in
    ap (λ (k : ℕ). map cell (take k (drop (length xs - node_run + 1) xs))) i ∙ leaf_rules rs xs h
