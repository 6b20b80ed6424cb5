-- Lines of a tree, counted and put one after the other. Assumes nothing.
use Prim.Native.Nat.{ℕ, zero, suc, ◌+◌, ◌-◌, ◌*◌, ◌≤◌, ◌<◌}
use lib.ListN.{drop, get_or, length, length-append, length-drop, length-map, replicate, take, take-append-drop}
use lib.Seq.{drop-append-add, drop-drop, length-take-le, take_at}
use mathlib.Core.Bool.{Bool, true, false}
use mathlib.Core.List.{List, [], ◌∷◌, ◌++◌, append_assoc, map}
use mathlib.Core.Path.{◌≡◌, refl, sym, ap, ◌∙◌, subst}
use mir.Val.{bool_byte}
use native.Mathlib.Nat.{add_assoc, add-zero, zero-add}
use native.Mathlib.Omega.{arith}
use Rattle.std.specs.Borrow.{MutBor}
use Rattle.lists.specs.Vec.{take-vec, vec}
use Rattle.print.proofs.Numbers.{low-at}
use Rattle.print.proofs.Rows.{arrow}
use Rattle.rules.proofs.Longest.{net-few, rules-few, rules_long}
use Rattle.rules.specs.Bounds.{node_run, rules_max}
use Rattle.rules.specs.Bytes.{LF, byte, bytes}
use Rattle.rules.specs.Nets.{cell, first_mux}
use Rattle.rules.specs.Print.{arm, arm_head, indent, net, printed_tree, rule_text, trit}
use Rattle.rules.specs.Refusals.{all_low}
use Rattle.rules.specs.Tree.{leaf}
use Rattle.rules.specs.Trits.{bit}
use Rattle.text.specs.Longs.{head_max}
use Rattle.text.specs.Trees.{Laid, Lays, LeafFits, Room, branch_line, last_rules, put_at, rule_end}
use Rattle.text.specs.declared.inner.trees.Sheet.{Sheet}

-- ---- bytes put at a place

put_nil : (d : List ℕ) (at : ℕ) → put_at d at [] ≡ d
unfolding put_at
put_nil d at = simp (add-zero, take-append-drop)

front : (d : List ℕ) (at : ℕ) (xs : List ℕ) → Room d at xs → length (take at d ++ xs) ≡ at + length xs
front d at xs h = simp (length-append, length-take-le at d (omega arith))

core : (p r ys : List ℕ) (n m : ℕ) → length p ≡ n → take n (p ++ r) ++ (ys ++ drop (n + m) (p ++ r)) ≡ p ++ (ys ++ drop m r)
core p r ys n m f = rw (take_at p r n f, ← f, drop-append-add)

put-put : (d : List ℕ) (at : ℕ) (xs ys : List ℕ) → Room d at xs → put_at (put_at d at xs) (at + length xs) ys ≡ put_at d at (xs ++ ys)
unfolding put_at
put-put d at xs ys h =
    rw (← append_assoc (take at d) xs (drop (at + length xs) d), core (take at d ++ xs) (drop (at + length xs) d) ys (at + length xs) (length ys) (front d at xs h), drop-drop)
    (simp (length-append, append_assoc, add_assoc))

put-length : (d : List ℕ) (at : ℕ) (bs : List ℕ) → Room d at bs → length (put_at d at bs) ≡ length d
unfolding put_at
put-length d at bs h = simp (length-append, length-take-le at d (omega arith), length-drop) (omega arith)

-- the first piece of a fresh text
pub first_in : (xs : List ℕ) {fresh text : List ℕ} → fresh ≡ [] → text ≡ fresh ++ xs → text ≡ xs
first_in xs n t = t ∙ ap (λ (l : List ℕ). l ++ xs) n

-- what is put at the start stands in front
pub put_front : (d bs : List ℕ) → put_at d 0 bs ≡ bs ++ drop (length bs) d
unfolding put_at
put_front d bs = ap (λ (k : ℕ). bs ++ drop k d) (zero-add (length bs))

-- ---- what is laid

pub lays_none : (s : Sheet) → Lays s s []
lays_none s = record { same_reference = refl; same_length = refl; laid = record { next = sym (add-zero s.at); text = λ h. sym (put_nil s.out.now s.at) } }

pub lays_as : {s t : Sheet} {xs ys : List ℕ} → xs ≡ ys → Lays s t xs → Lays s t ys
lays_as {s} {t} q p = subst (λ (k : List ℕ). Lays s t k) q p

pub lays_then : {s t u : Sheet} {xs ys : List ℕ} → Lays s t xs → Lays t u ys → Lays s u (xs ++ ys)
lays_then {s} {t} {u} {xs} {ys} p q =
    record {
      same_reference = q.same_reference ∙ p.same_reference;
      same_length = q.same_length ∙ p.same_length;
      laid = record {
        next = q.laid.next ∙ simp (p.laid.next, length-append, add_assoc);
        text = λ h.
            let n = length-append xs ys in
            let room : Room s.out.now s.at xs = omega (arith, h, n) in
            let rest : Room t.out.now t.at ys = omega (arith, h, n, p.same_length, p.laid.next) in
            q.laid.text rest ∙ rw (p.laid.text room, p.laid.next) (put-put s.out.now s.at xs ys room);
      };
    }

-- what a fresh sheet is at the end
pub laid_in : {d : List ℕ} {s t : Sheet} {bs new : List ℕ} {r : ℕ} → s.out.now ≡ d → s.at ≡ 0 → Lays s t bs → new ≡ t.out.now → r ≡ t.at → Laid d 0 bs new r
laid_in {d} {s} {t} {bs} p q l n e =
    record {
      next = e ∙ l.laid.next ∙ ap (λ (k : ℕ). k + length bs) q;
      text = λ h. n ∙ l.laid.text (rw (p, q) h) ∙ (λ i. put_at (p i) (q i) bs);
    }

-- ---- the indent

pub indent_is : (i : ℕ) → indent i ≡ replicate (2 * i) 32
unfolding indent bytes
indent_is zero = refl
indent_is (suc k) = let e : 2 * suc k ≡ suc (suc (2 * k)) = omega arith in ap (λ (l : List ℕ). 32 ∷ 32 ∷ l) (indent_is k) ∙ ap (λ (n : ℕ). replicate n 32) (sym e)

pub indent_long : (i : ℕ) → length (indent i) ≡ 2 * i
unfolding indent bytes
indent_long zero = refl
indent_long (suc k) = omega (arith, indent_long k)

pub lay_long : (at level : ℕ) (line : List ℕ) → at + 2 * level + length line ≡ at + length (indent level ++ line)
lay_long at level line = omega (arith, indent_long level, length-append (indent level) line)

-- what stands between two places, and behind the second
pub gap : (at level n : ℕ) (d : List ℕ) → at + 2 * level + n ≤ length d → length (take (at + 2 * level + n - at) (drop at d)) - n ≡ 2 * level
gap at level n d h =
    let l : length (take (at + 2 * level + n - at) (drop at d)) ≡ at + 2 * level + n - at = length-take-le (at + 2 * level + n - at) (drop at d) (omega (arith, length-drop at d)) in
    omega (arith, l)

pub behind : (at end : ℕ) (d : List ℕ) → at ≤ end → drop (end - at) (drop at d) ≡ drop end d
behind at end d h = let e : at + (end - at) ≡ end = omega arith in drop-drop (end - at) at d ∙ ap (λ (n : ℕ). drop n d) e

-- a line is put: the bytes x take the place of those from the sheet's place on
module _ (s t : Sheet) (level : ℕ) (line x : List ℕ) (k : ℕ) (e : t.at ≡ s.at + 2 * level + length line) where
  pub lays_put : s.at + 2 * level + length line ≤ length s.out.now → k ≡ 2 * level → x ≡ replicate k 32 ++ line
      → t.out.ghost_name ≡ s.out.ghost_name → t.out.now ≡ take s.at s.out.now ++ (x ++ drop (s.at + 2 * level + length line) s.out.now) → Lays s t (indent level ++ line)
  unfolding put_at
  lays_put h q p g n =
      let d = s.out.now in
      let l : s.at + 2 * level + length line ≡ s.at + length (indent level ++ line) = lay_long s.at level line in
      let b : x ≡ indent level ++ line = p ∙ ap (λ (m : ℕ). replicate m 32 ++ line) q ∙ ap (λ (i : List ℕ). i ++ line) (sym (indent_is level)) in
      let m : t.out.now ≡ take s.at d ++ ((indent level ++ line) ++ drop (s.at + length (indent level ++ line)) d) =
      n ∙ ap (λ (y : List ℕ). take s.at d ++ (y ++ drop (s.at + 2 * level + length line) d)) b ∙ ap (λ (j : ℕ). take s.at d ++ ((indent level ++ line) ++ drop j d)) l in
      let r : Room d s.at (indent level ++ line) = omega (arith, h, l) in
      record {
        same_reference = g;
        same_length = ap length m ∙ put-length d s.at (indent level ++ line) r;
        laid = record { next = e ∙ l; text = λ _. m };
      }

  pub lays_past : length s.out.now < s.at + 2 * level + length line → t.out ≡ s.out → Lays s t (indent level ++ line)
  lays_past h q =
      let l : s.at + 2 * level + length line ≡ s.at + length (indent level ++ line) = lay_long s.at level line in
      record {
        same_reference = ap (λ (o : MutBor (List ℕ)). o.ghost_name) q;
        same_length = ap (λ (o : MutBor (List ℕ)). length o.now) q;
        laid = record { next = e ∙ l; text = λ r. absurd (omega (arith, h, l, r)) };
      }

-- ---- the start of a line

-- the figure of an arm's bit
pub sign : (b : Bool) → 48 + bool_byte b ≡ trit (bit b)
sign false = refl
sign true = refl

pub head_is : (t b : ℕ) → arm_head 0 t b ≡ net t ++ ((byte " " ∷ byte "=" ∷ byte " " ∷ []) ++ ((trit b ∷ []) ++ arrow))
unfolding arm_head indent bytes
head_is t b = refl

pub head_long : (t b : ℕ) → length (arm_head 0 t b) ≡ length (net t) + 7
head_long t b = ap length (head_is t b) ∙ simp length-append (omega arith)

pub head_few : (t b : ℕ) → length (arm_head 0 t b) ≤ head_max
head_few t b = omega (arith, head_long t b, net-few t)

head_in : (level t b : ℕ) → arm_head level t b ≡ indent level ++ arm_head 0 t b
unfolding arm_head indent
head_in level t b = refl

pub branch_is : (level t b : ℕ) → branch_line level t b ≡ indent level ++ (arm_head 0 t b ++ (LF ∷ []))
branch_is level t b = ap (λ (l : List ℕ). l ++ (LF ∷ [])) (head_in level t b) ∙ append_assoc (indent level) (arm_head 0 t b) (LF ∷ [])

pub branch_long : (level t b : ℕ) → length (branch_line level t b) ≡ 2 * level + (length (arm_head 0 t b) + 1)
branch_long level t b = ap length (branch_is level t b) ∙ simp length-append (omega (arith, indent_long level))

-- ---- a leaf's line

pub arm_empty : (level t b : ℕ) (rs : List ℕ) → length rs ≡ 0 → arm level t b (leaf rs) ≡ []
unfolding arm
arm_empty level t b [] h = refl
arm_empty level t b (r ∷ rs) h = absurd (omega arith)

pub arm_leaf : (level t b : ℕ) (rs : List ℕ) → (length rs ≡ 0 → ⊥) → arm level t b (leaf rs) ≡ indent level ++ (arm_head 0 t b ++ rule_end rs)
unfolding arm
arm_leaf level t b [] h = absurd (h refl)
arm_leaf level t b (r ∷ rs) h =
    ap (λ (l : List ℕ). l ++ rule_end (r ∷ rs)) (head_in level t b) ∙ append_assoc (indent level) (arm_head 0 t b) (rule_end (r ∷ rs))

abbrev pub stem : List ℕ
stem = byte "=" ∷ byte ">" ∷ []

pub root_line : (rs : List ℕ) → printed_tree (leaf rs) ≡ indent 0 ++ (stem ++ rule_end rs)
unfolding bytes indent printed_tree
root_line rs = refl

pub end_long : (rs : List ℕ) → length (rule_end rs) ≡ length (rule_text rs) + 1
end_long rs = length-append (rule_text rs) (LF ∷ [])

pub end_few : (rs : List ℕ) → length rs ≤ rules_max → length (rule_end rs) ≤ rules_long + 1
end_few rs h = omega (arith, end_long rs, rules-few rs h)

-- ---- the rules of a leaf

pub last_long : (xs : List ℕ) (n : ℕ) → LeafFits xs n → length (last_rules xs n) ≡ n
unfolding last_rules
last_long xs n h =
    let s : ℕ = length xs - node_run + 1 in
    let d : n ≤ length (drop s xs) = omega (arith, length-drop s xs, h.long, h.few) in
    length-map (take n (drop s xs)) cell ∙ length-take-le n (drop s xs) d

-- the part of the store that they are read from
pub last_is : (xs : List ℕ) (n : ℕ) → map cell (take (length xs - node_run + 1 + n - (length xs - node_run + 1)) (drop (length xs - node_run + 1) xs)) ≡ last_rules xs n
unfolding last_rules
last_is xs n =
    let i : length xs - node_run + 1 + n - (length xs - node_run + 1) ≡ n = omega arith in
    ap (λ (k : ℕ). map cell (take k (drop (length xs - node_run + 1) xs))) i

pub cell_at_lem : (l : List ℕ) (i : ℕ) → i < length l → 3 + get_or l i 0 ≡ get_or (map cell l) i 0
cell_at_lem [] i h = absurd (omega arith)
cell_at_lem (x ∷ l) zero h = refl
cell_at_lem (x ∷ l) (suc i) h = cell_at_lem l i (omega arith)

pub cell-low : (l : List ℕ) (i : ℕ) → all_low (map cell l) ≡ true → i < length l → 3 + get_or l i 0 < first_mux
cell-low l i h k = omega (arith, cell_at_lem l i k, low-at (map cell l) i h (omega (arith, length-map l cell)))

pub cells-few : (xs : List ℕ) (n : ℕ) → LeafFits xs n → length (take (length xs - node_run + 1 + n - (length xs - node_run + 1)) (drop (length xs - node_run + 1) xs)) ≤ rules_max
cells-few xs n h =
    let s : ℕ = length xs - node_run + 1 in
    let l = length-map (take (s + n - s) (drop s xs)) cell in
    omega (arith, l, ap length (last_is xs n), last_long xs n h, h.few)

-- a leaf's nets, from the array that they were written into
pub nets_taken : (l v : List ℕ) → length l ≤ rules_max → v ≡ vec rules_max 0 (map cell l) → take (length l) v ≡ map cell l
nets_taken l v f e =
    let n = length-map l cell in
    ap (λ (k : ℕ). take k v) (sym n) ∙ ap (take (length (map cell l))) e ∙ take-vec rules_max 0 (map cell l) (omega (arith, n, f))
