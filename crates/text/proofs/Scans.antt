-- The loose readers of nets: what a net's text gives, and what any text gives at most. Assumes nothing.
use Prim.Native.Nat.{ℕ, suc, ◌+◌, ◌-◌, ◌*◌, ◌/◌, ◌%◌, ◌≤◌, ◌<◌}
use borrow.Author.Tests.{eq-eqb, le-ltb, lt-ltb, ltb-false, ne_eqb}
use lib.Dec.{eqb, ltb}
use lib.ListN.{get_or, length}
use mathlib.Core.List.{List, ◌∷◌, ◌++◌}
use mathlib.Core.Path.{◌≡◌, sym, ap, ◌∙◌}
use native.Mathlib.Omega.{arith}
use Rattle.lists.specs.Bools.{by_bool}
use Rattle.rules.proofs.Digits.{by_order, digits_1, digits_2, digits_3, digits_4}
use Rattle.rules.proofs.Longest.{net_long}
use Rattle.rules.specs.Bounds.{mux_first}
use Rattle.rules.specs.Bytes.{byte}
use Rattle.rules.specs.Nets.{cell, first_mux}
use Rattle.rules.specs.Print.{digit, digits}
use Rattle.std.proofs.Common.{Option, Some, None}
use Rattle.std.proofs.lemmas.Option.{unwrap_or-slice_get}
use Rattle.std.specs.List.{slice_get}
use Rattle.std.specs.Option.{unwrap_or}
use Rattle.text.specs.Scan.{cell_at, cell_of, figure_of, word_at}
use Rattle.text.specs.declared.inner.scan.Word.{Word}

-- ---- a place in a line

-- what is read there, as a byte, and 0 past the end
pub read_some : (s : List ℕ) (at b : ℕ) → slice_get s at ≡ Some b → get_or s at 0 ≡ b
read_some s at b e = sym (unwrap_or-slice_get s at 0) ∙ ap (λ (o : Option ℕ). unwrap_or o 0) e

pub read_none : (s : List ℕ) (at : ℕ) → slice_get s at ≡ None → get_or s at 0 ≡ 0
read_none s at e = sym (unwrap_or-slice_get s at 0) ∙ ap (λ (o : Option ℕ). unwrap_or o 0) e

-- ---- figures

pub figure_some : (b : ℕ) → byte "0" ≤ b → b ≤ byte "9" → Some (b - byte "0") ≡ figure_of b
unfolding figure_of
figure_some b h k = rw (le-ltb b (byte "0") h, le-ltb (byte "9") b k)

pub figure_under : (b : ℕ) → b < byte "0" → None ≡ figure_of b
unfolding figure_of
figure_under b h = rw (lt-ltb b (byte "0") h)

pub figure_over : (b : ℕ) → byte "9" < b → None ≡ figure_of b
unfolding figure_of
figure_over b h = let k : byte "0" ≤ b = omega arith in rw (le-ltb b (byte "0") k, lt-ltb (byte "9") b h)

figure_digit : (n : ℕ) → figure_of (digit n) ≡ Some (n % 10)
figure_digit n = let e : digit n - byte "0" ≡ n % 10 = omega arith in sym (figure_some (digit n) (omega arith) (omega arith)) ∙ ap Some e

-- a text that starts with no figure
abbrev pub NoFigure : List ℕ → Type 0
NoFigure t = figure_of (get_or t 0 0) ≡ None

-- under 10, if it is a figure
abbrev Low : Option ℕ → Type 0
Low None = Unit {0}
Low (Some n) = n < 10

figure_low : (b : ℕ) → Low (figure_of b)
unfolding figure_of
figure_low b =
    by_bool (ltb b (byte "0"))
    (λ p. rw p tt)
    (λ p. by_bool (ltb (byte "9") b)
    (λ q. rw (p, q) tt)
    (λ q. let h = ltb-false (byte "9") b q in rw (p, q) (omega arith)))

-- ---- a net's word: its code is no mux's, and it is no longer than a net

abbrev pub Fine : Option Word → Type 0
Fine None = Unit {0}
Fine (Some w) = (w.code < first_mux) × (w.len ≤ net_long)

cell_fine : (a b c d : Option ℕ) → Low a → Low b → Low c → Low d → Fine (cell_of a b c d)
cell_fine None b c d h i j k = tt
cell_fine (Some a) None c d h i j k = (omega arith, omega arith)
cell_fine (Some a) (Some b) None d h i j k = (omega arith, omega arith)
cell_fine (Some a) (Some b) (Some c) None h i j k = (omega arith, omega arith)
cell_fine (Some a) (Some b) (Some c) (Some d) h i j k = (omega arith, omega arith)

pub word_fine : (s : List ℕ) (at : ℕ) → Fine (word_at s at)
unfolding word_at cell_at
word_fine s at =
    let l = cell_fine (figure_of (get_or s (at + 2) 0)) (figure_of (get_or s (at + 2 + 1) 0)) (figure_of (get_or s (at + 2 + 2) 0)) (figure_of (get_or s (at + 2 + 3) 0)) (figure_low (get_or s (at + 2) 0)) (figure_low (get_or s (at + 2 + 1) 0)) (figure_low (get_or s (at + 2 + 2) 0)) (figure_low (get_or s (at + 2 + 3) 0)) in
    by_bool (eqb (get_or s at 0) (byte " "))
    (λ p. rw p (by_bool (eqb (get_or s (at + 1) 0) (byte "%")) (λ q. rw q l)
    (λ q. rw q (by_bool (eqb (get_or s (at + 1) 0) (byte "0")) (λ r. rw r (omega arith, omega arith))
    (λ r. rw r (by_bool (eqb (get_or s (at + 1) 0) (byte "1")) (λ u. rw u (omega arith, omega arith))
    (λ u. rw u (by_bool (eqb (get_or s (at + 1) 0) (byte "X")) (λ v. rw v (omega arith, omega arith)) (λ v. rw v tt)))))))))
    (λ p. rw p tt)

-- ---- the cell of its figures, as they are found one by one

module _ (s : List ℕ) (at : ℕ) where
  abbrev at0 : Option ℕ
  at0 = figure_of (get_or s at 0)

  abbrev at1 : Option ℕ
  at1 = figure_of (get_or s (at + 1) 0)

  abbrev at2 : Option ℕ
  at2 = figure_of (get_or s (at + 2) 0)

  abbrev at3 : Option ℕ
  at3 = figure_of (get_or s (at + 3) 0)

  pub cell_none : None ≡ at0 → None ≡ cell_at s at
  unfolding cell_at
  cell_none e = ap (λ (o : Option ℕ). cell_of o at1 at2 at3) e

  module _ (a : ℕ) (ea : Some a ≡ at0) where
    pub cell_is_1 : None ≡ at1 → Some (record { code = 3 + a; len = 3 }) ≡ cell_at s at
    unfolding cell_at
    cell_is_1 e = rw (← ea, ← e)

    module _ (b : ℕ) (eb : Some b ≡ at1) where
      pub cell_is_2 : None ≡ at2 → Some (record { code = 3 + (a * 10 + b); len = 4 }) ≡ cell_at s at
      unfolding cell_at
      cell_is_2 e = rw (← ea, ← eb, ← e)

      module _ (c : ℕ) (ec : Some c ≡ at2) where
        pub cell_is_3 : None ≡ at3 → Some (record { code = 3 + (a * 100 + b * 10 + c); len = 5 }) ≡ cell_at s at
        unfolding cell_at
        cell_is_3 e = rw (← ea, ← eb, ← ec, ← e)

        pub cell_is_4 : (d : ℕ) → Some d ≡ at3 → Some (record { code = 3 + (a * 1000 + b * 100 + c * 10 + d); len = 6 }) ≡ cell_at s at
        unfolding cell_at
        cell_is_4 d e = rw (← ea, ← eb, ← ec, ← e)

-- ---- a space and a net

module _ (s : List ℕ) (at b : ℕ) (eb : get_or s at 0 ≡ b) where
  pub word_none : (b ≡ byte " " → ⊥) → None ≡ word_at s at
  unfolding word_at
  word_none h = rw (eb, ne_eqb b (byte " ") h)

  module _ (h : b ≡ byte " ") (d : ℕ) (ed : get_or s (at + 1) 0 ≡ d) where
    pub word_cell : d ≡ byte "%" → cell_at s (at + 2) ≡ word_at s at
    unfolding word_at
    word_cell e = rw (eb, ed, eq-eqb b (byte " ") h, eq-eqb d (byte "%") e)

    pub word_0 : d ≡ byte "0" → Some (record { code = 0; len = 2 }) ≡ word_at s at
    unfolding word_at
    word_0 e = rw (eb, ed, eq-eqb b (byte " ") h, e)

    pub word_1 : d ≡ byte "1" → Some (record { code = 1; len = 2 }) ≡ word_at s at
    unfolding word_at
    word_1 e = rw (eb, ed, eq-eqb b (byte " ") h, e)

    pub word_x : d ≡ byte "X" → Some (record { code = 2; len = 2 }) ≡ word_at s at
    unfolding word_at
    word_x e = rw (eb, ed, eq-eqb b (byte " ") h, e)

    pub word_no : (d ≡ byte "%" → ⊥) → (d ≡ byte "0" → ⊥) → (d ≡ byte "1" → ⊥) → (d ≡ byte "X" → ⊥) → None ≡ word_at s at
    unfolding word_at
    word_no p q r t = rw (eb, ed, eq-eqb b (byte " ") h, ne_eqb d (byte "%") p, ne_eqb d (byte "0") q, ne_eqb d (byte "1") r, ne_eqb d (byte "X") t)

-- ---- the figures of a printed number

module _ (n : ℕ) (t : List ℕ) (f : NoFigure t) where
  printed_1 : n < 10 → cell_at (byte " " ∷ byte "%" ∷ digit n ∷ t) 2 ≡ Some (record { code = cell n; len = 3 })
  unfolding cell_at
  printed_1 h =
      let e : n % 10 ≡ n = omega arith in
      rw (figure_digit n, f) (ap (λ (x : ℕ). Some (record { code = cell x; len = 3 })) e)

  printed_2 : n < 100 → cell_at (byte " " ∷ byte "%" ∷ digit (n / 10) ∷ digit n ∷ t) 2 ≡ Some (record { code = cell n; len = 4 })
  unfolding cell_at
  printed_2 h =
      let e : n / 10 % 10 * 10 + n % 10 ≡ n = omega arith in
      rw (figure_digit (n / 10), figure_digit n, f) (ap (λ (x : ℕ). Some (record { code = cell x; len = 4 })) e)

  printed_3 : n < 1000 → cell_at (byte " " ∷ byte "%" ∷ digit (n / 100) ∷ digit (n / 10) ∷ digit n ∷ t) 2 ≡ Some (record { code = cell n; len = 5 })
  unfolding cell_at
  printed_3 h =
      let p : n / 10 ≡ 10 * (n / 100) + n / 10 % 10 = omega arith in
      let q : n / 100 % 10 ≡ n / 100 = omega arith in
      let e : n / 100 % 10 * 100 + n / 10 % 10 * 10 + n % 10 ≡ n = omega arith in
      rw (figure_digit (n / 100), figure_digit (n / 10), figure_digit n, f) (ap (λ (x : ℕ). Some (record { code = cell x; len = 5 })) e)

  printed_4 : n < mux_first → cell_at (byte " " ∷ byte "%" ∷ digit (n / 1000) ∷ digit (n / 100) ∷ digit (n / 10) ∷ digit n ∷ t) 2 ≡ Some (record { code = cell n; len = 6 })
  unfolding cell_at
  printed_4 h =
      let p : n / 10 ≡ 10 * (n / 100) + n / 10 % 10 = omega arith in
      let q : n / 100 ≡ 10 * (n / 1000) + n / 100 % 10 = omega arith in
      let r : n / 1000 % 10 ≡ n / 1000 = omega arith in
      let e : n / 1000 % 10 * 1000 + n / 100 % 10 * 100 + n / 10 % 10 * 10 + n % 10 ≡ n = omega arith in
      rw (figure_digit (n / 1000), figure_digit (n / 100), figure_digit (n / 10), figure_digit n) (ap (λ (x : ℕ). Some (record { code = cell x; len = 6 })) e)

  pub cell-printed : n < mux_first → cell_at (byte " " ∷ byte "%" ∷ (digits n ++ t)) 2 ≡ Some (record { code = cell n; len = suc (suc (length (digits n))) })
  cell-printed h =
      by_order n 10
      (λ l. rw (digits_1 n l) (printed_1 l))
      (λ l. by_order n 100
      (λ k. rw (digits_2 n l k) (printed_2 k))
      (λ k. by_order n 1000
      (λ j. rw (digits_3 n k j) (printed_3 j))
      (λ j. rw (digits_4 n j) (printed_4 h))))
