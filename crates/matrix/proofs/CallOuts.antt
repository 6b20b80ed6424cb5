-- All rules of all rows as one set, from the last row to the first: how long it gets, and what a turn adds. Assumes nothing.
use borrow.Author.Tests.{leb-true, ne_eqb}
use Rattle.std.proofs.Common.{◌≡◌, ◌∙◌, ◌*◌, ◌+◌, ◌<◌, ◌≤◌, ap, append_assoc, arith, leb, length, length-append, length-take, List, [], ◌∷◌, ◌++◌, map, refl, sym, take, true, ℕ}
use Rattle.std.proofs.lemmas.List.{append-nil, nil_from_length}
use Rattle.std.specs.List.{push}
use Rattle.lists.specs.Bools.{and_left, and_right}
use Rattle.lists.specs.Lists.{all}
use Rattle.lists.specs.Vec.{vec}
use Rattle.matrix.proofs.Calls.{number-some}
use Rattle.matrix.proofs.Checks.{all-given, rows_viewed}
use Rattle.matrix.proofs.Tidies.{is_not}
use Rattle.matrix.specs.declared.Matrix.{Matrix}
use Rattle.matrix.specs.declared.Outputs.{Outputs}
use Rattle.matrix.specs.Faults.{few, Fits}
use Rattle.matrix.specs.Mat.{view}
use Rattle.matrix.specs.Outs.{outputs_from}
use Rattle.rows.specs.declared.Row.{Row}
use Rattle.rows.specs.Rows as rows
use Rattle.rules.specs.Bounds.{outputs_max, rows_max, rules_max}
use Rattle.rules.specs.declared.refusal.Refusal.{Refusal}
use Rattle.rules.specs.Given.{GivenRow}
use Rattle.rules.specs.Matrix.{outputs, outputs_of, Row as RowOf}
use Rattle.rules.specs.Refuse.{done, or_refused, refused}
use Rattle.rules.specs.Refused.{number_of}
use Rattle.sets.proofs.Unions.{Holds, holds_end, holds_slots, holds_start, holds_turn, holds-room, union-length}
use Rattle.sets.specs.Insert.{Inserted}
use Rattle.sets.specs.Sets.{list_of}

pub outputs_path : (r s : Outputs) → r.no ≡ s.no → r.nets ≡ s.nets → r.count ≡ s.count → r ≡ s
outputs_path r s p q u = λ i. record { no = p i; nets = q i; count = u i }

-- ---- the rows, from the last to the first: `left` are still to come, and the nets are those of the others

outputs-length : (rs : List Row) → all few rs ≡ true → length (outputs_of (map rows.view rs)) ≤ rules_max * length rs
unfolding outputs_of
outputs-length [] e = omega arith
outputs-length (r ∷ rs) e =
    let k = outputs-length rs (and_right (few r) (all few rs) e) in
    let h = leb-true r.rules.count rules_max (and_left (few r) (all few rs) e) in
    omega (arith, union-length (list_of r.rules) (outputs_of (map rows.view rs)), length-take r.rules.count r.rules.items)

few_after : (xs ys : List Row) → all few (xs ++ ys) ≡ true → all few ys ≡ true
few_after [] ys e = e
few_after (x ∷ xs) ys e = few_after xs ys (and_right (few x) (all few (xs ++ ys)) e)

pub record Gathers (used left : List Row) (nets : List ℕ) (count : ℕ) : Type 0 where
  pub taken : List Row
  pub parts : used ≡ left ++ taken
  pub array : nets ≡ vec outputs_max 0 (outputs_of (map rows.view taken))
  pub number : count ≡ length (outputs_of (map rows.view taken))

-- within a row of these rules, of which `more` are still to come
pub record Within (used left : List Row) (rules more nets : List ℕ) (count : ℕ) : Type 0 where
  pub taken : List Row
  pub row : Row
  pub parts : used ≡ left ++ row ∷ taken
  pub named : rules ≡ list_of row.rules
  pub holds : Holds outputs_max rules (outputs_of (map rows.view taken)) more nets count

pub gathers_start : (used left : List Row) (nets : List ℕ) → left ≡ used → nets ≡ vec outputs_max 0 [] → Gathers used left nets 0
unfolding outputs_of
gathers_start used left nets p e = record { taken = []; parts = rw p (sym (append-nil used)); array = e; number = refl }

pub within_start : (used left next : List Row) (row : Row) (rules more nets : List ℕ) (c : ℕ) → Gathers used left nets c → left ≡ push next row → rules ≡ list_of row.rules → more ≡ rules
    → Within used next rules more nets c
within_start used left next row rules more nets c g p n f =
    record {
      taken = g.taken;
      row = row;
      parts = g.parts ∙ rw p (append_assoc next (row ∷ []) g.taken);
      named = n;
      holds = holds_start outputs_max rules (outputs_of (map rows.view g.taken)) more nets c f g.array g.number;
    }

module _ (used left : List Row) (rules more nets : List ℕ) (c : ℕ) (w : Within used left rules more nets c) where
  pub within_turn : (next w₁ : List ℕ) (y r : ℕ) → more ≡ push next y → Inserted nets c y w₁ r → Within used left rules next w₁ r
  within_turn next w₁ y r p f = record { taken = w.taken; row = w.row; parts = w.parts; named = w.named; holds = holds_turn _ _ _ _ _ _ w.holds next w₁ y r p f }

  pub within_end : length more ≡ 0 → Gathers used left nets c
  unfolding outputs_of
  within_end z =
      let e = holds_end _ _ _ _ _ _ w.holds z in
      record { taken = w.row ∷ w.taken; parts = w.parts; array = rw (← w.named) e.0; number = rw (← w.named) e.1 }

  -- there is room as long as a rule is left
  pub within-room : (next : List ℕ) (y : ℕ) → more ≡ push next y → all few used ≡ true → length used ≤ rows_max → c < length nets
  within-room next y p e k =
      let t = few_after left (w.row ∷ w.taken) (ap (all few) (sym w.parts) ∙ e) in
      let h = leb-true w.row.rules.count rules_max (and_left (few w.row) (all few w.taken) t) in
      let a = outputs-length w.taken (and_right (few w.row) (all few w.taken) t) in
      let b : length used ≡ length left + length (w.row ∷ w.taken) = ap (λ (l : List Row). length l) w.parts ∙ length-append left (w.row ∷ w.taken) in
      let d : length rules ≤ rules_max = rw (w.named, length-take w.row.rules.count w.row.rules.items) (omega arith) in
      let o : length more ≡ length next + 1 = ap (λ (l : List ℕ). length l) p ∙ length-append next (y ∷ []) in
      omega (arith, holds-room _ _ _ _ _ _ w.holds, holds_slots _ _ _ _ _ _ w.holds)

-- no row has too many rules
pub fits-few : (m : Matrix) → Fits m → all few (take m.count m.rows) ≡ true
fits-few m f = sym (all-given (λ (r : GivenRow). leb r.count rules_max) m) ∙ is_not _ f.rules

pub gathers_end : (m : Matrix) (left : List Row) (nets : List ℕ) (c : ℕ) → Gathers (take m.count m.rows) left nets c → length left ≡ 0
    → record { no = 0; nets = nets; count = c } ≡ outputs_from (done (outputs (view m)))
gathers_end m left nets c g z =
    let e : take m.count m.rows ≡ g.taken = g.parts ∙ ap (λ (l : List Row). l ++ g.taken) (nil_from_length left z) in
    let r : map rows.view g.taken ≡ (view m).rows = ap (map rows.view) (sym e) ∙ sym (rows_viewed m) in
    outputs_path _ _ refl (g.array ∙ ap (λ (rs : List RowOf). vec outputs_max 0 (outputs_of rs)) r) (g.number ∙ ap (λ (rs : List RowOf). length (outputs_of rs)) r)

-- ---- the answer

pub outs_refused : (why : Refusal) (r : ℕ) (l : List ℕ) (x : Outputs) → number_of why ≡ r → x ≡ outputs_from (refused (number_of why)) → x ≡ outputs_from (or_refused r l)
outs_refused why r l x e q = rw (← e, ne_eqb (number_of why) 0 (number-some why)) q

pub outs_done : (r : ℕ) (l : List ℕ) (x : Outputs) → 0 ≡ r → x ≡ outputs_from (done l) → x ≡ outputs_from (or_refused r l)
outs_done r l x e q = rw (← e) q
