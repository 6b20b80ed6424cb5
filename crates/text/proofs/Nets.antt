-- Nets taken one after the other: the loop that does it, and what printed nets give. Assumes nothing.
use Prim.Native.Nat.{ℕ, zero, suc, ◌+◌, ◌-◌, ◌*◌, ◌≤◌, ◌<◌}
use borrow.Author.Tests.{le-leb, lt-leb}
use lib.ListN.{drop, get_or, length, length-append, length-set, set}
use lib.Seq.{drop-cons, get_or-append-add, set_at}
use mathlib.Core.Bool.{Bool, true, not}
use mathlib.Core.List.{List, [], ◌∷◌, ◌++◌, append_assoc, append-nil}
use mathlib.Core.Path.{◌≡◌, refl, sym, ap, ◌∙◌, subst}
use native.Mathlib.Numerals.{add-one}
use native.Mathlib.Omega.{arith}
use Rattle.lists.specs.Bools.{and_both, and_left, and_right}
use Rattle.lists.specs.Lists.{all}
use Rattle.rules.proofs.Accepts.{not_over}
use Rattle.rules.proofs.Digits.{net-cell}
use Rattle.rules.proofs.Longest.{net_long}
use Rattle.rules.specs.Bytes.{byte}
use Rattle.rules.specs.Nets.{cell, first_mux, is_cell, number, over}
use Rattle.rules.specs.Print.{digits, net, nets}
use Rattle.text.proofs.Scans.{Fine, NoFigure, cell-printed, word_fine}
use Rattle.std.proofs.Common.{Option, Some, None}
use Rattle.text.specs.Scan.{cell_at, figure_of, scanned, word_at}
use Rattle.text.specs.declared.inner.scan.Word.{Word}

-- ---- one turn

module _ (k : ℕ) (s : List ℕ) (at : ℕ) where
  pub scan_stop : word_at s at ≡ None → scanned k s at ≡ []
  unfolding scanned
  scan_stop e = go k
    where
      go : (j : ℕ) → scanned j s at ≡ []
      go zero = refl
      go (suc j) = rw (e, scanned)

  pub scan_on : (w : Word) → word_at s at ≡ Some w → scanned (suc k) s at ≡ w.code ∷ scanned k s (at + w.len)
  unfolding scanned
  scan_on w e = rw (e, scanned)

-- ---- the loop: the nets so far, and how they join with those still to come

pub record Sofar (s : List ℕ) (at : ℕ) (out₀ out : List ℕ) (k a : ℕ) : Type 0 where
  pub list : List ℕ
  pub array : out ≡ list ++ drop k out₀
  pub count : k ≡ length list
  pub joins : list ++ scanned (length out₀ - k) s a ≡ scanned (length out₀) s at
  pub few : k ≤ length out₀
  pub near : a ≤ at + net_long * k
  pub long : length out ≡ length out₀

pub sofar_none : (s : List ℕ) (at : ℕ) (out : List ℕ) → Sofar s at out out 0 at
sofar_none s at out =
    let z : length out - 0 ≡ length out = omega arith in
    record { list = []; array = refl; count = refl; joins = ap (λ (n : ℕ). scanned n s at) z; few = omega arith; near = omega arith; long = refl }

module _ (s : List ℕ) (at : ℕ) (out₀ out : List ℕ) (k a : ℕ) (f : Sofar s at out₀ out k a) where
  done : f.list ≡ scanned (length out₀) s at → (out ≡ scanned (length out₀) s at ++ drop k out₀) × (k ≡ length (scanned (length out₀) s at))
  done e = (f.array ∙ ap (λ (l : List ℕ). l ++ drop k out₀) e, f.count ∙ ap length e)

  pub sofar_stop : word_at s a ≡ None → (out ≡ scanned (length out₀) s at ++ drop k out₀) × (k ≡ length (scanned (length out₀) s at))
  sofar_stop e = done (sym (append-nil f.list) ∙ ap (λ (l : List ℕ). f.list ++ l) (sym (scan_stop (length out₀ - k) s a e)) ∙ f.joins)

  pub sofar_full : length out ≤ k → (out ≡ scanned (length out₀) s at ++ drop k out₀) × (k ≡ length (scanned (length out₀) s at))
  unfolding scanned
  sofar_full h =
      let z : length out₀ - k ≡ 0 = omega (arith, f.long) in
      done (sym (append-nil f.list) ∙ ap (λ (n : ℕ). f.list ++ scanned n s a) (sym z) ∙ f.joins)

  pub sofar_more : k < length out → (w : Word) → word_at s a ≡ Some w → Sofar s at out₀ (set out k w.code) (k + 1) (a + w.len)
  sofar_more h w e =
      let x = w.code in
      let fine : Fine (Some w) = subst Fine e (word_fine s a) in
      let l = f.list in
      let g : k < length out₀ = omega (arith, f.long) in
      let left : length out₀ - k ≡ suc (length out₀ - (k + 1)) = omega arith in
      let d : drop k out₀ ≡ get_or out₀ k 0 ∷ drop (k + 1) out₀ = rw add-one (drop-cons out₀ k 0 g) in
      let p : set out k x ≡ (l ++ (x ∷ [])) ++ drop (k + 1) out₀ =
      ap (λ (u : List ℕ). set u k x) (f.array ∙ ap (λ (u : List ℕ). l ++ u) d) ∙ set_at l (get_or out₀ k 0) (drop (k + 1) out₀) x k (sym f.count) ∙ sym (append_assoc l (x ∷ []) (drop (k + 1) out₀)) in
      let n : k + 1 ≡ length (l ++ (x ∷ [])) = omega (arith, length-append l (x ∷ []), f.count) in
      record {
        list = l ++ (x ∷ []);
        array = p;
        count = n;
        joins = append_assoc l (x ∷ []) (scanned (length out₀ - (k + 1)) s (a + w.len))
            ∙ ap (λ (u : List ℕ). l ++ u) (sym (scan_on (length out₀ - (k + 1)) s a w e)) ∙ ap (λ (j : ℕ). l ++ scanned j s a) (sym left) ∙ f.joins;
        few = omega arith;
        near = omega (arith, fine.1, f.near);
        long = length-set out k x ∙ f.long;
      }

-- ---- whatever stands there

-- by cases on what stands there
by_word : {P : Type 0} (o : Option Word) → (o ≡ None → P) → ((w : Word) → o ≡ Some w → P) → P
by_word None f g = f refl
by_word (Some w) f g = g w refl

abbrev low : ℕ → Bool
low n = not (over n)

pub scan_low : (k : ℕ) (s : List ℕ) (at : ℕ) → all (λ (n : ℕ). not (over n)) (scanned k s at) ≡ true
unfolding scanned
scan_low zero s at = refl
scan_low (suc k) s at =
    by_word (word_at s at)
    (λ e. ap (all low) (scan_stop (suc k) s at e))
    (λ w e. let fine : Fine (Some w) = subst Fine e (word_fine s at) in
    ap (all low) (scan_on k s at w e)
    ∙ and_both (low w.code) (all low (scanned k s (at + w.len))) (ap not (lt-leb first_mux w.code fine.0)) (scan_low k s (at + w.len)))

pub scan_few : (k : ℕ) (s : List ℕ) (at : ℕ) → length (scanned k s at) ≤ k
unfolding scanned
scan_few zero s at = omega arith
scan_few (suc k) s at =
    by_word (word_at s at)
    (λ e. omega (arith, ap length (scan_stop (suc k) s at e)))
    (λ w e. omega (arith, scan_few k s (at + w.len), ap length (scan_on k s at w e)))

-- ---- printed nets

-- a text in which no net stands in front
abbrev pub Shut : List ℕ → Type 0
Shut t = word_at t 0 ≡ None

pub word_front : (p t : List ℕ) → word_at (p ++ t) (length p) ≡ word_at t 0
unfolding word_at cell_at
word_front p t =
    let l : length p ≡ length p + 0 = omega arith in
    let g : (k : ℕ) → get_or (p ++ t) (length p + k) 0 ≡ get_or t k 0 = λ k. get_or-append-add p t k 0 in
    let g0 : get_or (p ++ t) (length p) 0 ≡ get_or t 0 0 = ap (λ (j : ℕ). get_or (p ++ t) j 0) l ∙ g 0 in
    let i3 : length p + 2 + 1 ≡ length p + 3 = omega arith in
    let i4 : length p + 2 + 2 ≡ length p + 4 = omega arith in
    let i5 : length p + 2 + 3 ≡ length p + 5 = omega arith in
    rw (i3, i4, i5, g0, g 1, g 2, g 3, g 4, g 5)

pub word_printed : (n : ℕ) (t : List ℕ) → n < first_mux → NoFigure t → word_at ((byte " " ∷ net n) ++ t) 0 ≡ Some (record { code = n; len = suc (length (net n)) })
unfolding net word_at
word_printed zero t h f = refl
word_printed (suc zero) t h f = refl
word_printed (suc (suc zero)) t h f = refl
word_printed (suc (suc (suc k))) t h f =
    let n = suc (suc (suc k)) in
    let c : is_cell n ≡ true = le-leb 3 n (omega arith) in
    let e : cell (number n) ≡ n = omega arith in
    let m : net n ≡ byte "%" ∷ digits (number n) = net-cell n c in
    let b = sym m in
    ap (λ (l : List ℕ). word_at ((byte " " ∷ l) ++ t) 0) m
    ∙ cell-printed (number n) t f (omega arith)
    ∙ (λ i. Some (record { code = e i; len = suc (length (b i)) }))

-- no figure follows a net: the next starts with a space
no_figure : (ns t : List ℕ) → NoFigure t → NoFigure (nets ns ++ t)
unfolding nets figure_of
no_figure [] t f = f
no_figure (n ∷ ns) t f = refl

pub scan_printed : (k : ℕ) (p ns t : List ℕ) → length ns ≤ k → all (λ (n : ℕ). not (over n)) ns ≡ true → NoFigure t → Shut t → scanned k (p ++ (nets ns ++ t)) (length p) ≡ ns
unfolding nets
scan_printed k p [] t h a f z = scan_stop k (p ++ t) (length p) (word_front p t ∙ z)
scan_printed zero p (n ∷ ns) t h a f z = absurd (omega arith)
scan_printed (suc k) p (n ∷ ns) t h a f z =
    let low = and_left (not (over n)) (all (λ (j : ℕ). not (over j)) ns) a in
    let piece = byte " " ∷ net n in
    let rest = nets ns ++ t in
    let q = p ++ piece in
    let s = p ++ ((piece ++ nets ns) ++ t) in
    let e : s ≡ p ++ (piece ++ rest) = ap (λ (l : List ℕ). p ++ l) (append_assoc piece (nets ns) t) in
    let d : s ≡ q ++ rest = e ∙ sym (append_assoc p piece rest) in
    let l : length p + suc (length (net n)) ≡ length q = omega (arith, length-append p piece) in
    let w : word_at s (length p) ≡ Some (record { code = n; len = suc (length (net n)) }) =
    ap (λ (u : List ℕ). word_at u (length p)) e ∙ word_front p (piece ++ rest) ∙ word_printed n rest (not_over n low) (no_figure ns t f) in
    let r : scanned k (q ++ rest) (length q) ≡ ns = scan_printed k q ns t (omega arith) (and_right (not (over n)) (all (λ (j : ℕ). not (over j)) ns) a) f z in
    scan_on k s (length p) (record { code = n; len = suc (length (net n)) }) w
    ∙ ap (λ (j : ℕ). n ∷ scanned k s j) l
    ∙ ap (λ (u : List ℕ). n ∷ scanned k u (length q)) d
    ∙ ap (λ (u : List ℕ). n ∷ u) r
