-- `is_sorted_by` over a chain that gives the cells: whether they ascend. Assumes nothing.
use Rattle.std.proofs.Common.{arith, ◌≡◌, ◌∙◌, ap, subst, sym, refl, Bool, true, false, ◌&&◌, List, [], ◌∷◌, ltb, leb, ℕ, Option, Some, None, MatchOption, inl, inr, Bor}
use borrow.Author.Tests.{leb-true, lt-ltb}
use denote.Param.Members.{Mut}
use Rattle.lists.specs.Bools.{by_bool}
use Rattle.rules.specs.Given.{above, ascends, cells}
use Rattle.rules.specs.Nets.{is_cell}
use Rattle.std.proofs.lemmas.Iterator.{YieldsList}
use Rattle.std.specs.Fn.{CalledAtTwo}
use Rattle.std.specs.Iterator.{AlwaysYields, YieldsThen}
use Rattle.std.specs.Iterator.Order.{ChecksNeighbours, OrderTurn}
use Rattle.std.specs.List.{filter, FoldsTo}

pub filter_cells : (l : List ℕ) → filter (λ (x : ℕ). leb 3 x) l ≡ cells l
unfolding cells
filter_cells [] = refl
filter_cells (x ∷ l) =
    by_bool (is_cell x)
    (λ e. rw e (ap (λ (r : List ℕ). x ∷ r) (filter_cells l)))
    (λ e. rw e (filter_cells l))

-- a cell is above 2, so that the first of them has nothing to ascend from
pub above_start : (l : List ℕ) → above 2 (cells l) ≡ ascends (cells l)
unfolding above ascends cells
above_start [] = refl
above_start (x ∷ xs) =
    let one = above_start xs in
    by_bool (is_cell x)
    (λ p. let k = leb-true 3 x p in rw (p, lt-ltb 2 x (omega arith)))
    (λ p. rw p one)

module _ {S A F : Type 0} (steps : S → Option A → S → Type 0) (v : A → ℕ) (g : Mut F (Bor A × (Bor A × Unit {0})) Bool) (f : F)
    (k : (x y : A) (b : Bool) (q : F) → CalledAtTwo g f x y b q → (q ≡ f) × (b ≡ ltb (v x) (v y))) (r : Bool) where
  -- a call at the last item and the next
  asked : (w : F) (x y : A) (b : Bool) (q : F) → w ≡ f → CalledAtTwo g w x y b q → (q ≡ f) × (b ≡ ltb (v x) (v y))
  asked w x y b q a h = k x y b q (subst (λ (j : F). CalledAtTwo g j x y b q) a h)

  after : (xs : List A) (o : Option A) (ys : List ℕ) (s u : S) (w : F) (x : A) (q : F × A) → w ≡ f → AlwaysYields steps v s ys → YieldsThen steps s xs o u
      → FoldsTo {P = F × A} (OrderTurn g) (w, x) xs q → MatchOption o (r ≡ true) (λ y. (r ≡ false) × ((h : F) × CalledAtTwo g q.0 q.1 y false h)) → r ≡ above (v x) ys
  unfolding above
  after [] None [] s u w x q a e t c m = m
  after [] None (z ∷ ys) s u w x q a e t c m = absurd (e.0 u (subst (λ (j : S). steps j None u) (sym t.1) t.2))
  after [] (Some y) [] s u w x q a e t c m = absurd (e y u (subst (λ (j : S). steps j (Some y) u) (sym t.1) t.2))
  after [] (Some y) (z ∷ ys) s u w x q a e t c m =
      let n : v y ≡ z = (e.1 y u (subst (λ (j : S). steps j (Some y) u) (sym t.1) t.2)).0 in
      let d : CalledAtTwo g w x y false m.1.0 = subst (λ (p : F × A). CalledAtTwo g p.0 p.1 y false m.1.0) (sym c) m.1.1 in
      let b : false ≡ ltb (v x) z = (asked w x y false m.1.0 a d).1 ∙ ap (ltb (v x)) n in
      m.0 ∙ ap (λ (j : Bool). j && above z ys) b
  after (y ∷ xs) o [] s u w x q a e t c m = absurd (e y t.1.0 t.1.1)
  after (y ∷ xs) o (z ∷ ys) s u w x q a e t c m =
      let n = e.1 y t.1.0 t.1.1 in
      let d = asked w x y true c.0.0 a c.1.0 in
      let b : true ≡ ltb (v x) z = d.1 ∙ ap (ltb (v x)) n.0 in
      let rest : r ≡ above (v y) ys = after xs o ys t.1.0 u c.0.0 y q d.0 n.1 (t.0, t.1.2, t.2) (subst (λ (l : A). FoldsTo {P = F × A} (OrderTurn g) (c.0.0, l) xs q) c.1.1 c.2) m in
      rest ∙ ap (λ (j : ℕ). above j ys) n.0 ∙ ap (λ (j : Bool). j && above z ys) b

  pub ascends_from_is_sorted_by : (s : S) (ys : List ℕ) → ChecksNeighbours g steps s f r → YieldsList steps v s ys → r ≡ ascends ys
  unfolding ascends
  ascends_from_is_sorted_by s [] (inl d) e = d.1
  ascends_from_is_sorted_by s (z ∷ ys) (inl d) e = absurd (e.runs.0 d.0.0 (subst (λ (j : S). steps j None d.0.0) (sym d.0.1.1) d.0.1.2))
  ascends_from_is_sorted_by s [] (inr d) e = absurd (e.runs d.0 d.5.1.0 d.5.1.1)
  ascends_from_is_sorted_by s (z ∷ ys) (inr d) e =
      let n = e.runs.1 d.0 d.5.1.0 d.5.1.1 in
      after d.1 d.2 ys d.5.1.0 d.3 f d.0 d.4 refl n.1 (d.5.0, d.5.1.2, d.5.2) d.6 d.7 ∙ ap (λ (j : ℕ). above j ys) n.0
