-- The table that a tree emits, evaluated entry by entry, gives the tree's outputs. Assumes nothing.
use Prim.Native.Nat.{ℕ, zero, suc, ◌+◌, ◌-◌, ◌≤◌, ◌<◌}
use mathlib.Core.Path.{◌≡◌, refl, sym, ap, ap₂, ◌∙◌}
use mathlib.Core.List.{List, [], ◌∷◌, ◌++◌, map, append-nil, append_assoc}
use native.Mathlib.Omega.{arith}
use lib.Dec.{ltb}
use lib.ListN.{length, get_or, length-append, length-map, get_or-append}
use borrow.Author.Tests.{lt-ltb, le-ltb, ltb-false}
use Rattle.lists.specs.Bools.{by_bool}
use Rattle.rules.specs.Closed.{Low, bits_of, branch, drives, emits, mux_all, muxes, nets_of}
use Rattle.rules.specs.Emit.{Gives, Mux}
use Rattle.rules.specs.Evaluate.{net_in, run}
use Rattle.rules.specs.Nets.{first_mux}
use Rattle.rules.specs.Tree.{Tree, leaf, node}
use Rattle.rules.specs.Trits.{mux}

pub low_le : (b c : ℕ) → b ≤ c → (xs : List ℕ) → Low b xs → Low c xs
unfolding Low
low_le b c h [] l = tt
low_le b c h (x ∷ xs) l = (omega (arith, l.0), low_le b c h xs l.1)

-- a leaf gives w nets, each a constant or a cell up to 9,999; and so is each test
unfoldable pub Fine : Gives → ℕ → Tree → Type 0
Fine g w (leaf rs) = (length (g rs) ≡ w) × Low first_mux (g rs)
Fine g w (node t z o) = (t < first_mux) × Fine g w z × Fine g w o

mux_all-length : (s w : ℕ) (xs ys : List ℕ) → length xs ≡ w → length ys ≡ w → length (mux_all s xs ys) ≡ w
unfolding mux_all
mux_all-length s w [] ys h k = h
mux_all-length s w (x ∷ xs) [] h k = absurd (omega arith)
mux_all-length s zero (x ∷ xs) (y ∷ ys) h k = absurd (omega arith)
mux_all-length s (suc w) (x ∷ xs) (y ∷ ys) h k = ap suc (mux_all-length s w xs ys (omega arith) (omega arith))

pub bits_length : (f : ℕ → ℕ) (g : Gives) (w : ℕ) (t : Tree) → Fine g w t → length (bits_of f g t) ≡ w
unfolding bits_of Fine
bits_length f g w (leaf rs) h = length-map (g rs) f ∙ h.0
bits_length f g w (node t z o) h = mux_all-length (f t) w (bits_of f g o) (bits_of f g z) (bits_length f g w o h.2) (bits_length f g w z h.1)

-- reading: later entries change nothing
pub net-low : (f : ℕ → ℕ) (vs : List ℕ) (n : ℕ) → n < first_mux → net_in f vs n ≡ f n
net-low f vs n h = rw (lt-ltb n first_mux h)

pub net_more : (f : ℕ → ℕ) (vs us : List ℕ) (n : ℕ) → n < first_mux + length vs → net_in f (vs ++ us) n ≡ net_in f vs n
net_more f vs us n h =
    by_bool (ltb n first_mux) (λ p. rw p)
    (λ p. let l = ltb-false n first_mux p in let k : n - first_mux < length vs = omega arith in rw p (get_or-append vs us 2 (n - first_mux) k))

pub nets_more : (f : ℕ → ℕ) (vs us xs : List ℕ) → Low (first_mux + length vs) xs → map (net_in f (vs ++ us)) xs ≡ map (net_in f vs) xs
unfolding Low
nets_more f vs us [] l = refl
nets_more f vs us (x ∷ xs) l = ap₂ ◌∷◌ (net_more f vs us x l.0) (nets_more f vs us xs l.1)

pub nets-low : (f : ℕ → ℕ) (vs xs : List ℕ) → Low first_mux xs → map (net_in f vs) xs ≡ map f xs
unfolding Low
nets-low f vs [] l = refl
nets-low f vs (x ∷ xs) l = ap₂ ◌∷◌ (net-low f vs x l.0) (nets-low f vs xs l.1)

pub get_d_at : (vs : List ℕ) (w : ℕ) (ws : List ℕ) (d : ℕ) → get_or (vs ++ (w ∷ ws)) (length vs) d ≡ w
get_d_at [] w ws d = refl
get_d_at (v ∷ vs) w ws d = get_d_at vs w ws d

-- the entries after vs are read by the nets that they drive
drives-read : (f : ℕ → ℕ) (vs ws : List ℕ) → map (net_in f (vs ++ ws)) (drives (length vs) (length ws)) ≡ ws
unfolding drives
drives-read f vs [] = refl
drives-read f vs (w ∷ ws) =
    let one = drives-read f (vs ++ (w ∷ [])) ws in
    let l : length (vs ++ (w ∷ [])) ≡ suc (length vs) = length-append vs (w ∷ []) ∙ plus in
    let j : (vs ++ (w ∷ [])) ++ ws ≡ vs ++ (w ∷ ws) = append_assoc vs (w ∷ []) ws in
    ap₂ ◌∷◌ head (rw (l, j) at one)
  where
    plus : length vs + 1 ≡ suc (length vs)
    plus = omega arith

    off : first_mux + length vs - first_mux ≡ length vs
    off = omega arith

    head : net_in f (vs ++ (w ∷ ws)) (first_mux + length vs) ≡ w
    head = rw (le-ltb (first_mux + length vs) first_mux (omega arith), off) (get_d_at vs w ws 2)

pub drives-low : (k w b : ℕ) → first_mux + (k + w) ≤ b → Low b (drives k w)
unfolding drives Low
drives-low k zero b h = tt
drives-low k (suc w) b h = (omega arith, drives-low (suc k) w b (omega arith))

-- a branch's muxes
branch-runs : (f : ℕ → ℕ) (t : ℕ) → t < first_mux → (vs xs ys : List ℕ) → Low (first_mux + length vs) xs → Low (first_mux + length vs) ys → (us : List ℕ) (rest : List Mux)
    → run f (vs ++ us) (branch t xs ys ++ rest) ≡ run f (vs ++ (us ++ mux_all (f t) (map (net_in f vs) xs) (map (net_in f vs) ys))) rest
unfolding branch mux_all Low run
branch-runs f t h vs [] ys l k us rest = rw (append-nil us)
branch-runs f t h vs (x ∷ xs) [] l k us rest = rw (append-nil us)
branch-runs f t h vs (x ∷ xs) (y ∷ ys) l k us rest =
    let v : ℕ = mux (f t) (net_in f vs x) (net_in f vs y) in
    let one = branch-runs f t h vs xs ys l.1 k.1 (us ++ (v ∷ [])) rest in
    let e : mux (net_in f (vs ++ us) t) (net_in f (vs ++ us) x) (net_in f (vs ++ us) y) ≡ v =
    ap (λ (s : ℕ). mux s (net_in f (vs ++ us) x) (net_in f (vs ++ us) y)) (net-low f (vs ++ us) t h) ∙ ap₂ (mux (f t)) (net_more f vs us x l.0) (net_more f vs us y k.0) in
    ap (λ (w : ℕ). run f ((vs ++ us) ++ (w ∷ [])) (branch t xs ys ++ rest)) e
    ∙ ap (λ (ws : List ℕ). run f ws (branch t xs ys ++ rest)) (append_assoc vs us (v ∷ []))
    ∙ one
    ∙ ap (λ (ws : List ℕ). run f (vs ++ ws) rest) (append_assoc us (v ∷ []) (mux_all (f t) (map (net_in f vs) xs) (map (net_in f vs) ys)))

plus : (a b c : ℕ) → a + b + c ≡ a + (b + c)
plus a b c = omega arith

-- what the evaluator makes of a tree's muxes after vs
pub record Ran (f : ℕ → ℕ) (g : Gives) (w : ℕ) (t : Tree) (vs : List ℕ) : Type 0 where
  pub news : List ℕ
  pub count : length news ≡ muxes w t
  pub runs : (rest : List Mux) → run f vs (emits g w (length vs) t ++ rest) ≡ run f (vs ++ news) rest
  pub reads : map (net_in f (vs ++ news)) (nets_of g w (length vs) t) ≡ bits_of f g t
  pub low : Low (first_mux + length (vs ++ news)) (nets_of g w (length vs) t)

pub ran : (f : ℕ → ℕ) (g : Gives) (w : ℕ) (t : Tree) → Fine g w t → (vs : List ℕ) → Ran f g w t vs
unfolding Fine emits nets_of bits_of muxes
ran f g w (leaf rs) h vs =
    record {
      news = [];
      count = refl;
      runs = λ rest. ap (λ (ws : List ℕ). run f ws rest) (sym (append-nil vs));
      reads = nets-low f (vs ++ []) (g rs) h.1;
      low = low_le first_mux (first_mux + length (vs ++ [])) (omega arith) (g rs) h.1;
    }
ran f g w (node t z o) h vs =
    let a = ran f g w o h.2 vs in
    let vo : List ℕ = vs ++ a.news in
    let b = ran f g w z h.1 vo in
    let vz : List ℕ = vo ++ b.news in
    let ws : List ℕ = mux_all (f t) (bits_of f g o) (bits_of f g z) in
    let lo : length vo ≡ length vs + muxes w o = length-append vs a.news ∙ ap (λ (k : ℕ). length vs + k) a.count in
    let lz : length vz ≡ length vs + (muxes w o + muxes w z) = length-append vo b.news ∙ ap₂ ◌+◌ lo b.count ∙ plus (length vs) (muxes w o) (muxes w z) in
    let lw : length ws ≡ w = bits_length f g w (node t z o) h in
    let xs : List ℕ = nets_of g w (length vs) o in
    let ys : List ℕ = nets_of g w (length vo) z in
    let grow : length vo ≤ length vz = omega (arith, length-append vo b.news) in
    let lx : Low (first_mux + length vz) xs = low_le (first_mux + length vo) (first_mux + length vz) (omega arith) xs a.low in
    let rx : map (net_in f vz) xs ≡ bits_of f g o = nets_more f vo b.news xs a.low ∙ a.reads in
    let E : List Mux = emits g w (length vs + muxes w o) z in
    let N : List ℕ = nets_of g w (length vs + muxes w o) z in
    let join : vs ++ (a.news ++ (b.news ++ ws)) ≡ vz ++ ws = sym (append_assoc vs a.news (b.news ++ ws)) ∙ sym (append_assoc vo b.news ws) in
    record {
      news = a.news ++ (b.news ++ ws);
      count = length-append a.news (b.news ++ ws) ∙ ap₂ ◌+◌ a.count (length-append b.news ws ∙ ap₂ ◌+◌ b.count lw) ∙ sym (plus (muxes w o) (muxes w z) w);
      runs = λ rest.
          ap (run f vs) (append_assoc (emits g w (length vs) o) (E ++ branch t xs N) rest)
          ∙ ap (λ (l : List Mux). run f vs (emits g w (length vs) o ++ l)) (append_assoc E (branch t xs N) rest)
          ∙ a.runs (E ++ (branch t xs N ++ rest))
          ∙ ap (λ (k : ℕ). run f vo (emits g w k z ++ (branch t xs (nets_of g w k z) ++ rest))) (sym lo)
          ∙ b.runs (branch t xs ys ++ rest)
          ∙ ap (λ (l : List ℕ). run f l (branch t xs ys ++ rest)) (sym (append-nil vz))
          ∙ branch-runs f t h.0 vz xs ys lx b.low [] rest
          ∙ ap (λ (l : List ℕ). run f (vz ++ l) rest) (ap₂ (mux_all (f t)) rx b.reads)
          ∙ ap (λ (l : List ℕ). run f l rest) (sym join);
      reads = ap₂ (λ (us ds : List ℕ). map (net_in f us) ds) join (ap₂ drives (sym lz) (sym lw)) ∙ drives-read f vz ws;
      low = drives-low (length vs + (muxes w o + muxes w z)) w (first_mux + length (vs ++ (a.news ++ (b.news ++ ws)))) (omega (arith, ap length join, length-append vz ws));
    }
