-- What a number that codes a net is read as, and what is read out of the mux table. Assumes nothing.
use Prim.Native.Nat.{ℕ, ◌≤◌, ◌<◌}
use borrow.Author.Tests.{le-leb, lt-leb}
use lib.Dec.{eqb, lit<}
use lib.ListN.{get_or}
use mathlib.Core.Option.{Option}
use mathlib.Core.Path.{◌≡◌, ap, ◌∙◌}
use native.Mathlib.Omega.{arith}
use Rattle.lists.specs.Bools.{by_bool}
use Rattle.rules.specs.Bounds.{net_max}
use Rattle.rules.specs.Codes.{Coded, net_answer, net_code, net_of_code, or_form, trit_code}
use Rattle.rules.specs.Nets.{cell}
use Rattle.rules.specs.Refuse.{FORM, done, refused}
use Rattle.rules.specs.Trits.{mux}
use Rattle.rules.specs.declared.Net.{Net}
use Rattle.rules.specs.declared.Net.TheVariants.{Const, Cell}
use Rattle.rules.specs.declared.Trit.{Trit}
use Rattle.trits.specs.Codes.{cut, cut-trit}
use Rattle.trits.specs.Mux.{at, mux_rule, small, table}

coded : (n : Net) → net_code n ≤ cell net_max → Coded n
coded (Const t) h = tt
coded (Cell c) h = omega arith

pub net_is : (n : Net) (x : ℕ) → net_code n ≡ x → x ≤ cell net_max → net_answer x ≡ done n
net_is n x e h = rw (← e) (ap (λ (o : Option Net). or_form o) (net_of_code n (coded n (omega arith))))

pub net-is_none : (x : ℕ) → cell net_max < x → net_answer x ≡ refused FORM
net-is_none x h = rw (le-leb 3 x (omega arith), lt-leb x (cell net_max) h)

mux-small : (s a b : ℕ) → a < 3 → b < 3 → mux s a b < 3
mux-small s a b h k =
    by_bool (eqb s 1) (λ p. rw p h)
    (λ p. by_bool (eqb s 0) (λ q. rw (p, q) k) (λ q. by_bool (eqb a b) (λ r. rw (p, q, r) h) (λ r. rw (p, q, r) (lit< tt))))

pub mux-read : (s a b : Trit) (k : ℕ) → k ≡ at s a b → cut (get_or table k 0) ≡ mux (trit_code s) (trit_code a) (trit_code b)
mux-read s a b k e =
    ap (λ (n : ℕ). cut (get_or table n 0)) e ∙ ap cut (mux_rule s a b)
    ∙ cut-trit (mux (trit_code s) (trit_code a) (trit_code b)) (mux-small (trit_code s) (trit_code a) (trit_code b) (small a) (small b))
