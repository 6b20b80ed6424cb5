-- What each public call of this crate promises leaves no choice. Assumes nothing.
use mathlib.Core.Option.{some}
use mathlib.Core.Path.{◌≡◌, ap, refl, sym, ◌∙◌}
use Rattle.lists.specs.One.{One}
use Rattle.rules.specs.Codes.{trit_code, trit_of, trit_of_code}
use Rattle.rules.specs.declared.Trit.{Trit}
use Rattle.trits.proofs.trit_of.Kinds as trit-of-kinds
use Rattle.trits.proofs.trit_of.Reads as trit-of-reads
use Rattle.trits.proofs.trit_code.Kinds as trit-code-kinds
use Rattle.trits.proofs.trit_code.Reads as trit-code-reads
use Rattle.trits.proofs.net_of.Kinds as net-of-kinds
use Rattle.trits.proofs.net_of.Reads as net-of-reads
use Rattle.trits.proofs.net_code.Kinds as net-code-kinds
use Rattle.trits.proofs.net_code.Reads as net-code-reads
use Rattle.trits.proofs.mux.Kinds as mux-kinds
use Rattle.trits.proofs.mux.Reads as mux-reads
use Rattle.trits.specs.Codes.{code_read, net_read, trit_read}
use Rattle.rules.proofs.Told.{read_one}

-- a trit is known by its code
pub code_inj : (t s : Trit) → trit_code t ≡ trit_code s → t ≡ s
code_inj t s e =
    let i : some t ≡ some s = sym (trit_of_code t) ∙ ap trit_of e ∙ trit_of_code s in
    cc

pub trit_of-one : One 0 trit-of-kinds.ps trit-of-kinds.r trit-of-reads.Post
trit_of-one κs a x y ws vs e f = (read_one (λ t. t) (λ a b h. h) trit_read (λ a. refl) (λ why. refl) x y (e ∙ sym f), refl)

pub trit_code-one : One 0 trit-code-kinds.ps trit-code-kinds.r trit-code-reads.Post
trit_code-one κs a x y ws vs e f = (e ∙ sym f, refl)

pub net_of-one : One 0 net-of-kinds.ps net-of-kinds.r net-of-reads.Post
net_of-one κs a x y ws vs e f = (read_one (λ t. t) (λ a b h. h) net_read (λ a. refl) (λ why. refl) x y (e ∙ sym f), refl)

pub net_code-one : One 0 net-code-kinds.ps net-code-kinds.r net-code-reads.Post
net_code-one κs a x y ws vs e f = (read_one (λ t. t) (λ a b h. h) code_read (λ a. refl) (λ why. refl) x y (e ∙ sym f), refl)

pub mux-one : One 0 mux-kinds.ps mux-kinds.r mux-reads.Post
mux-one κs a x y ws vs e f = (code_inj x y (e ∙ sym f), refl)
