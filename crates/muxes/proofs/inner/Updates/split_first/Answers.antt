use Rattle.muxes.proofs.Lents.{first_bare, first_wide, up, updates_none}
use Rattle.rules.specs.Emit.{updates_of}
use Rattle.std.proofs.Common.{ℕ, ◌∷◌, ◌∙◌, Bor, List, ap, drop, length, min, sym, take}
use Rattle.muxes.proofs.inner.Updates.split_first.Goals.{in-Some, in-None}
use Rattle.muxes.proofs.inner.Updates.split_first.Goals as goal

pub returns-in_err-net : goal.returns-in_err-net
returns-in_err-net c = let s = c.args.self in rw c.from_residual.ensures (updates_none s.nets.now s.widths.now s.bits.now c.in_err-net.ensures.cases)

pub returns : goal.returns
returns c =
    let s = c.args.self in
    let n = c.in_ok-net.net.now in
    let ns = c.in_ok-net.nets.now in
    let bs = s.bits.now in
    let front = c.split_at.result.0.now in
    let back = c.split_at.result.1.now in
    let p = c.in_ok-net.ensures.cases.0 in
    let f = c.split_at.ensures.front ∙ ap (λ (k : ℕ). take k bs) c.min.ensures in
    let b = c.split_at.ensures.back ∙ ap (λ (k : ℕ). drop k bs) c.min.ensures in
    elim c.match-split_first.branch [
      | in-Some w ↦
          first_wide n s.nets.now ns bs front back p s.widths.now c.match-split_first.width.1.now c.match-split_first.width.0
          (w.in-Some.ensures.cases.0 ∙ sym (ap (λ (q : ℕ × Bor (List ℕ)). q.0 ∷ q.1.now) w.width-is)) f b
      | in-None w ↦
          first_bare n s.nets.now ns bs front back p s.widths.now w.in-None.ensures.cases
          (f ∙ ap (λ (q : ℕ × Bor (List ℕ)). take (min q.0 (length bs)) bs) w.width-is)
          (b ∙ ap (λ (q : ℕ × Bor (List ℕ)). drop (min q.0 (length bs)) bs) w.width-is)
          ∙ ap (λ (q : ℕ × Bor (List ℕ)). up n front ∷ updates_of ns q.1.now back) (sym w.width-is)
    ]
