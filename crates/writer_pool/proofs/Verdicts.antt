-- Verdicts by place.
use Rattle.std.proofs.Common.{◌≡◌, ℕ, ◌<◌, ◌≤◌, length, Option, Some, None, sym, ap, ◌∙◌, ⊎_elim, arith}
use Rattle.std.specs.Prelude.{slice_get}
use Rattle.checkout_core.specs.declared.path.Path.{Path}
use Rattle.checkout_core.specs.declared.verdict.Verdict.{Verdict}
use Rattle.checkout_core.specs.States.{Core, verdict_at, verdict_of}
use Rattle.checkout_core.specs.Closes.{IsComplete}
use Rattle.writer_pool.proofs.Places.{get_past, there_or_past}

abbrev row_verdict : Option Path → Option Verdict
row_verdict o = elim o [ None ↦ None | Some r ↦ verdict_of r.state ]

pub past_verdict : (c : Core) (p : ℕ) → length c.paths ≤ p → verdict_at c p ≡ None
past_verdict c p past = ap row_verdict (get_past c.paths p past)

-- each path of a complete state has a verdict
pub has_verdict : (c : Core) (p : ℕ) → IsComplete c → p < length c.paths → verdict_at c p ≡ None → ⊥
has_verdict c p done lt none = ⊎_elim
    (λ (h : (r : Path) × (slice_get c.paths p ≡ Some r)).
    let v = done p h.0 h.1 in
    let u : None ≡ Some v.0 = sym none ∙ (ap row_verdict h.1 ∙ ap verdict_of v.1) in
    cc (u))
    (λ (h : length c.paths ≤ p). omega (arith, lt, h))
    (there_or_past c.paths p)
