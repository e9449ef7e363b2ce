-- No path is unclosed exactly if each is closed.
use Rattle.std.proofs.Common.{◌≡◌, ℕ, zero, suc, ◌+◌, Bool, true, false, cond, List, [], ◌∷◌, Some, refl, sym, ap, ◌∙◌}
use Rattle.std.proofs.Common.{arith}
use Rattle.std.specs.Prelude.{slice_get}
use Rattle.checkout_core.specs.declared.verdict.Verdict.{Verdict}
use Rattle.checkout_core.specs.declared.path.PathState.{PathState}
use Rattle.checkout_core.specs.declared.path.PathState.TheVariants as path
use Rattle.checkout_core.specs.declared.path.PathState.TheVariants.{Waiting, Held, Unasked, Closed}
use Rattle.checkout_core.specs.declared.path.Path.{Path}
use Rattle.checkout_core.specs.States.{is_closed, unclosed_count}
use Rattle.checkout_core.proofs.Basics.{none_is_some, some_is}

abbrev AreClosed : List Path → Type 0
AreClosed rs = (p : ℕ) (r : Path) → slice_get rs p ≡ Some r → (v : Verdict) × (r.state ≡ Closed v)

closed_is : (s : PathState) → is_closed s ≡ true → (v : Verdict) × (s ≡ Closed v)
closed_is (Closed v) h = (v, refl)
closed_is (Waiting raw) h = absurd (cc (h))
closed_is (Held a raw) h = absurd (cc (h))
closed_is Unasked h = absurd (cc (h))
closed_is path.Delayed h = absurd (cc (h))
closed_is (path.Named t) h = absurd (cc (h))
closed_is (path.Heard x) h = absurd (cc (h))

plus_none : (n : ℕ) → n ≡ 0 → 0 + n ≡ 0
plus_none n h = omega arith

pub none_unclosed : (rs : List Path) → AreClosed rs → unclosed_count rs ≡ 0
none_unclosed [] h = refl
none_unclosed (r ∷ rs) h =
    let k = h zero r refl in
    ap (λ (b : Bool). cond b 0 1 + unclosed_count rs) (ap is_closed k.1)
    ∙ plus_none (unclosed_count rs) (none_unclosed rs (λ p w there. h (suc p) w there))

parts : (b : Bool) (n : ℕ) → cond b 0 1 + n ≡ 0 → (b ≡ true) × (n ≡ 0)
parts true n h = (refl, omega arith)
parts false n h = absurd (omega arith)

pub all_closed : (rs : List Path) → unclosed_count rs ≡ 0 → AreClosed rs
all_closed [] h p r there = none_is_some there
all_closed (w ∷ rs) h zero r there =
    let k = parts (is_closed w.state) (unclosed_count rs) h in
    let c = closed_is w.state k.0 in
    (c.0, ap (λ (z : Path). z.state) (sym (some_is w r there)) ∙ c.1)
all_closed (w ∷ rs) h (suc p) r there = all_closed rs (parts (is_closed w.state) (unclosed_count rs) h).1 p r there
