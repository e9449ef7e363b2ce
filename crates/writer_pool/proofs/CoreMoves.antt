-- What one moved path leaves, and paths that are no longer with a driver.
use Rattle.std.proofs.Common.{◌≡◌, ◌==◌, ℕ, ⊎_elim, Bool, true, false, cond, Option, Some, None, refl, sym, ap, ◌∙◌}
use Rattle.std.specs.Prelude.{slice_get}
use Rattle.checkout_core.specs.declared.verdict.FilterCause.{FilterCause}
use Rattle.checkout_core.specs.declared.verdict.Verdict.{Verdict}
use Rattle.checkout_core.specs.declared.path.PathState.{PathState}
use Rattle.checkout_core.specs.declared.path.PathState.TheVariants as path
use Rattle.checkout_core.specs.declared.path.PathState.TheVariants.{Waiting, Held, Unasked, Closed}
use Rattle.checkout_core.specs.declared.path.Path.{Path}
use Rattle.checkout_core.specs.States.{Core, with_state}
use Rattle.checkout_core.specs.Hands.{is_held, held_at, Holds}
use Rattle.core_laws.specs.Moves.{Moved, is_with_driver}
use Rattle.checkout_book.specs.Shelves.{is_waiting}
use Rattle.checkout_book.specs.Turns.{NoneWaits}
use Rattle.writer_pool.specs.Ends.{NoneWithDriver}
use Rattle.writer_pool.proofs.Places.{some_is, same_or, eqb_self, get_set_same, get_set_other}

pub moved_here : (c x : Core) (p : ℕ) (s t : PathState) (m : Moved c x p s t)
    → slice_get x.paths p ≡ Some (with_state m.row t)
moved_here c x p s t m = ap (λ (z : Core). slice_get z.paths p) m.same
    ∙ get_set_same c.paths p (with_state m.row t) m.row m.there

pub moved_there : (c x : Core) (p q : ℕ) (s t : PathState) → Moved c x p s t → ((q ≡ p) → ⊥)
    → slice_get x.paths q ≡ slice_get c.paths q
moved_there c x p q s t m other = ap (λ (z : Core). slice_get z.paths q) m.same
    ∙ get_set_other c.paths p q (with_state m.row t) other

abbrev row_held : ℕ → Option Path → Bool
row_held a o = elim o [ None ↦ false | Some r ↦ is_held a r.state ]

pub hands_moved : (c x : Core) (p : ℕ) (s t : PathState) (a : ℕ) → Moved c x p s t → (q : ℕ)
    → held_at x a q ≡ cond (q == p) (is_held a t) (held_at c a q)
hands_moved c x p s t a m q = ⊎_elim
    (λ (h : (q ≡ p) × ((q == p) ≡ true)).
    ap (row_held a) (ap (slice_get x.paths) h.0 ∙ moved_here c x p s t m)
    ∙ sym (ap (λ (b : Bool). cond b (is_held a t) (held_at c a q)) h.1))
    (λ (h : ((q ≡ p) → ⊥) × ((q == p) ≡ false)).
    ap (row_held a) (moved_there c x p q s t m h.0)
    ∙ sym (ap (λ (b : Bool). cond b (is_held a t) (held_at c a q)) h.1))
    (same_or q p)

-- a path that moved isn't with its driver, and the others are as before
pub away_moved : (c x : Core) (p : ℕ) (s t : PathState) → Moved c x p s t → is_with_driver t ≡ false
    → NoneWithDriver c → NoneWithDriver x
away_moved c x p s t m free none q r there = ⊎_elim
    (λ (h : (q ≡ p) × ((q == p) ≡ true)).
    let is : with_state m.row t ≡ r = some_is (with_state m.row t) r
    (sym (moved_here c x p s t m) ∙ (ap (slice_get x.paths) (sym h.0) ∙ there)) in
    ap (λ (z : Path). is_with_driver z.state) (sym is) ∙ free)
    (λ (h : ((q ≡ p) → ⊥) × ((q == p) ≡ false)). none q r (sym (moved_there c x p q s t m h.0) ∙ there))
    (same_or q p)

held_state : (c : Core) (p a : ℕ) (r : Path) → slice_get c.paths p ≡ Some r → held_at c a p ≡ is_held a r.state
held_state c p a r there = ap (row_held a) there

not_with : {b : Bool} → b ≡ false → b ≡ true → ⊥
not_with f t = cc (f, t)

-- a path that doesn't wait, isn't in hand and isn't with its driver is closed
pub ends_closed : (c : Core) → NoneWaits c → ((a q : ℕ) → held_at c a q ≡ false) → NoneWithDriver c
    → (p : ℕ) (r : Path) → slice_get c.paths p ≡ Some r → (v : Verdict) × (r.state ≡ Closed v)
ends_closed c none hands away p r there = go r.state refl
  where
    go : (s : PathState) → r.state ≡ s → (v : Verdict) × (r.state ≡ Closed v)
    go (Closed v) is = (v, is)
    go (Waiting raw) is = absurd (
        let a = none p r there in
        let m : is_waiting r.state ≡ true = ap is_waiting is in
        cc (a, m))
    go (Held a raw) is = absurd (
        let h = held_state c p a r there in
        let m : is_held a r.state ≡ true = ap (is_held a) is ∙ eqb_self a in
        let n = hands a p in
        cc (h, m, n))
    go Unasked is = absurd (not_with (away p r there) (ap is_with_driver is))
    go path.Delayed is = absurd (not_with (away p r there) (ap is_with_driver is))
    go (path.Named t) is = absurd (not_with (away p r there) (ap is_with_driver is))
    go (path.Heard x) is = absurd (not_with (away p r there) (ap is_with_driver is))

pub held_here : (c : Core) (p a : ℕ) (raw : Option FilterCause) → Holds c p a raw → held_at c a p ≡ true
held_here c p a raw h = ap (row_held a) h.1 ∙ (ap (is_held a) h.2 ∙ eqb_self a)
