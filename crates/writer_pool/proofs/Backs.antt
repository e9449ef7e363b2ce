-- How a path that starts at a desk is closed: by its desk, or after it was handed back.
use Rattle.std.proofs.Common.{◌≡◌, ◌==◌, ◌⊎◌, ℕ, zero, suc, ◌+◌, ◌<◌, inl, inr, ⊎_elim, Bool, true, false, cond, List, [], ◌∷◌, Option, Some, None, refl, sym, ap, ◌∙◌, arith}
use Rattle.std.specs.Prelude.{slice_get}
use Rattle.checkout_core.specs.declared.driver.DriverState.{DriverState}
use Rattle.checkout_core.specs.declared.effect.Effect.{Effect}
use Rattle.checkout_core.specs.declared.event.Event.{Event}
use Rattle.checkout_core.specs.declared.event.Event.TheVariants as ev
use Rattle.checkout_core.specs.declared.event.Event.TheVariants.{Claim, Close, HandBack}
use Rattle.checkout_core.specs.declared.path.Path.{Path}
use Rattle.checkout_core.specs.declared.path.PathState.{PathState}
use Rattle.checkout_core.specs.declared.path.PathState.TheVariants as path
use Rattle.checkout_core.specs.declared.path.PathState.TheVariants.{Waiting, Held, Unasked, Closed}
use Rattle.checkout_core.specs.declared.path.Start.{Start}
use Rattle.checkout_core.specs.declared.path.Start.TheVariants.{Desk}
use Rattle.checkout_core.specs.declared.verdict.FilterCause.{FilterCause}
use Rattle.checkout_core.specs.declared.verdict.Own.{Own}
use Rattle.checkout_core.specs.declared.verdict.Own.TheVariants as own
use Rattle.checkout_core.specs.declared.verdict.Verdict.{Verdict}
use Rattle.checkout_core.specs.Conditions.{of_driver, at_driver, closing, desk_close, close_at, effect_of}
use Rattle.checkout_core.specs.Desks.{was_read}
use Rattle.checkout_core.specs.States.{Core, start, with_state}
use Rattle.checkout_core.specs.Steps.{done, step_of, replay, IsLegal}
use Rattle.checkout_core.specs.Verdicts.{held_close, heard_close, unasked_close}
use Rattle.core_laws.specs.Moves.{Moved, RowStays, is_with_driver}
use Rattle.writer_pool.proofs.Places.{some_is, same_or, same_number}
use Rattle.writer_pool.proofs.CoreMoves.{moved_here, moved_there}
use Rattle.writer_pool.proofs.Resting.{TakesPath, ClosesPath}
use Rattle.writer_pool.proofs.Rows.{BacksPath, KeepsPaths, AllKeep, rows_step, all_begin, AtDriver, at_step, not_claimed, at_start}

-- whether a path that was handed back may be in this state
abbrev is_back : PathState → Bool
is_back (Waiting (Some why)) = true
is_back (Held a (Some why)) = true
is_back (Closed v) = true
is_back s = false

abbrev BackAt : ℕ → Core → Type 0
BackAt p c = (r : Path) → slice_get c.paths p ≡ Some r → is_back r.state ≡ true

held_back : (a : ℕ) (raw : Option FilterCause) → is_back (Held a raw) ≡ is_back (Waiting raw)
held_back a None = refl
held_back a (Some why) = refl

not_both : (s : PathState) → is_with_driver s ≡ true → is_back s ≡ true → ⊥
not_both (Waiting raw) with back = cc (with)
not_both (Held a raw) with back = cc (with)
not_both (Closed v) with back = cc (with)
not_both Unasked with back = cc (back)
not_both path.Delayed with back = cc (back)
not_both (path.Named t) with back = cc (back)
not_both (path.Heard h) with back = cc (back)

back_moved : (c x : Core) (p q : ℕ) (s t : PathState) → Moved c x q s t → BackAt p c → (p ≡ q → is_back t ≡ true)
    → BackAt p x
back_moved c x p q s t m at here r there = ⊎_elim
    (λ (h : (p ≡ q) × ((p == q) ≡ true)).
    let is : with_state m.row t ≡ r = some_is (with_state m.row t) r
    (sym (moved_here c x q s t m) ∙ (ap (slice_get x.paths) (sym h.0) ∙ there)) in
    ap (λ (z : Path). is_back z.state) (sym is) ∙ here h.0)
    (λ (h : ((p ≡ q) → ⊥) × ((p == q) ≡ false)). at r (sym (moved_there c x q p s t m h.0) ∙ there))
    (same_or p q)

back_stayed : (p : ℕ) (c x : Core) → RowStays (slice_get c.paths p) (slice_get x.paths p) → BackAt p c → BackAt p x
back_stayed p c x stays at r there = go (slice_get c.paths p) refl (slice_get x.paths p) there stays
  where
    go : (o : Option Path) → slice_get c.paths p ≡ o → (n : Option Path) → n ≡ Some r → RowStays o n
        → is_back r.state ≡ true
    go None was None is row = absurd (cc (is))
    go None was (Some y) is row = absurd row
    go (Some w) was None is row = absurd (cc (is))
    go (Some w) was (Some y) is row =
        let same : y ≡ r = some_is y r is in
        ap (λ (z : Path). is_back z.state) (sym same) ∙ (⊎_elim
        (λ (h : y.state ≡ w.state). ap is_back h ∙ at w was)
        (λ (h : (is_with_driver w.state ≡ true) × (is_with_driver y.state ≡ true)).
        absurd (not_both w.state h.0 (at w was)))
        row.1)

-- a path that was handed back is closed as one that was read
read_close : (why : FilterCause) (o : Own) (v : Verdict) → held_close (Some why) o ≡ Some v → was_read o ≡ true
read_close why (own.Fine u) v is = refl
read_close why own.WriteFailed v is = refl
read_close why own.NoMemory v is = refl
read_close why (own.Object k) v is = absurd (cc (is))
read_close why own.ReadFailed v is = absurd (cc (is))

closing_is : (c x : Core) (p : ℕ) (o : Option Verdict) → done c (closing p o) ≡ Some x → (v : Verdict) × (o ≡ Some v)
closing_is c x p None is = absurd (cc (is))
closing_is c x p (Some v) is = (v, refl)

if_done : (c x : Core) (b : Bool) (m : Option Effect) → done c (cond b m None) ≡ Some x
    → (b ≡ true) × (done c m ≡ Some x)
if_done c x true m is = (refl, is)
if_done c x false m is = absurd (cc (is))

state_read : (c x : Core) (p a : ℕ) (o : Own) (r : Path) (s : PathState) → is_back s ≡ true
    → done c (close_at c p a o r s) ≡ Some x → was_read o ≡ true
state_read c x p a o r (Held b (Some why)) back is =
    let h = if_done c x (a == b) (closing p (held_close (Some why) o)) is in
    let v = closing_is c x p (held_close (Some why) o) h.1 in
    read_close why o v.0 v.1
state_read c x p a o r (Held b None) back is = absurd (cc (back))
state_read c x p a o r (Waiting raw) back is = absurd (cc (is))
state_read c x p a o r (Closed v) back is = absurd (cc (is))
state_read c x p a o r Unasked back is = absurd (cc (back))
state_read c x p a o r path.Delayed back is = absurd (cc (back))
state_read c x p a o r (path.Named t) back is = absurd (cc (back))
state_read c x p a o r (path.Heard h) back is = absurd (cc (back))

-- a path that is with its driver is closed by its desk
by_desk : (c x : Core) (p a : ℕ) (o : Own) (r : Path) (f : Bool → DriverState → Option Verdict) (d : ℕ)
    (required : Bool) → r.start ≡ Desk d required → done c (desk_close c p a o r f) ≡ Some x → a ≡ c.workers + d
by_desk c x p a o r f d required begun is = go (slice_get c.drivers d)
    (ap (λ (s : Start). done c (of_driver s (λ e wanted. at_driver c e (λ y.
    cond (a == c.workers + e) (closing p (f wanted y)) None)))) (sym begun) ∙ is)
  where
    go : (w : Option DriverState)
        → done c (elim w as (λ _. Option Effect)
        [ None ↦ None | Some y ↦ cond (a == c.workers + d) (closing p (f required y)) None ]) ≡ Some x
        → a ≡ c.workers + d
    go None is = absurd (cc (is))
    go (Some y) is =
        same_number a (c.workers + d) (if_done c x (a == c.workers + d) (closing p (f required y)) is).0

state_desk : (c x : Core) (p a : ℕ) (o : Own) (r : Path) (d : ℕ) (required : Bool) → r.start ≡ Desk d required
    → (s : PathState) → (is_with_driver s ≡ true) ⊎ ((v : Verdict) × (s ≡ Closed v))
    → done c (close_at c p a o r s) ≡ Some x → a ≡ c.workers + d
state_desk c x p a o r d required begun Unasked at is =
    by_desk c x p a o r (λ required x. unasked_close required x p o) d required begun is
state_desk c x p a o r d required begun (path.Heard h) at is =
    by_desk c x p a o r (λ required x. heard_close required h o) d required begun is
state_desk c x p a o r d required begun path.Delayed at is = absurd (cc (is))
state_desk c x p a o r d required begun (path.Named t) at is = absurd (cc (is))
state_desk c x p a o r d required begun (Closed v) at is = absurd (cc (is))
state_desk c x p a o r d required begun (Waiting raw) at is = absurd (cc (is))
state_desk c x p a o r d required begun (Held b raw) at is = absurd (⊎_elim
    (λ (h : is_with_driver (Held b raw) ≡ true). cc (h))
    (λ (h : (v : Verdict) × (Held b raw ≡ Closed v)). let u = h.1 in cc (u))
    at)

-- the row of a path that is closed
close_row : (c x : Core) (p a : ℕ) (o : Own) (r : Path) → slice_get c.paths p ≡ Some r
    → step_of c (Close p a o) ≡ Some x → done c (close_at c p a o r r.state) ≡ Some x
close_row c x p a o r there step =
    ap (λ (w : Option Path). done c (elim w as (λ _. Option Effect)
    [ None ↦ None | Some r ↦ close_at c p a o r r.state ])) (sym there) ∙ step

done_workers : (c x : Core) (m : Option Effect) → done c m ≡ Some x → x.workers ≡ c.workers
done_workers c x None is = absurd (cc (is))
done_workers c x (Some m) is = ap (λ (z : Core). z.workers) (sym (some_is _ x is))

-- how the Close at this place came: by the desk n, which hadn't claimed the path, or after the path was handed back
abbrev pub IsCloseOf : List Event → ℕ → ℕ → ℕ → Own → ℕ → Type 0
IsCloseOf es i p a o n = ((a ≡ n) × ((j : ℕ) → j < i → slice_get es j ≡ Some (Claim p a) → ⊥))
    ⊎ (((k : ℕ) × (slice_get es k ≡ Some (HandBack p))) × (was_read o ≡ true))

module _ (takes : TakesPath) (closes : ClosesPath) (backs : BacksPath) (keeps : KeepsPaths) where
  back_step : (p : ℕ) (c x : Core) (e : Event) → step_of c e ≡ Some x → BackAt p c → BackAt p x
  back_step p c x (Claim q a) h at =
      let m = takes c x q a h in
      back_moved c x p q (Waiting m.0) (Held a m.0) m.1 at (λ same.
      held_back a m.0 ∙ (ap is_back (sym m.1.was)
      ∙ at m.1.row (ap (slice_get c.paths) same ∙ m.1.there)))
  back_step p c x (Close q a o) h at =
      let m = closes c x q a o h in
      back_moved c x p q m.0 (Closed m.1) m.2 at (λ same. refl)
  back_step p c x (HandBack q) h at =
      let m = backs c x q h in
      back_moved c x p q m.0 (Waiting (Some m.1)) m.2 at (λ same. refl)
  back_step p c x (ev.Opened d k) h at = back_stayed p c x (keeps c x (ev.Opened d k) refl h p) at
  back_step p c x (ev.OpenFailed q o) h at = back_stayed p c x (keeps c x (ev.OpenFailed q o) refl h p) at
  back_step p c x (ev.Answered q y) h at = back_stayed p c x (keeps c x (ev.Answered q y) refl h p) at
  back_step p c x (ev.Named q) h at = back_stayed p c x (keeps c x (ev.Named q) refl h p) at
  back_step p c x (ev.Listed d y) h at = back_stayed p c x (keeps c x (ev.Listed d y) refl h p) at
  back_step p c x (ev.Redone q y) h at = back_stayed p c x (keeps c x (ev.Redone q y) refl h p) at
  back_step p c x (ev.Shut d) h at = back_stayed p c x (keeps c x (ev.Shut d) refl h p) at

  back_now : (p : ℕ) (c x : Core) → step_of c (HandBack p) ≡ Some x → BackAt p x
  back_now p c x h r there =
      let m = backs c x p h in
      let is : with_state m.2.row (Waiting (Some m.1)) ≡ r = some_is (with_state m.2.row (Waiting (Some m.1))) r
      (sym (moved_here c x p m.0 (Waiting (Some m.1)) m.2) ∙ there) in
      ap (λ (z : Path). is_back z.state) (sym is)

  close_read : (p a : ℕ) (o : Own) (c x : Core) (e : Event) → e ≡ Close p a o → step_of c e ≡ Some x → BackAt p c
      → was_read o ≡ true
  close_read p a o c x e is step0 at =
      let step = ap (step_of c) (sym is) ∙ step0 in
      let m = closes c x p a o step in
      state_read c x p a o m.2.row m.2.row.state (at m.2.row m.2.there)
      (close_row c x p a o m.2.row m.2.there step)

  back_read : (p a : ℕ) (o : Own) (c x : Core) (es : List Event) (i : ℕ) → replay c es ≡ Some x → BackAt p c
      → slice_get es i ≡ Some (Close p a o) → was_read o ≡ true
  back_read p a o c x [] i run at there = absurd (cc (there))
  back_read p a o c x (e ∷ es) i run at there =
      go (step_of c e) refl run i there (λ d next j close more. back_read p a o d x es j next more close)
    where
      go : (w : Option Core) → step_of c e ≡ w
          → (elim w as (λ _. Option Core) [ None ↦ None | Some d ↦ replay d es ]) ≡ Some x → (i : ℕ)
          → slice_get (e ∷ es) i ≡ Some (Close p a o)
          → ((d : Core) → replay d es ≡ Some x → (j : ℕ) → slice_get es j ≡ Some (Close p a o) → BackAt p d
          → was_read o ≡ true) → was_read o ≡ true
      go None is run i there more = absurd (cc (run))
      go (Some d) is run zero there more = close_read p a o c d e (some_is e (Close p a o) there) is at
      go (Some d) is run (suc j) there more = more d run j there (back_step p c d e is at)

  module _ (starts : List Start) (workers p d : ℕ) (required : Bool)
      (begun : slice_get starts p ≡ Some (Desk d required)) where
    close_desk : (a : ℕ) (o : Own) (c x : Core) (e : Event) → e ≡ Close p a o → step_of c e ≡ Some x
        → AllKeep starts c → AtDriver p c → a ≡ c.workers + d
    close_desk a o c x e is step0 all at =
        let step = ap (step_of c) (sym is) ∙ step0 in
        let m = closes c x p a o step in
        let row = m.2.row in
        let start : row.start ≡ Desk d required = some_is row.start (Desk d required)
        (sym (all p row m.2.there).begun ∙ begun) in
        state_desk c x p a o row d required start row.state (at row m.2.there)
        (close_row c x p a o row m.2.there step)

    closed_from : (a : ℕ) (o : Own) (c x : Core) (es : List Event) (i : ℕ) → replay c es ≡ Some x
        → c.workers ≡ workers → AllKeep starts c → AtDriver p c → slice_get es i ≡ Some (Close p a o)
        → IsCloseOf es i p a o (workers + d)
    closed_from a o c x [] i run seat all at there = absurd (cc (there))
    closed_from a o c x (e ∷ es) i run seat all at there =
        go (step_of c e) refl run i there
        (λ y next j close same keep more. closed_from a o y x es j next same keep more close)
      where
        go : (w : Option Core) → step_of c e ≡ w
            → (elim w as (λ _. Option Core) [ None ↦ None | Some y ↦ replay y es ]) ≡ Some x → (i : ℕ)
            → slice_get (e ∷ es) i ≡ Some (Close p a o)
            → ((y : Core) → replay y es ≡ Some x → (j : ℕ) → slice_get es j ≡ Some (Close p a o)
            → y.workers ≡ workers → AllKeep starts y → AtDriver p y → IsCloseOf es j p a o (workers + d))
            → IsCloseOf (e ∷ es) i p a o (workers + d)
        go None is run i there more = absurd (cc (run))
        go (Some y) is run zero there more = inl (
          close_desk a o c y e (some_is e (Close p a o) there) is all at ∙ ap (λ (n : ℕ). n + d) seat,
          λ j lt claim. absurd (omega (arith, lt)),
        )
        go (Some y) is run (suc i) there more = ⊎_elim
            (λ (back : e ≡ HandBack p). inr (
              (zero, ap (λ (z : Event). Some z) back),
              back_read p a o y x es i run (back_now p c y (ap (step_of c) (sym back) ∙ is)) there,
            ))
            (λ (next : AtDriver p y). ⊎_elim
            (λ (h : (a ≡ workers + d) × ((j : ℕ) → j < i → slice_get es j ≡ Some (Claim p a) → ⊥)). inl (
              h.0,
              λ j lt claim. unclaimed h.1 j lt claim,
            ))
            (λ (h : ((k : ℕ) × (slice_get es k ≡ Some (HandBack p))) × (was_read o ≡ true)).
            inr ((suc h.0.0, h.0.1), h.1))
            (more y run i there (done_workers c y (effect_of c e) is ∙ seat)
            (rows_step starts takes closes backs keeps c y e is all) next))
            (at_step takes closes backs keeps p c y e is at)
          where
            unclaimed : ((j : ℕ) → j < i → slice_get es j ≡ Some (Claim p a) → ⊥) → (j : ℕ) → j < suc i
                → slice_get (e ∷ es) j ≡ Some (Claim p a) → ⊥
            unclaimed h zero lt claim =
                not_claimed takes closes backs keeps p a c y e (some_is e (Claim p a) claim) is at
            unclaimed h (suc j) lt claim = h j (omega (arith, lt)) claim

  -- a path that starts at a desk is closed by the desk, or was handed back and is closed as one that was read
  pub closed_by_desk : (starts : List Start) (workers drivers p d : ℕ) (required : Bool) (history : List Event)
      (x : Core) → slice_get starts p ≡ Some (Desk d required) → IsLegal starts workers drivers history x
      → (i a : ℕ) (o : Own) → slice_get history i ≡ Some (Close p a o)
      → IsCloseOf history i p a o (workers + d)
  closed_by_desk starts workers drivers p d required history x begun run i a o at =
      closed_from starts workers p d required begun a o (start starts workers drivers) x history i run refl
      (all_begin starts workers drivers) (at_start starts workers drivers p d required begun) at
