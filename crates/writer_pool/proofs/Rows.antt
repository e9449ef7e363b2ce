-- What each path of a run keeps, and paths that are with no driver.
use Rattle.std.proofs.Common.{◌≡◌, ◌==◌, ◌⊎◌, ℕ, zero, suc, ◌<◌, inl, inr, ⊎_elim, Bool, true, false, List, [], ◌∷◌, map, Option, Some, None, refl, sym, ap, ◌∙◌, subst}
use Rattle.std.specs.Prelude.{slice_get}
use Rattle.delay_table.specs.Table.{contains}
use Rattle.checkout_core.specs.declared.verdict.FilterCause.{FilterCause}
use Rattle.checkout_core.specs.declared.verdict.Verdict.{Verdict}
use Rattle.checkout_core.specs.declared.path.PathState.{PathState}
use Rattle.checkout_core.specs.declared.path.PathState.TheVariants.{Waiting, Held, Closed}
use Rattle.checkout_core.specs.declared.path.Path.{Path}
use Rattle.checkout_core.specs.declared.path.Start.{Start}
use Rattle.checkout_core.specs.declared.path.Start.TheVariants.{Pool, Desk, Done}
use Rattle.checkout_core.specs.declared.event.Event.{Event}
use Rattle.checkout_core.specs.declared.event.Event.TheVariants as ev
use Rattle.checkout_core.specs.declared.event.Event.TheVariants.{Claim, Close, HandBack}
use Rattle.checkout_core.specs.States.{Core, AreBelow, start, path_of, with_state, is_at}
use Rattle.checkout_core.specs.Steps.{step_of, replay, IsLegal}
use Rattle.checkout_core.specs.Actors.{own_driver}
use Rattle.checkout_core.specs.Desks.{paths_of, is_left}
use Rattle.core_laws.specs.Moves.{Moved, RowStays, is_with_driver}
use Rattle.checkout_core.specs.Notes.{is_noted}
use Rattle.writer_pool.specs.Closing.{IsFromBook}
use Rattle.writer_pool.specs.Ends.{NoneWithDriver}
use Rattle.writer_pool.proofs.Places.{some_is, same_or, eqb_self}
use Rattle.writer_pool.proofs.CoreMoves.{moved_here, moved_there}
use Rattle.writer_pool.proofs.Resting.{TakesPath, ClosesPath}

abbrev pub BacksPath : Type 0
BacksPath = (c x : Core) (p : ℕ) → step_of c (HandBack p) ≡ Some x
    → (s : PathState) × (why : FilterCause) × Moved c x p s (Waiting (Some why)) × (is_with_driver s ≡ true)

abbrev pub KeepsPaths : Type 0
KeepsPaths = (c x : Core) (e : Event) → is_noted e ≡ true → step_of c e ≡ Some x → (p : ℕ)
    → RowStays (slice_get c.paths p) (slice_get x.paths p)

-- a desk that closed or handed back each path of its driver keeps none
abbrev pub KeepsNone : Type 0
KeepsNone = (starts : List Start) (workers drivers d : ℕ) (history : List Event) (x : Core) → AreBelow drivers starts
    → IsLegal starts workers drivers history x
    → ((p : ℕ) → contains p (paths_of d starts) ≡ true → is_left p history ≡ true) → (p : ℕ) (r : Path)
    → slice_get x.paths p ≡ Some r → is_at d r.start ≡ true → is_with_driver r.state ≡ false

-- a path begins as its start says, and with a driver only if it starts with one
pub record Keeps (starts : List Start) (p : ℕ) (r : Path) : Type 0 where
  pub begun : slice_get starts p ≡ Some r.start
  pub free : own_driver r.start ≡ None → is_with_driver r.state ≡ false

abbrev pub AllKeep : List Start → Core → Type 0
AllKeep starts c = (p : ℕ) (r : Path) → slice_get c.paths p ≡ Some r → Keeps starts p r

module _ (starts : List Start) where
  moved_rows : (c x : Core) (p : ℕ) (s t : PathState) → Moved c x p s t → is_with_driver t ≡ false → AllKeep starts c
      → AllKeep starts x
  moved_rows c x p s t m free all q r there = ⊎_elim
      (λ (h : (q ≡ p) × ((q == p) ≡ true)).
      let is : with_state m.row t ≡ r = some_is (with_state m.row t) r
      (sym (moved_here c x p s t m) ∙ (ap (slice_get x.paths) (sym h.0) ∙ there)) in
      let k = all q m.row (ap (slice_get c.paths) h.0 ∙ m.there) in
      subst (Keeps starts q) is (record { begun = k.begun; free = λ none. free }))
      (λ (h : ((q ≡ p) → ⊥) × ((q == p) ≡ false)). all q r (sym (moved_there c x p q s t m h.0) ∙ there))
      (same_or q p)

  -- a note brings no path to its driver
  stayed_rows : (c x : Core) → ((p : ℕ) → RowStays (slice_get c.paths p) (slice_get x.paths p)) → AllKeep starts c
      → AllKeep starts x
  stayed_rows c x stays all p r there = go (slice_get c.paths p) refl (slice_get x.paths p) there (stays p)
    where
      go : (o : Option Path) → slice_get c.paths p ≡ o → (n : Option Path) → n ≡ Some r → RowStays o n → Keeps starts p r
      go None was None is row = absurd (cc (is))
      go None was (Some y) is row = absurd row
      go (Some w) was None is row = absurd (cc (is))
      go (Some w) was (Some y) is row =
          let same : y ≡ r = cc (is) in
          let k = all p w was in
          subst (Keeps starts p) same (record {
            begun = k.begun ∙ ap (λ (z : Start). Some z) (sym row.0);
            free = λ none. ⊎_elim
                (λ (h : y.state ≡ w.state). ap is_with_driver h ∙ k.free (ap own_driver (sym row.0) ∙ none))
                (λ (h : (is_with_driver w.state ≡ true) × (is_with_driver y.state ≡ true)).
                absurd (let t = h.0 in let f = k.free (ap own_driver (sym row.0) ∙ none) in cc (t, f)))
                row.1;
          })

  module _ (takes : TakesPath) (closes : ClosesPath) (backs : BacksPath) (keeps : KeepsPaths) where
    pub rows_step : (c x : Core) (e : Event) → step_of c e ≡ Some x → AllKeep starts c → AllKeep starts x
    rows_step c x (Claim p a) h all = let m = takes c x p a h in moved_rows c x p (Waiting m.0) (Held a m.0) m.1 refl all
    rows_step c x (Close p a o) h all = let m = closes c x p a o h in moved_rows c x p m.0 (Closed m.1) m.2 refl all
    rows_step c x (HandBack p) h all = let m = backs c x p h in moved_rows c x p m.0 (Waiting (Some m.1)) m.2 refl all
    rows_step c x (ev.Opened d k) h all = stayed_rows c x (keeps c x (ev.Opened d k) refl h) all
    rows_step c x (ev.OpenFailed p o) h all = stayed_rows c x (keeps c x (ev.OpenFailed p o) refl h) all
    rows_step c x (ev.Answered p y) h all = stayed_rows c x (keeps c x (ev.Answered p y) refl h) all
    rows_step c x (ev.Named p) h all = stayed_rows c x (keeps c x (ev.Named p) refl h) all
    rows_step c x (ev.Listed d y) h all = stayed_rows c x (keeps c x (ev.Listed d y) refl h) all
    rows_step c x (ev.Redone p y) h all = stayed_rows c x (keeps c x (ev.Redone p y) refl h) all
    rows_step c x (ev.Shut d) h all = stayed_rows c x (keeps c x (ev.Shut d) refl h) all

    rows_run : (c x : Core) (es : List Event) → replay c es ≡ Some x → AllKeep starts c → AllKeep starts x
    rows_run c x [] h all = subst (AllKeep starts) (some_is c x h) all
    rows_run c x (e ∷ es) h all = go (step_of c e) refl h (λ d run keep. rows_run d x es run keep)
      where
        go : (o : Option Core) → step_of c e ≡ o
            → (elim o as (λ _. Option Core) [ None ↦ None | Some d ↦ replay d es ]) ≡ Some x
            → ((d : Core) → replay d es ≡ Some x → AllKeep starts d → AllKeep starts x) → AllKeep starts x
        go None is run more = absurd (cc (run))
        go (Some d) is run more = more d run (rows_step c d e is all)

path_begins : (starts : List Start) (p : ℕ) (r : Path) → slice_get (map path_of starts) p ≡ Some r
    → (s : Start) × (slice_get starts p ≡ Some s) × (path_of s ≡ r)
path_begins [] p r e = absurd (cc (e))
path_begins (s ∷ ss) zero r e = (s, refl, some_is (path_of s) r e)
path_begins (s ∷ ss) (suc p) r e = path_begins ss p r e

begun_free : (s : Start) → own_driver s ≡ None → is_with_driver (path_of s).state ≡ false
begun_free Pool none = refl
begun_free (Done v) none = refl
begun_free (Desk d b) none = absurd (cc (none))

pub all_begin : (starts : List Start) (workers drivers : ℕ) → AllKeep starts (start starts workers drivers)
all_begin starts workers drivers p r there =
    let b = path_begins starts p r there in
    subst (Keeps starts p) b.2 (record { begun = b.1; free = begun_free b.0 })

-- where each desk closed or handed back each path of its driver, no path is with its driver
pub none_with_driver : TakesPath → ClosesPath → BacksPath → KeepsPaths → KeepsNone
    → (starts : List Start) (workers drivers : ℕ) (es : List Event) (x : Core) → AreBelow drivers starts
    → IsLegal starts workers drivers es x
    → ((q p : ℕ) → q < drivers → contains p (paths_of q starts) ≡ true → is_left p es ≡ true) → NoneWithDriver x
none_with_driver takes closes backs keeps none starts workers drivers es x below run left p r there =
    go (rows_run starts takes closes backs keeps (start starts workers drivers) x es run
    (all_begin starts workers drivers) p r there) r.start refl
  where
    go : Keeps starts p r → (s : Start) → r.start ≡ s → is_with_driver r.state ≡ false
    go k Pool is = k.free (ap own_driver is)
    go k (Done v) is = k.free (ap own_driver is)
    go k (Desk d b) is = none starts workers drivers d es x below run
        (λ q. left d q (below p d b (k.begun ∙ ap (λ (z : Start). Some z) is))) p r there (ap (is_at d) is ∙ eqb_self d)

-- the path is with its driver, or closed
abbrev pub AtDriver : ℕ → Core → Type 0
AtDriver p c = (r : Path) → slice_get c.paths p ≡ Some r
    → (is_with_driver r.state ≡ true) ⊎ ((v : Verdict) × (r.state ≡ Closed v))

not_waiting : (s : PathState) (raw : Option FilterCause) → s ≡ Waiting raw
    → (is_with_driver s ≡ true) ⊎ ((v : Verdict) × (s ≡ Closed v)) → ⊥
not_waiting s raw is at = ⊎_elim
    (λ (h : is_with_driver s ≡ true). let f : is_with_driver s ≡ false = ap is_with_driver is in cc (f, h))
    (λ (h : (v : Verdict) × (s ≡ Closed v)). let u : Waiting raw ≡ Closed h.0 = sym is ∙ h.1 in cc (u))
    at

at_moved : (c x : Core) (p q : ℕ) (s t : PathState) → Moved c x q s t → AtDriver p c
    → (p ≡ q → (is_with_driver t ≡ true) ⊎ ((v : Verdict) × (t ≡ Closed v))) → AtDriver p x
at_moved c x p q s t m at here r there = ⊎_elim
    (λ (h : (p ≡ q) × ((p == q) ≡ true)).
    let is : with_state m.row t ≡ r = some_is (with_state m.row t) r
    (sym (moved_here c x q s t m) ∙ (ap (slice_get x.paths) (sym h.0) ∙ there)) in
    subst (λ (z : Path). (is_with_driver z.state ≡ true) ⊎ ((v : Verdict) × (z.state ≡ Closed v))) is (here h.0))
    (λ (h : ((p ≡ q) → ⊥) × ((p == q) ≡ false)). at r (sym (moved_there c x q p s t m h.0) ∙ there))
    (same_or p q)

at_stayed : (p : ℕ) (c x : Core) → RowStays (slice_get c.paths p) (slice_get x.paths p) → AtDriver p c → AtDriver p x
at_stayed p c x stays at r there = go (slice_get c.paths p) refl (slice_get x.paths p) there stays
  where
    go : (o : Option Path) → slice_get c.paths p ≡ o → (n : Option Path) → n ≡ Some r → RowStays o n
        → (is_with_driver r.state ≡ true) ⊎ ((v : Verdict) × (r.state ≡ Closed v))
    go None was None is row = absurd (cc (is))
    go None was (Some y) is row = absurd row
    go (Some w) was None is row = absurd (cc (is))
    go (Some w) was (Some y) is row =
        let same : y ≡ r = some_is y r is in
        subst (λ (z : Path). (is_with_driver z.state ≡ true) ⊎ ((v : Verdict) × (z.state ≡ Closed v))) same (⊎_elim
        (λ (h : y.state ≡ w.state).
        subst (λ (z : PathState). (is_with_driver z ≡ true) ⊎ ((v : Verdict) × (z ≡ Closed v))) (sym h) (at w was))
        (λ (h : (is_with_driver w.state ≡ true) × (is_with_driver y.state ≡ true)). inl h.1)
        row.1)

module _ (takes : TakesPath) (closes : ClosesPath) (backs : BacksPath) (keeps : KeepsPaths) where
  pub at_step : (p : ℕ) (c x : Core) (e : Event) → step_of c e ≡ Some x → AtDriver p c
      → (e ≡ HandBack p) ⊎ AtDriver p x
  at_step p c x (Claim q a) h at =
      let m = takes c x q a h in
      inr (at_moved c x p q (Waiting m.0) (Held a m.0) m.1 at (λ same.
      absurd (not_waiting m.1.row.state m.0 m.1.was
      (at m.1.row (ap (slice_get c.paths) same ∙ m.1.there)))))
  at_step p c x (Close q a o) h at =
      let m = closes c x q a o h in
      inr (at_moved c x p q m.0 (Closed m.1) m.2 at (λ same. inr (m.1, refl)))
  at_step p c x (HandBack q) h at = ⊎_elim
      (λ (same : (p ≡ q) × ((p == q) ≡ true)). inl (ap (λ (z : ℕ). HandBack z) (sym same.0)))
      (λ (other : ((p ≡ q) → ⊥) × ((p == q) ≡ false)).
      let m = backs c x q h in
      inr (at_moved c x p q m.0 (Waiting (Some m.1)) m.2 at (λ same. absurd (other.0 same))))
      (same_or p q)
  at_step p c x (ev.Opened d k) h at = inr (at_stayed p c x (keeps c x (ev.Opened d k) refl h p) at)
  at_step p c x (ev.OpenFailed q o) h at = inr (at_stayed p c x (keeps c x (ev.OpenFailed q o) refl h p) at)
  at_step p c x (ev.Answered q y) h at = inr (at_stayed p c x (keeps c x (ev.Answered q y) refl h p) at)
  at_step p c x (ev.Named q) h at = inr (at_stayed p c x (keeps c x (ev.Named q) refl h p) at)
  at_step p c x (ev.Listed d y) h at = inr (at_stayed p c x (keeps c x (ev.Listed d y) refl h p) at)
  at_step p c x (ev.Redone q y) h at = inr (at_stayed p c x (keeps c x (ev.Redone q y) refl h p) at)
  at_step p c x (ev.Shut d) h at = inr (at_stayed p c x (keeps c x (ev.Shut d) refl h p) at)

  pub not_claimed : (p a : ℕ) (c x : Core) (e : Event) → e ≡ Claim p a → step_of c e ≡ Some x → AtDriver p c → ⊥
  not_claimed p a c x e is h at =
      let m = takes c x p a (ap (step_of c) (sym is) ∙ h) in
      not_waiting m.1.row.state m.0 m.1.was (at m.1.row m.1.there)

  -- a path that was with its driver was handed back before it was claimed
  back_before : (p a : ℕ) (c x : Core) (es : List Event) (j : ℕ) → replay c es ≡ Some x → AtDriver p c
      → slice_get es j ≡ Some (Claim p a) → (k : ℕ) × (slice_get es k ≡ Some (HandBack p))
  back_before p a c x [] j run at there = absurd (cc (there))
  back_before p a c x (e ∷ es) j run at there =
      go (step_of c e) refl run j there (λ d next i claim more. back_before p a d x es i next more claim)
    where
      go : (o : Option Core) → step_of c e ≡ o
          → (elim o as (λ _. Option Core) [ None ↦ None | Some d ↦ replay d es ]) ≡ Some x → (j : ℕ)
          → slice_get (e ∷ es) j ≡ Some (Claim p a)
          → ((d : Core) → replay d es ≡ Some x → (i : ℕ) → slice_get es i ≡ Some (Claim p a) → AtDriver p d
          → (k : ℕ) × (slice_get es k ≡ Some (HandBack p)))
          → (k : ℕ) × (slice_get (e ∷ es) k ≡ Some (HandBack p))
      go None is run j there more = absurd (cc (run))
      go (Some d) is run zero there more =
          absurd (not_claimed p a c d e (some_is e (Claim p a) there) is at)
      go (Some d) is run (suc i) there more = ⊎_elim
          (λ (back : e ≡ HandBack p). (zero, ap (λ (z : Event). Some z) back))
          (λ (next : AtDriver p d). let r = more d run i there next in (suc r.0, r.1))
          (at_step p c d e is at)

pub at_start : (starts : List Start) (workers drivers p d : ℕ) (required : Bool)
    → slice_get starts p ≡ Some (Desk d required) → AtDriver p (start starts workers drivers)
at_start starts workers drivers p d required begun r there =
    let b = path_begins starts p r there in
    let is : b.0 ≡ Desk d required = some_is b.0 (Desk d required) (sym b.1 ∙ begun) in
    inl (ap (λ (z : Path). is_with_driver z.state) (sym b.2) ∙ ap (λ (s : Start). is_with_driver (path_of s).state) is)

-- a path that starts at a desk was handed back before it was claimed
pub claimed_back : TakesPath → ClosesPath → BacksPath → KeepsPaths → (starts : List Start) (workers drivers : ℕ)
    (es : List Event) (x : Core) → IsLegal starts workers drivers es x → (i p a d : ℕ) (required : Bool)
    → slice_get starts p ≡ Some (Desk d required) → IsFromBook starts es i p a
    → (k : ℕ) × (slice_get es k ≡ Some (HandBack p))
claimed_back takes closes backs keeps starts workers drivers es x run i p a d required begun from = ⊎_elim
    (λ (pool : slice_get starts p ≡ Some Pool).
    let u : Some Pool ≡ Some (Desk d required) = sym pool ∙ begun in
    absurd (cc (u)))
    (λ (claim : (j : ℕ) × (j < i) × (slice_get es j ≡ Some (Claim p a))).
    back_before takes closes backs keeps p a (start starts workers drivers) x es claim.0 run
    (at_start starts workers drivers p d required begun) claim.2)
    from
