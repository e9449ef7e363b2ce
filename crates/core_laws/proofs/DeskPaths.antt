-- What its notes tell a desk of the paths that it still has.
use Rattle.std.proofs.Common.{◌≡◌, ◌==◌, ℕ, zero, suc, ◌+◌, ⊎_elim, Bool, true, false, cond, List, [], ◌∷◌, map}
use Rattle.std.proofs.Common.{Some}
use Rattle.std.proofs.Common.{None, refl, sym, ap, ◌∙◌, subst, eq-eqb}
use Rattle.std.specs.Prelude.{slice_get, ◌||◌}
use Rattle.std.proofs.lemmas.Bool.{and_from}
use Rattle.delay_table.specs.Table.{contains}
use Rattle.checkout_core.specs.declared.verdict.FilterCause.TheVariants as cause
use Rattle.checkout_core.specs.declared.path.Heard.{Heard}
use Rattle.checkout_core.specs.declared.path.Heard.TheVariants as heard
use Rattle.checkout_core.specs.declared.path.PathState.{PathState}
use Rattle.checkout_core.specs.declared.path.PathState.TheVariants as path
use Rattle.checkout_core.specs.declared.path.PathState.TheVariants.{Waiting, Held, Unasked, Closed}
use Rattle.checkout_core.specs.declared.path.Start.{Start}
use Rattle.checkout_core.specs.declared.path.Start.TheVariants.{Desk}
use Rattle.checkout_core.specs.declared.path.Path.{Path}
use Rattle.checkout_core.specs.declared.driver.OpenSession.{OpenSession}
use Rattle.checkout_core.specs.declared.driver.DriverState.{DriverState}
use Rattle.checkout_core.specs.declared.driver.DriverState.TheVariants as driver
use Rattle.checkout_core.specs.declared.event.Event.{Event}
use Rattle.checkout_core.specs.States.{Core, start, is_at, is_delayed, is_unasked, AreBelow}
use Rattle.checkout_core.specs.Cursors.{asks, is_pending}
use Rattle.checkout_core.specs.Steps.{replay}
use Rattle.checkout_core.specs.Notes.{notes}
use Rattle.checkout_core.specs.Closes.{own_of}
use Rattle.checkout_core.specs.Fates.{Fate, Untold, Later, Known, fate_of}
use Rattle.checkout_core.specs.Talks.{Talk, Refusing, InRound}
use Rattle.checkout_core.specs.Agreements.{unasked, round_of, talk_at, Agrees}
use Rattle.checkout_core.specs.Desks.{is_left}
use Rattle.checkout_core.proofs.Basics.{eqb_self, same_or, other_number, same_row, same_desk}
use Rattle.checkout_core.proofs.Inverses.{unasked_is, late_is}
use Rattle.core_laws.specs.Told.{ahead_fate, waits}
use Rattle.core_laws.proofs.Views.{none_says}
use Rattle.core_laws.proofs.Fates.{Fits, told_by}
use Rattle.core_laws.proofs.Facts.{orderly}
use Rattle.core_laws.proofs.Kept.{Sight}
use Rattle.core_laws.proofs.Desks.{row_of, contains_suc, sight, own_row, with_desk}

-- lists of paths
pub turn_at : (p : ℕ) (ns : List ℕ) → contains p ns ≡ true → (i : ℕ) × (slice_get ns i ≡ Some p)
turn_at p [] h = absurd (cc (h))
turn_at p (n ∷ ns) h = ⊎_elim
    (λ (k : (p ≡ n) × ((p == n) ≡ true)). (zero, ap (λ z. Some z) (sym k.0)))
    (λ (k : (p == n) ≡ false).
    let r = turn_at p ns (sym (ap (λ (b : Bool). cond b true (contains p ns)) k) ∙ h) in (suc r.0, r.1))
    (same_or p n)

pub at_turn : (p : ℕ) (ns : List ℕ) (i : ℕ) → slice_get ns i ≡ Some p → contains p ns ≡ true
at_turn p [] i h = absurd (cc (h))
at_turn p (n ∷ ns) zero h =
    let same : n ≡ p = cc (h) in ap (λ (b : Bool). cond b true (contains p ns)) (eq-eqb p n (sym same))
at_turn p (n ∷ ns) (suc i) h = go (p == n) (at_turn p ns i h)
  where
    go : (b : Bool) → contains p ns ≡ true → cond b true (contains p ns) ≡ true
    go true k = refl
    go false k = k

-- an unasked path of the driver is one of those to be asked for
pub asked_row : (d : ℕ) (rs : List Path) (p : ℕ) (r : Path) → slice_get rs p ≡ Some r → is_at d r.start ≡ true
    → is_unasked r.state ≡ true → contains p (unasked d rs) ≡ true
asked_row d [] p r there own un = absurd (cc (there))
asked_row d (x ∷ xs) zero r there own un =
    let same : x ≡ r = cc (there) in
    let yes : asks d x ≡ true = ap (asks d) same ∙ and_from (is_at d r.start) (is_unasked r.state) own un in
    ap (λ (b : Bool). contains zero (cond b (zero ∷ map (λ i. suc i) (unasked d xs))
    (map (λ i. suc i) (unasked d xs)))) yes
asked_row d (x ∷ xs) (suc p) r there own un = go (asks d x)
    (contains_suc p (unasked d xs) ∙ asked_row d xs p r there own un)
  where
    go : (b : Bool) → contains (suc p) (map (λ i. suc i) (unasked d xs)) ≡ true
        → contains (suc p) (cond b (zero ∷ map (λ i. suc i) (unasked d xs)) (map (λ i. suc i) (unasked d xs))) ≡ true
    go true k = ap (λ (b : Bool). cond b true (contains (suc p) (map (λ i. suc i) (unasked d xs))))
        (other_number (suc p) zero (λ e. absurd (cc (e)))) ∙ k
    go false k = k

ahead_told : (x : DriverState) (rest late turns : List ℕ) → (x ≡ driver.Done → ⊥)
    → told_by x ≡ ahead_fate (talk_at x rest late turns)
ahead_told driver.Off rest late turns other = refl
ahead_told driver.Aborted rest late turns other = refl
ahead_told driver.Done rest late turns other = absurd (other refl)
ahead_told (driver.On k) rest late turns other = go k.caps.smudge
  where
    go : (b : Bool) → cond b Untold (Known (heard.Refused cause.NoSmudge))
        ≡ ahead_fate (cond b (InRound (round_of k rest late turns)) Refusing)
    go true = refl
    go false = refl

-- in a session with smudge
waits_on : (p : ℕ) (x : DriverState) (k : OpenSession) (rest late turns : List ℕ) → x ≡ driver.On k
    → k.caps.smudge ≡ true → waits p (talk_at x rest late turns) ≡ (contains p late || contains p turns)
waits_on p x k rest late turns on smudge = ap (λ (z : DriverState). waits p (talk_at z rest late turns)) on
    ∙ ap (λ (b : Bool). waits p (cond b (InRound (round_of k rest late turns)) Refusing)) smudge

-- what waits is late or listed
waits_in : (p : ℕ) (x : DriverState) (rest late turns : List ℕ) → waits p (talk_at x rest late turns) ≡ true
    → (contains p late || contains p turns) ≡ true
waits_in p driver.Off rest late turns h = absurd (cc (h))
waits_in p driver.Aborted rest late turns h = absurd (cc (h))
waits_in p driver.Done rest late turns h = absurd (cc (h))
waits_in p (driver.On k) rest late turns h = go k.caps.smudge h
  where
    go : (b : Bool) → waits p (cond b (InRound (round_of k rest late turns)) Refusing) ≡ true
        → (contains p late || contains p turns) ≡ true
    go true h = h
    go false h = absurd (cc (h))

module _ (starts : List Start) (workers drivers : ℕ) (history : List Event) (c : Core) (p d : ℕ) (b : Bool)
    (below : AreBelow drivers starts) (run : replay (start starts workers drivers) history ≡ Some c)
    (there : slice_get starts p ≡ Some (Desk d b)) (rest : List ℕ) (first : ℕ) (t : Talk) (a : Agrees c d rest first t)
    (stays : is_left p history ≡ false) where
  abbrev Told : Fate → Type 0
  Told f = fate_of p Untold (notes starts d history) ≡ f

  abbrev see : Sight starts c p d b (fate_of p Untold (notes starts d history)) (own_of p None history)
  see = sight starts workers drivers history c p d b below run there

  own_at : is_at d (see.row).start ≡ true
  own_at = ap (is_at d) see.start ∙ eqb_self d

  same_state : a.state ≡ see.state
  same_state = same_desk c d a.state see.state a.there see.desk

  fits_at : (s : PathState) → (see.row).state ≡ s
      → Fits b see.state (fate_of p Untold (notes starts d history)) (own_of p None history) s
  fits_at s is = subst (λ (z : PathState). Fits b see.state (fate_of p Untold (notes starts d history))
      (own_of p None history) z) is see.fits

  pub told_ahead : contains p rest ≡ true → Told (ahead_fate t)
  told_ahead in0 =
      let r = row_of d c.paths p (sym (ap (contains p) a.rest_is) ∙ in0) in
      let same = same_row c p see.row r.0 see.there r.1 in
      let un : is_unasked (see.row).state ≡ true = ap (λ (z : Path). is_unasked z.state) same ∙ r.3 in
      fits_at Unasked (unasked_is (see.row).state un)
      ∙ (ap told_by (sym same_state) ∙ (ahead_told a.state rest a.late a.turns (λ e. never e un)
      ∙ ap ahead_fate (sym a.talk)))
    where
      never : a.state ≡ driver.Done → is_unasked (see.row).state ≡ true → ⊥
      never e un =
          let n = (orderly starts workers drivers history c below run).done d (a.there ∙ ap (λ z. Some z) e) in
          let f = none_says d is_unasked c.paths p see.row n see.there own_at in cc (f, un)

  pub told_later : waits p t ≡ true → Told Later
  told_later h = go (contains p a.late) refl (waits_in p a.state rest a.late a.turns (sym (ap (waits p) a.talk) ∙ h))
    where
      go : (z : Bool) → contains p a.late ≡ z → (z || contains p a.turns) ≡ true → Told Later
      go true i k = fits_at path.Delayed (late_is (see.row).state
          (sym ((a.lists).late_is p see.row see.there own_at) ∙ i))
      go false i k =
          let n = turn_at p a.turns k in
          let r = (a.lists).turn_is n.0 p n.1 in
          fits_at (path.Named (a.base + n.0))
          (ap (λ (z : Path). z.state) (same_row c p see.row r.0 see.there r.1) ∙ r.3)

  pub told_known : contains p rest ≡ false → waits p t ≡ false → (h : Heard) × Told (Known h)
  told_known out no_wait = go (see.row).state refl
      (own_row starts workers drivers history c p d b below run there stays)
    where
      waits_not : (s : PathState) → (see.row).state ≡ s → is_pending s ≡ true
          → (contains p a.late || contains p a.turns) ≡ false
      waits_not s is pending =
          let o = (orderly starts workers drivers history c below run).pending d p see.row a.state
          (record { there = see.there; own = own_at }) a.there
          (ap is_pending is ∙ pending) in
          sym (waits_on p a.state o.0 rest a.late a.turns o.1 o.2) ∙ (sym (ap (waits p) a.talk) ∙ no_wait)

      or_left : (x y : Bool) → (x || y) ≡ false → x ≡ false
      or_left true y h = h
      or_left false y h = refl

      or_last : (x y : Bool) → (x || y) ≡ false → y ≡ false
      or_last true y h = absurd (cc (h))
      or_last false y h = h

      go : (s : PathState) → (see.row).state ≡ s → with_desk s ≡ true → (h : Heard) × Told (Known h)
      go Unasked is w =
          let k = asked_row d c.paths p see.row see.there own_at (ap is_unasked is) in
          absurd (let z : contains p rest ≡ true = ap (contains p) a.rest_is ∙ k in cc (z, out))
      go path.Delayed is w =
          let n = or_left (contains p a.late) (contains p a.turns) (waits_not path.Delayed is refl) in
          let y = (a.lists).late_is p see.row see.there own_at
          ∙ ap is_delayed is in absurd (cc (n, y))
      go (path.Named u) is w =
          let n = or_last (contains p a.late) (contains p a.turns) (waits_not (path.Named u) is refl) in
          let k = (a.lists).turn_of p see.row u see.there own_at is in
          let y = at_turn p a.turns k.0 k.2 in absurd (cc (n, y))
      go (path.Heard h) is w = (h, fits_at (path.Heard h) is)
      go (Waiting raw) is w = absurd (cc (w))
      go (Held e raw) is w = absurd (cc (w))
      go (Closed v) is w = absurd (cc (w))
