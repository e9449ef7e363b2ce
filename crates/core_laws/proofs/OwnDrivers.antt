-- What a driver's event does, as its desk knows it, and that another actor's event leaves what an actor knows.
use Rattle.std.proofs.Common.{◌≡◌, ◌==◌, ℕ, zero, suc, ◌+◌, ◌⊎◌, inl, inr, ⊎_elim, Bool, true, false, cond, List, []}
use Rattle.std.proofs.Common.{◌∷◌, Option, Some, None, refl, sym, ap, ◌∙◌, subst}
use Rattle.std.specs.Prelude.{slice_get, ◌&&◌, ◌||◌, not, take}
use Rattle.filter_words.specs.declared.reply.Caps.{Caps}
use Rattle.filter_words.specs.declared.reply.Reply.{Reply}
use Rattle.filter_words.specs.declared.reply.Reply.TheVariants as reply
use Rattle.filter_words.specs.declared.reply.ListReply.{ListReply}
use Rattle.filter_words.specs.declared.reply.ListReply.TheVariants as list
use Rattle.std.proofs.lemmas.Bool.{and_parts}
use Rattle.checkout_core.specs.declared.verdict.FilterCause.{FilterCause}
use Rattle.checkout_core.specs.declared.verdict.Verdict.{Verdict}
use Rattle.checkout_core.specs.declared.verdict.Own.{Own}
use Rattle.checkout_core.specs.declared.event.OpenCause.{OpenCause}
use Rattle.checkout_core.specs.declared.path.PathState.{PathState}
use Rattle.checkout_core.specs.declared.path.PathState.TheVariants as path
use Rattle.checkout_core.specs.declared.path.PathState.TheVariants.{Waiting, Held, Unasked, Closed}
use Rattle.checkout_core.specs.declared.path.Start.{Start}
use Rattle.checkout_core.specs.declared.path.Start.TheVariants.{Pool, Desk, Done}
use Rattle.checkout_core.specs.declared.path.Path.{Path}
use Rattle.checkout_core.specs.declared.driver.OpenSession.{OpenSession}
use Rattle.checkout_core.specs.declared.driver.DriverState.{DriverState}
use Rattle.checkout_core.specs.declared.driver.DriverState.TheVariants as driver
use Rattle.checkout_core.specs.declared.event.Event.{Event}
use Rattle.checkout_core.specs.declared.event.Event.TheVariants as ev
use Rattle.checkout_core.specs.declared.effect.Effect.{Effect}
use Rattle.checkout_core.specs.declared.effect.Effect.TheVariants.{Moves, Switches, Both}
use Rattle.checkout_core.specs.declared.effect.Sweep.TheVariants.{Keep}
use Rattle.checkout_core.specs.States.{Core, is_at, is_unasked, is_delayed, is_named, is_named_below}
use Rattle.checkout_core.specs.States.{none_of, path_count, named_count, lowest_unasked, add_one, none_below}
use Rattle.checkout_core.specs.Effects.{after}
use Rattle.checkout_core.specs.Verdicts.{refused_cause, held_close, heard_close, unasked_close}
use Rattle.checkout_core.specs.Conditions.{effect_of, at_driver, at_both, of_driver, given, is_off, is_good_opening}
use Rattle.checkout_core.specs.Conditions.{is_good_reply, is_delay, claim, claim_at, heard_opening, replied}
use Rattle.checkout_core.specs.Conditions.{replied_state, named, list_desk, list_sweep, list_allowed, list_step}
use Rattle.checkout_core.specs.Conditions.{list_at, redo, redo_at, hand_back, hand_back_at, closing, close_at}
use Rattle.checkout_core.specs.Conditions.{open_first, open_at, fail_at, answer_in, answer_at, name_in}
use Rattle.checkout_core.specs.Conditions.{name_at, shut_in, shut_at}
use Rattle.checkout_core.specs.Actors.{own_driver, driver_at, seat, actor_of}
use Rattle.checkout_core.proofs.Basics.{none_is_some, some_is, given_is, cond_is, cond_not, of_driver_is}
use Rattle.checkout_core.proofs.Basics.{at_path_is, at_driver_is, at_both_is, at_session_is}
use Rattle.checkout_core.proofs.Basics.{same_number, other_number, at_it}
use Rattle.checkout_core.proofs.Inverses.{claim_is, close_moves, redo_is, back_is, open_is, unasked_is, late_is}
use Rattle.core_laws.proofs.Views.{Begun}
use Rattle.core_laws.proofs.OwnViews.{is_held, known, AlikePath, Alike}
use Rattle.core_laws.proofs.OwnViews.{is_in_hand, not_held, IsOf, two_at, moved_alone}
use Rattle.core_laws.proofs.OwnViews.{of_leaves}

-- the events of a driver
replied_not : (y : Reply) → is_in_hand (replied_state y) ≡ false
replied_not reply.Content = refl
replied_not reply.Error = refl
replied_not reply.ErrorAfter = refl
replied_not reply.Delayed = refl
replied_not reply.Abort = refl
replied_not (reply.Broken b) = refl
replied_not reply.NoMemory = refl

refused_not : (x : DriverState) (s : PathState) (k : FilterCause) → refused_cause x s ≡ Some k → is_in_hand s ≡ false
refused_not x (path.Heard h) k e = refl
refused_not x Unasked k e = refl
refused_not x (Waiting raw) k e = refl
refused_not x (Held b raw) k e = none_is_some e
refused_not x path.Delayed k e = refl
refused_not x (path.Named t) k e = refl
refused_not x (Closed v) k e = refl

abbrev pub is_drivers : Event → Bool
is_drivers (ev.Claim p a) = false
is_drivers (ev.Close p a o) = false
is_drivers e = true

-- the desk of the path's driver
abbrev desk_of : List Start → ℕ → ℕ → Option ℕ
desk_of starts workers p = seat workers (driver_at starts p)

desk_at : (starts : List Start) (workers p d : ℕ) (b : Bool) (s : Start) → slice_get starts p ≡ Some s
    → s ≡ Desk d b → desk_of starts workers p ≡ Some (workers + d)
desk_at starts workers p d b s there is =
    ap (λ (o : Option Start). seat workers (elim o as (λ _. Option ℕ) [ None ↦ None | Some s ↦ own_driver s ])) there
    ∙ ap (λ (s : Start). seat workers (own_driver s)) is

pub drivers_step : (starts : List Start) (workers : ℕ) (c : Core) (e : Event) (m : Effect) → Begun starts c
    → is_drivers e ≡ true → effect_of c e ≡ Some m
    → (d : ℕ) × (actor_of starts workers e ≡ Some (workers + d)) × IsOf c d m
drivers_step starts workers c (ev.Claim q b) m g is h = absurd (cc (is))
drivers_step starts workers c (ev.Close q b o) m g is h = absurd (cc (is))
drivers_step starts workers c (ev.Opened d caps) m g is h =
    let at = at_driver_is c d (open_at c d caps) m h in
    let k = open_is d caps at.state (lowest_unasked d c.paths) m at.holds in
    (d, refl, subst (λ (z : Effect). IsOf c d z) k.3 refl)
drivers_step starts workers c (ev.OpenFailed q o) m g is h =
    let at = at_both_is c q (fail_at c q o) m h in
    let b = given_is _ (Moves q (path.Heard (heard_opening o))) m at.holds in
    let u = and_parts _ _ ((and_parts _ _ b.0).1) in (
      at.driver,
      desk_at starts workers q at.driver at.required (at.row).start (g q at.row at.there) at.begun,
      subst (λ (z : Effect). IsOf c at.driver z) b.1 (
        at.row,
        at.there,
        at_it at.driver at.required (at.row).start at.begun,
        ap is_in_hand (unasked_is (at.row).state u.0),
        refl,
      ),
    )
drivers_step starts workers c (ev.Answered q y) m g is h =
    let at = at_both_is c q (answer_at c q y) m h in
    let k = at_session_is at.state (λ s. answer_in c q y (at.row).state at.driver s) m at.holds in
    let b = given_is _ (replied q at.driver k.0 y) m k.2 in
    let u = and_parts _ _ ((and_parts _ _ b.0).1) in (
      at.driver,
      desk_at starts workers q at.driver at.required (at.row).start (g q at.row at.there) at.begun,
      subst (λ (z : Effect). IsOf c at.driver z) b.1 (
        (
          at.row,
          at.there,
          at_it at.driver at.required (at.row).start at.begun,
          ap is_in_hand (unasked_is (at.row).state u.0),
          replied_not y,
        ),
        refl,
      ),
    )
drivers_step starts workers c (ev.Named q) m g is h =
    let at = at_both_is c q (name_at c q) m h in
    let k = at_session_is at.state (λ s. name_in c q (at.row).state at.driver s) m at.holds in
    let b = given_is _ (Both q (path.Named (named_count at.driver c.paths)) at.driver (driver.On (named k.0)) Keep) m
    k.2 in
    let v = and_parts _ _ ((and_parts _ _ ((and_parts _ _ b.0).1)).1) in (
      at.driver,
      desk_at starts workers q at.driver at.required (at.row).start (g q at.row at.there) at.begun,
      subst (λ (z : Effect). IsOf c at.driver z) b.1 (
        (
          at.row,
          at.there,
          at_it at.driver at.required (at.row).start at.begun,
          ap is_in_hand (late_is (at.row).state v.0),
          refl,
        ),
        refl,
      ),
    )
drivers_step starts workers c (ev.Listed d y) m g is h =
    let at = at_driver_is c d (list_at c d y) m h in
    let k = at_session_is at.state (λ s. list_step c d s y) m at.holds in
    let l = given_is (list_allowed c d k.0 y) _ m k.2 in
    (d, refl, subst (λ (z : Effect). IsOf c d z) l.1 refl)
drivers_step starts workers c (ev.Redone q y) m g is h =
    let at = at_both_is c q (redo_at c q y) m h in
    let k = at_session_is at.state (λ s. redo c q y at.driver s (at.row).state) m at.holds in
    let b = redo_is c q y at.driver k.0 (at.row).state m k.2 in (
      at.driver,
      desk_at starts workers q at.driver at.required (at.row).start (g q at.row at.there) at.begun,
      subst (λ (z : Effect). IsOf c at.driver z) b.3 (
        (
          at.row,
          at.there,
          at_it at.driver at.required (at.row).start at.begun,
          ap is_in_hand b.1,
          replied_not y,
        ),
        refl,
      ),
    )
drivers_step starts workers c (ev.HandBack q) m g is h =
    let at = at_both_is c q (hand_back_at q) m h in
    let b = cond_not at.required (hand_back q (refused_cause at.state (at.row).state)) m at.holds in
    let k = back_is q (refused_cause at.state (at.row).state) m b.1 in (
      at.driver,
      desk_at starts workers q at.driver at.required (at.row).start (g q at.row at.there) at.begun,
      subst (λ (z : Effect). IsOf c at.driver z) k.2 (
        at.row,
        at.there,
        at_it at.driver at.required (at.row).start at.begun,
        refused_not at.state (at.row).state k.0 k.1,
        refl,
      ),
    )
drivers_step starts workers c (ev.Shut d) m g is h =
    let at = at_driver_is c d (shut_at c d) m h in
    let k = at_session_is at.state (λ s. shut_in c d s) m at.holds in
    let l = given_is _ (Switches d driver.Done Keep) m k.2 in
    (d, refl, subst (λ (z : Effect). IsOf c d z) l.1 refl)

desk_from : (c : Core) (q b : ℕ) (r : Path) (f : Bool → DriverState → Option Verdict) (m : Effect)
    → of_driver r.start (λ d required. at_driver c d (λ x. cond (b == c.workers + d) (closing q (f required x)) None))
    ≡ Some m
    → (d : ℕ) × (u : Bool) × (r.start ≡ Desk d u) × (b ≡ c.workers + d)
desk_from c q b r f m h =
    let k = of_driver_is r.start
    (λ d required. at_driver c d (λ x. cond (b == c.workers + d) (closing q (f required x)) None)) m h in
    let l = at_driver_is c k.0 (λ x. cond (b == c.workers + k.0) (closing q (f k.1 x)) None) m k.3 in
    let n = cond_is _ (closing q (f k.1 l.state)) m l.holds in
    (k.0, k.1, k.2, same_number b (c.workers + k.0) n.0)

-- whose path a close can be of
pub close_from : (c : Core) (q b : ℕ) (o : Own) (r : Path) (s : PathState) (m : Effect)
    → close_at c q b o r s ≡ Some m
    → ((raw : Option FilterCause) × (s ≡ Held b raw))
    ⊎ ((is_in_hand s ≡ false) × ((d : ℕ) × (u : Bool) × (r.start ≡ Desk d u) × (b ≡ c.workers + d)))
close_from c q b o r (Held e raw) m h =
    let u = cond_is (b == e) (closing q (held_close raw o)) m h in
    inl (raw, ap (λ z. Held z raw) (sym (same_number b e u.0)))
close_from c q b o r (path.Heard t) m h = inr (refl, desk_from c q b r (λ required x. heard_close required t o) m h)
close_from c q b o r Unasked m h = inr (refl, desk_from c q b r (λ required x. unasked_close required x q o) m h)
close_from c q b o r (Waiting raw) m h = none_is_some h
close_from c q b o r path.Delayed m h = none_is_some h
close_from c q b o r (path.Named t) m h = none_is_some h
close_from c q b o r (Closed v) m h = none_is_some h

driver_leaves : (starts : List Start) (workers a : ℕ) (c : Core) (e : Event) (m : Effect) → Begun starts c
    → c.workers ≡ workers → is_drivers e ≡ true → effect_of c e ≡ Some m → (actor_of starts workers e ≡ Some a → ⊥)
    → Alike workers a c (after c m)
driver_leaves starts workers a c e m g few is h other =
    let k = drivers_step starts workers c e m g is h in
    of_leaves workers a c few k.0 m k.2 (λ i. other (k.1 ∙ ap Some (sym i)))

-- another actor's step leaves what the actor knows
pub others_leave : (starts : List Start) (workers a : ℕ) (c : Core) (e : Event) (m : Effect) → Begun starts c
    → c.workers ≡ workers → effect_of c e ≡ Some m → (actor_of starts workers e ≡ Some a → ⊥)
    → Alike workers a c (after c m)
others_leave starts workers a c (ev.Claim q b) m g few h other =
    let at = at_path_is c q (claim_at c q b) m h in
    let u = cond_is _ (claim q b (at.row).state) m at.holds in
    let k = claim_is q b (at.row).state m u.1 in
    subst (λ (z : Effect). Alike workers a c (after c z)) k.2
    (moved_alone workers a c few q at.row (Held b k.0) at.there (ap (is_held a) k.1
    ∙ sym (other_number a b (λ i. other (ap Some (sym i)))))
    (λ d i j. ap known k.1))
others_leave starts workers a c (ev.Close q b o) m g few h other =
    let at = at_path_is c q (λ r. close_at c q b o r r.state) m h in
    let k = close_moves c q b o at.row (at.row).state m at.holds in
    subst (λ (z : Effect). Alike workers a c (after c z)) k.1
    (⊎_elim
    (λ (s : (raw : Option FilterCause) × ((at.row).state ≡ Held b raw)).
    moved_alone workers a c few q at.row (Closed k.0) at.there (ap (is_held a) s.1
    ∙ other_number a b (λ i. other (ap Some (sym i)))) (λ d i j. ap known s.1))
    (λ (s : (is_in_hand (at.row).state ≡ false)
    × ((d : ℕ) × (u : Bool) × ((at.row).start ≡ Desk d u) × (b ≡ c.workers + d))).
    moved_alone workers a c few q at.row (Closed k.0) at.there (not_held a (at.row).state s.0)
    (λ d i j. absurd (other (ap Some (s.1.3 ∙ (ap (λ z. z + s.1.0) few
    ∙ sym (i ∙ ap (λ z. workers + z) (two_at d s.1.0 (at.row).start j (at_it s.1.0 s.1.1 (at.row).start s.1.2)))))))))
    (close_from c q b o at.row (at.row).state m at.holds))
others_leave starts workers a c (ev.Opened d caps) m g few h other =
    driver_leaves starts workers a c (ev.Opened d caps) m g few refl h other
others_leave starts workers a c (ev.OpenFailed q o) m g few h other =
    driver_leaves starts workers a c (ev.OpenFailed q o) m g few refl h other
others_leave starts workers a c (ev.Answered q y) m g few h other =
    driver_leaves starts workers a c (ev.Answered q y) m g few refl h other
others_leave starts workers a c (ev.Named q) m g few h other =
    driver_leaves starts workers a c (ev.Named q) m g few refl h other
others_leave starts workers a c (ev.Listed d y) m g few h other =
    driver_leaves starts workers a c (ev.Listed d y) m g few refl h other
others_leave starts workers a c (ev.Redone q y) m g few h other =
    driver_leaves starts workers a c (ev.Redone q y) m g few refl h other
others_leave starts workers a c (ev.HandBack q) m g few h other =
    driver_leaves starts workers a c (ev.HandBack q) m g few refl h other
others_leave starts workers a c (ev.Shut d) m g few h other =
    driver_leaves starts workers a c (ev.Shut d) m g few refl h other

-- a test that holds of no path that is the actor's or nobody's, or of each, is of what the actor knows
test_known : (f : PathState → Bool) → ((raw : Option FilterCause) → f (Waiting raw) ≡ f (Waiting None))
    → ((b : ℕ) (raw : Option FilterCause) → f (Held b raw) ≡ f (Waiting None))
    → ((v : Verdict) → f (Closed v) ≡ f (Waiting None)) → (s : PathState) → f s ≡ f (known s)
test_known f waits held closed (Waiting raw) = waits raw
test_known f waits held closed (Held b raw) = held b raw
test_known f waits held closed (Closed v) = closed v
test_known f waits held closed path.Delayed = refl
test_known f waits held closed (path.Named t) = refl
test_known f waits held closed Unasked = refl
test_known f waits held closed (path.Heard h) = refl

-- what the actor knows decides the tests
module _ (workers a d : ℕ) (mine : a ≡ workers + d) where
  test_alike : (f : PathState → Bool) → ((s : PathState) → f s ≡ f (known s)) → (r s : Path)
      → AlikePath workers a (Some r) (Some s) → (is_at d r.start && f r.state) ≡ (is_at d s.start && f s.state)
  test_alike f same r s h = go (is_at d r.start) refl
    where
      go : (b : Bool) → is_at d r.start ≡ b → (is_at d r.start && f r.state) ≡ (is_at d s.start && f s.state)
      go true i = ap (λ b. is_at d r.start && b) (same r.state ∙ (ap f (h.1.1 d mine i) ∙ sym (same s.state)))
          ∙ ap (λ b. b && f s.state) (ap (is_at d) h.0)
      go false i = ap (λ b. b && f r.state) i
          ∙ (sym (ap (λ b. b && f s.state) i) ∙ ap (λ b. b && f s.state) (ap (is_at d) h.0))

  none_alike : (f : PathState → Bool) → ((s : PathState) → f s ≡ f (known s)) → (xs ys : List Path)
      → ((p : ℕ) → AlikePath workers a (slice_get xs p) (slice_get ys p)) → none_of d f xs ≡ none_of d f ys
  none_alike f same [] [] h = refl
  none_alike f same [] (y ∷ ys) h = absurd (h zero)
  none_alike f same (x ∷ xs) [] h = absurd (h zero)
  none_alike f same (x ∷ xs) (y ∷ ys) h =
      ap (λ b. not b && none_of d f xs) (test_alike f same x y (h zero))
      ∙ ap (λ b. not (is_at d y.start && f y.state) && b) (none_alike f same xs ys (λ p. h (suc p)))

  below_alike : (f : PathState → Bool) → ((s : PathState) → f s ≡ f (known s)) → (n : ℕ) (xs ys : List Path)
      → ((p : ℕ) → AlikePath workers a (slice_get xs p) (slice_get ys p))
      → none_of d f (take n xs) ≡ none_of d f (take n ys)
  below_alike f same zero xs ys h = refl
  below_alike f same (suc n) [] [] h = refl
  below_alike f same (suc n) [] (y ∷ ys) h = absurd (h zero)
  below_alike f same (suc n) (x ∷ xs) [] h = absurd (h zero)
  below_alike f same (suc n) (x ∷ xs) (y ∷ ys) h =
      ap (λ b. not b && none_of d f (take n xs)) (test_alike f same x y (h zero))
      ∙ ap (λ b. not (is_at d y.start && f y.state) && b) (below_alike f same n xs ys (λ p. h (suc p)))

  count_alike : (f : PathState → Bool) → ((s : PathState) → f s ≡ f (known s)) → (xs ys : List Path)
      → ((p : ℕ) → AlikePath workers a (slice_get xs p) (slice_get ys p)) → path_count d f xs ≡ path_count d f ys
  count_alike f same [] [] h = refl
  count_alike f same [] (y ∷ ys) h = absurd (h zero)
  count_alike f same (x ∷ xs) [] h = absurd (h zero)
  count_alike f same (x ∷ xs) (y ∷ ys) h =
      ap (λ b. cond b 1 0 + path_count d f xs) (test_alike f same x y (h zero))
      ∙ ap (λ n. cond (is_at d y.start && f y.state) 1 0 + n) (count_alike f same xs ys (λ p. h (suc p)))

  unasked_known : (s : PathState) → is_unasked s ≡ is_unasked (known s)
  unasked_known s = test_known is_unasked (λ raw. refl) (λ b raw. refl) (λ v. refl) s

  named_known : (s : PathState) → is_named s ≡ is_named (known s)
  named_known s = test_known is_named (λ raw. refl) (λ b raw. refl) (λ v. refl) s

  below_known : (t : ℕ) (s : PathState) → is_named_below t s ≡ is_named_below t (known s)
  below_known t s = test_known (is_named_below t) (λ raw. refl) (λ b raw. refl) (λ v. refl) s

  delayed_known : (s : PathState) → is_delayed s ≡ is_delayed (known s)
  delayed_known s = test_known is_delayed (λ raw. refl) (λ b raw. refl) (λ v. refl) s

  lowest_alike : (xs ys : List Path) → ((p : ℕ) → AlikePath workers a (slice_get xs p) (slice_get ys p))
      → lowest_unasked d xs ≡ lowest_unasked d ys
  lowest_alike [] [] h = refl
  lowest_alike [] (y ∷ ys) h = absurd (h zero)
  lowest_alike (x ∷ xs) [] h = absurd (h zero)
  lowest_alike (x ∷ xs) (y ∷ ys) h =
      ap (λ b. cond b (Some zero) (add_one (lowest_unasked d xs))) (test_alike is_unasked unasked_known x y (h zero))
      ∙ ap (λ o. cond (is_at d y.start && is_unasked y.state) (Some zero) (add_one o))
      (lowest_alike xs ys (λ p. h (suc p)))

  -- each event of this driver does the same in both
  module _ (c x : Core) (alike : Alike workers a c x) where
    fail_alike : (p : ℕ) (o : OpenCause) (r s : Path) (b : Bool) (y : DriverState) → known r.state ≡ known s.state
        → fail_at c p o r d b y ≡ fail_at x p o s d b y
    fail_alike p o r s b y k =
        ap (λ u. given (is_off y && (u && (none_below c d p && is_good_opening o)))
        (Moves p (path.Heard (heard_opening o))))
        (unasked_known r.state ∙ (ap is_unasked k ∙ sym (unasked_known s.state)))
        ∙ ap (λ u. given (is_off y && (is_unasked s.state && (u && is_good_opening o)))
        (Moves p (path.Heard (heard_opening o))))
        (below_alike is_unasked unasked_known p c.paths x.paths alike.paths)

    answer_alike : (p : ℕ) (z : Reply) (r s : Path) (b : Bool) (y : DriverState) → known r.state ≡ known s.state
        → answer_at c p z r d b y ≡ answer_at x p z s d b y
    answer_alike p z r s b (driver.On k) e =
        ap (λ u. given ((k.caps).smudge
        && (u && (none_below c d p && (is_good_reply z && not (is_delay z && not (k.caps).delay)))))
        (replied p d k z))
        (unasked_known r.state ∙ (ap is_unasked e ∙ sym (unasked_known s.state)))
        ∙ ap (λ u. given ((k.caps).smudge
        && (is_unasked s.state && (u && (is_good_reply z && not (is_delay z && not (k.caps).delay)))))
        (replied p d k z))
        (below_alike is_unasked unasked_known p c.paths x.paths alike.paths)
    answer_alike p z r s b driver.Off e = refl
    answer_alike p z r s b driver.Aborted e = refl
    answer_alike p z r s b driver.Done e = refl

    name_alike : (p : ℕ) (r s : Path) (b : Bool) (y : DriverState) → known r.state ≡ known s.state
        → name_at c p r d b y ≡ name_at x p s d b y
    name_alike p r s b (driver.On k) e =
        ap (λ u. given (k.any_delayed && (u && (is_delayed r.state && (k.noting_list || none_of d is_named c.paths))))
        (Both p (path.Named (named_count d c.paths)) d (driver.On (named k)) Keep))
        (none_alike is_unasked unasked_known c.paths x.paths alike.paths)
        ∙ (ap (λ u. given (k.any_delayed
        && (none_of d is_unasked x.paths && (u && (k.noting_list || none_of d is_named c.paths))))
        (Both p (path.Named (named_count d c.paths)) d (driver.On (named k)) Keep))
        (delayed_known r.state ∙ (ap is_delayed e ∙ sym (delayed_known s.state)))
        ∙ (ap (λ u. given (k.any_delayed
        && (none_of d is_unasked x.paths && (is_delayed s.state && (k.noting_list || u))))
        (Both p (path.Named (named_count d c.paths)) d (driver.On (named k)) Keep))
        (none_alike is_named named_known c.paths x.paths alike.paths)
        ∙ ap (λ n. given (k.any_delayed
        && (none_of d is_unasked x.paths && (is_delayed s.state && (k.noting_list || none_of d is_named x.paths))))
        (Both p (path.Named n) d (driver.On (named k)) Keep))
        (count_alike is_named named_known c.paths x.paths alike.paths)))
    name_alike p r s b driver.Off e = refl
    name_alike p r s b driver.Aborted e = refl
    name_alike p r s b driver.Done e = refl

    redo_known : (z : Core) (p : ℕ) (y : Reply) (k : OpenSession) (s : PathState)
        → redo z p y d k s ≡ redo z p y d k (known s)
    redo_known z p y k path.Delayed = refl
    redo_known z p y k (path.Named t) = refl
    redo_known z p y k Unasked = refl
    redo_known z p y k (path.Heard h) = refl
    redo_known z p y k (Waiting raw) = refl
    redo_known z p y k (Held b raw) = refl
    redo_known z p y k (Closed v) = refl

    redo_both : (p : ℕ) (y : Reply) (k : OpenSession) (s : PathState) → redo c p y d k s ≡ redo x p y d k s
    redo_both p y k (path.Named t) =
        ap (λ u. given (not k.noting_list && (not (is_delay y) && (is_good_reply y && u))) (replied p d k y))
        (none_alike (is_named_below t) (below_known t) c.paths x.paths alike.paths)
    redo_both p y k path.Delayed = refl
    redo_both p y k Unasked = refl
    redo_both p y k (path.Heard h) = refl
    redo_both p y k (Waiting raw) = refl
    redo_both p y k (Held b raw) = refl
    redo_both p y k (Closed v) = refl

    redo_alike : (p : ℕ) (y : Reply) (r s : Path) (b : Bool) (z : DriverState) → known r.state ≡ known s.state
        → redo_at c p y r d b z ≡ redo_at x p y s d b z
    redo_alike p y r s b (driver.On k) e = redo_known c p y k r.state
        ∙ (ap (redo c p y d k) e ∙ (sym (redo_known c p y k s.state) ∙ redo_both p y k s.state))
    redo_alike p y r s b driver.Off e = refl
    redo_alike p y r s b driver.Aborted e = refl
    redo_alike p y r s b driver.Done e = refl

    refused_known : (y : DriverState) (s : PathState) → refused_cause y s ≡ refused_cause y (known s)
    refused_known y path.Delayed = refl
    refused_known y (path.Named t) = refl
    refused_known y Unasked = refl
    refused_known y (path.Heard h) = refl
    refused_known y (Waiting raw) = refl
    refused_known y (Held b raw) = refl
    refused_known y (Closed v) = refl

    back_alike : (p : ℕ) (r s : Path) (b : Bool) (y : DriverState) → known r.state ≡ known s.state
        → hand_back_at p r d b y ≡ hand_back_at p s d b y
    back_alike p r s b y e =
        ap (λ k. cond b None (hand_back p k)) (refused_known y r.state
        ∙ (ap (refused_cause y) e ∙ sym (refused_known y s.state)))

    list_alike : (y : ListReply) (z : DriverState) → list_at c d y z ≡ list_at x d y z
    list_alike y (driver.On k) = ap (λ b. given b (Switches d (list_desk k y) (list_sweep y))) (go y)
      where
        rest : (k.any_delayed && (not k.noting_list && (none_of d is_unasked c.paths && none_of d is_named c.paths))) ≡
            (k.any_delayed && (not k.noting_list && (none_of d is_unasked x.paths && none_of d is_named x.paths)))
        rest = ap (λ b. k.any_delayed && (not k.noting_list && (b && none_of d is_named c.paths)))
            (none_alike is_unasked unasked_known c.paths x.paths alike.paths)
            ∙ ap (λ b. k.any_delayed && (not k.noting_list && (none_of d is_unasked x.paths && b)))
            (none_alike is_named named_known c.paths x.paths alike.paths)

        go : (y : ListReply) → list_allowed c d k y ≡ list_allowed x d k y
        go (list.Names n) = ap (λ m. k.noting_list && (n == m))
            (count_alike is_named named_known c.paths x.paths alike.paths)
        go list.Empty = rest
        go list.Abort = rest
        go (list.Broken b) = rest
        go list.NoMemory = rest
    list_alike y driver.Off = refl
    list_alike y driver.Aborted = refl
    list_alike y driver.Done = refl

    shut_alike : (z : DriverState) → shut_at c d z ≡ shut_at x d z
    shut_alike (driver.On k) = ap (λ b. given (not k.any_delayed && b) (Switches d driver.Done Keep))
        (none_alike is_unasked unasked_known c.paths x.paths alike.paths)
    shut_alike driver.Off = refl
    shut_alike driver.Aborted = refl
    shut_alike driver.Done = refl

    open_alike : (caps : Caps) (z : DriverState) → open_at c d caps z ≡ open_at x d caps z
    open_alike caps z = ap (open_first d caps z) (lowest_alike c.paths x.paths alike.paths)

    pub driver_alike : (f g : DriverState → Option Effect) → ((y : DriverState) → f y ≡ g y)
        → at_driver c d f ≡ at_driver x d g
    driver_alike f g same =
        ap (λ (o : Option DriverState). elim o as (λ _. Option Effect) [ None ↦ None | Some y ↦ f y ])
        (alike.drivers d mine)
        ∙ go (slice_get x.drivers d)
      where
        go : (o : Option DriverState)
            → (elim o as (λ _. Option Effect) [ None ↦ None | Some y ↦ f y ])
            ≡ (elim o as (λ _. Option Effect) [ None ↦ None | Some y ↦ g y ])
        go None = refl
        go (Some y) = same y

-- a path's driver is the actor's own
both_alike : (starts : List Start) (workers a : ℕ) (c x : Core) (alike : Alike workers a c x) (p : ℕ)
    (f g : Path → ℕ → Bool → DriverState → Option Effect)
    → Begun starts c → desk_of starts workers p ≡ Some a
    → ((d : ℕ) → a ≡ workers + d → (r s : Path) (b : Bool) (y : DriverState) → known r.state ≡ known s.state
    → f r d b y ≡ g s d b y)
    → at_both c p f ≡ at_both x p g
both_alike starts workers a c x alike p f g begun mine same =
    go (slice_get c.paths p) (slice_get x.paths p) refl (alike.paths p)
  where
    of : Core → (Path → ℕ → Bool → DriverState → Option Effect) → Option Path → Option Effect
    of z h o = elim o as (λ _. Option Effect) [
      | None ↦ None
      | Some r
          ↦ of_driver r.start (λ d required. at_driver z d (λ y. h r d required y))
    ]

    at : (r s : Path) → slice_get c.paths p ≡ Some r → AlikePath workers a (Some r) (Some s) → (t : Start)
        → r.start ≡ t
        → of_driver t (λ d required. at_driver c d (λ y. f r d required y))
        ≡ of_driver t (λ d required. at_driver x d (λ y. g s d required y))
    at r s there h (Desk d b) is =
        let own : a ≡ workers + d =
        some_is a (workers + d) (sym mine ∙ desk_at starts workers p d b r.start (begun p r there) is) in
        driver_alike workers a d own c x alike (λ y. f r d b y) (λ y. g s d b y)
        (λ y. same d own r s b y (h.1.1 d own (at_it d b r.start is)))
    at r s there h Pool is = refl
    at r s there h (Done v) is = refl

    go : (o q : Option Path) → slice_get c.paths p ≡ o → AlikePath workers a o q
        → (elim o as (λ _. Option Effect) [
          | None ↦ None
          | Some r
              ↦ of_driver r.start (λ d required. at_driver c d (λ y. f r d required y))
        ]) ≡
        (elim q as (λ _. Option Effect) [
          | None ↦ None
          | Some r
              ↦ of_driver r.start (λ d required. at_driver x d (λ y. g r d required y))
        ])
    go None None there h = refl
    go (Some r) (Some s) there h = at r s there h r.start refl
        ∙ ap (λ t. of_driver t (λ d required. at_driver x d (λ y. g s d required y))) h.0
    go None (Some s) there h = absurd h
    go (Some r) None there h = absurd h

-- a driver's own events have equal effects
pub drivers_alike : (starts : List Start) (workers a : ℕ) (c x : Core) (e : Event) → Begun starts c
    → Alike workers a c x → actor_of starts workers e ≡ Some a → is_drivers e ≡ true
    → effect_of c e ≡ effect_of x e
drivers_alike starts workers a c x (ev.Claim q b) begun alike mine is = absurd (cc (is))
drivers_alike starts workers a c x (ev.Close q b o) begun alike mine is = absurd (cc (is))
drivers_alike starts workers a c x (ev.Opened d caps) begun alike mine is =
    driver_alike workers a d (sym (some_is (workers + d) a mine)) c x alike (open_at c d caps) (open_at x d caps)
    (λ y. open_alike workers a d (sym (some_is (workers + d) a mine)) c x alike caps y)
drivers_alike starts workers a c x (ev.OpenFailed q o) begun alike mine is =
    both_alike starts workers a c x alike q (fail_at c q o) (fail_at x q o) begun mine
    (λ d own r s b y k. fail_alike workers a d own c x alike q o r s b y k)
drivers_alike starts workers a c x (ev.Answered q z) begun alike mine is =
    both_alike starts workers a c x alike q (answer_at c q z) (answer_at x q z) begun mine
    (λ d own r s b y k. answer_alike workers a d own c x alike q z r s b y k)
drivers_alike starts workers a c x (ev.Named q) begun alike mine is =
    both_alike starts workers a c x alike q (name_at c q) (name_at x q) begun mine
    (λ d own r s b y k. name_alike workers a d own c x alike q r s b y k)
drivers_alike starts workers a c x (ev.Listed d z) begun alike mine is =
    driver_alike workers a d (sym (some_is (workers + d) a mine)) c x alike (list_at c d z) (list_at x d z)
    (λ y. list_alike workers a d (sym (some_is (workers + d) a mine)) c x alike z y)
drivers_alike starts workers a c x (ev.Redone q z) begun alike mine is =
    both_alike starts workers a c x alike q (redo_at c q z) (redo_at x q z) begun mine
    (λ d own r s b y k. redo_alike workers a d own c x alike q z r s b y k)
drivers_alike starts workers a c x (ev.HandBack q) begun alike mine is =
    both_alike starts workers a c x alike q (hand_back_at q) (hand_back_at q) begun mine
    (λ d own r s b y k. back_alike workers a d own c x alike q r s b y k)
drivers_alike starts workers a c x (ev.Shut d) begun alike mine is =
    driver_alike workers a d (sym (some_is (workers + d) a mine)) c x alike (shut_at c d) (shut_at x d)
    (λ y. shut_alike workers a d (sym (some_is (workers + d) a mine)) c x alike y)
