-- Each step of the core is one of a driver's talk, or leaves it.
use Rattle.std.proofs.Common.{◌≡◌, ◌==◌, ℕ, ⊎_elim, Bool, true, false, cond, List}
use Rattle.std.proofs.Common.{Some, refl, sym, ap, ◌∙◌, subst}
use Rattle.std.specs.Prelude.{slice_get, ◌&&◌, ◌||◌, not, take}
use Rattle.std.proofs.lemmas.Bool.{and_parts}
use Rattle.filter_words.specs.declared.reply.Caps.{Caps}
use Rattle.checkout_core.specs.declared.event.OpenCause.{OpenCause}
use Rattle.checkout_core.specs.declared.verdict.Own.{Own}
use Rattle.filter_words.specs.declared.reply.Reply.{Reply}
use Rattle.filter_words.specs.declared.reply.ListReply.{ListReply}
use Rattle.filter_words.specs.declared.reply.ListReply.TheVariants as list
use Rattle.checkout_core.specs.declared.path.PathState.TheVariants as path
use Rattle.checkout_core.specs.declared.path.PathState.TheVariants.{Unasked}
use Rattle.checkout_core.specs.declared.path.Start.{Start}
use Rattle.checkout_core.specs.declared.path.Start.TheVariants.{Desk}
use Rattle.checkout_core.specs.declared.path.Path.{Path}
use Rattle.checkout_core.specs.declared.driver.OpenSession.{OpenSession}
use Rattle.checkout_core.specs.declared.driver.DriverState.{DriverState}
use Rattle.checkout_core.specs.declared.driver.DriverState.TheVariants as driver
use Rattle.checkout_core.specs.declared.event.Event.{Event}
use Rattle.checkout_core.specs.declared.event.Event.TheVariants as ev
use Rattle.checkout_core.specs.declared.effect.Effect.{Effect}
use Rattle.checkout_core.specs.declared.effect.Effect.TheVariants.{Moves, Switches, Both}
use Rattle.checkout_core.specs.declared.effect.Sweep.TheVariants.{Keep}
use Rattle.checkout_core.specs.States.{none_of, Core, is_at, is_unasked, is_delayed, is_named, is_named_below}
use Rattle.checkout_core.specs.States.{named_count, lowest_unasked, none_below}
use Rattle.checkout_core.specs.Effects.{after, driver_after}
use Rattle.checkout_core.specs.Verdicts.{refused_cause}
use Rattle.checkout_core.specs.Conditions.{effect_of, is_off, replied, replied_desk}
use Rattle.checkout_core.specs.Conditions.{list_desk, list_sweep, list_allowed, heard_opening, is_good_opening}
use Rattle.checkout_core.specs.Conditions.{is_good_reply, is_delay, fresh, named, answer_at, answer_in, fail_at}
use Rattle.checkout_core.specs.Conditions.{name_at, name_in, redo_at, redo, open_at, list_at, list_step, shut_at}
use Rattle.checkout_core.specs.Conditions.{shut_in, claim_at, claim, close_at, hand_back_at, hand_back}
use Rattle.checkout_core.specs.Steps.{step_of, replay}
use Rattle.checkout_core.proofs.Basics.{same_desk}
use Rattle.checkout_core.proofs.Basics.{same_or, at_both_is, at_path_is, at_driver_is, at_session_is, given_is, cond_is}
use Rattle.checkout_core.proofs.Basics.{cond_not}
use Rattle.checkout_core.proofs.Inverses.{off_is, redo_is, open_is, claim_is, back_is}
use Rattle.checkout_core.proofs.Inverses.{close_moves}
use Rattle.core_laws.proofs.OfDriver.{is_of, is_of_is}
use Rattle.core_laws.proofs.Kept.{Good}
use Rattle.checkout_core.specs.Agreements.{Lists, IsZero, IsSmudged}
use Rattle.core_laws.proofs.TalkEffects.{Outcome}
use Rattle.core_laws.proofs.TalkEffects.{last_of}
use Rattle.core_laws.proofs.TalkSteps.{quiet, note_opened, note_failed, note_answered, note_redone, note_named}
use Rattle.core_laws.proofs.TalkSteps.{note_listed, note_shut}

module _ (starts : List Start) (c z : Core) (es : List Event) (d : ℕ) (good : Good starts c) where
  abbrev pub Runs : Event → Effect → DriverState → List ℕ → List ℕ → ℕ → Type 0
  Runs e m x late turns base = effect_of c e ≡ Some m → step_of c e ≡ Some (after c m) → replay (after c m) es ≡ Some z
      → slice_get c.drivers d ≡ Some x → Lists c.paths d late turns base → IsZero x base → IsSmudged x
      → Outcome starts c m e es d x late turns

  far_note : (q : ℕ) (r : Path) (f : ℕ) (b : Bool) → slice_get c.paths q ≡ Some r → r.start ≡ Desk f b
      → (d == f) ≡ false → is_of starts d q ≡ false
  far_note q r f b i st n = is_of_is starts d q r.start (good.begun q r i) ∙ (ap (is_at d) st ∙ n)

  near_note : (q : ℕ) (r : Path) (f : ℕ) (b : Bool) → slice_get c.paths q ≡ Some r → r.start ≡ Desk f b
      → (d == f) ≡ true → is_of starts d q ≡ true
  near_note q r f b i st n = is_of_is starts d q r.start (good.begun q r i) ∙ (ap (is_at d) st ∙ n)

  sim_claim : (q a : ℕ) (m : Effect) (x : DriverState) (late turns : List ℕ) (base : ℕ)
      → Runs (ev.Claim q a) m x late turns base
  sim_claim q a m x late turns base run step rest at l low sm =
      let t = at_path_is c q (claim_at c q a) m run in
      let b = cond_is _ (claim q a (t.row).state) m t.holds in
      let k = claim_is q a (t.row).state m b.1 in
      quiet starts c z es d good (ev.Claim q a) m x late turns base run step at l low sm refl
      (subst (λ (w : Effect). driver_after w d x ≡ x) k.2 refl)

  sim_close : (q a : ℕ) (o : Own) (m : Effect) (x : DriverState) (late turns : List ℕ) (base : ℕ)
      → Runs (ev.Close q a o) m x late turns base
  sim_close q a o m x late turns base run step rest at l low sm =
      let t = at_path_is c q (λ r. close_at c q a o r r.state) m run in
      let k = close_moves c q a o t.row (t.row).state m t.holds in
      quiet starts c z es d good (ev.Close q a o) m x late turns base run step at l low sm refl
      (subst (λ (w : Effect). driver_after w d x ≡ x) k.1 refl)

  sim_back : (q : ℕ) (m : Effect) (x : DriverState) (late turns : List ℕ) (base : ℕ)
      → Runs (ev.HandBack q) m x late turns base
  sim_back q m x late turns base run step rest at l low sm =
      let t = at_both_is c q (hand_back_at q) m run in
      let b = cond_not t.required (hand_back q (refused_cause t.state (t.row).state)) m t.holds in
      let k = back_is q (refused_cause t.state (t.row).state) m b.1 in
      quiet starts c z es d good (ev.HandBack q) m x late turns base run step at l low sm refl
      (subst (λ (w : Effect). driver_after w d x ≡ x) k.2 refl)

  sim_opened : (f : ℕ) (caps : Caps) (m : Effect) (x : DriverState) (late turns : List ℕ) (base : ℕ)
      → Runs (ev.Opened f caps) m x late turns base
  sim_opened f caps m x late turns base run step rest at l low sm =
      let t = at_driver_is c f (open_at c f caps) m run in
      let k = open_is f caps t.state (lowest_unasked f c.paths) m t.holds in
      ⊎_elim
      (λ (i : (d ≡ f) × ((d == f) ≡ true)).
      let off : x ≡ driver.Off = same_desk c d x t.state at (ap (λ j. slice_get c.drivers j) i.0 ∙ t.there) ∙ k.2 in
      let go : Runs (ev.Opened d caps) (Switches d (driver.On (fresh caps k.0)) Keep) driver.Off late turns base =
      (λ run step rest at l low sm. note_opened starts c z es d good caps k.0 late turns run step rest at
      (ap (λ j. lowest_unasked j c.paths) i.0 ∙ k.1)) in
      subst (λ (y : DriverState). Runs (ev.Opened f caps) m y late turns base) (sym off)
      (subst (λ (w : Effect). Runs (ev.Opened f caps) w driver.Off late turns base) k.3
      (subst (λ (j : ℕ). Runs (ev.Opened j caps) (Switches j (driver.On (fresh caps k.0)) Keep) driver.Off late turns
      base) i.0 go))
      run step rest at l low sm)
      (λ (n : (d == f) ≡ false). quiet starts c z es d good (ev.Opened f caps) m x late turns base run step at l low sm
      n
      (subst (λ (w : Effect). driver_after w d x ≡ x) k.3 (ap (λ b. cond b (driver.On (fresh caps k.0)) x) n)))
      (same_or d f)

  sim_shut : (f : ℕ) (m : Effect) (x : DriverState) (late turns : List ℕ) (base : ℕ)
      → Runs (ev.Shut f) m x late turns base
  sim_shut f m x late turns base run step rest at l low sm =
      let t = at_driver_is c f (shut_at c f) m run in
      let k = at_session_is t.state (λ s. shut_in c f s) m t.holds in
      let g = given_is _ (Switches f driver.Done Keep) m k.2 in
      ⊎_elim
      (λ (i : (d ≡ f) × ((d == f) ≡ true)).
      let on : x ≡ driver.On k.0 = same_desk c d x t.state at (ap (λ j. slice_get c.drivers j) i.0 ∙ t.there) ∙ k.1 in
      let go : Runs (ev.Shut d) (Switches d driver.Done Keep) (driver.On k.0) late turns base =
      (λ run step rest at l low sm. note_shut starts c z es d good k.0 late turns base step at
      (ap (λ j. not k.0.any_delayed && none_of j is_unasked c.paths) i.0 ∙ g.0) l) in
      subst (λ (y : DriverState). Runs (ev.Shut f) m y late turns base) (sym on)
      (subst (λ (w : Effect). Runs (ev.Shut f) w (driver.On k.0) late turns base) g.1
      (subst (λ (j : ℕ). Runs (ev.Shut j) (Switches j driver.Done Keep) (driver.On k.0) late turns base) i.0 go))
      run step rest at l low sm)
      (λ (n : (d == f) ≡ false). quiet starts c z es d good (ev.Shut f) m x late turns base run step at l low sm n
      (subst (λ (w : Effect). driver_after w d x ≡ x) g.1 (ap (λ b. cond b driver.Done x) n)))
      (same_or d f)

  list_smudge : (k : OpenSession) (y : ListReply) → IsSmudged (driver.On k) → list_allowed c d k y ≡ true
      → k.caps.smudge ≡ true
  list_smudge k y sm ok = sm k refl (go y ok)
    where
      or_left : (a b : Bool) → a ≡ true → (a || b) ≡ true
      or_left true b i = refl
      or_left false b i = absurd (cc (i))

      or_right : (a b : Bool) → b ≡ true → (a || b) ≡ true
      or_right true b i = refl
      or_right false b i = i

      go : (y : ListReply) → list_allowed c d k y ≡ true → (k.any_delayed || k.noting_list) ≡ true
      go (list.Names n) ok =
          or_right k.any_delayed k.noting_list ((and_parts k.noting_list (n == named_count d c.paths) ok).0)
      go list.Empty ok = or_left k.any_delayed k.noting_list
          ((and_parts k.any_delayed (not k.noting_list && (none_of d is_unasked c.paths && none_of d is_named c.paths))
          ok).0)
      go list.Abort ok = or_left k.any_delayed k.noting_list
          ((and_parts k.any_delayed (not k.noting_list && (none_of d is_unasked c.paths && none_of d is_named c.paths))
          ok).0)
      go (list.Broken b) ok = or_left k.any_delayed k.noting_list
          ((and_parts k.any_delayed (not k.noting_list && (none_of d is_unasked c.paths && none_of d is_named c.paths))
          ok).0)
      go list.NoMemory ok = or_left k.any_delayed k.noting_list
          ((and_parts k.any_delayed (not k.noting_list && (none_of d is_unasked c.paths && none_of d is_named c.paths))
          ok).0)

  sim_listed : (f : ℕ) (y : ListReply) (m : Effect) (x : DriverState) (late turns : List ℕ) (base : ℕ)
      → Runs (ev.Listed f y) m x late turns base
  sim_listed f y m x late turns base run step rest at l low sm =
      let t = at_driver_is c f (list_at c f y) m run in
      let k = at_session_is t.state (λ s. list_step c f s y) m t.holds in
      let g = given_is (list_allowed c f k.0 y) (Switches f (list_desk k.0 y) (list_sweep y)) m k.2 in
      ⊎_elim
      (λ (i : (d ≡ f) × ((d == f) ≡ true)).
      let on : x ≡ driver.On k.0 = same_desk c d x t.state at (ap (λ j. slice_get c.drivers j) i.0 ∙ t.there) ∙ k.1 in
      let ok : list_allowed c d k.0 y ≡ true = ap (λ j. list_allowed c j k.0 y) i.0 ∙ g.0 in
      let go : Runs (ev.Listed d y) (Switches d (list_desk k.0 y) (list_sweep y)) (driver.On k.0) late turns base =
      (λ run step rest at l low sm. note_listed starts c z es d good y k.0 late turns base run step at
      (list_smudge k.0 y sm ok) ok l low) in
      subst (λ (v : DriverState). Runs (ev.Listed f y) m v late turns base) (sym on)
      (subst (λ (w : Effect). Runs (ev.Listed f y) w (driver.On k.0) late turns base) g.1
      (subst (λ (j : ℕ). Runs (ev.Listed j y) (Switches j (list_desk k.0 y) (list_sweep y)) (driver.On k.0) late turns
      base) i.0 go))
      run step rest at l low sm)
      (λ (n : (d == f) ≡ false). quiet starts c z es d good (ev.Listed f y) m x late turns base run step at l low sm n
      (subst (λ (w : Effect). driver_after w d x ≡ x) g.1 (ap (λ b. cond b (list_desk k.0 y) x) n)))
      (same_or d f)

  sim_failed : (q : ℕ) (o : OpenCause) (m : Effect) (x : DriverState) (late turns : List ℕ) (base : ℕ)
      → Runs (ev.OpenFailed q o) m x late turns base
  sim_failed q o m x late turns base run step rest at l low sm =
      let a = at_both_is c q (fail_at c q o) m run in
      let g = given_is (is_off a.state && (is_unasked (a.row).state && (none_below c a.driver q && is_good_opening o)))
      (Moves q (path.Heard (heard_opening o))) m a.holds in
      ⊎_elim
      (λ (i : (d ≡ a.driver) × ((d == a.driver) ≡ true)).
      let t = and_parts _ _ g.0 in
      let u = and_parts _ _ t.1 in
      let v = and_parts _ _ u.1 in
      let off : x ≡ driver.Off = same_desk c d x a.state at (ap (λ j. slice_get c.drivers j) i.0 ∙ a.desk)
      ∙ off_is a.state t.0 in
      let st : (a.row).start ≡ Desk d a.required = a.begun ∙ ap (λ j. Desk j a.required) (sym i.0) in
      let below : none_of d is_unasked (take q c.paths) ≡ true = ap (λ j. none_of j is_unasked (take q c.paths)) i.0
      ∙ v.0 in
      let go : Runs (ev.OpenFailed q o) (Moves q (path.Heard (heard_opening o))) driver.Off late turns base =
      (λ run step rest at l low sm. note_failed starts c z es d good q o a.row a.required late turns base run step rest
      at a.there st u.0
      below v.1
      (near_note q a.row a.driver a.required a.there a.begun i.1) l) in
      subst (λ (y : DriverState). Runs (ev.OpenFailed q o) m y late turns base) (sym off)
      (subst (λ (w : Effect). Runs (ev.OpenFailed q o) w driver.Off late turns base) g.1 go)
      run step rest at l low sm)
      (λ (n : (d == a.driver) ≡ false). quiet starts c z es d good (ev.OpenFailed q o) m x late turns base run step at l
      low sm
      (far_note q a.row a.driver a.required a.there a.begun n)
      (subst (λ (w : Effect). driver_after w d x ≡ x) g.1 refl))
      (same_or d a.driver)

  sim_answered : (q : ℕ) (y : Reply) (m : Effect) (x : DriverState) (late turns : List ℕ) (base : ℕ)
      → Runs (ev.Answered q y) m x late turns base
  sim_answered q y m x late turns base run step rest at l low sm =
      let a = at_both_is c q (answer_at c q y) m run in
      let k = at_session_is a.state (λ s. answer_in c q y (a.row).state a.driver s) m a.holds in
      let g = given_is _ (replied q a.driver k.0 y) m k.2 in
      ⊎_elim
      (λ (i : (d ≡ a.driver) × ((d == a.driver) ≡ true)).
      let t = and_parts _ _ g.0 in
      let u = and_parts _ _ t.1 in
      let v = and_parts _ _ u.1 in
      let on : x ≡ driver.On k.0 = same_desk c d x a.state at (ap (λ j. slice_get c.drivers j) i.0 ∙ a.desk) ∙ k.1 in
      let st : (a.row).start ≡ Desk d a.required = a.begun ∙ ap (λ j. Desk j a.required) (sym i.0) in
      let below : none_of d is_unasked (take q c.paths) ≡ true = ap (λ j. none_of j is_unasked (take q c.paths)) i.0
      ∙ v.0 in
      let go : Runs (ev.Answered q y) (replied q d k.0 y) (driver.On k.0) late turns base =
      (λ run step rest at l low sm. note_answered starts c z es d good q y a.row a.required k.0 late turns base run step
      rest at a.there st
      t.0 u.0 below
      v.1 (near_note q a.row a.driver a.required a.there a.begun i.1) l low) in
      subst (λ (v : DriverState). Runs (ev.Answered q y) m v late turns base) (sym on)
      (subst (λ (w : Effect). Runs (ev.Answered q y) w (driver.On k.0) late turns base) (ap (λ j. replied q j k.0 y) i.0
      ∙ g.1) go)
      run step rest at l low sm)
      (λ (n : (d == a.driver) ≡ false). quiet starts c z es d good (ev.Answered q y) m x late turns base run step at l
      low sm
      (far_note q a.row a.driver a.required a.there a.begun n)
      (subst (λ (w : Effect). driver_after w d x ≡ x) g.1 (ap (λ b. cond b (replied_desk k.0 y) x) n)))
      (same_or d a.driver)

  sim_redone : (q : ℕ) (y : Reply) (m : Effect) (x : DriverState) (late turns : List ℕ) (base : ℕ)
      → Runs (ev.Redone q y) m x late turns base
  sim_redone q y m x late turns base run step rest at l low sm =
      let a = at_both_is c q (redo_at c q y) m run in
      let k = at_session_is a.state (λ s. redo c q y a.driver s (a.row).state) m a.holds in
      let g = redo_is c q y a.driver k.0 (a.row).state m k.2 in
      ⊎_elim
      (λ (i : (d ≡ a.driver) × ((d == a.driver) ≡ true)).
      let on : x ≡ driver.On k.0 = same_desk c d x a.state at (ap (λ j. slice_get c.drivers j) i.0 ∙ a.desk) ∙ k.1 in
      let st : (a.row).start ≡ Desk d a.required = a.begun ∙ ap (λ j. Desk j a.required) (sym i.0) in
      let ok : (not k.0.noting_list
      && (not (is_delay y) && (is_good_reply y && none_of d (is_named_below g.0) c.paths))) ≡ true =
      ap (λ j. not k.0.noting_list && (not (is_delay y) && (is_good_reply y && none_of j (is_named_below g.0) c.paths)))
      i.0 ∙ g.2 in
      let below : none_of d (is_named_below g.0) c.paths ≡ true =
      last_of (not k.0.noting_list) (not (is_delay y)) (is_good_reply y) (none_of d (is_named_below g.0) c.paths) ok in
      let go : Runs (ev.Redone q y) (replied q d k.0 y) (driver.On k.0) late turns base =
      (λ run step rest at l low sm. note_redone starts c z es d good q y a.row a.required k.0 g.0 late turns base run
      step at a.there st g.1
      ok below
      (near_note q a.row a.driver a.required a.there a.begun i.1) l low) in
      subst (λ (v : DriverState). Runs (ev.Redone q y) m v late turns base) (sym on)
      (subst (λ (w : Effect). Runs (ev.Redone q y) w (driver.On k.0) late turns base) (ap (λ j. replied q j k.0 y) i.0
      ∙ g.3) go)
      run step rest at l low sm)
      (λ (n : (d == a.driver) ≡ false). quiet starts c z es d good (ev.Redone q y) m x late turns base run step at l low
      sm
      (far_note q a.row a.driver a.required a.there a.begun n)
      (subst (λ (w : Effect). driver_after w d x ≡ x) g.3 (ap (λ b. cond b (replied_desk k.0 y) x) n)))
      (same_or d a.driver)

  sim_named : (q : ℕ) (m : Effect) (x : DriverState) (late turns : List ℕ) (base : ℕ)
      → Runs (ev.Named q) m x late turns base
  sim_named q m x late turns base run step rest at l low sm =
      let a = at_both_is c q (name_at c q) m run in
      let k = at_session_is a.state (λ s. name_in c q (a.row).state a.driver s) m a.holds in
      let g = given_is _ (Both q (path.Named (named_count a.driver c.paths)) a.driver (driver.On (named k.0)) Keep) m
      k.2 in
      ⊎_elim
      (λ (i : (d ≡ a.driver) × ((d == a.driver) ≡ true)).
      let on : x ≡ driver.On k.0 = same_desk c d x a.state at (ap (λ j. slice_get c.drivers j) i.0 ∙ a.desk) ∙ k.1 in
      let st : (a.row).start ≡ Desk d a.required = a.begun ∙ ap (λ j. Desk j a.required) (sym i.0) in
      let ok : (k.0.any_delayed && (none_of d is_unasked c.paths &&
      (is_delayed (a.row).state && (k.0.noting_list || none_of d is_named c.paths)))) ≡ true =
      ap (λ j. k.0.any_delayed && (none_of j is_unasked c.paths &&
      (is_delayed (a.row).state && (k.0.noting_list || none_of j is_named c.paths)))) i.0 ∙ g.0 in
      let t = and_parts _ _ ok in
      let u = and_parts _ _ t.1 in
      let v = and_parts _ _ u.1 in
      let go : Runs (ev.Named q) (Both q (path.Named (named_count d c.paths)) d (driver.On (named k.0)) Keep)
      (driver.On k.0) late turns base = (λ run step rest at l low sm.
      note_named starts c z es d good q a.row a.required k.0 late turns base run step at a.there st t.0 u.0 v.0 v.1
      (near_note q a.row a.driver a.required a.there a.begun i.1) l low) in
      subst (λ (v : DriverState). Runs (ev.Named q) m v late turns base) (sym on)
      (subst (λ (w : Effect). Runs (ev.Named q) w (driver.On k.0) late turns base)
      (ap (λ j. Both q (path.Named (named_count j c.paths)) j (driver.On (named k.0)) Keep) i.0 ∙ g.1) go)
      run step rest at l low sm)
      (λ (n : (d == a.driver) ≡ false). quiet starts c z es d good (ev.Named q) m x late turns base run step at l low sm
      (far_note q a.row a.driver a.required a.there a.begun n)
      (subst (λ (w : Effect). driver_after w d x ≡ x) g.1 (ap (λ b. cond b (driver.On (named k.0)) x) n)))
      (same_or d a.driver)

  pub sim_step : (e : Event) (m : Effect) (x : DriverState) (late turns : List ℕ) (base : ℕ)
      → Runs e m x late turns base
  sim_step (ev.Claim q a) m x late turns base = sim_claim q a m x late turns base
  sim_step (ev.Close q a o) m x late turns base = sim_close q a o m x late turns base
  sim_step (ev.Opened f caps) m x late turns base = sim_opened f caps m x late turns base
  sim_step (ev.OpenFailed q o) m x late turns base = sim_failed q o m x late turns base
  sim_step (ev.Answered q y) m x late turns base = sim_answered q y m x late turns base
  sim_step (ev.Named q) m x late turns base = sim_named q m x late turns base
  sim_step (ev.Listed f y) m x late turns base = sim_listed f y m x late turns base
  sim_step (ev.Redone q y) m x late turns base = sim_redone q y m x late turns base
  sim_step (ev.HandBack q) m x late turns base = sim_back q m x late turns base
  sim_step (ev.Shut f) m x late turns base = sim_shut f m x late turns base
