-- What a step moves.
use Rattle.std.proofs.Common.{◌≡◌, ◌==◌, ℕ, zero, suc, ◌+◌, ◌<◌, inl, inr, ⊎_elim, Bool, true, false, cond, List, []}
use Rattle.std.proofs.Common.{◌∷◌, set, length, map, Option, Some, None, refl, sym, ap, ◌∙◌, subst, arith}
use Rattle.std.specs.Prelude.{slice_get, nat_lt, ◌||◌}
use Rattle.std.proofs.lemmas.Bool.{and_parts}
use Rattle.std.proofs.lemmas.Bool.Decides.{nat_tests}
use Rattle.filter_words.specs.declared.reply.Reply.{Reply}
use Rattle.filter_words.specs.declared.reply.Reply.TheVariants as reply
use Rattle.checkout_core.specs.declared.verdict.FilterCause.{FilterCause}
use Rattle.checkout_core.specs.declared.verdict.Verdict.{Verdict}
use Rattle.checkout_core.specs.declared.verdict.Own.{Own}
use Rattle.checkout_core.specs.declared.path.PathState.{PathState}
use Rattle.checkout_core.specs.declared.path.PathState.TheVariants as st
use Rattle.checkout_core.specs.declared.path.PathState.TheVariants.{Waiting, Held, Unasked, Closed}
use Rattle.checkout_core.specs.declared.path.Start.{Start}
use Rattle.checkout_core.specs.declared.path.Path.{Path}
use Rattle.checkout_core.specs.declared.driver.DriverState.{DriverState}
use Rattle.checkout_core.specs.declared.driver.DriverState.TheVariants as driver
use Rattle.checkout_core.specs.declared.event.Event.{Event}
use Rattle.checkout_core.specs.declared.event.Event.TheVariants as ev
use Rattle.checkout_core.specs.declared.event.Event.TheVariants.{Claim, Close, HandBack}
use Rattle.checkout_core.specs.declared.effect.Effect.{Effect}
use Rattle.checkout_core.specs.declared.effect.Effect.TheVariants.{Moves, Switches, Both}
use Rattle.checkout_core.specs.declared.effect.Sweep.{Sweep}
use Rattle.checkout_core.specs.declared.effect.Sweep.TheVariants.{Keep, Lose, OutOfMemory}
use Rattle.checkout_core.specs.States.{Core, start, offs, path_of, is_at, with_state, lowest_unasked, named_count}
use Rattle.checkout_core.specs.Effects.{after, each, path_after, driver_after, swept, swept_path}
use Rattle.checkout_core.specs.Conditions.{effect_of, claim, claim_at, close_at, heard_opening, replied}
use Rattle.checkout_core.specs.Conditions.{replied_state}
use Rattle.checkout_core.specs.Conditions.{named, list_allowed, list_step, list_at, redo, redo_at, open_at, fail_at}
use Rattle.checkout_core.specs.Conditions.{answer_in, answer_at, name_in, name_at, shut_in, shut_at}
use Rattle.checkout_core.specs.Conditions.{hand_back, hand_back_at, closing}
use Rattle.checkout_core.specs.Verdicts.{refused_cause, held_close}
use Rattle.checkout_core.specs.Steps.{step_of, done, replay}
use Rattle.checkout_core.specs.Actors.{is_step}
use Rattle.checkout_core.specs.Hands.{is_held, Holds}
use Rattle.checkout_core.proofs.Basics.{none_is_some, some_is, cond_is, cond_not, given_is, at_path_is, at_driver_is}
use Rattle.checkout_core.proofs.Basics.{at_both_is, at_session_is, step_is, first_step, same_or, eqb_self}
use Rattle.checkout_core.proofs.Basics.{other_number}
use Rattle.checkout_core.proofs.Basics.{start_after}
use Rattle.checkout_core.proofs.Inverses.{claim_is, close_moves, back_is, redo_is, open_is, unasked_is, late_is}
use Rattle.core_laws.proofs.OwnViews.{get_after}
use Rattle.core_laws.specs.Moves.{Moved, is_with_driver, StaysOr, RowStays}
use Rattle.checkout_core.specs.Notes.{is_noted}

module _ {A : Type 0} where
  each_same : (f : ℕ → A → A) (xs : List A) → ((i : ℕ) (x : A) → f i x ≡ x) → each f xs ≡ xs
  each_same f [] h = refl
  each_same f (x ∷ xs) h = ap (λ y. y ∷ each (λ i. f (suc i)) xs) (h zero x)
      ∙ ap (λ l. x ∷ l) (each_same (λ i. f (suc i)) xs (λ i y. h (suc i) y))

  -- where one item alone changes
  each_one : (f : ℕ → A → A) (xs : List A) (p : ℕ) (r y : A) → slice_get xs p ≡ Some r → f p r ≡ y
      → ((i : ℕ) (x : A) → (i ≡ p → ⊥) → f i x ≡ x) → each f xs ≡ set xs p y
  each_one f [] p r y there here other = absurd (cc (there))
  each_one f (x ∷ xs) zero r y there here other =
      let is : x ≡ r = cc (there) in
      ap (λ z. z ∷ each (λ i. f (suc i)) xs) (ap (f zero) is ∙ here)
      ∙ ap (λ l. y ∷ l) (each_same (λ i. f (suc i)) xs (λ i z. other (suc i) z (λ e. omega arith)))
  each_one f (x ∷ xs) (suc p) r y there here other =
      ap (λ z. z ∷ each (λ i. f (suc i)) xs) (other zero x (λ e. omega arith))
      ∙ ap (λ l. x ∷ l) (each_one (λ i. f (suc i)) xs p r y there here (λ i z n. other (suc i) z (λ e. n
      (omega arith))))

  pub each_length : (f : ℕ → A → A) (xs : List A) → length (each f xs) ≡ length xs
  each_length f [] = refl
  each_length f (x ∷ xs) = ap suc (each_length (λ i. f (suc i)) xs)

-- a step whose effect moves one path
moved : (c x : Core) (p : ℕ) (t : PathState) (r : Path) → slice_get c.paths p ≡ Some r → after c (Moves p t) ≡ x
    → Moved c x p r.state t
moved c x p t r there is =
    let paths : each (path_after (Moves p t)) c.paths ≡ set c.paths p (with_state r t) =
    each_one (path_after (Moves p t)) c.paths p r (with_state r t) there
    (ap (λ (b : Bool). with_state r (cond b t r.state)) (eqb_self p))
    (λ i z n. ap (λ (b : Bool). with_state z (cond b t z.state)) (other_number i p n)) in
    let drivers : each (driver_after (Moves p t)) c.drivers ≡ c.drivers =
    each_same (driver_after (Moves p t)) c.drivers (λ i y. refl) in
    record {
      row = r;
      there = there;
      was = refl;
      same = sym is
          ∙ (ap (λ (l : List DriverState). record {
            workers = c.workers;
            drivers = l;
            paths = each (path_after
                (Moves p t)) c.paths;
          }) drivers
          ∙ ap (λ (l : List Path). record { workers = c.workers; drivers = c.drivers; paths = l }) paths);
    }

moved_from : (c x : Core) (p : ℕ) (s t : PathState) (r : Path) → slice_get c.paths p ≡ Some r → r.state ≡ s
    → after c (Moves p t) ≡ x → Moved c x p s t
moved_from c x p s t r there was is = subst (λ z. Moved c x p z t) was (moved c x p t r there is)

pub claimed : (c x : Core) (p a : ℕ) → step_of c (Claim p a) ≡ Some x
    → (raw : Option FilterCause) × Moved c x p (Waiting raw) (Held a raw)
claimed c x p a h =
    let s = step_is c x (Claim p a) h in
    let at = at_path_is c p (claim_at c p a) s.0 s.1 in
    let u = cond_is _ (claim p a (at.row).state) s.0 at.holds in
    let k = claim_is p a (at.row).state s.0 u.1 in
    (k.0, moved_from c x p (Waiting k.0) (Held a k.0) at.row at.there k.1 (ap (after c) k.2 ∙ s.2))

pub may_claim : (c : Core) (p a : ℕ) (raw : Option FilterCause) (r : Path) → slice_get c.paths p ≡ Some r
    → r.state ≡ Waiting raw → a < c.workers + length c.drivers → is_step c (Claim p a) ≡ true
may_claim c p a raw r there is few =
    let test : nat_lt a (c.workers + length c.drivers) ≡ true = grind (arith, nat_tests) in
    let effect : effect_of c (Claim p a) ≡ Some (Moves p (Held a raw)) =
    ap (λ (o : Option Path). elim o as (λ _. Option Effect) [ None ↦ None | Some r ↦ claim_at c p a r ]) there
    ∙ (ap (λ b. cond b (claim p a r.state) None) test ∙ ap (claim p a) is) in
    ap (λ (o : Option Effect). elim (done c o) as (λ _. Bool) [ None ↦ false | Some x ↦ true ]) effect

close_finds : (c : Core) (p a : ℕ) (o : Own) (r : Path) (s : PathState) (m : Effect) → close_at c p a o r s ≡ Some m
    → (is_held a s || is_with_driver s) ≡ true
close_finds c p a o r (Held b raw) m e = ap (λ z. z || false) ((cond_is (a == b) _ m e).0)
close_finds c p a o r (st.Heard h) m e = refl
close_finds c p a o r Unasked m e = refl
close_finds c p a o r (Waiting raw) m e = none_is_some e
close_finds c p a o r st.Delayed m e = none_is_some e
close_finds c p a o r (st.Named t) m e = none_is_some e
close_finds c p a o r (Closed v) m e = none_is_some e

pub closed : (c x : Core) (p a : ℕ) (o : Own) → step_of c (Close p a o) ≡ Some x
    → (s : PathState) × (v : Verdict) × Moved c x p s (Closed v) × ((is_held a s || is_with_driver s) ≡ true)
closed c x p a o h =
    let s = step_is c x (Close p a o) h in
    let at = at_path_is c p (λ r. close_at c p a o r r.state) s.0 s.1 in
    let k = close_moves c p a o at.row (at.row).state s.0 at.holds in (
      (at.row).state,
      k.0,
      moved c x p (Closed k.0) at.row at.there (ap (after c) k.1 ∙ s.2),
      close_finds c p a o at.row (at.row).state s.0 at.holds,
    )

refused_with : (y : DriverState) (s : PathState) (k : FilterCause) → refused_cause y s ≡ Some k
    → is_with_driver s ≡ true
refused_with y (st.Heard h) k e = refl
refused_with y Unasked k e = refl
refused_with y (Waiting raw) k e = none_is_some e
refused_with y (Held b raw) k e = none_is_some e
refused_with y st.Delayed k e = refl
refused_with y (st.Named t) k e = refl
refused_with y (Closed v) k e = none_is_some e

pub handed_back : (c x : Core) (p : ℕ) → step_of c (HandBack p) ≡ Some x
    → (s : PathState) × (k : FilterCause) × Moved c x p s (Waiting (Some k)) × (is_with_driver s ≡ true)
handed_back c x p h =
    let s = step_is c x (HandBack p) h in
    let at = at_both_is c p (hand_back_at p) s.0 s.1 in
    let b = cond_not at.required (hand_back p (refused_cause at.state (at.row).state)) s.0 at.holds in
    let z = back_is p (refused_cause at.state (at.row).state) s.0 b.1 in (
      (at.row).state,
      z.0,
      moved c x p (Waiting (Some z.0)) at.row at.there (ap (after c) z.2 ∙ s.2),
      refused_with at.state (at.row).state z.0 z.1,
    )

-- a note moves only paths that are with their driver, and they stay there
abbrev QuietAt : Core → ℕ → PathState → Type 0
QuietAt c q s = (r : Path) × (slice_get c.paths q ≡ Some r) × (is_with_driver r.state ≡ true)
    × (is_with_driver s ≡ true)

abbrev Quiet : Core → Effect → Type 0
Quiet c (Moves q s) = QuietAt c q s
Quiet c (Switches e t w) = Unit {0}
Quiet c (Both q s e t w) = QuietAt c q s

replied_with : (y : Reply) → is_with_driver (replied_state y) ≡ true
replied_with reply.Content = refl
replied_with reply.Error = refl
replied_with reply.ErrorAfter = refl
replied_with reply.Delayed = refl
replied_with reply.Abort = refl
replied_with (reply.Broken b) = refl
replied_with reply.NoMemory = refl

noted_quiet : (c : Core) (e : Event) (m : Effect) → is_noted e ≡ true → effect_of c e ≡ Some m → Quiet c m
noted_quiet c (ev.Claim q b) m is h = absurd (cc (is))
noted_quiet c (ev.Close q b o) m is h = absurd (cc (is))
noted_quiet c (ev.HandBack q) m is h = absurd (cc (is))
noted_quiet c (ev.Opened d caps) m is h =
    let at = at_driver_is c d (open_at c d caps) m h in
    let k = open_is d caps at.state (lowest_unasked d c.paths) m at.holds in
    subst (λ (z : Effect). Quiet c z) k.3 tt
noted_quiet c (ev.OpenFailed q o) m is h =
    let at = at_both_is c q (fail_at c q o) m h in
    let b = given_is _ (Moves q (st.Heard (heard_opening o))) m at.holds in
    let u = and_parts _ _ ((and_parts _ _ b.0).1) in
    subst (λ (z : Effect). Quiet c z) b.1 (at.row, at.there, ap is_with_driver (unasked_is (at.row).state u.0), refl)
noted_quiet c (ev.Answered q y) m is h =
    let at = at_both_is c q (answer_at c q y) m h in
    let k = at_session_is at.state (λ s. answer_in c q y (at.row).state at.driver s) m at.holds in
    let b = given_is _ (replied q at.driver k.0 y) m k.2 in
    let u = and_parts _ _ ((and_parts _ _ b.0).1) in
    subst (λ (z : Effect). Quiet c z) b.1
    (at.row, at.there, ap is_with_driver (unasked_is (at.row).state u.0), replied_with y)
noted_quiet c (ev.Named q) m is h =
    let at = at_both_is c q (name_at c q) m h in
    let k = at_session_is at.state (λ s. name_in c q (at.row).state at.driver s) m at.holds in
    let b = given_is _ (Both q (st.Named (named_count at.driver c.paths)) at.driver (driver.On (named k.0)) Keep)
    m k.2 in
    let v = and_parts _ _ ((and_parts _ _ ((and_parts _ _ b.0).1)).1) in
    subst (λ (z : Effect). Quiet c z) b.1 (at.row, at.there, ap is_with_driver (late_is (at.row).state v.0), refl)
noted_quiet c (ev.Listed d y) m is h =
    let at = at_driver_is c d (list_at c d y) m h in
    let k = at_session_is at.state (λ s. list_step c d s y) m at.holds in
    let l = given_is (list_allowed c d k.0 y) _ m k.2 in
    subst (λ (z : Effect). Quiet c z) l.1 tt
noted_quiet c (ev.Redone q y) m is h =
    let at = at_both_is c q (redo_at c q y) m h in
    let k = at_session_is at.state (λ s. redo c q y at.driver s (at.row).state) m at.holds in
    let b = redo_is c q y at.driver k.0 (at.row).state m k.2 in
    subst (λ (z : Effect). Quiet c z) b.3 (at.row, at.there, ap is_with_driver b.1, replied_with y)
noted_quiet c (ev.Shut d) m is h =
    let at = at_driver_is c d (shut_at c d) m h in
    let k = at_session_is at.state (λ s. shut_in c d s) m at.holds in
    let l = given_is _ (Switches d driver.Done Keep) m k.2 in
    subst (λ (z : Effect). Quiet c z) l.1 tt

swept_or : (w : Sweep) (s : PathState) → StaysOr s (swept w s)
swept_or Keep st.Delayed = inl refl
swept_or Lose st.Delayed = inr (refl, refl)
swept_or OutOfMemory st.Delayed = inr (refl, refl)
swept_or Keep (st.Named t) = inl refl
swept_or Lose (st.Named t) = inr (refl, refl)
swept_or OutOfMemory (st.Named t) = inr (refl, refl)
swept_or w Unasked = inl refl
swept_or w (st.Heard h) = inl refl
swept_or w (Waiting raw) = inl refl
swept_or w (Held a raw) = inl refl
swept_or w (Closed v) = inl refl

sweep_or : (d : ℕ) (w : Sweep) (r : Path) → StaysOr r.state (swept_path d w r).state
sweep_or d w r = go (is_at d r.start)
  where
    go : (b : Bool) → StaysOr r.state (cond b (swept w r.state) r.state)
    go true = swept_or w r.state
    go false = inl refl

after_or : (c : Core) (m : Effect) (q : ℕ) (r : Path) → Quiet c m → slice_get c.paths q ≡ Some r
    → StaysOr r.state (path_after m q r).state
after_or c (Moves p s) q r h there = ⊎_elim
    (λ (k : (q ≡ p) × ((q == p) ≡ true)).
    let one : h.0 ≡ r = some_is h.0 r (sym h.1 ∙ (ap (slice_get c.paths) (sym k.0) ∙ there)) in
    inr (
      ap (λ (z : Path). is_with_driver z.state) (sym one) ∙ h.2,
      subst (λ (b : Bool). is_with_driver (cond b s r.state) ≡ true) (sym k.1) h.3,
    ))
    (λ (k : (q == p) ≡ false). inl (ap (λ (b : Bool). cond b s r.state) k))
    (same_or q p)
after_or c (Switches e t w) q r h there = sweep_or e w r
after_or c (Both p s e t w) q r h there = ⊎_elim
    (λ (k : (q ≡ p) × ((q == p) ≡ true)).
    let one : h.0 ≡ r = some_is h.0 r (sym h.1 ∙ (ap (slice_get c.paths) (sym k.0) ∙ there)) in
    inr (
      ap (λ (z : Path). is_with_driver z.state) (sym one) ∙ h.2,
      subst (λ (b : Bool). is_with_driver (cond b (with_state r s) (swept_path e w r)).state ≡ true) (sym k.1) h.3,
    ))
    (λ (k : (q == p) ≡ false).
    subst (λ (b : Bool). StaysOr r.state (cond b (with_state r s) (swept_path e w r)).state) (sym k) (sweep_or e w r))
    (same_or q p)

row_stays : (c : Core) (m : Effect) (q : ℕ) → Quiet c m → (o : Option Path) → slice_get c.paths q ≡ o
    → RowStays o (elim o as (λ _. Option Path) [ None ↦ None | Some r ↦ Some (path_after m q r) ])
row_stays c m q h None i = tt
row_stays c m q h (Some r) i = (start_after m q r, after_or c m q r h i)

pub noted : (c x : Core) (e : Event) → is_noted e ≡ true → step_of c e ≡ Some x → (p : ℕ)
    → RowStays (slice_get c.paths p) (slice_get x.paths p)
noted c x e is h p =
    let s = step_is c x e h in
    subst (λ (z : Core). RowStays (slice_get c.paths p) (slice_get z.paths p)) s.2
    (subst (λ (o : Option Path). RowStays (slice_get c.paths p) o) (sym (get_after (path_after s.0) c.paths p))
    (row_stays c s.0 p (noted_quiet c e s.0 is s.1) (slice_get c.paths p) refl))

offs_length : (n : ℕ) → length (offs n) ≡ n
offs_length zero = refl
offs_length (suc n) = ap suc (offs_length n)

paths_length : (ss : List Start) → length (map path_of ss) ≡ length ss
paths_length [] = refl
paths_length (s ∷ ss) = ap suc (paths_length ss)

run_shape : (c x : Core) (es : List Event) → replay c es ≡ Some x
    → (x.workers ≡ c.workers) × (length x.drivers ≡ length c.drivers) × (length x.paths ≡ length c.paths)
run_shape c x [] run =
    let e = some_is c x run in (
      ap (λ (z : Core). z.workers) (sym e),
      ap (λ (z : Core). length z.drivers) (sym e),
      ap (λ (z : Core). length z.paths) (sym e),
    )
run_shape c x (f ∷ fs) run =
    let k = first_step c x f fs run in
    let s = step_is c k.0 f k.1 in
    let t = run_shape k.0 x fs k.2 in (
      t.0 ∙ ap (λ (z : Core). z.workers) (sym s.2),
      t.1 ∙ (ap (λ (z : Core). length z.drivers) (sym s.2) ∙ each_length _ c.drivers),
      t.2 ∙ (ap (λ (z : Core). length z.paths) (sym s.2) ∙ each_length _ c.paths),
    )

pub shape : (starts : List Start) (workers drivers : ℕ) (history : List Event) (x : Core)
    → replay (start starts workers drivers) history ≡ Some x
    → (x.workers ≡ workers) × (length x.drivers ≡ drivers) × (length x.paths ≡ length starts)
shape starts workers drivers history x run =
    let t = run_shape (start starts workers drivers) x history run in
    (t.0, t.1 ∙ offs_length drivers, t.2 ∙ paths_length starts)

pub held_closes : (c : Core) (p a : ℕ) (raw : Option FilterCause) (o : Own) (v : Verdict) → Holds c p a raw
    → held_close raw o ≡ Some v → is_step c (Close p a o) ≡ true
held_closes c p a raw o v h may =
    let effect : effect_of c (Close p a o) ≡ Some (Moves p (Closed v)) =
    ap (λ (x : Option Path). elim x as (λ _. Option Effect) [ None ↦ None | Some r ↦ close_at c p a o r r.state ])
    h.1
    ∙ (ap (close_at c p a o h.0) h.2
    ∙ (ap (λ (b : Bool). cond b (closing p (held_close raw o)) None) (eqb_self a) ∙ ap (closing p) may)) in
    ap (λ (x : Option Effect). elim (done c x) as (λ _. Bool) [ None ↦ false | Some x ↦ true ]) effect
