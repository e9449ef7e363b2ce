-- A path that its desk closed or handed back isn't with its driver any more.
use Rattle.std.proofs.Common.{◌≡◌, ℕ, Bool, true, false, List, [], ◌∷◌, map, Some, refl, sym, ap, ◌∙◌, subst}
use Rattle.std.specs.Prelude.{slice_get, ◌||◌}
use Rattle.delay_table.specs.Table.{contains}
use Rattle.checkout_core.specs.declared.path.PathState.{PathState}
use Rattle.checkout_core.specs.declared.path.PathState.TheVariants as path
use Rattle.checkout_core.specs.declared.path.PathState.TheVariants.{Waiting, Held, Unasked, Closed}
use Rattle.checkout_core.specs.declared.path.Start.{Start}
use Rattle.checkout_core.specs.declared.path.Start.TheVariants.{Desk}
use Rattle.checkout_core.specs.declared.path.Path.{Path}
use Rattle.checkout_core.specs.declared.driver.DriverState.{DriverState}
use Rattle.checkout_core.specs.declared.event.Event.{Event}
use Rattle.checkout_core.specs.declared.event.Event.TheVariants as ev
use Rattle.checkout_core.specs.declared.effect.Sweep.{Sweep}
use Rattle.checkout_core.specs.States.{Core, start, path_of, is_at, AreBelow}
use Rattle.checkout_core.specs.Effects.{after, path_after, driver_after, swept}
use Rattle.checkout_core.specs.Conditions.{replied_sweep, list_sweep}
use Rattle.checkout_core.specs.Steps.{replay}
use Rattle.checkout_core.specs.Notes.{is_note}
use Rattle.checkout_core.specs.Desks.{paths_of, leaves, is_left}
use Rattle.checkout_core.proofs.Basics.{some_is, eqb_self, get_each, start_after, step_is, first_step, same_row}
use Rattle.core_laws.specs.Moves.{is_with_driver}
use Rattle.core_laws.proofs.Views.{View, Same, Claimed, HandedBack, ClosedHeld, ClosedTold, ClosedUnasked, SeesOpened}
use Rattle.core_laws.proofs.Views.{NotOpened, OtherNotOpened, IsAnswered, OtherAnswered, IsRedone, OtherRedone, IsNamed}
use Rattle.core_laws.proofs.Views.{OtherNamed, SeesListed, SeesShut, hits, see}
use Rattle.core_laws.proofs.Kept.{Good, good_step}
use Rattle.core_laws.proofs.ClosedOnce.{good_replay}
use Rattle.core_laws.proofs.TalkPaths.{at_says}
use Rattle.core_laws.proofs.Verdicts.{good_start, get_map}
use Rattle.core_laws.proofs.Desks.{start_paths, with_desk}
use Rattle.core_laws.proofs.DeskPaths.{asked_row}

gone_swept : (w : Sweep) (s : PathState) → with_desk s ≡ false → with_desk (swept w s) ≡ false
gone_swept w (Waiting raw) h = h
gone_swept w (Held a raw) h = h
gone_swept w (Closed v) h = h
gone_swept w Unasked h = absurd (cc (h))
gone_swept w path.Delayed h = absurd (cc (h))
gone_swept w (path.Named t) h = absurd (cc (h))
gone_swept w (path.Heard k) h = absurd (cc (h))

was_there : {A : Type 0} (s t : PathState) → s ≡ t → with_desk t ≡ true → with_desk s ≡ false → A
was_there s t e h g = absurd (let z : with_desk s ≡ true = ap with_desk e ∙ h in cc (z, g))

gone_step : (p d : ℕ) (required : Bool) (x y : DriverState) (s t : PathState) (e : Event) (n : Bool)
    → View p d required x y s t e n → with_desk s ≡ false → with_desk t ≡ false
gone_step p d required x y s t e n (Same nn yy tt own far) h = ap with_desk tt ∙ h
gone_step p d required x y s t e n (Claimed a raw nn yy ss tt ee) h = ap with_desk tt
gone_step p d required x y s t e n (HandedBack k nn yy req kk tt ee) h = ap with_desk tt
gone_step p d required x y s t e n (ClosedHeld a w raw v nn yy ss cl tt ee) h = ap with_desk tt
gone_step p d required x y s t e n (ClosedTold a w k v nn yy ss cl tt ee) h = ap with_desk tt
gone_step p d required x y s t e n (ClosedUnasked a w v nn yy ss cl tt ee) h = ap with_desk tt
gone_step p d required x y s t e n (SeesOpened caps first low nn xx yy tt ee) h = ap with_desk tt ∙ h
gone_step p d required x y s t e n (NotOpened w nn xx yy ss tt ee) h = was_there s Unasked ss refl h
gone_step p d required x y s t e n (OtherNotOpened q w pq nn yy tt ee) h = ap with_desk tt ∙ h
gone_step p d required x y s t e n (IsAnswered r k nn xx smudge ss yy tt ee) h = was_there s Unasked ss refl h
gone_step p d required x y s t e n (OtherAnswered q r k below low pq nn xx smudge yy tt ee) h = ap with_desk tt
    ∙ gone_swept (replied_sweep r) s h
gone_step p d required x y s t e n (IsRedone r k turn nn xx ss dd yy tt ee) h =
    was_there s (path.Named turn) ss refl h
gone_step p d required x y s t e n (OtherRedone q r k no_un pq dd nn xx yy tt ee smudge) h = ap with_desk tt
    ∙ gone_swept (replied_sweep r) s h
gone_step p d required x y s t e n (IsNamed k turn nn xx ss yy tt ee) h = was_there s path.Delayed ss refl h
gone_step p d required x y s t e n (OtherNamed q k pq no_un nn xx yy tt ee) h = ap with_desk tt ∙ h
gone_step p d required x y s t e n (SeesListed r k nn xx un0 yy tt ee) h = ap with_desk tt
    ∙ gone_swept (list_sweep r) s h
gone_step p d required x y s t e n (SeesShut k nn xx any_delayed un0 yy tt ee) h = ap with_desk tt ∙ h

leaves_hits : (p : ℕ) (e : Event) → leaves p e ≡ true → hits e p ≡ true
leaves_hits p (ev.Close q a o) h = h
leaves_hits p (ev.HandBack q) h = h
leaves_hits p (ev.Claim q a) h = absurd (cc (h))
leaves_hits p (ev.Opened f caps) h = absurd (cc (h))
leaves_hits p (ev.OpenFailed q o) h = absurd (cc (h))
leaves_hits p (ev.Answered q y) h = absurd (cc (h))
leaves_hits p (ev.Named q) h = absurd (cc (h))
leaves_hits p (ev.Listed f y) h = absurd (cc (h))
leaves_hits p (ev.Redone q y) h = absurd (cc (h))
leaves_hits p (ev.Shut f) h = absurd (cc (h))

never_leaves : {A : Type 0} (p : ℕ) (e e1 : Event) → leaves p e ≡ true → e ≡ e1 → leaves p e1 ≡ false → A
never_leaves p e e1 h i n = absurd (let z : leaves p e ≡ false = ap (leaves p) i ∙ n in cc (z, h))

left_step : (p d : ℕ) (required : Bool) (x y : DriverState) (s t : PathState) (e : Event) (n : Bool)
    → View p d required x y s t e n → leaves p e ≡ true → with_desk t ≡ false
left_step p d required x y s t e n (Same nn yy tt own far) h =
    absurd (let z = leaves_hits p e h in cc (z, far))
left_step p d required x y s t e n (Claimed a raw nn yy ss tt ee) h = ap with_desk tt
left_step p d required x y s t e n (HandedBack k nn yy req kk tt ee) h = ap with_desk tt
left_step p d required x y s t e n (ClosedHeld a w raw v nn yy ss cl tt ee) h = ap with_desk tt
left_step p d required x y s t e n (ClosedTold a w k v nn yy ss cl tt ee) h = ap with_desk tt
left_step p d required x y s t e n (ClosedUnasked a w v nn yy ss cl tt ee) h = ap with_desk tt
left_step p d required x y s t e n (SeesOpened caps first low nn xx yy tt ee) h =
    never_leaves p e (ev.Opened d caps) h ee refl
left_step p d required x y s t e n (NotOpened w nn xx yy ss tt ee) h =
    never_leaves p e (ev.OpenFailed p w) h ee refl
left_step p d required x y s t e n (OtherNotOpened q w pq nn yy tt ee) h =
    never_leaves p e (ev.OpenFailed q w) h ee refl
left_step p d required x y s t e n (IsAnswered r k nn xx smudge ss yy tt ee) h =
    never_leaves p e (ev.Answered p r) h ee refl
left_step p d required x y s t e n (OtherAnswered q r k below low pq nn xx smudge yy tt ee) h =
    never_leaves p e (ev.Answered q r) h ee refl
left_step p d required x y s t e n (IsRedone r k turn nn xx ss dd yy tt ee) h =
    never_leaves p e (ev.Redone p r) h ee refl
left_step p d required x y s t e n (OtherRedone q r k no_un pq dd nn xx yy tt ee smudge) h =
    never_leaves p e (ev.Redone q r) h ee refl
left_step p d required x y s t e n (IsNamed k turn nn xx ss yy tt ee) h = never_leaves p e (ev.Named p) h ee refl
left_step p d required x y s t e n (OtherNamed q k pq no_un nn xx yy tt ee) h =
    never_leaves p e (ev.Named q) h ee refl
left_step p d required x y s t e n (SeesListed r k nn xx un0 yy tt ee) h =
    never_leaves p e (ev.Listed d r) h ee refl
left_step p d required x y s t e n (SeesShut k nn xx any_delayed un0 yy tt ee) h =
    never_leaves p e (ev.Shut d) h ee refl

-- it was left before, or by one of these events
left_over : (starts : List Start) (c x : Core) (p d : ℕ) (b gone : Bool) (r : Path) (es : List Event) → Good starts c
    → slice_get c.paths p ≡ Some r → r.start ≡ Desk d b → (gone ≡ true → with_desk r.state ≡ false)
    → replay c es ≡ Some x → (gone || is_left p es) ≡ true
    → (w : Path) × (slice_get x.paths p ≡ Some w) × (with_desk w.state ≡ false)
left_over starts c x p d b true r [] good there st is run l = (
  r,
  ap (λ (z : Core). slice_get z.paths p) (sym (some_is c x run)) ∙ there,
  is refl,
)
left_over starts c x p d b false r [] good there st is run l = absurd (cc (l))
left_over starts c x p d b gone r (e ∷ es) good there st is run l =
    let k = first_step c x e es run in
    let m = step_is c k.0 e k.1 in
    let y = good.seated p r d b there st in
    let v = see starts c p d b r y.0 (record { begun = good.begun; row = there; start = st; desk = y.1 }) good.kept
    e m.0 m.1 in
    left_over starts (after c m.0) x p d b (gone || leaves p e) (path_after m.0 p r) es
    (good_step starts c e m.0 good m.1)
    (get_each (path_after m.0) c.paths p r there) (start_after m.0 p r ∙ st)
    (λ h. now gone h is (λ i. gone_step p d b y.0 (driver_after m.0 d y.0) r.state (path_after m.0 p r).state e
    (is_note starts d e) v i) (λ i. left_step p d b y.0 (driver_after m.0 d y.0) r.state (path_after m.0 p r).state e
    (is_note starts d e) v i))
    (subst (λ (z : Core). replay z es ≡ Some x) (sym m.2) k.2) (joined gone (leaves p e) (is_left p es) l)
  where
    now : {A : Type 0} (g : Bool) → (g || leaves p e) ≡ true → (g ≡ true → with_desk r.state ≡ false)
        → (with_desk r.state ≡ false → A) → (leaves p e ≡ true → A) → A
    now true h was old new = old (was refl)
    now false h was old new = new h

    joined : (a b c : Bool) → (a || (b || c)) ≡ true → ((a || b) || c) ≡ true
    joined true b c h = h
    joined false b c h = h

is_with : (s : PathState) → with_desk s ≡ false → is_with_driver s ≡ false
is_with (Waiting raw) h = refl
is_with (Held a raw) h = refl
is_with (Closed v) h = refl
is_with Unasked h = absurd (cc (h))
is_with path.Delayed h = absurd (cc (h))
is_with (path.Named t) h = absurd (cc (h))
is_with (path.Heard k) h = absurd (cc (h))

own_path : (d : ℕ) (starts : List Start) (p : ℕ) (b : Bool) → slice_get starts p ≡ Some (Desk d b)
    → contains p (paths_of d starts) ≡ true
own_path d starts p b there = ap (contains p) (sym (start_paths d starts))
    ∙ asked_row d (map path_of starts) p (path_of (Desk d b)) (get_map starts p (Desk d b) there) (eqb_self d) refl

pub none_with : (starts : List Start) (workers drivers d : ℕ) (history : List Event) (x : Core)
    → AreBelow drivers starts → replay (start starts workers drivers) history ≡ Some x
    → ((p : ℕ) → contains p (paths_of d starts) ≡ true → is_left p history ≡ true)
    → (p : ℕ) (r : Path) → slice_get x.paths p ≡ Some r → is_at d r.start ≡ true → is_with_driver r.state ≡ false
none_with starts workers drivers d history x below run all p r there own =
    let good = good_replay starts workers drivers history x below run in
    let s = at_says d r.start own in
    let begun : slice_get starts p ≡ Some (Desk d s.0) = good.begun p r there ∙ ap (λ z. Some z) s.1 in
    let k = left_over starts (start starts workers drivers) x p d s.0 false (path_of (Desk d s.0)) history
    (good_start starts workers drivers below) (get_map starts p (Desk d s.0) begun) refl (λ h. absurd (cc (h))) run
    (all p (own_path d starts p s.0 begun)) in
    is_with r.state (ap (λ (z : Path). with_desk z.state) (same_row x p r k.0 there k.1) ∙ k.2)
