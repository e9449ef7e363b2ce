-- So a driver's notes are a talk.
use Rattle.std.proofs.Common.{◌≡◌, ℕ, ◌<◌, Bool, true, false, cond, List, [], ◌∷◌, Some, refl, sym, ap, ◌∙◌, subst}
use Rattle.std.specs.Prelude.{slice_get}
use Rattle.checkout_core.specs.declared.path.PathState.TheVariants.{Unasked}
use Rattle.checkout_core.specs.declared.path.Start.{Start}
use Rattle.checkout_core.specs.declared.path.Start.TheVariants.{Pool, Desk, Done}
use Rattle.checkout_core.specs.declared.path.Path.{Path}
use Rattle.checkout_core.specs.declared.driver.DriverState.{DriverState}
use Rattle.checkout_core.specs.declared.driver.DriverState.TheVariants as driver
use Rattle.checkout_core.specs.declared.event.Event.{Event}
use Rattle.checkout_core.specs.States.{Core, start, begins, AreBelow}
use Rattle.checkout_core.specs.Effects.{after, driver_after}
use Rattle.checkout_core.specs.Steps.{step_of, replay}
use Rattle.checkout_core.specs.Notes.{is_note, notes}
use Rattle.checkout_core.specs.Talks.{Talk, Between, is_talk, is_there, talk_paths}
use Rattle.checkout_core.proofs.Basics.{get_each, step_is, first_step}
use Rattle.core_laws.proofs.Kept.{Good, good_step}
use Rattle.core_laws.proofs.Verdicts.{good_start, get_offs, map_get}
use Rattle.checkout_core.specs.Agreements.{Lists, IsZero, IsSmudged, talk_at}
use Rattle.core_laws.proofs.TalkNotes.{with_note, run_step}
use Rattle.core_laws.proofs.TalkLists.{shadow, lists_none}
use Rattle.core_laws.proofs.TalkEffects.{stepped}
use Rattle.core_laws.proofs.TalkSims.{sim_step}

talk_on : (starts : List Start) (d : ℕ) (n : Bool) (t u : Talk) (e : Event) (ns : List Event)
    → is_note starts d e ≡ n → stepped n t e ≡ Some u → is_talk d u ns ≡ true → is_talk d t (cond n (e ∷ ns) ns) ≡ true
talk_on starts d true t u e ns note h i = ap is_there (run_step d t u e ns (with_note starts d t e note ∙ h)) ∙ i
talk_on starts d false t u e ns note h i = ap (λ v. is_talk d v ns) (let k : t ≡ u = cc (h) in k) ∙ i

pub sim : (starts : List Start) (c z : Core) (es : List Event) (d : ℕ) (x : DriverState) (late turns : List ℕ)
    (base : ℕ)
    → Good starts c → replay c es ≡ Some z → slice_get c.drivers d ≡ Some x → Lists c.paths d late turns base
    → IsZero x base → IsSmudged x
    → is_talk d (talk_at x (talk_paths c d es) late turns) (notes starts d es) ≡ true
sim starts c z [] d x late turns base good run at l low sm = refl
sim starts c z (e ∷ es) d x late turns base good run at l low sm =
    let f = first_step c z e es run in
    let m = step_is c f.0 e f.1 in
    let step : step_of c e ≡ Some (after c m.0) = f.1 ∙ ap (λ k. Some k) (sym m.2) in
    let rest : replay (after c m.0) es ≡ Some z = subst (λ (k : Core). replay k es ≡ Some z) (sym m.2) f.2 in
    let o = sim_step starts c z es d good e m.0 x late turns base m.1 step rest at l low sm in
    talk_on starts d (is_note starts d e) (talk_at x (talk_paths c d (e ∷ es)) late turns)
    (talk_at (driver_after m.0 d x) (talk_paths (after c m.0) d es) o.late1 o.turns1) e
    (notes starts d es) refl o.moves
    (sim starts (after c m.0) z es d (driver_after m.0 d x) o.late1 o.turns1 o.base1
    (good_step starts c e m.0 good m.1) rest (get_each (driver_after m.0) c.drivers d x at) o.lists o.low o.smudged)

pub notes_talk : (starts : List Start) (workers drivers : ℕ) (history : List Event) (x : Core) (d : ℕ)
    → AreBelow drivers starts → d < drivers → replay (start starts workers drivers) history ≡ Some x
    → is_talk d (Between (talk_paths (start starts workers drivers) d history)) (notes starts d history) ≡ true
notes_talk starts workers drivers history x d below there_d run =
    sim starts (start starts workers drivers) x history d driver.Off [] [] 0
    (good_start starts workers drivers below) run (get_offs drivers d there_d)
    (lists_none (start starts workers drivers).paths d (λ p r i at. let k = map_get starts p r i in
    ap (λ (z : Path). shadow z.state) (sym k.2) ∙ begins_shadow k.0))
    (λ k on noting_list. refl)
    (λ k on h. absurd (cc (on)))
  where
    begins_shadow : (s : Start) → shadow (begins s) ≡ Unasked
    begins_shadow Pool = refl
    begins_shadow (Desk d b) = refl
    begins_shadow (Done v) = refl
