-- Whoever made an entry of a legal history is one of its workers, or the desk of one of its drivers.
use Rattle.std.proofs.Common.{◌≡◌, ◌==◌, ◌<◌, ◌≤◌, ◌+◌, ℕ, zero, suc, Bool, true, false, cond, List, [], ◌∷◌, length, map, take, Option, Some, None, slice_get, refl, sym, ap, ◌∙◌, subst, inl, inr, arith}
use Rattle.std.specs.Prelude.{nat_lt}
use Rattle.std.proofs.lemmas.Bool.{eqb-true, ltb-true}
use Rattle.std.proofs.lemmas.Bool.Decides.{leb_tells}
use Rattle.std.proofs.lemmas.List.{length-take}
use Rattle.std.proofs.lemmas.Option.{slice_get_within, slice_get_past, same_Some}
use Rattle.checkout_core.specs.declared.driver.DriverState.{DriverState}
use Rattle.checkout_core.specs.declared.effect.Effect.{Effect}
use Rattle.checkout_core.specs.declared.event.Event.{Event}
use Rattle.checkout_core.specs.declared.event.Event.TheVariants as ev
use Rattle.checkout_core.specs.declared.path.Path.{Path}
use Rattle.checkout_core.specs.declared.path.PathState.{PathState}
use Rattle.checkout_core.specs.declared.path.PathState.TheVariants as path
use Rattle.checkout_core.specs.declared.path.Start.{Start}
use Rattle.checkout_core.specs.declared.path.Start.TheVariants as start
use Rattle.checkout_core.specs.declared.verdict.Own.{Own}
use Rattle.checkout_core.specs.declared.verdict.Verdict.{Verdict}
use Rattle.checkout_core.specs.Actors.{own_driver, driver_at, seat, actor_of, is_actor, own_entries}
use Rattle.checkout_core.specs.Conditions.{at_path, at_driver, of_driver, claim_at, claim, closing, desk_close, close_at, open_at, list_at, shut_at, effect_of}
use Rattle.checkout_core.specs.Hands.{is_held, held_at}
use Rattle.checkout_core.specs.States.{Core, AreBelow, begins, path_of}
use Rattle.checkout_core.specs.States as states
use Rattle.checkout_core.specs.Steps.{done, step_of, replay, IsLegal}
use Rattle.checkout_core.specs.Verdicts.{heard_close, unasked_close}
use Rattle.checkout_paths.specs.Workers.{HaveActorsBelow}

-- the law of the core that a history keeps its numbers of workers, drivers and paths
abbrev pub KeepsSize : Type 0
KeepsSize = (starts : List Start) (workers drivers : ℕ) (history : List Event) (x : Core) → IsLegal starts workers drivers history x
    → (x.workers ≡ workers) × (length x.drivers ≡ drivers) × (length x.paths ≡ length starts)

-- the law of the core that an actor's own entries tell what it has in hand
abbrev pub HandsAreTold : Type 0
HandsAreTold = (starts : List Start) (workers drivers a : ℕ) (history other : List Event) (x y : Core) → AreBelow drivers starts → IsLegal starts workers drivers history x
    → IsLegal starts workers drivers other y → own_entries starts workers a history ≡ own_entries starts workers a other → (p : ℕ) → held_at x a p ≡ held_at y a p

none_is : {A : Type 0} {B : Type 0} {a : A} → None ≡ Some a → B
none_is e = absurd cc

-- a step that is one, and the steps after it
first_step : (c x : Core) (e : Event) (es : List Event) → replay c (e ∷ es) ≡ Some x → (d : Core) × (step_of c e ≡ Some d) × (replay d es ≡ Some x)
first_step c x e es run = go (step_of c e) refl run
  where
    go : (o : Option Core) → step_of c e ≡ o → (elim o as (λ _. Option Core) [ None ↦ None | Some d ↦ replay d es ]) ≡ Some x → (d : Core) × (step_of c e ≡ Some d) × (replay d es ≡ Some x)
    go None is rest = none_is rest
    go (Some d) is rest = (d, is, rest)

then_step : (c d : Core) (e : Event) (es : List Event) → step_of c e ≡ Some d → replay c (e ∷ es) ≡ replay d es
then_step c d e es is = ap (λ (o : Option Core). elim o as (λ _. Option Core) [ None ↦ None | Some x ↦ replay x es ]) is

-- the state before an entry of a history, in which it is a step
state_at : (c x : Core) (es : List Event) (k : ℕ) (e : Event) → replay c es ≡ Some x → slice_get es k ≡ Some e → (m : Core) × (y : Core) × (replay c (take k es) ≡ Some m) × (step_of m e ≡ Some y)
state_at c x [] k e run at = let no : None ≡ Some e = sym (slice_get_past [] k (omega arith)) ∙ at in none_is no
state_at c x (f ∷ es) zero e run at =
    let next = first_step c x f es run in
    let same : f ≡ e = same_Some f e at in
    (c, next.0, refl, subst (λ (g : Event). step_of c g ≡ Some next.0) same next.1)
state_at c x (f ∷ es) (suc k) e run at =
    let next = first_step c x f es run in
    let more = state_at next.0 x es k e next.2 at in
    (more.0, more.1, then_step c next.0 f (take k es) next.1 ∙ more.2, more.3)

-- an entry of a first part of a history
taken : (es : List Event) (k j : ℕ) (e : Event) → slice_get (take k es) j ≡ Some e → (j < k) × (slice_get es j ≡ Some e)
taken [] k j e at = let no : None ≡ Some e = sym (slice_get_past (take k []) j (omega (arith, length-take {A = Event} k []))) ∙ at in none_is no
taken (f ∷ es) zero j e at = let no : None ≡ Some e = sym (slice_get_past [] j (omega arith)) ∙ at in none_is no
taken (f ∷ es) (suc k) zero e at = (omega arith, at)
taken (f ∷ es) (suc k) (suc j) e at = let more = taken es k j e at in let less = more.0 in (omega (arith, less), more.1)

-- what an effect was made of
effect_is : (c y : Core) (e : Event) → step_of c e ≡ Some y → (m : Effect) × (effect_of c e ≡ Some m)
effect_is c y e step = go (effect_of c e) refl step
  where
    go : (o : Option Effect) → effect_of c e ≡ o → done c o ≡ Some y → (m : Effect) × (effect_of c e ≡ Some m)
    go None is rest = none_is rest
    go (Some m) is rest = (m, is)

path_is : (c : Core) (p : ℕ) (f : Path → Option Effect) (m : Effect) → at_path c p f ≡ Some m → (r : Path) × (slice_get c.paths p ≡ Some r) × (f r ≡ Some m)
path_is c p f m e = go (slice_get c.paths p) refl e
  where
    go : (o : Option Path) → slice_get c.paths p ≡ o → (elim o as (λ _. Option Effect) [ None ↦ None | Some r ↦ f r ]) ≡ Some m → (r : Path) × (slice_get c.paths p ≡ Some r) × (f r ≡ Some m)
    go None is rest = none_is rest
    go (Some r) is rest = (r, is, rest)

driver_is : (c : Core) (d : ℕ) (f : DriverState → Option Effect) (m : Effect) → at_driver c d f ≡ Some m → (x : DriverState) × (slice_get c.drivers d ≡ Some x) × (f x ≡ Some m)
driver_is c d f m e = go (slice_get c.drivers d) refl e
  where
    go : (o : Option DriverState) → slice_get c.drivers d ≡ o → (elim o as (λ _. Option Effect) [ None ↦ None | Some x ↦ f x ]) ≡ Some m → (x : DriverState) × (slice_get c.drivers d ≡ Some x) × (f x ≡ Some m)
    go None is rest = none_is rest
    go (Some x) is rest = (x, is, rest)

cond_is : (b : Bool) (o : Option Effect) (m : Effect) → cond b o None ≡ Some m → (b ≡ true) × (o ≡ Some m)
cond_is true o m e = (refl, e)
cond_is false o m e = none_is e

-- nobody has a path in hand as a history begins
none_held : (a : ℕ) (s : Start) → is_held a (begins s) ≡ false
none_held a start.Pool = refl
none_held a (start.Desk d required) = refl
none_held a (start.Done v) = refl

none_in_hand : (a : ℕ) (ss : List Start) (p : ℕ) → (elim (slice_get (map path_of ss) p) as (λ _. Bool) [ None ↦ false | Some r ↦ is_held a r.state ]) ≡ false
none_in_hand a [] p = ap (λ (o : Option Path). elim o as (λ _. Bool) [ None ↦ false | Some r ↦ is_held a r.state ]) (slice_get_past [] p (omega arith))
none_in_hand a (s ∷ ss) zero = none_held a s
none_in_hand a (s ∷ ss) (suc p) = none_in_hand a ss p

held : (c : Core) (a p : ℕ) (r : Path) (b : Bool) → slice_get c.paths p ≡ Some r → is_held a r.state ≡ b → held_at c a p ≡ b
held c a p r b at is = ap (λ (o : Option Path). elim o as (λ _. Bool) [ None ↦ false | Some x ↦ is_held a x.state ]) at ∙ is

-- a path of a driver, and its driver
driver_there : (starts : List Start) (p d : ℕ) → driver_at starts p ≡ Some d → (required : Bool) × (slice_get starts p ≡ Some (start.Desk d required))
driver_there starts p d is = go (slice_get starts p) refl is
  where
    go : (o : Option Start) → slice_get starts p ≡ o → (elim o as (λ _. Option ℕ) [ None ↦ None | Some s ↦ own_driver s ]) ≡ Some d → (required : Bool) × (slice_get starts p ≡ Some (start.Desk d required))
    go None at rest = none_is rest
    go (Some start.Pool) at rest = none_is rest
    go (Some (start.Done v)) at rest = none_is rest
    go (Some (start.Desk e required)) at rest = (required, at ∙ ap (λ (n : ℕ). Some (start.Desk n required)) (same_Some e d rest))

seated : (workers a : ℕ) (o : Option ℕ) → seat workers o ≡ Some a → (d : ℕ) × (o ≡ Some d) × (workers + d ≡ a)
seated workers a None is = none_is is
seated workers a (Some d) is = (d, refl, same_Some (workers + d) a is)

module _ (starts : List Start) (workers drivers : ℕ) (below : AreBelow drivers starts) where
  -- the desk of a path
  of_path : (p a : ℕ) → seat workers (driver_at starts p) ≡ Some a → a < workers + drivers
  of_path p a is =
      let found = seated workers a (driver_at starts p) is in
      let there = driver_there starts p found.0 found.1 in
      let less = below p found.0 there.0 there.1 in
      let same = found.2 in omega (arith, less, same)

  -- an actor past them has no entry
  none_own : (es : List Event) (a : ℕ) → workers + drivers ≤ a → ((k b : ℕ) (e : Event) → slice_get es k ≡ Some e → actor_of starts workers e ≡ Some b → b < workers + drivers)
      → own_entries starts workers a es ≡ []
  none_own [] a past all = refl
  none_own (e ∷ es) a past all = by (none_own es a past (λ k b f at is. all (suc k) b f at is)) (actor_of starts workers e) refl
    where
      skips : own_entries starts workers a es ≡ [] → is_actor a (actor_of starts workers e) ≡ false → own_entries starts workers a (e ∷ es) ≡ []
      skips rest is = rw is rest

      apart : (b : ℕ) (t : Bool) → (a == b) ≡ t → b < workers + drivers → (a == b) ≡ false
      apart b false is less = is
      apart b true is less = let same : a ≡ b = eqb-true a b is in absurd (omega (arith, same, less, past))

      by : own_entries starts workers a es ≡ [] → (o : Option ℕ) → actor_of starts workers e ≡ o → own_entries starts workers a (e ∷ es) ≡ []
      by rest None is = skips rest (ap (is_actor a) is)
      by rest (Some b) is = skips rest (ap (is_actor a) is ∙ apart b (a == b) refl (all zero b e refl is))

  module _ (sizes : KeepsSize) (hands : HandsAreTold) (history : List Event) (x : Core) (legal : IsLegal starts workers drivers history x) where
    -- the entries before the place k are by actors
    abbrev Before : ℕ → Type 0
    Before k = (j b : ℕ) (e : Event) → j < k → slice_get history j ≡ Some e → actor_of starts workers e ≡ Some b → b < workers + drivers

    -- so an actor that has a path in hand is one of these
    by_hand : (k : ℕ) → Before k → (m : Core) → IsLegal starts workers drivers (take k history) m → (a p : ℕ) → held_at m a p ≡ true → a < workers + drivers
    by_hand k all m run a p is = elim (leb_tells (workers + drivers) a) [
      | inl past ↦
          let own : own_entries starts workers a (take k history) ≡ [] =
          none_own (take k history) a past.1 (λ j b e at who. let part = taken history k j e at in all j b e part.0 part.1 who) in
          let same = hands starts workers drivers a (take k history) [] m (states.start starts workers drivers) below run refl own p in
          let no : true ≡ false = sym is ∙ same ∙ none_in_hand a starts p in
          absurd cc
      | inr less ↦ less.1
    ]

    module _ (m : Core) (workers_are : m.workers ≡ workers) (drivers_are : length m.drivers ≡ drivers) where
      -- a desk is one of these
      desk_at : (d : ℕ) (f : DriverState → Option Effect) (e : Effect) → at_driver m d f ≡ Some e → workers + d < workers + drivers
      desk_at d f e is =
          let found = driver_is m d f e is in
          let less = slice_get_within m.drivers d found.0 found.1 in
          omega (arith, less, drivers_are)

      desk_closes : (p a : ℕ) (o : Own) (r : Path) (g : Bool → DriverState → Option Verdict) (e : Effect) → desk_close m p a o r g ≡ Some e → a < workers + drivers
      desk_closes p a o r g e is = by r.start is
        where
          by : (s : Start) → of_driver s (λ d required. at_driver m d (λ x. cond (a == m.workers + d) (closing p (g required x)) None)) ≡ Some e → a < workers + drivers
          by start.Pool none = none_is none
          by (start.Done v) none = none_is none
          by (start.Desk d required) is =
              let found = driver_is m d (λ x. cond (a == m.workers + d) (closing p (g required x)) None) e is in
              let less = slice_get_within m.drivers d found.0 found.1 in
              let same = eqb-true a (m.workers + d) (cond_is (a == m.workers + d) (closing p (g required found.0)) e found.2).0 in
              omega (arith, less, same, workers_are, drivers_are)

      closes_so : (k : ℕ) → Before k → IsLegal starts workers drivers (take k history) m → (p a : ℕ) (o : Own) (r : Path) (e : Effect) → slice_get m.paths p ≡ Some r
          → (s : PathState) → r.state ≡ s → close_at m p a o r s ≡ Some e → a < workers + drivers
      closes_so k all run p a o r e at (path.Held b raw) is does = by_hand k all m run a p (held m a p r true at (ap (is_held a) is ∙ (cond_is (a == b) _ e does).0))
      closes_so k all run p a o r e at (path.Heard h) is does = desk_closes p a o r (λ required x. heard_close required h o) e does
      closes_so k all run p a o r e at path.Unasked is does = desk_closes p a o r (λ required x. unasked_close required x p o) e does
      closes_so k all run p a o r e at (path.Waiting raw) is does = none_is does
      closes_so k all run p a o r e at path.Delayed is does = none_is does
      closes_so k all run p a o r e at (path.Named t) is does = none_is does
      closes_so k all run p a o r e at (path.Closed v) is does = none_is does

      claims_so : (p a : ℕ) (e : Effect) → effect_of m (ev.Claim p a) ≡ Some e → a < workers + drivers
      claims_so p a e is =
          let r = path_is m p (claim_at m p a) e is in
          let less = ltb-true a (m.workers + length m.drivers) (cond_is (nat_lt a (m.workers + length m.drivers)) (claim p a (r.0).state) e r.2).0 in
          omega (arith, less, workers_are, drivers_are)

      -- whoever makes a step
      makes : (k : ℕ) → Before k → IsLegal starts workers drivers (take k history) m → (f : Event) (e : Effect) → effect_of m f ≡ Some e → (a : ℕ) → actor_of starts workers f ≡ Some a → a < workers + drivers
      makes k all run (ev.Claim p b) e does a is = subst (λ (n : ℕ). n < workers + drivers) (same_Some b a is) (claims_so p b e does)
      makes k all run (ev.Close p b o) e does a is =
          let r = path_is m p (λ r. close_at m p b o r r.state) e does in
          subst (λ (n : ℕ). n < workers + drivers) (same_Some b a is) (closes_so k all run p b o r.0 e r.1 (r.0).state refl r.2)
      makes k all run (ev.Opened d caps) e does a is = subst (λ (n : ℕ). n < workers + drivers) (same_Some (workers + d) a is) (desk_at d (open_at m d caps) e does)
      makes k all run (ev.Listed d y) e does a is = subst (λ (n : ℕ). n < workers + drivers) (same_Some (workers + d) a is) (desk_at d (list_at m d y) e does)
      makes k all run (ev.Shut d) e does a is = subst (λ (n : ℕ). n < workers + drivers) (same_Some (workers + d) a is) (desk_at d (shut_at m d) e does)
      makes k all run (ev.OpenFailed p o) e does a is = of_path p a is
      makes k all run (ev.Answered p y) e does a is = of_path p a is
      makes k all run (ev.Named p) e does a is = of_path p a is
      makes k all run (ev.Redone p y) e does a is = of_path p a is
      makes k all run (ev.HandBack p) e does a is = of_path p a is

    entry : (k : ℕ) → Before k → (a : ℕ) (f : Event) → slice_get history k ≡ Some f → actor_of starts workers f ≡ Some a → a < workers + drivers
    entry k all a f at is =
        let there = state_at (states.start starts workers drivers) x history k f legal at in
        let size = sizes starts workers drivers (take k history) there.0 there.2 in
        let does = effect_is there.0 there.1 f there.3 in
        makes there.0 size.0 size.1 k all there.2 f does.0 does.1 a is

    all_before : (k : ℕ) → Before k
    all_before zero j b e less at is = absurd (omega (arith, less))
    all_before (suc k) j b e less at is = elim (leb_tells k j) [
      | inl past ↦
          let last = past.1 in
          let same : j ≡ k = omega (arith, last, less) in
          entry k (all_before k) b e (sym (ap (slice_get history) same) ∙ at) is
      | inr fewer ↦ all_before k j b e fewer.1 at is
    ]

    pub actors_below : HaveActorsBelow (workers + drivers) starts workers history
    actors_below k a e at is = entry k (all_before k) a e at is
