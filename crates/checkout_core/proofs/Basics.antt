-- What a step is made of.
use Rattle.std.proofs.Common.{⊎_elim, ◌≡◌, ◌==◌, ℕ, zero, suc, ◌⊎◌, inl, inr, Bool, true, false, cond, List, [], ◌∷◌}
use Rattle.std.proofs.Common.{Option, Some, None, refl, sym, ap, ◌∙◌, eq-eqb, ne_eqb, ◌<◌, length, arith}
use Rattle.std.specs.Prelude.{slice_get}
use mathlib.Core.Logic.{dite}
use native.Mathlib.Decide.{ℕ_discrete}
use Rattle.checkout_core.specs.declared.path.Start.{Start}
use Rattle.checkout_core.specs.declared.path.Start.TheVariants.{Pool, Desk, Done}
use Rattle.checkout_core.specs.declared.path.Path.{Path}
use Rattle.checkout_core.specs.declared.driver.OpenSession.{OpenSession}
use Rattle.checkout_core.specs.declared.driver.DriverState.{DriverState}
use Rattle.checkout_core.specs.declared.driver.DriverState.TheVariants as driver
use Rattle.checkout_core.specs.declared.event.Event.{Event}
use Rattle.checkout_core.specs.declared.effect.Effect.{Effect}
use Rattle.checkout_core.specs.declared.effect.Effect.TheVariants.{Moves, Switches, Both}
use Rattle.checkout_core.specs.States.{Core, with_state, is_at}
use Rattle.checkout_core.specs.Effects.{after, each, swept_path, path_after}
use Rattle.checkout_core.specs.Conditions.{effect_of, given, at_path, at_driver, of_driver, at_session, at_both}
use Rattle.checkout_core.specs.Steps.{step_of, done, replay}

module _ {A : Type 0} where
  pub get_each : (f : ℕ → A → A) (xs : List A) (i : ℕ) (a : A) → slice_get xs i ≡ Some a
      → slice_get (each f xs) i ≡ Some (f i a)
  get_each f [] i a e = absurd (cc (e))
  get_each f (x ∷ xs) zero a e = let is : x ≡ a = cc (e) in ap (λ y. Some (f zero y)) is
  get_each f (x ∷ xs) (suc i) a e = get_each (λ j. f (suc j)) xs i a e

pub none_is_some : {A : Type 0} {B : Type 0} {a : A} → None ≡ Some a → B
none_is_some e = absurd (cc (e))

pub some_is : {A : Type 0} (a b : A) → Some a ≡ Some b → a ≡ b
some_is a b e = cc (e)

pub given_is : (b : Bool) (m n : Effect) → given b m ≡ Some n → (b ≡ true) × (m ≡ n)
given_is true m n e = (refl, some_is m n e)
given_is false m n e = none_is_some e

pub cond_is : (b : Bool) (o : Option Effect) (n : Effect) → cond b o None ≡ Some n → (b ≡ true) × (o ≡ Some n)
cond_is true o n e = (refl, e)
cond_is false o n e = none_is_some e

pub cond_not : (b : Bool) (o : Option Effect) (n : Effect) → cond b None o ≡ Some n → (b ≡ false) × (o ≡ Some n)
cond_not false o n e = (refl, e)
cond_not true o n e = none_is_some e

pub record AtPath (c : Core) (p : ℕ) (f : Path → Option Effect) (m : Effect) : Type 0 where
  pub row : Path
  pub there : slice_get c.paths p ≡ Some row
  pub holds : f row ≡ Some m

pub at_path_is : (c : Core) (p : ℕ) (f : Path → Option Effect) (m : Effect) → at_path c p f ≡ Some m → AtPath c p f m
at_path_is c p f m e = go (slice_get c.paths p) refl e
  where
    go : (o : Option Path) → slice_get c.paths p ≡ o → (elim o as (λ _. Option Effect)
        [ None ↦ None | Some r ↦ f r ]) ≡ Some m → AtPath c p f m
    go None i h = none_is_some h
    go (Some r) i h = record { row = r; there = i; holds = h }

pub record AtDriver (c : Core) (d : ℕ) (f : DriverState → Option Effect) (m : Effect) : Type 0 where
  pub state : DriverState
  pub there : slice_get c.drivers d ≡ Some state
  pub holds : f state ≡ Some m

pub at_driver_is : (c : Core) (d : ℕ) (f : DriverState → Option Effect) (m : Effect) → at_driver c d f ≡ Some m
    → AtDriver c d f m
at_driver_is c d f m e = go (slice_get c.drivers d) refl e
  where
    go : (o : Option DriverState) → slice_get c.drivers d ≡ o
        → (elim o as (λ _. Option Effect) [ None ↦ None | Some r ↦ f r ]) ≡ Some m → AtDriver c d f m
    go None i h = none_is_some h
    go (Some r) i h = record { state = r; there = i; holds = h }

pub of_driver_is : (s : Start) (f : ℕ → Bool → Option Effect) (m : Effect) → of_driver s f ≡ Some m → (d : ℕ)
    × (b : Bool) × (s ≡ Desk d b) × (f d b ≡ Some m)
of_driver_is (Desk d b) f m e = (d, b, refl, e)
of_driver_is Pool f m e = none_is_some e
of_driver_is (Done v) f m e = none_is_some e

pub at_session_is : (x : DriverState) (f : OpenSession → Option Effect) (m : Effect) → at_session x f ≡ Some m
    → (s : OpenSession) × (x ≡ driver.On s) × (f s ≡ Some m)
at_session_is (driver.On s) f m e = (s, refl, e)
at_session_is driver.Off f m e = none_is_some e
at_session_is driver.Aborted f m e = none_is_some e
at_session_is driver.Done f m e = none_is_some e

pub record AtBoth (c : Core) (p : ℕ) (f : Path → ℕ → Bool → DriverState → Option Effect) (m : Effect) : Type 0 where
  pub row : Path
  pub driver : ℕ
  pub required : Bool
  pub state : DriverState
  pub there : slice_get c.paths p ≡ Some row
  pub begun : row.start ≡ Desk driver required
  pub desk : slice_get c.drivers driver ≡ Some state
  pub holds : f row driver required state ≡ Some m

pub at_both_is : (c : Core) (p : ℕ) (f : Path → ℕ → Bool → DriverState → Option Effect) (m : Effect)
    → at_both c p f ≡ Some m → AtBoth c p f m
at_both_is c p f m e =
    let a = at_path_is c p (λ r. of_driver r.start (λ d required. at_driver c d (λ x. f r d required x))) m e in
    let b = of_driver_is (a.row).start (λ d required. at_driver c d (λ x. f a.row d required x)) m a.holds in
    let g = at_driver_is c b.0 (λ x. f a.row b.0 b.1 x) m b.3 in
    record {
      row = a.row;
      driver = b.0;
      required = b.1;
      state = g.state;
      there = a.there;
      begun = b.2;
      desk =
          g.there;
      holds = g.holds;
    }

pub step_is : (c x : Core) (e : Event) → step_of c e ≡ Some x → (m : Effect) × (effect_of c e ≡ Some m)
    × (after c m ≡ x)
step_is c x e h = go (effect_of c e) refl h
  where
    go : (o : Option Effect) → effect_of c e ≡ o → done c o ≡ Some x → (m : Effect) × (effect_of c e ≡ Some m)
        × (after c m ≡ x)
    go None i h = none_is_some h
    go (Some m) i h = (m, i, some_is (after c m) x h)

pub first_step : (c d : Core) (e : Event) (es : List Event) → replay c (e ∷ es) ≡ Some d → (x : Core)
    × (step_of c e ≡ Some x) × (replay x es ≡ Some d)
first_step c d e es h = go (step_of c e) refl h
  where
    go : (o : Option Core) → step_of c e ≡ o → (elim o as (λ _. Option Core) [ None ↦ None | Some x ↦ replay x es ])
        ≡ Some d → (x : Core) × (step_of c e ≡ Some x) × (replay x es ≡ Some d)
    go None i h = none_is_some h
    go (Some x) i h = (x, i, h)

pub same_row : (c : Core) (p : ℕ) (r s : Path) → slice_get c.paths p ≡ Some r → slice_get c.paths p ≡ Some s → r ≡ s
same_row c p r s a b = some_is r s (sym a ∙ b)

pub same_desk : (c : Core) (p : ℕ) (r s : DriverState) → slice_get c.drivers p ≡ Some r
    → slice_get c.drivers p ≡ Some s → r ≡ s
same_desk c p r s a b = some_is r s (sym a ∙ b)

pub same_or : (p q : ℕ) → ((p ≡ q) × ((p == q) ≡ true)) ⊎ ((p == q) ≡ false)
same_or p q = dite (ℕ_discrete p q) (λ same. inl (same, eq-eqb p q same)) (λ other. inr (ne_eqb p q other))

pub eqb_self : (p : ℕ) → (p == p) ≡ true
eqb_self p = eq-eqb p p refl

pub desk_is : (d e : ℕ) (b a : Bool) → Desk d b ≡ Desk e a → d ≡ e
desk_is d e b a h = cc (h)

pub required_is : (d e : ℕ) (b a : Bool) → Desk d b ≡ Desk e a → b ≡ a
required_is d e b a h = cc (h)

module _ {A : Type 0} where
  pub each_is : (f : ℕ → A → A) (xs : List A) (i : ℕ) (b : A) → slice_get (each f xs) i ≡ Some b → (a : A)
      × (slice_get xs i ≡ Some a) × (f i a ≡ b)
  each_is f [] i b e = none_is_some e
  each_is f (x ∷ xs) zero b e = (x, refl, some_is (f zero x) b e)
  each_is f (x ∷ xs) (suc i) b e = each_is (λ j. f (suc j)) xs i b e

pub start_after : (m : Effect) (q : ℕ) (r : Path) → (path_after m q r).start ≡ r.start
start_after (Moves p s) q r = refl
start_after (Switches d s w) q r = refl
start_after (Both p s d t w) q r = go (q == p)
  where
    go : (b : Bool) → (cond b (with_state r s) (swept_path d w r)).start ≡ r.start
    go true = refl
    go false = refl

-- equal numbers, and others
pub same_number : (a b : ℕ) → (a == b) ≡ true → a ≡ b
same_number a b e = ⊎_elim (λ (h : (a ≡ b) × ((a == b) ≡ true)). h.0) (λ (h : (a == b) ≡ false). absurd (cc (h, e)))
    (same_or a b)

pub other_number : (p q : ℕ) → (p ≡ q → ⊥) → (p == q) ≡ false
other_number p q n = ne_eqb p q n

-- an item at a place within a list
pub item_within : {A : Type 0} → (xs : List A) (i : ℕ) → i < length xs → (v : A) × (slice_get xs i ≡ Some v)
item_within [] i l = absurd (omega arith)
item_within (v ∷ vs) zero l = (v, refl)
item_within (v ∷ vs) (suc i) l = item_within vs i (omega arith)

-- a path of this driver
pub at_it : (d : ℕ) (b : Bool) (s : Start) → s ≡ Desk d b → is_at d s ≡ true
at_it d b s e = ap (is_at d) e ∙ eqb_self d
