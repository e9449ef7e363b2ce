-- Runs of the core, and what one moved path leaves.
use Rattle.std.proofs.Common.{◌≡◌, ◌==◌, ℕ, ◌⊎◌, inl, inr, ⊎_elim, Bool, true, false, cond, List, [], ◌∷◌}
use Rattle.std.proofs.Common.{◌++◌, Option, Some, None, refl, sym, ap, ◌∙◌, eq-eqb, ne_eqb}
use Rattle.std.specs.Prelude.{slice_get, ◌||◌}
use mathlib.Core.Logic.{dite}
use native.Mathlib.Decide.{ℕ_discrete}
use Rattle.checkout_core.specs.declared.path.PathState.{PathState}
use Rattle.checkout_core.specs.declared.path.PathState.TheVariants as path
use Rattle.checkout_core.specs.declared.path.PathState.TheVariants.{Waiting, Held, Unasked, Closed}
use Rattle.checkout_core.specs.declared.path.Path.{Path}
use Rattle.checkout_core.specs.declared.event.Event.{Event}
use Rattle.checkout_core.specs.States.{Core, is_closed, with_state}
use Rattle.checkout_core.specs.Steps.{step_of, replay}
use Rattle.checkout_core.specs.Actors.{is_step}
use Rattle.checkout_core.specs.Hands.{is_held, held_at}
use Rattle.core_laws.specs.Moves.{Moved, is_with_driver}
use Rattle.checkout_book.specs.Shelves.{is_waiting}
use Rattle.checkout_book.proofs.Lists.{get_set_same, get_set_other}

pub some_is : {A : Type 0} (a b : A) → Some a ≡ Some b → a ≡ b
some_is a b e = cc (e)

pub same_or : (p q : ℕ) → ((p ≡ q) × ((p == q) ≡ true)) ⊎ (((p ≡ q) → ⊥) × ((p == q) ≡ false))
same_or p q = dite (ℕ_discrete p q) (λ same. inl (same, eq-eqb p q same)) (λ other. inr (other, ne_eqb p q other))

pub eqb_self : (p : ℕ) → (p == p) ≡ true
eqb_self p = eq-eqb p p refl

pub same_number : (a b : ℕ) → (a == b) ≡ true → a ≡ b
same_number a b e = ⊎_elim (λ (h : (a ≡ b) × ((a == b) ≡ true)). h.0)
    (λ (h : ((a ≡ b) → ⊥) × ((a == b) ≡ false)). absurd (let t = h.1 in cc (t, e))) (same_or a b)

pub eqb_swap : (p q : ℕ) → (p == q) ≡ (q == p)
eqb_swap p q = ⊎_elim
    (λ (h : (p ≡ q) × ((p == q) ≡ true)). h.1 ∙ sym (eq-eqb q p (sym h.0)))
    (λ (h : ((p ≡ q) → ⊥) × ((p == q) ≡ false)). h.1 ∙ sym (ne_eqb q p (λ e. h.0 (sym e))))
    (same_or p q)

pub stepped : (c : Core) (e : Event) → is_step c e ≡ true → (x : Core) × (step_of c e ≡ Some x)
stepped c e h = go (step_of c e) refl h
  where
    go : (o : Option Core) → step_of c e ≡ o → (elim o as (λ _. Bool) [ None ↦ false | Some x ↦ true ]) ≡ true
        → (x : Core) × (step_of c e ≡ Some x)
    go None i h = absurd (cc (h))
    go (Some x) i h = (x, i)

first_step : (c d : Core) (e : Event) (es : List Event) → replay c (e ∷ es) ≡ Some d → (x : Core)
    × (step_of c e ≡ Some x) × (replay x es ≡ Some d)
first_step c d e es h = go (step_of c e) refl h
  where
    go : (o : Option Core) → step_of c e ≡ o → (elim o as (λ _. Option Core) [ None ↦ None | Some x ↦ replay x es ])
        ≡ Some d → (x : Core) × (step_of c e ≡ Some x) × (replay x es ≡ Some d)
    go None i h = absurd (cc (h))
    go (Some x) i h = (x, i, h)

pub replay_append : (c x y : Core) (es : List Event) (e : Event) → replay c es ≡ Some x → step_of x e ≡ Some y
    → replay c (es ++ e ∷ []) ≡ Some y
replay_append c x y [] e run h =
    ap (λ (o : Option Core). elim o as (λ _. Option Core) [ None ↦ None | Some d ↦ Some d ])
    (ap (λ z. step_of z e) (some_is c x run) ∙ h)
replay_append c x y (f ∷ fs) e run h =
    let k = first_step c x f fs run in
    ap (λ (o : Option Core). elim o as (λ _. Option Core) [ None ↦ None | Some d ↦ replay d (fs ++ e ∷ []) ]) k.1
    ∙ replay_append k.0 x y fs e k.2 h

-- the path that moved, and the others
pub moved_here : (c x : Core) (p : ℕ) (s t : PathState) (m : Moved c x p s t)
    → slice_get x.paths p ≡ Some (with_state m.row t)
moved_here c x p s t m = ap (λ (z : Core). slice_get z.paths p) m.same
    ∙ get_set_same c.paths p (with_state m.row t) m.row m.there

pub moved_there : (c x : Core) (p q : ℕ) (s t : PathState) → Moved c x p s t → ((q ≡ p) → ⊥)
    → slice_get x.paths q ≡ slice_get c.paths q
moved_there c x p q s t m other = ap (λ (z : Core). slice_get z.paths q) m.same
    ∙ get_set_other c.paths p q (with_state m.row t) other

abbrev row_held : ℕ → Option Path → Bool
row_held a o = elim o [ None ↦ false | Some r ↦ is_held a r.state ]

-- so what is in hand
pub hands_moved : (c x : Core) (p : ℕ) (s t : PathState) (a : ℕ) → Moved c x p s t → (q : ℕ)
    → held_at x a q ≡ cond (q == p) (is_held a t) (held_at c a q)
hands_moved c x p s t a m q = ⊎_elim
    (λ (h : (q ≡ p) × ((q == p) ≡ true)).
    ap (row_held a) (ap (slice_get x.paths) h.0 ∙ moved_here c x p s t m)
    ∙ sym (ap (λ (b : Bool). cond b (is_held a t) (held_at c a q)) h.1))
    (λ (h : ((q ≡ p) → ⊥) × ((q == p) ≡ false)).
    ap (row_held a) (moved_there c x p q s t m h.0)
    ∙ sym (ap (λ (b : Bool). cond b (is_held a t) (held_at c a q)) h.1))
    (same_or q p)

pub with_not_waiting : (s : PathState) → is_with_driver s ≡ true → is_waiting s ≡ false
with_not_waiting Unasked e = refl
with_not_waiting path.Delayed e = refl
with_not_waiting (path.Named t) e = refl
with_not_waiting (path.Heard h) e = refl
with_not_waiting (Waiting raw) e = absurd (cc (e))
with_not_waiting (Held a raw) e = refl
with_not_waiting (Closed v) e = refl

pub with_not_closed : (s : PathState) → is_with_driver s ≡ true → is_closed s ≡ false
with_not_closed Unasked e = refl
with_not_closed path.Delayed e = refl
with_not_closed (path.Named t) e = refl
with_not_closed (path.Heard h) e = refl
with_not_closed (Waiting raw) e = refl
with_not_closed (Held a raw) e = refl
with_not_closed (Closed v) e = absurd (cc (e))

pub with_not_held : (a : ℕ) (s : PathState) → is_with_driver s ≡ true → is_held a s ≡ false
with_not_held a Unasked e = refl
with_not_held a path.Delayed e = refl
with_not_held a (path.Named t) e = refl
with_not_held a (path.Heard h) e = refl
with_not_held a (Waiting raw) e = refl
with_not_held a (Held b raw) e = absurd (cc (e))
with_not_held a (Closed v) e = refl

-- a path that is in hand or with its driver neither waits nor is closed
pub out_not_waiting : (a : ℕ) (s : PathState) → (is_held a s || is_with_driver s) ≡ true
    → (is_waiting s ≡ false) × (is_closed s ≡ false)
out_not_waiting a Unasked e = (refl, refl)
out_not_waiting a path.Delayed e = (refl, refl)
out_not_waiting a (path.Named t) e = (refl, refl)
out_not_waiting a (path.Heard h) e = (refl, refl)
out_not_waiting a (Waiting raw) e = absurd (cc (e))
out_not_waiting a (Held b raw) e = (refl, refl)
out_not_waiting a (Closed v) e = absurd (cc (e))
