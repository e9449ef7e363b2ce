-- Rounds, step by step.
use Rattle.std.proofs.Common.{◌≡◌, ◌∙◌, ◌+◌, ◌<◌, ◌≤◌, ℕ, Bool, true, false, List, [], Option, Some, None, inl, inr, refl, sym, ap, subst, arith}
use Rattle.std.specs.Prelude.{◌⊎◌}
use Rattle.filter_proto.specs.Wires.{SessionSeen}
use Rattle.driver_line.specs.Lines.{LineView, Paths, IsOpen, IsLive, weight}
use Rattle.driver_desk.specs.declared.served.Seat.{Seat}
use Rattle.driver_desk.specs.declared.served.Serving.{Serving}
use Rattle.driver_desk.specs.InRounds.{IsInRounds, Goes}
use Rattle.driver_desk.specs.On.{late_paths}
use Rattle.driver_desk.specs.Places.{IsServing, IsDone}
use Rattle.driver_desk.specs.Progress.{Serves, IsAskable}
use Rattle.driver_desk.specs.Recorders.{Standing, RecorderSeen}
use Rattle.driver_desk.specs.Rounds.{IsNext, RoundsBy, TalkOver, TurnsBy}
use Rattle.driver_desk.specs.Serving.{Given}
use Rattle.driver_desk.proofs.OnDesk.{grows_both, grows_same}
use Rattle.driver_desk.proofs.RoundCalls.{done_aborted, done_none, rounds_none_at}
use Rattle.driver_desk.proofs.RoundSteps.{fits_names, over_aborted, over_none, rounds_none}

pub open_next : (o : Option SessionSeen) → (o ≡ None → ⊥) → IsNext o → IsOpen o
open_next None there h = absurd (there refl)
open_next (Some s) there h = h

pub next_open : (o : Option SessionSeen) → IsOpen o → IsNext o
next_open None h = absurd h
next_open (Some s) h = h

pub askable_live : (o : Option SessionSeen) (late : List ℕ) → (o ≡ None → ⊥) → IsAskable o late → IsLive o
askable_live None late there h = absurd (there refl)
askable_live (Some s) late there h = h

pub turns_by : (o : Option SessionSeen) (turns : List ℕ) → turns ≡ [] → TurnsBy o turns
turns_by None turns e = tt
turns_by (Some s) turns e = e

pub turns_closed : (o : Option SessionSeen) (turns : List ℕ) → o ≡ None → TurnsBy o turns
turns_closed None turns e = tt
turns_closed (Some s) turns e = absurd (cc (e))

-- an open session isn't one whose driver aborted
pub there_going : (b : Bool) (o : Option SessionSeen) → (o ≡ None → ⊥) → (b ≡ true → o ≡ None) → b ≡ false
there_going true o there h = absurd (there (h refl))
there_going false o there h = refl

-- where fewer cards are late, or as many and no session is open, less is left to do
pub le_of : {P : Type 0} (a b : ℕ) → (P → a ≡ b) → P ⊎ (a < b) → a ≤ b
le_of a b same (inl p) = let k = same p in omega (arith, k)
le_of a b same (inr lt) = omega (arith, lt)

pub closed_fewer : (o : Option SessionSeen) (a b : ℕ) → o ≡ None → a ≤ b → weight o + a < 1 + b
closed_fewer None a b e le = omega (arith, le)
closed_fewer (Some s) a b e le = absurd (cc (e))

pub any_fewer : (o : Option SessionSeen) (a b : ℕ) → a < b → weight o + a < 1 + b
any_fewer None a b lt = omega (arith, lt)
any_fewer (Some s) a b lt = omega (arith, lt)

-- a talk without a session is over, whether its driver aborted or not
pub over_closed : (d : ℕ) (paths : Paths) (line0 : LineView) (given0 : List Given) (asked : List ℕ) (line : LineView) (given : List Given) (b : Bool) (late : List ℕ)
    → line.session ≡ None → Serves d paths line0 given0 asked [] line given b late → TalkOver d paths line0 given0 asked line given
over_closed d paths line0 given0 asked line given true late none s = over_aborted d paths line0 given0 asked line given true late refl s
over_closed d paths line0 given0 asked line given false late none s = over_none d paths line0 given0 asked line given late none s

pub done_closed : (s : Standing) (given : List Given) (session : Option SessionSeen) (b : Bool) (late : List ℕ) → session ≡ None → IsServing s given session b late [] [] → IsDone s given
done_closed s given session true late none h = done_aborted s given session true late refl h
done_closed s given session false late none h = done_none s given session late none h

module _ {S K B L F : Type 0} where
  pub goes_same : (d : Serving S K B L) (r : RecorderSeen F) (turns : List ℕ) → Goes turns turns d r d r
  goes_same d r turns = record {
    seat = refl;
    grows = grows_same r;
    names = (refl, refl);
    labels = λ paths fit. fit;
    talk = λ paths line0 given0 asked fit names z. z;
  }

  pub goes_both : (d e f : Serving S K B L) (r s t : RecorderSeen F) (turns turns1 turns2 : List ℕ) → Goes turns turns1 d r e s → Goes turns1 turns2 e s f t → Goes turns turns2 d r f t
  goes_both d e f r s t turns turns1 turns2 h k =
      let driver : e.seat.driver ≡ d.seat.driver = ap (λ (x : Seat). x.driver) h.seat in record {
        seat = k.seat ∙ h.seat;
        grows = grows_both r s t h.grows k.grows;
        names = (k.names.0 ∙ h.names.0, k.names.1 ∙ h.names.1);
        labels = λ paths fit. k.labels paths (h.labels paths fit);
        talk = λ paths line0 given0 asked fit names z.
            subst (λ (n : ℕ). RoundsBy n paths line0 given0 asked f.line.session f.line t.given (late_paths f) turns2) driver
            (k.talk paths line0 given0 asked (h.labels paths fit) (fits_names paths d.late e.late h.names names)
            (subst (λ (n : ℕ). RoundsBy n paths line0 given0 asked e.line.session e.line s.given (late_paths e) turns1) (sym driver)
            (h.talk paths line0 given0 asked fit names z)));
      }

  -- none is listed any more
  pub goes_to : (d e : Serving S K B L) (r s : RecorderSeen F) (turns turns1 turns2 : List ℕ) → turns1 ≡ turns2 → Goes turns turns1 d r e s → Goes turns turns2 d r e s
  goes_to d e r s turns turns1 turns2 same h = subst (λ (ns : List ℕ). Goes turns ns d r e s) same h

  pub rounds_to : (d : Serving S K B L) (r : RecorderSeen F) (turns turns1 : List ℕ) → turns ≡ turns1 → IsInRounds d r turns → IsInRounds d r turns1
  rounds_to d r turns turns1 same h = subst (λ (ns : List ℕ). IsInRounds d r ns) same h

  -- no session is open any more
  pub goes_closed : (d e : Serving S K B L) (r s : RecorderSeen F) (turns turns1 turns2 : List ℕ) → e.line.session ≡ None → Goes turns turns1 d r e s → Goes turns turns2 d r e s
  goes_closed d e r s turns turns1 turns2 none h = record {
    seat = h.seat;
    grows = h.grows;
    names = h.names;
    labels = h.labels;
    talk = λ paths line0 given0 asked fit names z.
        rounds_none d.seat.driver paths line0 given0 asked e.line.session e.line s.given (late_paths e) turns1 turns2 none (h.talk paths line0 given0 asked fit names z);
  }

  pub rounds_closed : (d : Serving S K B L) (r : RecorderSeen F) (turns turns1 : List ℕ) → d.line.session ≡ None → IsInRounds d r turns → IsInRounds d r turns1
  rounds_closed d r turns turns1 none h = record {
    noting = h.noting;
    driver = h.driver;
    required = h.required;
    next = h.next;
    ready = h.ready;
    apart = h.apart;
    state = rounds_none_at r.standing r.given d.line.session (late_paths d) turns turns1 none h.state;
  }
