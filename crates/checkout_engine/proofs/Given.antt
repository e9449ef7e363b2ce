-- A checkout that was not disturbed and wrote each path of a driver shows that what is told of the starts gives these paths.
use Rattle.std.proofs.Common.{◌≡◌, ◌+◌, ℕ, zero, suc, Bool, List, [], ◌∷◌, Some, refl, sym, ap, ◌∙◌, subst, arith}
use Rattle.std.specs.Prelude.{slice_get}
use Rattle.std.proofs.lemmas.Option.{same_Some, slice_get-map}
use Rattle.std.specs.Option.{option_map}
use Rattle.edge_kit.specs.Starters.{Starts, StartsListed, StartTold}
use Rattle.edge_kit.specs.Told.{Told}
use Rattle.driver_line.specs.SameHeard.{NoneFailed}
use Rattle.settings_view.specs.declared.view.Driver.{Driver}
use Rattle.checkout_core.specs.declared.event.Event.{Event}
use Rattle.checkout_core.specs.declared.path.Heard.TheVariants as heard
use Rattle.checkout_core.specs.declared.path.Start.{Start}
use Rattle.checkout_core.specs.declared.path.Start.TheVariants as start
use Rattle.checkout_core.specs.declared.verdict.Verdict.{Verdict}
use Rattle.checkout_core.specs.declared.verdict.Verdict.TheVariants as verdict
use Rattle.checkout_plan.specs.declared.path_plan.PathPlan.{PathPlan}
use Rattle.checkout_engine.specs.Complete.{GivesAll}
use Rattle.checkout_engine.specs.Given.{AreWritten, WrittenIsGiven}
use Rattle.checkout_engine.specs.Ends.{verdicts_of}
use Rattle.checkout_paths.specs.Outcome.{Outcome, HasOutcome, HasDeskVerdict}
use Rattle.checkout_paths.specs.Talks.{DriverTalk, IsDriverTalk, AreDriverTalks, heard_at}
use Rattle.checkout_engine.proofs.Alike.{side_of}
use Rattle.checkout_engine.proofs.OneSide.{IsSide, desk_of, holds_at, outcome_at, told_talk}

talk_with : (ahead : List ℕ → Starts) (object : List ℕ → Told) (ps : List PathPlan) (vs : List Verdict) (history : List Event) (m : ℕ) (xs : List Driver) (ts : List DriverTalk) → AreDriverTalks ahead object ps vs history m xs ts
    → (d : ℕ) (x : Driver) → slice_get xs d ≡ Some x → (t : DriverTalk) × (slice_get ts d ≡ Some t) × IsDriverTalk ahead object ps vs history (m + d) x t
talk_with ahead object ps vs history m [] ts are d x at = absurd cc
talk_with ahead object ps vs history m (y ∷ xs) [] are d x at = absurd are
talk_with ahead object ps vs history m (y ∷ xs) (t ∷ ts) are zero x at =
    let here : ◌≡◌ {A = ℕ} m (m + zero) = omega arith in
    (t, refl, subst (λ (k : ℕ). IsDriverTalk ahead object ps vs history k x t) here (subst (λ (r : Driver). IsDriverTalk ahead object ps vs history m r t) (same_Some y x at) are.0))
talk_with ahead object ps vs history m (y ∷ xs) (t ∷ ts) are (suc d) x at =
    let more = talk_with ahead object ps vs history (suc m) xs ts are.1 d x at in
    let same : ◌≡◌ {A = ℕ} (suc m + d) (m + suc d) = omega arith in
    (more.0, more.1, subst (λ (k : ℕ). IsDriverTalk ahead object ps vs history k x more.0) same more.2)

got_by : (required : Bool) (d : ℕ) (t : DriverTalk) (n : ℕ) (told : Told) (p : PathPlan) (o : Outcome) (v : Verdict) (u : Bool) → v ≡ verdict.Written u → HasDeskVerdict required d t n told p o v → heard_at d t n ≡ Some heard.Got
got_by required d t n told p o v u is has = let own : HasDeskVerdict required d t n told p o (verdict.Written u) = subst (HasDeskVerdict required d t n told p o) is has in own.0

module _ (object : List ℕ → Told) (ahead : List ℕ → Starts) (ps : List PathPlan) (starts : (command : List ℕ) → (starts : List StartTold) × (ahead command ≡ StartsListed starts)) (drivers : List Driver) (talks : List DriverTalk) (outcomes : List Outcome) (history : List Event)
    (s : IsSide object ahead ps drivers talks outcomes history)
    (written : AreWritten ps outcomes) where
  gives_all : (d : ℕ) (x : Driver) → slice_get drivers d ≡ Some x → GivesAll ahead ps d x
  gives_all d x at =
      let found = talk_with ahead object ps (verdicts_of outcomes) history 0 drivers talks s.ends.conversations d x at in
      let t = found.0 in
      let same : ◌≡◌ {A = ℕ} (0 + d) d = omega arith in
      let said : IsDriverTalk ahead object ps (verdicts_of outcomes) history d x t = subst (λ (k : ℕ). IsDriverTalk ahead object ps (verdicts_of outcomes) history k x t) same found.2 in
      let told = starts t.command in
      record {
        talk = t;
        command = said.command;
        starts = told.0;
        told = told.1;
        over = record {
          asked = λ n p here is.
              let o = outcome_at object ahead ps drivers talks outcomes history s.ends n p here in
              let w = written n d p o.0 here is o.1 in
              said.over.asked n p (verdict.Written w.0) here (slice_get-map (λ (y : Outcome). y.verdict) outcomes n ∙ ap (option_map (λ (y : Outcome). y.verdict)) o.1 ∙ ap Some w.1) is refl;
          each = λ n is. let e = said.over.each n is in (e.0, e.1, e.2, e.3);
          rises = said.over.rises;
        };
        goes = told_talk object ahead ps drivers talks outcomes history s.ends d t found.1 told.0 told.1 (holds_at (λ (y : DriverTalk). NoneFailed y.had) talks d t s.links found.1);
        got = λ n is.
            let e = said.over.each n is in
            let o = outcome_at object ahead ps drivers talks outcomes history s.ends n e.0 e.1 in
            let w = written n d e.0 o.0 e.1 e.2 o.1 in
            let desk = desk_of d (e.0).start e.2 in
            let has : HasOutcome object talks (start.Desk d desk.0) n e.0 o.0 = subst (λ (y : Start). HasOutcome object talks y n e.0 o.0) desk.1 o.2.has in
            let same : has.1 ≡ t = same_Some has.1 t (sym has.2 ∙ found.1) in
            got_by desk.0 d t n (object (e.0).object) e.0 o.0 (o.0).verdict w.0 w.1 (subst (λ (y : DriverTalk). HasDeskVerdict desk.0 d y n (object (e.0).object) e.0 o.0 (o.0).verdict) same has.3);
      }

pub written_given : WrittenIsGiven
written_given told ahead asked old new all c u written =
    gives_all told.object ahead c.plan.paths all.starts c.plan.drivers c.talks c.outcomes new.history (side_of told ahead asked old new c u) written
