-- The paths of a driver that is a command, in a checkout.
use Rattle.std.proofs.Common.{◌≡◌, ◌⊎◌, ◌+◌, ◌≤◌, inl, inr, ℕ, zero, suc, Bool, true, false, cond, List, [], ◌∷◌, ◌++◌, map, length, Option, Some, None, refl, sym, ap, ◌∙◌, subst, arith}
use Rattle.std.specs.Prelude.{slice_get, nat_lt}
use Rattle.std.proofs.lemmas.Bool.{ltb-true, ltb-false}
use Rattle.std.proofs.lemmas.Option.{same_Some}
use Rattle.filter_words.specs.Outcomes.{limit}
use Rattle.filter_words.specs.declared.reply.Reply.TheVariants as reply
use Rattle.filter_words.specs.declared.reply.BreakCause.TheVariants as broken
use Rattle.edge_kit.specs.Links.{RunTold}
use Rattle.edge_kit.specs.Starters.{Had, Starts, SpawnerSeen}
use Rattle.edge_kit.specs.Told.{Told, RepoTold}
use Rattle.delay_table.specs.Table.{contains}
use Rattle.settings_view.specs.declared.view.Driver.{Driver}
use Rattle.checkout_core.specs.Fates.{Fate, Untold, Later, Known, heard_by}
use Rattle.checkout_core.specs.declared.event.Event.{Event}
use Rattle.checkout_core.specs.declared.path.Heard.{Heard}
use Rattle.checkout_core.specs.declared.path.Heard.TheVariants as heard
use Rattle.checkout_core.specs.declared.path.Start.{Start}
use Rattle.checkout_core.specs.declared.path.Start.TheVariants as start
use Rattle.checkout_core.specs.declared.verdict.FilterCause.{FilterCause}
use Rattle.checkout_core.specs.declared.verdict.FilterCause.TheVariants as refusal
use Rattle.checkout_core.specs.declared.verdict.FailCause.TheVariants as fail
use Rattle.checkout_core.specs.declared.verdict.Verdict.{Verdict}
use Rattle.checkout_core.specs.declared.verdict.Verdict.TheVariants as verdict
use Rattle.driver_line.specs.Conversations.{Exchange, NoStart, NoRoom, Opening, First, Listing, Second, Shutting}
use Rattle.driver_line.specs.OneContent.{OneContent, Gives, HasGiven}
use Rattle.driver_line.specs.SameHeard.{NoneWanting, fate_in, content_of}
use Rattle.driver_desk.specs.Serving.{HasAnswer, IsAnswer}
use Rattle.driver_host.specs.declared.work.Choice.{Choice}
use Rattle.driver_host.specs.declared.work.Choice.TheVariants as choice
use Rattle.checkout_plan.specs.declared.path_plan.PathPlan.{PathPlan}
use Rattle.checkout_engine.specs.Alike.{TalksHaveMemory}
use Rattle.checkout_engine.specs.Ends.{Seen, IsCheckedOut, verdicts_of}
use Rattle.checkout_engine.specs.Report.{lacks_memory}
use Rattle.checkout_engine.specs.PlannedPaths.{PlannedPathsAreSized}
use Rattle.checkout_paths.specs.Outcome.{Outcome, HasOutcome, HasDeskVerdict, AreOutcomes}
use Rattle.checkout_paths.specs.Talks.{DriverTalk, IsDriverTalk, AreDriverTalks, heard_at, Gave}
use Rattle.one_shot.specs.Onces.{OnceTold, RunsListed}
use Rattle.one_shot.specs.Works.{choice_told}
use Rattle.one_shot.specs.Replies.{AreServed}
use Rattle.one_shot.specs.Starters.{is_single_run}
use Rattle.one_shot.specs.Spawners.{commands_tell, AllServed}
use Rattle.host_laws.specs.KeptTalks.{KeptHeard, KeptHadMemory}
use Rattle.host_laws.specs.OnceTalks.{IsHeardOf, HearsChoice, once_request}
use Rattle.host_laws.specs.SingleRuns.{run_at, AreHeard, IsRefusedFor, EndsBy, AreEnded, SingleRunsAreHeard, OwnRunsAreHeard}
use Rattle.host_laws.proofs.Rising.{apart}
use Rattle.host_laws.proofs.Sized.{desk_of}
use Rattle.host_laws.proofs.KeptRuns.{hears, wants_none}

-- the talk with a driver, by its number

talk_from : (ahead : List ℕ → Starts) (object : List ℕ → Told) (ps : List PathPlan) (vs : List Verdict) (history : List Event) (m : ℕ) (xs : List Driver) (ts : List DriverTalk)
    → AreDriverTalks ahead object ps vs history m xs ts → (d : ℕ) (t : DriverTalk) → slice_get ts d ≡ Some t → (x : Driver) × IsDriverTalk ahead object ps vs history (m + d) x t
talk_from ahead object ps vs history m [] [] are d t at = absurd cc
talk_from ahead object ps vs history m [] (u ∷ ts) are d t at = absurd are
talk_from ahead object ps vs history m (x ∷ xs) [] are d t at = absurd are
talk_from ahead object ps vs history m (x ∷ xs) (u ∷ ts) are zero t at =
    let here : ◌≡◌ {A = ℕ} m (m + zero) = omega arith in
    (x, subst (λ (k : ℕ). IsDriverTalk ahead object ps vs history k x t) here (subst (λ (r : DriverTalk). IsDriverTalk ahead object ps vs history m x r) (same_Some u t at) are.0))
talk_from ahead object ps vs history m (x ∷ xs) (u ∷ ts) are (suc d) t at =
    let more = talk_from ahead object ps vs history (suc m) xs ts are.1 d t at in
    let same : ◌≡◌ {A = ℕ} (suc m + d) (m + suc d) = omega arith in
    (more.0, subst (λ (k : ℕ). IsDriverTalk ahead object ps vs history k more.0 t) same more.1)

outcome_from : (object : List ℕ → Told) (talks : List DriverTalk) (m : ℕ) (ps : List PathPlan) (os : List Outcome) → AreOutcomes object talks m ps os
    → (n : ℕ) (p : PathPlan) (o : Outcome) → slice_get ps n ≡ Some p → slice_get os n ≡ Some o → HasOutcome object talks p.start (m + n) p o
outcome_from object talks m [] os are n p o at there = absurd cc
outcome_from object talks m (q ∷ ps) [] are n p o at there = absurd are
outcome_from object talks m (q ∷ ps) (r ∷ os) are zero p o at there =
    let here : ◌≡◌ {A = ℕ} m (m + zero) = omega arith in
    subst (λ (k : ℕ). HasOutcome object talks p.start k p o) here
    (subst (λ (y : Outcome). HasOutcome object talks p.start m p y) (same_Some r o there)
    (subst (λ (x : PathPlan). HasOutcome object talks x.start m x r) (same_Some q p at) are.0))
outcome_from object talks m (q ∷ ps) (r ∷ os) are (suc n) p o at there =
    let same : ◌≡◌ {A = ℕ} (suc m + n) (m + suc n) = omega arith in
    subst (λ (k : ℕ). HasOutcome object talks p.start k p o) same (outcome_from object talks (suc m) ps os are.1 n p o at there)

-- its sessions are served

served_behind : (xs ys : List (List ℕ × List Had)) → AllServed (xs ++ ys) → AllServed ys
served_behind [] ys a = a
served_behind (x ∷ xs) ys a = served_behind xs ys a.1

served_at : (ts : List DriverTalk) (d : ℕ) (t : DriverTalk) → AllServed (map (λ (u : DriverTalk). (u.command, u.had)) ts) → slice_get ts d ≡ Some t → AreServed t.had
served_at [] d t a at = absurd cc
served_at (u ∷ ts) zero t a at = subst (λ (x : DriverTalk). AreServed x.had) (same_Some u t at) a.0
served_at (u ∷ ts) (suc d) t a at = served_at ts d t a.1 at

-- what a path heard

heard_is : (b : Bool) (f : Fate) (h : Heard) → cond b (heard_by f) None ≡ Some h → (b ≡ true) × (f ≡ Known h)
heard_is true (Known g) h e = (refl, ap Known (same_Some g h e))
heard_is true Untold h e = absurd cc
heard_is true Later h e = absurd cc
heard_is false f h e = absurd cc

module _ (run : OnceTold) (request : List ℕ) (fate : Fate) (content : Option (List ℕ)) (h : IsHeardOf run request fate content) where
  refused : (why : FilterCause) → fate ≡ Known (heard.Refused why) → IsRefusedFor run request why
  refused why is = by (nat_lt limit (length request)) refl
    where
      chosen : length request ≤ limit → (o : Option Choice) → choice_told run ≡ o → HearsChoice o fate content → IsRefusedFor run request why
      chosen fits (Some (choice.Give output)) e x = let no : Known (heard.Refused why) ≡ Known heard.Got = sym is ∙ x.0 in absurd (cc no)
      chosen fits (Some choice.Refuse) e x = let same : Known (heard.Refused why) ≡ Known (heard.Refused refusal.Error) = sym is ∙ x in inr (fits, e, cc same)
      chosen fits (Some choice.Later) e x = absurd x
      chosen fits (Some choice.Stop) e x = absurd x
      chosen fits None e x = absurd x

      by : (b : Bool) → nat_lt limit (length request) ≡ b → IsRefusedFor run request why
      by true e =
          let over = ltb-true limit (length request) e in
          let same : Known (heard.Refused why) ≡ Known (heard.Refused (refusal.Broken broken.Ended)) = sym is ∙ h.over over in
          inl (over, cc same)
      by false e = let fits = ltb-false limit (length request) e in chosen fits (choice_told run) refl (h.fits fits)

  got : (answer : List ℕ) → fate ≡ Known heard.Got → content ≡ Some answer → (length request ≤ limit) × (choice_told run ≡ Some (choice.Give answer))
  got answer is given = by (nat_lt limit (length request)) refl
    where
      chosen : (o : Option Choice) → choice_told run ≡ o → HearsChoice o fate content → choice_told run ≡ Some (choice.Give answer)
      chosen (Some (choice.Give output)) e x = e ∙ ap (λ (z : List ℕ). Some (choice.Give z)) (same_Some output answer (sym x.1 ∙ given))
      chosen (Some choice.Refuse) e x = let no : Known heard.Got ≡ Known (heard.Refused refusal.Error) = sym is ∙ x in absurd (cc no)
      chosen (Some choice.Later) e x = absurd x
      chosen (Some choice.Stop) e x = absurd x
      chosen None e x = absurd x

      by : (b : Bool) → nat_lt limit (length request) ≡ b → (length request ≤ limit) × (choice_told run ≡ Some (choice.Give answer))
      by true e =
          let over = ltb-true limit (length request) e in
          let no : Known heard.Got ≡ Known (heard.Refused (refusal.Broken broken.Ended)) = sym is ∙ h.over over in absurd (cc no)
      by false e = let fits = ltb-false limit (length request) e in (fits, chosen (choice_told run) refl (h.fits fits))

  not_lost : fate ≡ Known heard.Lost → ⊥
  not_lost is = by (nat_lt limit (length request)) refl
    where
      chosen : (o : Option Choice) → HearsChoice o fate content → ⊥
      chosen (Some (choice.Give output)) x = let no : Known heard.Lost ≡ Known heard.Got = sym is ∙ x.0 in cc no
      chosen (Some choice.Refuse) x = let no : Known heard.Lost ≡ Known (heard.Refused refusal.Error) = sym is ∙ x in cc no
      chosen (Some choice.Later) x = x
      chosen (Some choice.Stop) x = x
      chosen None x = x

      by : (b : Bool) → nat_lt limit (length request) ≡ b → ⊥
      by true e =
          let no : Known heard.Lost ≡ Known (heard.Refused (refusal.Broken broken.Ended)) = sym is ∙ h.over (ltb-true limit (length request) e) in cc no
      by false e = chosen (choice_told run) (h.fits (ltb-false limit (length request) e))

-- the content that a path got

one_answer : (e : Exchange) (n : ℕ) (bytes : List ℕ) → IsAnswer e n (Some bytes) → Gives e n bytes
one_answer (First q reply.Content c) n bytes h = h
one_answer (Second q reply.Content c) n bytes h = h
one_answer (First q reply.Error c) n bytes h = h
one_answer (First q reply.ErrorAfter c) n bytes h = h
one_answer (First q reply.Delayed c) n bytes h = h
one_answer (First q reply.Abort c) n bytes h = h
one_answer (First q (reply.Broken b) c) n bytes h = h
one_answer (First q reply.NoMemory c) n bytes h = h
one_answer (Second q reply.Error c) n bytes h = h
one_answer (Second q reply.ErrorAfter c) n bytes h = h
one_answer (Second q reply.Delayed c) n bytes h = h
one_answer (Second q reply.Abort c) n bytes h = h
one_answer (Second q (reply.Broken b) c) n bytes h = h
one_answer (Second q reply.NoMemory c) n bytes h = h
one_answer (NoStart q) n bytes h = h
one_answer (NoRoom q) n bytes h = h
one_answer (Opening q end) n bytes h = h
one_answer (Listing late names r) n bytes h = h
one_answer Shutting n bytes h = h

has_given : (es : List Exchange) (n : ℕ) (bytes : List ℕ) → HasAnswer es n (Some bytes) → HasGiven es n bytes
has_given [] n bytes h = h
has_given (e ∷ es) n bytes (inl h) = inl (one_answer e n bytes h)
has_given (e ∷ es) n bytes (inr h) = inr (has_given es n bytes h)

-- how a path ends

module _ (required : Bool) (d : ℕ) (t : DriverTalk) (n : ℕ) (told : Told) (p : PathPlan) (o : Outcome) (run : OnceTold)
    (hears : contains n t.asked ≡ true → IsHeardOf run (once_request t.paths n) (fate_in d n t.exchanges) (content_of n t.exchanges))
    (gives : (answer : List ℕ) → Gave t n answer → content_of n t.exchanges ≡ Some answer) where
  -- a path that heard something was asked
  known : (h : Heard) → heard_at d t n ≡ Some h → (contains n t.asked ≡ true) × (fate_in d n t.exchanges ≡ Known h)
  known h is = heard_is (contains n t.asked) (fate_in d n t.exchanges) h is

  is_refused : (why : FilterCause) → heard_at d t n ≡ Some (heard.Refused why) → IsRefusedFor run (once_request t.paths n) why
  is_refused why is = let k = known (heard.Refused why) is in refused run (once_request t.paths n) _ _ (hears k.0) why k.1

  ends_by : (v : Verdict) → HasDeskVerdict required d t n told p o v → EndsBy run (once_request t.paths n) p o.file v
  ends_by verdict.NoMemory x = tt
  ends_by (verdict.Failed fail.ReadFailed) x = tt
  ends_by (verdict.Failed (fail.Object k)) x = tt
  ends_by (verdict.Failed fail.WriteFailed) x = tt
  ends_by (verdict.Failed fail.Missing) x = let k = known heard.Lost x.0 in not_lost run (once_request t.paths n) _ _ (hears k.0) k.1
  ends_by (verdict.Failed (fail.Filter why)) x = is_refused why x.1
  ends_by (verdict.Failed fail.NameNotText) x = tt
  ends_by (verdict.Failed fail.UnknownEncoding) x = tt
  ends_by (verdict.Failed fail.NoProcess) x = tt
  ends_by (verdict.Unfiltered why unencoded) x = is_refused why x.1
  ends_by (verdict.Written unencoded) x =
      let k = known heard.Got x.0 in
      let g = got run (once_request t.paths n) _ _ (hears k.0) x.5 k.1 (gives x.5 x.6) in
      record { output = x.5; fits = g.0; gave = g.1; file = x.7 }
  ends_by (verdict.Skipped cause) x = tt

-- a talk of the checkout with a driver, whose sessions are served

said_at : (told : RepoTold) (ahead : List ℕ → Starts) (asked : Option ℕ) (old new : Seen) (c : IsCheckedOut told ahead asked old new) (d : ℕ) (t : DriverTalk) → slice_get c.talks d ≡ Some t
    → (x : Driver) × IsDriverTalk ahead told.object c.plan.paths (verdicts_of c.outcomes) new.history d x t
said_at told ahead asked old new c d t at =
    let x = talk_from ahead told.object c.plan.paths (verdicts_of c.outcomes) new.history 0 c.plan.drivers c.talks c.conversations d t at in
    let same : ◌≡◌ {A = ℕ} (0 + d) d = omega arith in
    (x.0, subst (λ (k : ℕ). IsDriverTalk ahead told.object c.plan.paths (verdicts_of c.outcomes) new.history k x.0 t) same x.1)

served_in : (told : RepoTold) (ahead : List ℕ → Starts) (asked : Option ℕ) (old new : Seen) (c : IsCheckedOut told ahead asked old new) (d : ℕ) (t : DriverTalk) → slice_get c.talks d ≡ Some t
    → AllServed new.spawner.returned → AreServed t.had
served_in told ahead asked old new c d t at served =
    served_at c.talks d t (served_behind old.spawner.returned _ (subst (λ (s : List (List ℕ × List Had)). AllServed s) (ap (λ s. s.returned) c.starters) served)) at

-- each path of a single run is heard in a checkout, if memory never ran out in the talk
pub heard_in_checkout : KeptHeard → PlannedPathsAreSized → (told : RepoTold) (below : List ℕ → Starts) (runs : List RunTold) (asked : Option ℕ) (old new : Seen) (c : IsCheckedOut told (commands_tell below true (RunsListed runs)) asked old new)
    → AllServed new.spawner.returned → (d : ℕ) (t : DriverTalk) → slice_get c.talks d ≡ Some t → is_single_run t.command ≡ true → NoneWanting t.exchanges → AreHeard runs d t
heard_in_checkout law sized told below runs asked old new c served d t at single =
    let said = said_at told (commands_tell below true (RunsListed runs)) asked old new c d t at in
    hears told.object below runs c.plan.paths (verdicts_of c.outcomes) new.history d said.0 t said.1 single
    (served_in told (commands_tell below true (RunsListed runs)) asked old new c d t at served) (sized told c.plan c.planned) law

-- and memory never did where it was left for each path
pub wants_in_checkout : KeptHadMemory → TalksHaveMemory → PlannedPathsAreSized → (told : RepoTold) (below : List ℕ → Starts) (runs : List RunTold) (asked : Option ℕ) (old new : Seen) (c : IsCheckedOut told (commands_tell below true (RunsListed runs)) asked old new)
    → AllServed new.spawner.returned → (d : ℕ) (t : DriverTalk) → slice_get c.talks d ≡ Some t → is_single_run t.command ≡ true → (lacks_memory (verdicts_of c.outcomes) ≡ false) ⊎ NoneWanting t.exchanges → NoneWanting t.exchanges
wants_in_checkout had talks sized told below runs asked old new c served d t at single (inr wants) = wants
wants_in_checkout had talks sized told below runs asked old new c served d t at single (inl memory) =
    let said = said_at told (commands_tell below true (RunsListed runs)) asked old new c d t at in
    wants_none told.object below runs c.plan.paths (verdicts_of c.outcomes) new.history d said.0 t said.1 single
    (served_in told (commands_tell below true (RunsListed runs)) asked old new c d t at served) (sized told c.plan c.planned) had
    (talks told (commands_tell below true (RunsListed runs)) asked old new c memory d t at)

pub are_heard : KeptHeard → KeptHadMemory → OneContent → PlannedPathsAreSized → TalksHaveMemory → SingleRunsAreHeard
are_heard law had one sized talks told below runs asked old new c served d t at single memory = (heard_all, ends)
  where
    heard_all : AreHeard runs d t
    heard_all = heard_in_checkout law sized told below runs asked old new c served d t at single (wants_in_checkout had talks sized told below runs asked old new c served d t at single memory)

    said : (x : Driver) × IsDriverTalk (commands_tell below true (RunsListed runs)) told.object c.plan.paths (verdicts_of c.outcomes) new.history d x t
    said = said_at told (commands_tell below true (RunsListed runs)) asked old new c d t at

    gives : (n : ℕ) (answer : List ℕ) → Gave t n answer → content_of n t.exchanges ≡ Some answer
    gives n answer gave = one d t.paths t.asked said.1.talk.full t.exchanges (apart t.asked said.1.over.rises) said.1.talk.talk n answer (has_given t.exchanges n answer gave)

    ends : AreEnded runs c.plan.paths c.outcomes d t
    ends n p o here there is =
        let desk = desk_of d p.start is in
        let same : ◌≡◌ {A = ℕ} (0 + n) n = omega arith in
        let all : HasOutcome told.object c.talks p.start n p o =
        subst (λ (k : ℕ). HasOutcome told.object c.talks p.start k p o) same (outcome_from told.object c.talks 0 c.plan.paths c.outcomes c.verdicts n p o here there) in
        let has : HasOutcome told.object c.talks (start.Desk d desk.0) n p o = subst (λ (s : Start). HasOutcome told.object c.talks s n p o) desk.1 all in
        let this : has.1 ≡ t = same_Some has.1 t (sym has.2 ∙ at) in
        ends_by desk.0 d t n (told.object p.object) p o (run_at runs t n) (heard_all n) (gives n) o.verdict
        (subst (λ (u : DriverTalk). HasDeskVerdict desk.0 d u n (told.object p.object) p o o.verdict) this has.3)

-- the same of a checkout that left its spawner so
pub own_heard : SingleRunsAreHeard → (ahead : List ℕ → Starts) (left : SpawnerSeen) → AllServed left.returned → OwnRunsAreHeard ahead left
own_heard law ahead left served told below runs asked old new is same =
    subst (λ (f : List ℕ → Starts). (c : IsCheckedOut told f asked old new) → (d : ℕ) (t : DriverTalk) → slice_get c.talks d ≡ Some t → is_single_run t.command ≡ true
    → (lacks_memory (verdicts_of c.outcomes) ≡ false) ⊎ NoneWanting t.exchanges → AreHeard runs d t × AreEnded runs c.plan.paths c.outcomes d t) (sym is)
    (λ c. law told below runs asked old new c (subst (λ (s : SpawnerSeen). AllServed s.returned) (sym same) served))
