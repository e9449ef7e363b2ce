-- A talk that a starter of single runs tells and keeps is one with hosts that run its command.
use Rattle.std.proofs.Common.{◌≡◌, ◌⊎◌, inl, inr, ℕ, zero, suc, ◌<◌, Bool, true, false, List, [], ◌∷◌, ◌++◌, Option, Some, refl, sym, ap, subst, ◌∙◌, arith}
use Rattle.std.specs.Prelude.{◌&&◌, if◌then◌else◌}
use Rattle.std.specs.Str.{bytes_eq}
use Rattle.edge_kit.specs.Told.{Tells}
use Rattle.edge_kit.specs.Links.{RunTold, Replies, replies_in}
use Rattle.edge_kit.specs.Starters.{Had, Session, StartFailed, StartOutOfMemory, SessionHad, Starts, StartsAnswer}
use Rattle.filter_words.specs.declared.reply.Caps.{Caps}
use Rattle.filter_proto.specs.Exchanges.{Ends, Good, Broke, OutOfMemory}
use Rattle.driver_line.specs.Conversations.{Exchange}
use Rattle.driver_line.specs.Lines.{Paths}
use Rattle.driver_line.specs.ToldStarts.{Fills, FillsSession, GoBy}
use Rattle.driver_line.specs.Transcripts.{IsSession, Matches, HasOneCount}
use Rattle.driver_host.specs.declared.work.Choice.{Choice}
use Rattle.driver_host.specs.HostText.{Fresh, HostEnd}
use Rattle.driver_host.specs.Chosen.{IsChosenText}
use Rattle.one_shot.specs.Onces.{OnceTold, Ended, Untold, RunsListed, run_in, told_of}
use Rattle.one_shot.specs.Replies.{smudge_alone, told_by, AreServed, HasTalk}
use Rattle.one_shot.specs.Works.{work_told}
use Rattle.host_laws.specs.HostTalks.{AnswersFit}
use Rattle.host_laws.specs.OnceTalks.{IsOnceSession, AreOnce}

-- every run is told

never_untold : (b : Bool) (r : RunTold) (t : OnceTold) → (t ≡ Untold → ⊥) → (if b then Ended r.output r.zero else t) ≡ Untold → ⊥
never_untold true r t rest e = cc e
never_untold false r t rest e = rest e

pub all_told : (runs : List RunTold) (command input : List ℕ) → told_of (RunsListed runs) command input ≡ Untold → ⊥
all_told [] command input e = cc e
all_told (r ∷ rs) command input e =
    never_untold (bytes_eq r.command command && bytes_eq r.input input) r (run_in rs command input) (all_told rs command input) e

-- one session

one_count : (paths : Paths) (end : Ends Caps) (es : List Exchange) (seen : SessionHad) → IsSession paths end es seen → HasOneCount seen
one_count paths (Good caps) es seen h = h.one
one_count paths (Broke why) es seen h = h.1.one
one_count paths OutOfMemory es seen h = h.1.one

no_fault : (faults ends : ℕ) → (0 < faults → 0 < ends) → (ends ≡ 0) ⊎ (faults ≡ 0) → faults ≡ 0
no_fault zero ends above one = refl
no_fault (suc n) ends above (inl none) = let lt = above (omega arith) in absurd (omega (arith, lt, none))
no_fault (suc n) ends above (inr none) = none

told_bytes : (told : Option (List ℕ)) (one other : List ℕ) → told ≡ Some one → Tells told other → Some other ≡ Some one
told_bytes told one other e h =
    let same : one ≡ other = subst (λ (x : Option (List ℕ)). Tells x other) e h in ap (λ (z : List ℕ). Some z) (sym same)

abbrev pub FitLaw : List RunTold → List ℕ → Type 0
FitLaw runs command = (bytes : List ℕ) (choices : List Choice) (text : List ℕ) (end : HostEnd)
    → (host : IsChosenText (work_told (RunsListed runs) command) smudge_alone 1 bytes choices text end)
    → AnswersFit smudge_alone 1 host.is.requests Fresh host.is.stage choices host.is.answers host.is.answered

module _ (runs : List RunTold) (command : List ℕ) (fit : FitLaw runs command) where
  abbrev answers : Replies
  answers = record { command = command; runs = runs }

  one_session : (seen full : SessionHad) → FillsSession seen full → HasTalk (told_by answers) seen.sent seen.taken seen.ends
      → (0 < seen.faults → 0 < seen.ends) → HasOneCount full → IsOnceSession (work_told (RunsListed runs) command) full
  one_session seen full fills talk above one = record {
    end = talk.text.end;
    host = record {
      sent = talk.sent_all;
      taken = talk.taken_all;
      left = talk.left;
      choices = talk.text.choices;
      sent_is = ap (λ (x : SessionHad). x.sent) fills.full_is ∙ told_bytes seen.sent talk.sent_all fills.sent talk.sent_is fills.sent_is;
      taken_is = ap (λ (x : SessionHad). x.taken) fills.full_is ∙ told_bytes seen.taken talk.taken_all fills.taken talk.taken_is fills.taken_is;
      text = talk.text.text.is;
      answers = fit talk.sent_all talk.text.choices (talk.taken_all ++ talk.left) talk.text.end talk.text.text;
      unfailed = no_fault full.faults full.ends (λ lt. subst (λ (n : ℕ). 0 < n) (sym ends) (above (subst (λ (n : ℕ). 0 < n) faults lt))) one;
      whole = λ lt. talk.whole (subst (λ (n : ℕ). 0 < n) ends lt);
    };
    contents = talk.text.text.contents;
    chosen = talk.text.text.chosen;
  }
    where
      ends : full.ends ≡ seen.ends
      ends = ap (λ (x : SessionHad). x.ends) fills.full_is

      faults : full.faults ≡ seen.faults
      faults = ap (λ (x : SessionHad). x.faults) fills.full_is

  -- so it is with each

  pub are_once : (paths : Paths) (es : List Exchange) (items full : List Had) (left : Starts) → Fills items full → AreServed items
      → GoBy (StartsAnswer answers) full left → Matches paths es full → AreOnce (work_told (RunsListed runs) command) full
  are_once paths es [] [] left f s g m = tt
  are_once paths es (Session seen ∷ hs) (Session full ∷ fs) left f s g m =
      let told : seen.replies ≡ Some answers =
      sym (ap (λ (x : SessionHad). x.replies) f.0.full_is) ∙ (g.2.replies ∙ ap replies_in g.1) in
      let x = s.0 answers told in (
        one_session seen full f.0 x.0 x.1 (one_count paths m.1 m.2 full m.5),
        are_once paths m.3 hs fs left f.1 s.1 g.3 m.6,
      )
  are_once paths es (StartFailed ∷ hs) (StartFailed ∷ fs) left f s g m = absurd g.0
  are_once paths es (StartOutOfMemory ∷ hs) (StartOutOfMemory ∷ fs) left f s g m = are_once paths m.1 hs fs left f s g m.3
  are_once paths es [] (k ∷ fs) left f s g m = absurd f
  are_once paths es (Session seen ∷ hs) [] left f s g m = absurd f
  are_once paths es (StartFailed ∷ hs) [] left f s g m = absurd f
  are_once paths es (StartOutOfMemory ∷ hs) [] left f s g m = absurd f
  are_once paths es (Session seen ∷ hs) (StartFailed ∷ fs) left f s g m = absurd f
  are_once paths es (Session seen ∷ hs) (StartOutOfMemory ∷ fs) left f s g m = absurd f
  are_once paths es (StartFailed ∷ hs) (Session full ∷ fs) left f s g m = absurd f
  are_once paths es (StartFailed ∷ hs) (StartOutOfMemory ∷ fs) left f s g m = absurd f
  are_once paths es (StartOutOfMemory ∷ hs) (Session full ∷ fs) left f s g m = absurd f
  are_once paths es (StartOutOfMemory ∷ hs) (StartFailed ∷ fs) left f s g m = absurd f
