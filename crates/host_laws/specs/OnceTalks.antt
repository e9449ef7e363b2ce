-- A talk with a driver that is a command, which runs once for each content.
use Rattle.std.specs.Prelude.{◌≡◌, ℕ, ◌<◌, ◌≤◌, true, false, List, [], ◌∷◌, length, Option, Some}
use Rattle.filter_words.specs.Outcomes.{limit}
use Rattle.filter_words.specs.Requests.{first_text}
use Rattle.filter_words.specs.declared.reply.BreakCause.TheVariants as broken
use Rattle.edge_kit.specs.Starters.{Had, Session, StartFailed, StartOutOfMemory, SessionHad}
use Rattle.delay_table.specs.Table.{contains}
use Rattle.checkout_core.specs.declared.path.Heard.TheVariants as heard
use Rattle.checkout_core.specs.declared.verdict.FilterCause.TheVariants as refusal
use Rattle.checkout_core.specs.Fates.{Fate, Known}
use Rattle.driver_line.specs.Conversations.{Exchange}
use Rattle.driver_line.specs.Lines.{Paths}
use Rattle.driver_line.specs.Transcripts.{IsTalk}
use Rattle.driver_line.specs.SameHeard.{NoneWanting, fate_in, content_of}
use Rattle.driver_host.specs.declared.work.Choice.{Choice}
use Rattle.driver_host.specs.declared.work.Choice.TheVariants as choice
use Rattle.driver_host.specs.HostText.{Fresh, HostEnd}
use Rattle.driver_host.specs.Chosen.{Contents, none_asked, AreChosen}
use Rattle.driver_host.specs.Works.{WorkTold}
use Rattle.one_shot.specs.Commands.{once_command}
use Rattle.one_shot.specs.Onces.{OnceTold, Untold, RunsTold, told_of}
use Rattle.one_shot.specs.Replies.{smudge_alone}
use Rattle.one_shot.specs.Works.{choice_told, work_told}
use Rattle.host_laws.specs.HostTalks.{IsHostSession, ArePaths}

-- A session with a host that announces `smudge` alone, each of whose choices is the told one.
pub record IsOnceSession (told : WorkTold) (seen : SessionHad) : Type 0 where
  pub end : HostEnd
  pub host : IsHostSession smudge_alone 1 seen end
  pub contents : Contents
  pub chosen : AreChosen told smudge_alone 1 Fresh none_asked host.text.requests host.choices host.text.stage contents

-- no start failed, and each session is such a one
abbrev pub AreOnce : WorkTold → List Had → Type 0
AreOnce told [] = Unit {0}
AreOnce told (Session seen ∷ hs) = IsOnceSession told seen × AreOnce told hs
AreOnce told (StartFailed ∷ hs) = ⊥
AreOnce told (StartOutOfMemory ∷ hs) = AreOnce told hs

-- what is told of the run for a path
abbrev pub run_of : RunsTold → List ℕ → Paths → ℕ → OnceTold
run_of tells command paths p = told_of tells (once_command command (paths.text p)) (paths.content p)

abbrev pub AreTold : RunsTold → List ℕ → Paths → List ℕ → Type 0
AreTold tells command paths asked = (p : ℕ) → contains p asked ≡ true → run_of tells command paths p ≡ Untold → ⊥

-- A talk with hosts that run this command, in which no link and no start failed, memory never ran out, and no answer is
-- over the limit. The run for each asked path is told.
pub record IsOnceTalk (tells : RunsTold) (command : List ℕ) (d : ℕ) (paths : Paths) (asked : List ℕ)
    (items : List Had) (exchanges : List Exchange) : Type 0 where
  pub names : ArePaths paths asked
  pub told : AreTold tells command paths asked
  pub talk : IsTalk d paths asked items exchanges
  pub hosts : AreOnce (work_told tells command) items
  pub memory : NoneWanting exchanges

-- the request for a path
abbrev pub once_request : Paths → ℕ → List ℕ
once_request paths p = first_text (paths.text p) (paths.name p) false (paths.content p)

-- the path got the content that the choice gives, or it was refused by it
abbrev pub HearsChoice : Option Choice → Fate → Option (List ℕ) → Type 0
HearsChoice (Some (choice.Give output)) fate content = (fate ≡ Known heard.Got) × (content ≡ Some output)
HearsChoice (Some choice.Refuse) fate content = fate ≡ Known (heard.Refused refusal.Error)
HearsChoice told fate content = ⊥

-- A path whose request is over the limit breaks its session. Any other path gets the output if the run ended well with
-- at most 536,000,000 bytes, and is refused with an error if not.
pub record IsHeardOf (told : OnceTold) (request : List ℕ) (fate : Fate) (content : Option (List ℕ)) : Type 0 where
  pub fits : length request ≤ limit → HearsChoice (choice_told told) fate content
  pub over : limit < length request → fate ≡ Known (heard.Refused (refusal.Broken broken.Ended))

-- so it is with each asked path of such a talk
abbrev pub OnceHeard : Type 0
OnceHeard = (tells : RunsTold) (command : List ℕ) (d : ℕ) (paths : Paths) (asked : List ℕ) (items : List Had)
    (exchanges : List Exchange) → IsOnceTalk tells command d paths asked items exchanges
    → (p : ℕ) → contains p asked ≡ true
    → IsHeardOf (run_of tells command paths p) (once_request paths p) (fate_in d p exchanges) (content_of p exchanges)
