-- A talk with a driver that is a host.
use Rattle.std.specs.Prelude.{◌≡◌, ℕ, suc, ◌<◌, ◌≤◌, ◌==◌, Bool, true, cond, ◌+◌, List, [], ◌∷◌, ◌++◌, length}
use Rattle.std.specs.Prelude.{Option, Some, None}
use Rattle.hex.specs.Hex.{encode_lower}
use Rattle.pkt_line.specs.Packets.{Packet, total}
use Rattle.filter_words.specs.Outcomes.{limit}
use Rattle.filter_words.specs.Handshake.{no_caps}
use Rattle.filter_words.specs.declared.reply.Caps.{Caps}
use Rattle.filter_words.specs.declared.reply.BreakCause.{BreakCause}
use Rattle.filter_words.specs.declared.reply.Reply.TheVariants as reply
use Rattle.edge_kit.specs.Starters.{Had, Session, StartFailed, StartOutOfMemory, SessionHad}
use Rattle.delay_table.specs.Table.{contains, AreApart}
use Rattle.filter_proto.specs.Exchanges.{Good}
use Rattle.checkout_core.specs.declared.path.Heard.TheVariants as heard
use Rattle.checkout_core.specs.Fates.{Known}
use Rattle.driver_line.specs.Conversations.{Exchange, Opening, First, Listing, Second}
use Rattle.driver_line.specs.Lines.{Paths}
use Rattle.driver_line.specs.Transcripts.{IsTalk, break_of, break_in, request_of}
use Rattle.driver_line.specs.SameHeard.{NoneWanting, HaveTexts, fate_in}
use Rattle.driver_host.specs.declared.work.Choice.{Choice}
use Rattle.driver_host.specs.Requests.{Request}
use Rattle.driver_host.specs.HostText.{Stage, Fresh, HostEnd, Stopped, IsHostText, AllAnswered}

-- no answer of a host is over the limit
abbrev pub AnswersFit : (own : Caps) (batch : ℕ) (requests : List Request) (s t : Stage) (choices : List Choice)
    (answers : List Packet) → AllAnswered own batch s requests choices answers t → Type 0
AnswersFit own batch [] s t choices answers all = Unit {0}
AnswersFit own batch (r ∷ rs) s t choices answers all =
    (total all.3 ≤ limit) × AnswersFit own batch rs all.0 t all.2 all.4 all.8

-- A session whose link never failed and that took a first part of the host's text of what was sent. It met an end of
-- input only where it took all of that. No answer is over the limit.
pub record IsHostSession (own : Caps) (batch : ℕ) (seen : SessionHad) (end : HostEnd) : Type 0 where
  pub sent : List ℕ
  pub taken : List ℕ
  pub left : List ℕ
  pub choices : List Choice
  pub sent_is : seen.sent ≡ Some sent
  pub taken_is : seen.taken ≡ Some taken
  pub text : IsHostText own batch sent choices (taken ++ left) end
  pub answers : AnswersFit own batch text.requests Fresh text.stage choices text.answers text.answered
  pub unfailed : seen.faults ≡ 0
  pub whole : 0 < seen.ends → left ≡ []

-- each session is a host's, and these are the hosts' ends, in order
abbrev pub AreHosts : Caps → ℕ → List Had → List HostEnd → Type 0
AreHosts own batch [] ends = ends ≡ []
AreHosts own batch (Session seen ∷ hs) ends = (end : HostEnd) × (more : List HostEnd) × (ends ≡ end ∷ more)
    × IsHostSession own batch seen end × AreHosts own batch hs more
AreHosts own batch (StartFailed ∷ hs) ends = AreHosts own batch hs ends
AreHosts own batch (StartOutOfMemory ∷ hs) ends = AreHosts own batch hs ends

-- no request is over the limit
abbrev pub RequestsFit : Paths → Caps → List Exchange → Type 0
RequestsFit paths caps [] = Unit {0}
RequestsFit paths caps (Opening p (Good agreed) ∷ es) = RequestsFit paths agreed es
RequestsFit paths caps (e ∷ es) = (length (request_of paths caps e) ≤ limit) × RequestsFit paths caps es

-- a path has 1 to 4,096 bytes, and its object's name 40 digits
pub record IsPath (text name : List ℕ) : Type 0 where
  pub some : 1 ≤ length text
  pub long : length text ≤ 4096
  pub digits : length (encode_lower name) ≡ 40

abbrev pub ArePaths : Paths → List ℕ → Type 0
ArePaths paths asked = (p : ℕ) → contains p asked ≡ true → IsPath (paths.text p) (paths.name p)

-- A talk with hosts, in which no link failed, memory never ran out, and no request and no answer is over the limit.
pub record IsHostTalk (own : Caps) (batch d : ℕ) (paths : Paths) (asked : List ℕ) (items : List Had)
    (exchanges : List Exchange) (ends : List HostEnd) : Type 0 where
  pub apart : AreApart asked
  pub texts : HaveTexts paths asked
  pub names : ArePaths paths asked
  pub talk : IsTalk d paths asked items exchanges
  pub hosts : AreHosts own batch items ends
  pub memory : NoneWanting exchanges
  pub requests : RequestsFit paths no_caps exchanges

-- with what cause an opening or an exchange broke
abbrev pub cause_of : Exchange → Option BreakCause
cause_of (Opening p end) = break_in end
cause_of e = break_of e

abbrev pub NoneBroken : List Exchange → Type 0
NoneBroken [] = Unit {0}
NoneBroken (e ∷ es) = (cause_of e ≡ None) × NoneBroken es

abbrev pub NoneStopped : List HostEnd → Type 0
NoneStopped [] = Unit {0}
NoneStopped (end ∷ ends) = (end ≡ Stopped → ⊥) × NoneStopped ends

-- how often a path was delayed, named by a list, and answered again
abbrev pub count_if : Bool → ℕ → ℕ
count_if here n = cond here (suc n) n

abbrev pub times_delayed : ℕ → List Exchange → ℕ
times_delayed p [] = 0
times_delayed p (First q reply.Delayed c ∷ es) = count_if (p == q) (times_delayed p es)
times_delayed p (e ∷ es) = times_delayed p es

abbrev pub times_in : ℕ → List ℕ → ℕ
times_in p [] = 0
times_in p (q ∷ qs) = count_if (p == q) (times_in p qs)

abbrev pub times_listed : ℕ → List Exchange → ℕ
times_listed p [] = 0
times_listed p (Listing late names r ∷ es) = times_in p names + times_listed p es
times_listed p (e ∷ es) = times_listed p es

abbrev pub times_redone : ℕ → List Exchange → ℕ
times_redone p [] = 0
times_redone p (Second q r c ∷ es) = count_if (p == q) (times_redone p es)
times_redone p (e ∷ es) = times_redone p es

-- a path that was delayed is listed once and answered once, and no other path is
abbrev pub IsServed : List Exchange → ℕ → Type 0
IsServed es p = (times_listed p es ≡ times_delayed p es) × (times_redone p es ≡ times_delayed p es)
    × (times_delayed p es ≤ 1)

-- Where such talks are, no exchange is broken. If no host stopped, no path is lost, and each path that was delayed is
-- listed once and answered once.
abbrev pub HostedTalk : Type 0
HostedTalk = (own : Caps) (batch d : ℕ) (paths : Paths) (asked : List ℕ) (items : List Had)
    (exchanges : List Exchange) (ends : List HostEnd) → IsHostTalk own batch d paths asked items exchanges ends
    → NoneBroken exchanges
    × (NoneStopped ends → (p : ℕ) → contains p asked ≡ true
    → (fate_in d p exchanges ≡ Known heard.Lost → ⊥) × IsServed exchanges p)
