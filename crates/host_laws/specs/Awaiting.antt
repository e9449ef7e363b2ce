-- A host in the middle of a talk.
use Rattle.std.specs.Prelude.{◌≡◌, ◌≤◌, ℕ, true, false, List, ◌++◌}
use Rattle.pkt_line.specs.Packets.{Packet, SpellAll, total}
use Rattle.filter_words.specs.Outcomes.{limit}
use Rattle.filter_words.specs.Listing.{name_in}
use Rattle.filter_words.specs.declared.reply.Caps.{Caps}
use Rattle.driver_host.specs.declared.work.Choice.{Choice}
use Rattle.driver_host.specs.Requests.{Request, Hello, Offer, Smudge, Listing, AreRequests}
use Rattle.driver_host.specs.HostText.{Stage, Fresh, Greeted, Serving, HostEnd, Answers, AllAnswered, EndsSo}
use Rattle.host_laws.specs.HostTalks.{AnswersFit}

-- From here in its talk it reads these packets, which it answers by these packets, and then it ends so.
pub record Awaits (own : Caps) (batch : ℕ) (s : Stage) (sent answers : List Packet) (end : HostEnd) : Type 0 where
  pub requests : List Request
  pub packets : List Packet
  pub more : List Packet
  pub rest : List ℕ
  pub choices : List Choice
  pub stage : Stage
  pub whole : sent ≡ packets ++ more
  pub spelled : SpellAll more rest
  pub are : AreRequests requests packets
  pub answered : AllAnswered own batch s requests choices answers stage
  pub fit : AnswersFit own batch requests s stage choices answers answered
  pub ends : EndsSo stage rest end

-- a request that may come here in the talk
abbrev pub MayCome : Stage → Request → Type 0
MayCome Fresh Hello = Unit {0}
MayCome Greeted (Offer offered) = Unit {0}
MayCome (Serving agreed owed) Listing = agreed.delay ≡ true
MayCome (Serving agreed owed) (Smudge path can_delay content) =
    (agreed.smudge ≡ true) × (name_in owed.delayed path ≡ false)
MayCome s r = ⊥

-- It reads this request next and answers it, and then these packets are left to read.
pub record IsTaken (own : Caps) (batch : ℕ) (s : Stage) (r : Request) (sent answers : List Packet) (end : HostEnd)
    : Type 0 where
  pub mid : Stage
  pub choices : List Choice
  pub first : List Packet
  pub later : List Packet
  pub whole : answers ≡ first ++ later
  pub is : Answers own batch s r choices first mid
  pub fit : total first ≤ limit
  pub next : Awaits own batch mid sent later end
