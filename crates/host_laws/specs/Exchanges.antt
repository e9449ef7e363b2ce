-- One exchange of a client with a host.
use Rattle.std.specs.Prelude.{◌≡◌, ◌≤◌, ℕ, Bool, true, List, [], ◌++◌, take}
use Rattle.pkt_line.specs.Packets.{Packet, total}
use Rattle.pkt_line.specs.Spelling.{spelling_all}
use Rattle.filter_words.specs.Outcomes.{limit}
use Rattle.filter_words.specs.Requests.{hello_packets, caps_packets, smudge_packets, list_packets}
use Rattle.filter_words.specs.SmudgeReply.{reply_step, reply_start, content_in}
use Rattle.filter_words.specs.Listing.{GoodList, Listed, list_step, list_start}
use Rattle.filter_words.specs.ListGrammar.{AreExpected}
use Rattle.filter_words.specs.Handshake.{handshake_step, handshake_start}
use Rattle.filter_words.specs.declared.reply.Caps.{Caps}
use Rattle.filter_words.specs.declared.smudge_reply.GoodReply.{GoodReply}
use Rattle.filter_proto.specs.Exchanges.{Ends, Good}
use Rattle.driver_line.specs.Parts.{IsPartOf}
use Rattle.driver_host.specs.declared.work.Choice.{Choice}
use Rattle.driver_host.specs.Requests.{Smudge, Listing}
use Rattle.driver_host.specs.Answers.{choice_answer, list_answer, hello_answer, caps_answer, both, reply_to, given}
use Rattle.driver_host.specs.Answers.{AreListable}
use Rattle.driver_host.specs.HostText.{Fresh, Serving, Owed, HostEnd, MayChoose, after_choice, after_list, none_owed}
use Rattle.host_laws.specs.Awaiting.{Awaits, MayCome}

-- The answer to a request for a path is good: it is what the choice for the path comes to, with the content that the
-- choice gives. The host goes on after it.
pub record HasReply (own : Caps) (batch : ℕ) (agreed : Caps) (owed : Owed) (path : List ℕ) (d : Bool)
    (sent answers : List Packet) (end : HostEnd) (used : List ℕ) (packets : List Packet) (came : Ends GoodReply)
    : Type 0 where
  pub choice : Choice
  pub later : List Packet
  pub good : came ≡ Good (reply_to choice)
  pub content : content_in d reply_start packets ≡ given choice
  pub may : MayChoose owed path d choice
  pub used_is : used ≡ spelling_all (choice_answer choice)
  pub whole : answers ≡ choice_answer choice ++ later
  pub next : Awaits own batch (after_choice agreed owed path choice) sent later end

-- A client asks a host for a path and takes the answer from the front of the host's text. It met an end of input only
-- where it took all of that. No link failed, memory didn't run out, and neither the request nor the answer is over the
-- limit. Then the answer is good.
abbrev pub RepliesAreGood : Type 0
RepliesAreGood = (own : Caps) (batch : ℕ) (agreed : Caps) (owed : Owed) (path name : List ℕ) (d : Bool)
    (content : List ℕ) (sent answers : List Packet) (end : HostEnd) (used rest : List ℕ) (came : Ends GoodReply)
    → MayCome (Serving agreed owed) (Smudge path d content) → total (smudge_packets path name d content) ≤ limit
    → Awaits own batch (Serving agreed owed) (smudge_packets path name d content ++ sent) answers end
    → (heard : IsPartOf (reply_step d) reply_start (spelling_all answers) used rest came)
    → HasReply own batch agreed owed path d sent answers end used heard.part.packets came

-- The answer to a request for a list names the first delayed paths.
pub record HasNames (own : Caps) (batch : ℕ) (agreed : Caps) (owed : Owed) (sent answers : List Packet) (end : HostEnd)
    (used : List ℕ) (came : Ends GoodList) : Type 0 where
  pub later : List Packet
  pub good : came ≡ Good (Listed (take batch owed.delayed))
  pub used_is : used ≡ spelling_all (list_answer (take batch owed.delayed))
  pub whole : answers ≡ list_answer (take batch owed.delayed) ++ later
  pub next : Awaits own batch (Serving agreed (after_list batch owed)) sent later end

-- So it is with a list, where the client has delayed what the host has, and no path twice.
abbrev pub ListsAreGood : Type 0
ListsAreGood = (own : Caps) (batch : ℕ) (agreed : Caps) (owed : Owed) (delayed : List (List ℕ))
    (sent answers : List Packet) (end : HostEnd) (used rest : List ℕ) (came : Ends GoodList)
    → MayCome (Serving agreed owed) Listing → AreListable owed.delayed → AreExpected delayed [] owed.delayed
    → Awaits own batch (Serving agreed owed) (list_packets ++ sent) answers end
    → IsPartOf (list_step delayed) list_start (spelling_all answers) used rest came
    → HasNames own batch agreed owed sent answers end used came

-- the capabilities that a client offers
abbrev pub offered : Caps
offered = record { smudge = true; delay = true }

-- The two answers to a handshake announce what both sides have.
pub record HasCaps (own : Caps) (batch : ℕ) (sent answers : List Packet) (end : HostEnd) (used : List ℕ)
    (came : Ends Caps) : Type 0 where
  pub later : List Packet
  pub good : came ≡ Good (both own offered)
  pub used_is : used ≡ spelling_all (hello_answer ++ caps_answer (both own offered))
  pub whole : answers ≡ (hello_answer ++ caps_answer (both own offered)) ++ later
  pub next : Awaits own batch (Serving (both own offered) none_owed) sent later end

-- So it is with a handshake, which is the first exchange.
abbrev pub HandshakesAreGood : Type 0
HandshakesAreGood = (own : Caps) (batch : ℕ) (sent answers : List Packet) (end : HostEnd) (used rest : List ℕ)
    (came : Ends Caps) → Awaits own batch Fresh (hello_packets ++ (caps_packets ++ sent)) answers end
    → IsPartOf handshake_step handshake_start (spelling_all answers) used rest came
    → HasCaps own batch sent answers end used came
