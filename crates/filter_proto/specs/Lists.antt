-- A list request and its answer, and what it makes of the table of delayed paths.
use Rattle.std.specs.Prelude.{◌≡◌, ℕ, List, [], ◌∷◌, ◌++◌, map}
use Rattle.pkt_line.specs.Packets.{Packet, Payload, Flush}
use Rattle.filter_words.specs.Requests.{list_text}
use Rattle.filter_words.specs.Listing.{GoodList, Listed, Aborted, list_step, list_start, reply_of_good}
use Rattle.filter_words.specs.ListGrammar.{names_of}
use Rattle.filter_words.specs.declared.reply.BreakCause.{BreakCause}
use Rattle.filter_words.specs.declared.reply.BreakCause.TheVariants as cause
use Rattle.filter_words.specs.declared.reply.ListReply.{ListReply}
use Rattle.filter_words.specs.declared.reply.ListReply.TheVariants as reply
use Rattle.delay_table.specs.Table.{Table, IsDelayed, with_place}
use Rattle.delay_table.specs.declared.place.Place.{Place}
use Rattle.delay_table.specs.declared.place.Place.TheVariants as place
use Rattle.filter_proto.specs.Wires.{Wire}
use Rattle.filter_proto.specs.Exchanges.{Ends, Good, Broke, OutOfMemory, IsExchange}
use Rattle.filter_proto.specs.declared.session.Standing.{Standing}
use Rattle.filter_proto.specs.declared.session.Standing.TheVariants as standing

abbrev pub delayed_of : List (List ℕ) → List Place → List (List ℕ)
delayed_of [] places = []
delayed_of (name ∷ names) [] = []
delayed_of (name ∷ names) (place.Delayed ∷ places) = name ∷ delayed_of names places
delayed_of (name ∷ names) (place.Idle ∷ places) = delayed_of names places
delayed_of (name ∷ names) (place.Listed ∷ places) = delayed_of names places
delayed_of (name ∷ names) (place.Done ∷ places) = delayed_of names places

-- the names that are delayed
abbrev pub delayed_in : Table → List (List ℕ)
delayed_in t = delayed_of t.names t.places

-- the place is listed, after those that were listed before
abbrev pub listed_at : ℕ → Table → Table
listed_at p t = record (with_place p place.Listed t) { turns = t.turns ++ p ∷ [] }

-- The names were listed one after another, each at its place, which was delayed.
abbrev pub Lists : List (List ℕ) → Table → Table → Type 0
Lists [] old new = new ≡ old
Lists (name ∷ names) old new = (p : ℕ) × IsDelayed name old p × Lists names (listed_at p old) new

-- the first flush packet ends the lines with names, or nothing does yet
abbrev pub IsBehindNames : List Packet → Type 0
IsBehindNames [] = Unit {0}
IsBehindNames (Flush ∷ ps) = Unit {0}
IsBehindNames (Payload line ∷ ps) = ⊥

-- the names in the lines before the first flush packet were listed, and no others
pub record HasListed (old new : Table) (packets : List Packet) : Type 0 where
  pub lines : List (List ℕ)
  pub rest : List Packet
  pub whole : packets ≡ map Payload lines ++ rest
  pub behind : IsBehindNames rest
  pub listed : Lists (names_of lines) old new

-- the same, but for the last packet, which broke the answer
abbrev pub HasListedAhead : Table → Table → List Packet → Type 0
HasListedAhead old new packets = (front : List Packet) × (last : Packet) × (packets ≡ front ++ last ∷ [])
    × HasListed old new front

-- a path that isn't delayed isn't listed, and neither is one of a packet for which there was no room
abbrev pub BreaksLists : BreakCause → Table → Table → List Packet → Type 0
BreaksLists cause.StrangePath old new packets = HasListedAhead old new packets
BreaksLists cause.TooLong old new packets = HasListedAhead old new packets
BreaksLists why old new packets = HasListed old new packets

-- the names of a good list were listed, and for any other answer those that came before it ended
abbrev pub EndLists : Table → Table → Ends GoodList → List Packet → Type 0
EndLists old new (Good (Listed names)) packets = Lists names old new
EndLists old new (Good Aborted) packets = HasListed old new packets
EndLists old new (Broke why) packets = BreaksLists why old new packets
EndLists old new OutOfMemory packets = new ≡ old

-- what came of a list request, as a reply
abbrev pub list_reply_of : Ends GoodList → ListReply
list_reply_of (Good g) = reply_of_good g
list_reply_of (Broke why) = reply.Broken why
list_reply_of OutOfMemory = reply.NoMemory

-- a list request, and its answer about the paths that are delayed in the table
pub record IsListExchange (old new : Wire) (before after : Table) (r : ListReply) : Type 0 where
  pub end : Ends GoodList
  pub exchange : IsExchange (list_step (delayed_in before)) list_start list_text old new end (EndLists before after end)
  pub reply : r ≡ list_reply_of end

-- the standing of a session after a list
abbrev pub standing_after_list : ListReply → Standing
standing_after_list (reply.Names count) = standing.Live
standing_after_list reply.Empty = standing.Live
standing_after_list reply.Abort = standing.Aborted
standing_after_list (reply.Broken why) = standing.Over
standing_after_list reply.NoMemory = standing.Over
