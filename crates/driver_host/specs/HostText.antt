-- What a driver that reads these bytes and makes these choices answers: gitattributes(5), "Long Running Filter
-- Process".
use Rattle.std.specs.Prelude.{◌≡◌, ◌⊎◌, ℕ, ◌<◌, ◌≤◌, not, Bool, true, false, List, [], ◌∷◌, ◌++◌}
use Rattle.std.specs.Prelude.{filter, map, take, drop, Option, Some, None, codes}
use Rattle.std.specs.Str.{bytes_eq}
use Rattle.pkt_line.specs.Packets.{Packet, Payload, Flush, SpellAll, IsPartial, HasFault, total}
use Rattle.pkt_line.specs.Spelling.{spelling_all}
use Rattle.filter_words.specs.Outcomes.{limit}
use Rattle.filter_words.specs.Words.{without_lf}
use Rattle.filter_words.specs.Grammar.{block}
use Rattle.filter_words.specs.Listing.{name_in}
use Rattle.filter_words.specs.HandshakeGrammar.{has_line}
use Rattle.filter_words.specs.declared.reply.Caps.{Caps}
use Rattle.driver_host.specs.declared.work.Choice.{Choice}
use Rattle.driver_host.specs.declared.work.Choice.TheVariants.{Give, Refuse, Later, Stop}
use Rattle.driver_host.specs.declared.host.HostFault.{HostFault}
use Rattle.driver_host.specs.declared.host.HostFault.TheVariants as fault
use Rattle.driver_host.specs.Requests.{Request, Hello, Offer, Smudge, Listing, AreRequests, asks_smudge}
use Rattle.driver_host.specs.Requests.{asks_list, value_in}
use Rattle.driver_host.specs.Answers.{hello_answer, both, caps_answer, choice_answer, list_answer}

-- the paths that are delayed and not listed, in order of delay, and those that were listed and not answered again
pub record Owed : Type 0 where
  pub delayed : List (List ℕ)
  pub listed : List (List ℕ)

-- how far a talk has come: nothing was read; the first handshake request was; the capabilities were agreed; a choice
-- was Stop
pub data Stage : Type 0 where
  Fresh : Stage
  Greeted : Stage
  Serving : (agreed : Caps) → (owed : Owed) → Stage
  Over : Stage

abbrev pub none_owed : Owed
none_owed = record { delayed = []; listed = [] }

-- a list names the first paths, at most this many
abbrev pub after_list : ℕ → Owed → Owed
after_list batch owed = record {
  delayed = drop batch owed.delayed;
  listed = owed.listed ++ take batch owed.delayed;
}

-- the names without this one
abbrev pub less : List (List ℕ) → List ℕ → List (List ℕ)
less names name = filter (λ n. not (bytes_eq n name)) names

-- a path is answered: it is no longer owed, or it is now
abbrev pub after_choice : Caps → Owed → List ℕ → Choice → Stage
after_choice agreed owed path Later = Serving agreed (record owed { delayed = owed.delayed ++ path ∷ [] })
after_choice agreed owed path Stop = Over
after_choice agreed owed path (Give bytes) = Serving agreed (record owed { listed = less owed.listed path })
after_choice agreed owed path Refuse = Serving agreed (record owed { listed = less owed.listed path })

-- Later is a choice only at a first request that may wait: a request for a listed path is a second one
abbrev pub MayChoose : Owed → List ℕ → Bool → Choice → Type 0
MayChoose owed path can_delay Later = (can_delay ≡ true) × (name_in owed.listed path ≡ false)
MayChoose owed path can_delay (Give bytes) = Unit {0}
MayChoose owed path can_delay Refuse = Unit {0}
MayChoose owed path can_delay Stop = Unit {0}

-- One request is answered. A path that is delayed and not listed is never asked for.
abbrev pub Answers : Caps → ℕ → Stage → Request → List Choice → List Packet → Stage → Type 0
Answers own batch Fresh Hello cs ps t = (cs ≡ []) × (ps ≡ hello_answer) × (t ≡ Greeted)
Answers own batch Greeted (Offer offered) cs ps t =
    (cs ≡ []) × (ps ≡ caps_answer (both own offered)) × (t ≡ Serving (both own offered) none_owed)
Answers own batch (Serving agreed owed) Listing cs ps t =
    (agreed.delay ≡ true) × (cs ≡ []) × (ps ≡ list_answer (take batch owed.delayed))
    × (t ≡ Serving agreed (after_list batch owed))
Answers own batch (Serving agreed owed) (Smudge path can_delay content) cs ps t =
    (agreed.smudge ≡ true) × (name_in owed.delayed path ≡ false)
    × ((c : Choice) × (cs ≡ c ∷ []) × MayChoose owed path can_delay c × (ps ≡ choice_answer c)
    × (t ≡ after_choice agreed owed path c))
Answers own batch s r cs ps t = ⊥

-- the requests are answered, one after another
abbrev pub AllAnswered : Caps → ℕ → Stage → List Request → List Choice → List Packet → Stage → Type 0
AllAnswered own batch s [] cs ps t = (cs ≡ []) × (ps ≡ []) × (s ≡ t)
AllAnswered own batch s (r ∷ rs) cs ps t =
    (mid : Stage) × (c d : List Choice) × (p q : List Packet) × (cs ≡ c ++ d) × (ps ≡ p ++ q)
    × Answers own batch s r c p mid × AllAnswered own batch mid rs d q t

-- a path is named that may be asked for: none that is delayed and not listed
abbrev pub may_name : Owed → Option (List ℕ) → Bool
may_name owed None = false
may_name owed (Some path) = not (name_in owed.delayed path)

-- a content is read after a key list that asks to smudge a path that may be asked for
pub record IsContentPart (agreed : Caps) (owed : Owed) (ps : List Packet) : Type 0 where
  pub keys : List (List ℕ)
  pub pieces : List (List ℕ)
  pub whole : ps ≡ block keys ++ map Payload pieces
  pub command : asks_smudge keys ≡ true
  pub announced : agreed.smudge ≡ true
  pub may : may_name owed (value_in (codes "pathname") keys) ≡ true

abbrev pub IsLines : List Packet → Type 0
IsLines ps = (lines : List (List ℕ)) × (ps ≡ map Payload lines)

-- the packets are a part of the request that comes next, and more belong to it
abbrev pub IsUnfinished : Stage → List Packet → Type 0
IsUnfinished Fresh ps = (ps ≡ [])
    ⊎ ((client : List ℕ) × (lines : List (List ℕ)) × (ps ≡ Payload client ∷ map Payload lines)
    × (without_lf client ≡ codes "git-filter-client"))
IsUnfinished Greeted ps = IsLines ps
IsUnfinished (Serving agreed owed) ps = IsLines ps ⊎ IsContentPart agreed owed ps
IsUnfinished Over ps = ⊥

-- the first handshake request is none: its first packet isn't the line `git-filter-client`, or its lines end and
-- none of them is `version=2`
abbrev pub HasNoClient : List Packet → Type 0
HasNoClient (Payload line ∷ []) = bytes_eq (without_lf line) (codes "git-filter-client") ≡ false
HasNoClient (Flush ∷ []) = Unit {0}
HasNoClient ps = ⊥

pub record HasNoVersion (ps : List Packet) : Type 0 where
  pub client : List ℕ
  pub lines : List (List ℕ)
  pub whole : ps ≡ Payload client ∷ block lines
  pub client_is : without_lf client ≡ codes "git-filter-client"
  pub no_version : has_line lines (codes "version=2") ≡ false

-- a smudge has no `pathname`, `smudge` wasn't announced, or its path is delayed and not listed
abbrev pub IsBadSmudge : Caps → Owed → Option (List ℕ) → Type 0
IsBadSmudge agreed owed None = Unit {0}
IsBadSmudge agreed owed (Some path) = (agreed.smudge ≡ false) ⊎ (name_in owed.delayed path ≡ true)

-- a key list has no known `command`, or its smudge is bad, or it asks for a list and `delay` wasn't announced
abbrev pub IsBadKeyList : Caps → Owed → List (List ℕ) → Type 0
IsBadKeyList agreed owed keys = ((asks_smudge keys ≡ false) × (asks_list keys ≡ false))
    ⊎ ((asks_smudge keys ≡ true) × IsBadSmudge agreed owed (value_in (codes "pathname") keys))
    ⊎ ((asks_list keys ≡ true) × (agreed.delay ≡ false))

-- the packets are no request that may come next, and no part of one
abbrev pub IsBad : Stage → HostFault → List Packet → Type 0
IsBad Fresh fault.BadHello ps = HasNoClient ps ⊎ HasNoVersion ps
IsBad (Serving agreed owed) fault.BadRequest ps =
    (keys : List (List ℕ)) × (ps ≡ block keys) × IsBadKeyList agreed owed keys
IsBad s why ps = ⊥

-- The last packet is the first that is refused: with it the limit is passed, or else what came is bad.
pub record IsRefused (s : Stage) (ps : List Packet) (why : HostFault) : Type 0 where
  pub before : List Packet
  pub last : Packet
  pub whole : ps ≡ before ++ last ∷ []
  pub unfinished : IsUnfinished s before
  pub fitted : total before ≤ limit
  pub cause_is : ((why ≡ fault.TooLong) × (limit < total ps)) ⊎ ((total ps ≤ limit) × IsBad s why ps)

-- how the reading of bytes stands at their end
pub data HostEnd : Type 0 where
  Waits : HostEnd  -- inside a request, or before one
  Stopped : HostEnd
  Refused : (why : HostFault) → HostEnd

-- a part of a request is at the front of the bytes, and this stands after it
pub record HasPart (s : Stage) (bytes : List ℕ) (after : List ℕ → Type 0) : Type 0 where
  pub packets : List Packet
  pub read : List ℕ
  pub rest : List ℕ
  pub spelled : SpellAll packets read
  pub whole : bytes ≡ read ++ rest
  pub unfinished : IsUnfinished s packets
  pub fits : total packets ≤ limit
  pub ends : after rest

-- packets that are refused are at the front of the bytes
pub record HasRefused (s : Stage) (bytes : List ℕ) (why : HostFault) : Type 0 where
  pub packets : List Packet
  pub read : List ℕ
  pub rest : List ℕ
  pub spelled : SpellAll packets read
  pub whole : bytes ≡ read ++ rest
  pub refused : IsRefused s packets why

-- how the bytes after the last answered request end
abbrev pub EndsSo : Stage → List ℕ → HostEnd → Type 0
EndsSo s bytes Waits = HasPart s bytes IsPartial
EndsSo s bytes Stopped = s ≡ Over
EndsSo s bytes (Refused fault.BadPacket) = HasPart s bytes HasFault
EndsSo s bytes (Refused fault.NoMemory) = ⊥
EndsSo s bytes (Refused why) = HasRefused s bytes why

-- The text of a host with these capabilities, which lists this many paths at most, after these bytes and choices: the
-- answers to the requests that the bytes spell, joined. What follows the last of them is a part of a request, or
-- refused; after Stop it isn't looked at.
pub record IsHostText (own : Caps) (batch : ℕ) (bytes : List ℕ) (choices : List Choice) (text : List ℕ)
    (end : HostEnd) : Type 0 where
  pub batch_some : 1 ≤ batch
  pub requests : List Request
  pub packets : List Packet
  pub read : List ℕ
  pub rest : List ℕ
  pub answers : List Packet
  pub stage : Stage
  pub spelled : SpellAll packets read
  pub whole : bytes ≡ read ++ rest
  pub are : AreRequests requests packets
  pub answered : AllAnswered own batch Fresh requests choices answers stage
  pub text_is : text ≡ spelling_all answers
  pub ends : EndsSo stage rest end
