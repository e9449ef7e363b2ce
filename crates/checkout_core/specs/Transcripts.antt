-- A driver's whole talk, made of results alone: what was asked and answered, without the bytes. gitattributes(5)
-- describes it under "Long Running Filter Process".
use Rattle.std.specs.Prelude.{◌≡◌, ◌&&◌, ◌++◌, ℕ, Bool, true, false, not, List, [], ◌∷◌, length, map, Option, Some}
use Rattle.std.specs.Prelude.{None}
use Rattle.filter_words.specs.declared.reply.BreakCause.{BreakCause}
use Rattle.filter_words.specs.declared.reply.Caps.{Caps}
use Rattle.filter_words.specs.declared.reply.Reply.{Reply}
use Rattle.filter_words.specs.declared.reply.Reply.TheVariants as reply
use Rattle.filter_words.specs.declared.reply.ListReply.{ListReply}
use Rattle.filter_words.specs.declared.reply.ListReply.TheVariants as list
use Rattle.delay_table.specs.Table.{contains, without}
use Rattle.checkout_core.specs.declared.event.OpenCause.{OpenCause}
use Rattle.checkout_core.specs.declared.event.Event.{Event}
use Rattle.checkout_core.specs.declared.event.Event.TheVariants as event
use Rattle.checkout_core.specs.Conditions.{is_delay, is_good_reply, is_good_opening}
use Rattle.checkout_core.specs.Talks.{is_empty}

-- a request and its answer: the first for a path, one for a list of delayed paths, the second for a path
pub data NotedExchange : Type 0 where
  First : (path : ℕ) → (reply : Reply) → NotedExchange
  Listing : (names : List ℕ) → (reply : ListReply) → NotedExchange
  Second : (path : ℕ) → (reply : Reply) → NotedExchange

-- how a session ended
pub data End : Type 0 where
  Shut : End
  NothingLeft : End  -- an empty list
  Aborted : End
  Broke : (why : BreakCause) → End
  OutOfMemory : End

-- a start or a handshake for the path that gave no session, or a session
pub data Item : Type 0 where
  NoSession : (path : ℕ) → (why : OpenCause) → Item
  Session : (caps : Caps) → (exchanges : List NotedExchange) → (end : End) → Item

-- an answer that ends its session
abbrev pub reply_end : Reply → Option End
reply_end reply.Abort = Some Aborted
reply_end (reply.Broken why) = Some (Broke why)
reply_end reply.NoMemory = Some OutOfMemory
reply_end _ = None

abbrev pub list_reply_end : ListReply → Option End
list_reply_end (list.Names n) = None
list_reply_end list.Empty = Some NothingLeft
list_reply_end list.Abort = Some Aborted
list_reply_end (list.Broken why) = Some (Broke why)
list_reply_end list.NoMemory = Some OutOfMemory

-- the exchange is the last of its session and made this end, or more exchanges follow
abbrev pub GoesOn : Option End → End → (last more : Type 0) → Type 0
GoesOn None end last more = more
GoesOn (Some made) end last more = (end ≡ made) × last

-- the names are of delayed paths, and none is named twice
abbrev pub are_late : List ℕ → List ℕ → Bool
are_late [] late = true
are_late (q ∷ names) late = contains q late && are_late names (without q late)

abbrev pub minus : List ℕ → List ℕ → List ℕ
minus [] late = late
minus (q ∷ names) late = minus names (without q late)

-- the answer to a list request, if these paths are delayed
abbrev pub IsList : List ℕ → List ℕ → ListReply → Type 0
IsList late names (list.Names n) = (is_empty names ≡ false) × (n ≡ length names) × (are_late names late ≡ true)
IsList late names list.Empty = names ≡ []
IsList late names list.Abort = names ≡ []
IsList late names (list.Broken why) = names ≡ []
IsList late names list.NoMemory = names ≡ []

-- Rounds: a list, and a second request for each listed path in the list's order. They go on until an empty list, an
-- abort, a break or out of memory.
abbrev pub Rounds : List ℕ → List ℕ → List NotedExchange → End → Type 0
Rounds late turns [] end = ⊥
Rounds late [] (First q y ∷ es) end = ⊥
Rounds late [] (Listing names y ∷ es) end =
    IsList late names y × GoesOn (list_reply_end y) end (es ≡ []) (Rounds (minus names late) names es end)
Rounds late [] (Second q y ∷ es) end = ⊥
Rounds late (p ∷ turns) (First q y ∷ es) end = ⊥
Rounds late (p ∷ turns) (Listing names y ∷ es) end = ⊥
Rounds late (p ∷ turns) (Second q y ∷ es) end =
    (q ≡ p) × (is_delay y ≡ false) × (is_good_reply y ≡ true)
    × GoesOn (reply_end y) end (es ≡ []) (Rounds late turns es end)

-- a reply to a first request is a delay only if the driver announced that
abbrev pub may_reply : Bool → Reply → Bool
may_reply delay y = is_good_reply y && not (is_delay y && not delay)

abbrev pub late_after : Reply → ℕ → List ℕ → List ℕ
late_after reply.Delayed p late = p ∷ late
late_after _ p late = late

-- First requests for the paths in order, until a reply ends the session or no path is left. `left` are the paths that
-- weren't asked for. If none was delayed the session is shut, or else there are rounds.
abbrev pub Asks : Bool → List ℕ → List ℕ → List NotedExchange → End → List ℕ → Type 0
Asks delay [] [] es end left = (es ≡ []) × (end ≡ Shut) × (left ≡ [])
Asks delay [] (q ∷ late) es end left = Rounds (q ∷ late) [] es end × (left ≡ [])
Asks delay (p ∷ rest) late [] end left = ⊥
Asks delay (p ∷ rest) late (Listing names y ∷ es) end left = ⊥
Asks delay (p ∷ rest) late (Second q y ∷ es) end left = ⊥
Asks delay (p ∷ rest) late (First q y ∷ es) end left =
    (q ≡ p) × (may_reply delay y ≡ true)
    × GoesOn (reply_end y) end ((es ≡ []) × (left ≡ rest)) (Asks delay rest (late_after y p late) es end left)

-- a session without smudge refuses all paths, and is shut
abbrev pub IsSession : Bool → Bool → List ℕ → List NotedExchange → End → List ℕ → Type 0
IsSession true delay paths es end left = Asks delay paths [] es end left
IsSession false delay paths es end left = (es ≡ []) × (end ≡ Shut) × (left ≡ [])

-- the driver is started again only after a break or out of memory, for the paths that weren't asked for
abbrev pub Then : End → (again over : Type 0) → Type 0
Then Shut again over = over
Then NothingLeft again over = over
Then Aborted again over = over
Then (Broke why) again over = again
Then OutOfMemory again over = again

-- The items are a whole talk over the paths. A start that gave no session refuses one path, and the rest is a talk.
abbrev pub IsTalk : List ℕ → List Item → Type 0
IsTalk [] [] = Unit {0}
IsTalk (p ∷ rest) [] = ⊥
IsTalk [] (item ∷ items) = ⊥
IsTalk (p ∷ rest) (NoSession q why ∷ items) = (q ≡ p) × (is_good_opening why ≡ true) × IsTalk rest items
IsTalk (p ∷ rest) (Session caps es end ∷ items) =
    (left : List ℕ) × IsSession caps.smudge caps.delay (p ∷ rest) es end left
    × Then end (IsTalk left items) (items ≡ [])

-- each exchange with the driver d as events: a list with names gives each name in order and then its end
abbrev pub exchange_notes : ℕ → NotedExchange → List Event
exchange_notes d (First q y) = event.Answered q y ∷ []
exchange_notes d (Listing names y) = map event.Named names ++ event.Listed d y ∷ []
exchange_notes d (Second q y) = event.Redone q y ∷ []

abbrev pub exchanges_notes : ℕ → List NotedExchange → List Event
exchanges_notes d [] = []
exchanges_notes d (e ∷ es) = exchange_notes d e ++ exchanges_notes d es

abbrev pub end_notes : ℕ → End → List Event
end_notes d Shut = event.Shut d ∷ []
end_notes d _ = []

abbrev pub notes_of : ℕ → List Item → List Event
notes_of d [] = []
notes_of d (NoSession p why ∷ items) = event.OpenFailed p why ∷ notes_of d items
notes_of d (Session caps es end ∷ items) =
    event.Opened d caps ∷ (exchanges_notes d es ++ (end_notes d end ++ notes_of d items))
