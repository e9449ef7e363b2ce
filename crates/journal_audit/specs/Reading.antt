-- How the auditor reads a line, word by word.
use Rattle.std.specs.Prelude.{◌≡◌, ◌==◌, ◌&&◌, ◌≤◌, ◌+◌, ℕ, zero, suc, nat_lt, nat_le, Bool, true, false}
use Rattle.std.specs.Prelude.{List, [], ◌∷◌, ◌++◌, length, codes, Option, Some, None, if◌then◌else◌}
use Rattle.std.specs.List.{slice_split}
use Rattle.std.specs.Str.{bytes_eq}
use Rattle.byte_path.specs.Characters.{space, line_feed}
use Rattle.byte_path.specs.Decimal.{decimal_within}
use Rattle.filter_words.specs.declared.reply.BreakCause.TheVariants as break
use Rattle.filter_words.specs.declared.reply.Reply.{Reply}
use Rattle.filter_words.specs.declared.reply.Reply.TheVariants as reply
use Rattle.filter_words.specs.declared.reply.ListReply.{ListReply}
use Rattle.filter_words.specs.declared.reply.ListReply.TheVariants as list
use Rattle.checkout_core.specs.declared.verdict.ObjectKind.TheVariants as object
use Rattle.checkout_core.specs.declared.verdict.Own.{Own}
use Rattle.checkout_core.specs.declared.verdict.Own.TheVariants as own
use Rattle.checkout_core.specs.declared.verdict.Verdict.{Verdict}
use Rattle.checkout_core.specs.declared.verdict.Verdict.TheVariants as verdict
use Rattle.checkout_core.specs.declared.verdict.FailCause.TheVariants as fail
use Rattle.checkout_core.specs.declared.verdict.SkipCause.TheVariants as skip
use Rattle.checkout_core.specs.declared.path.Start.{Start}
use Rattle.checkout_core.specs.declared.path.Start.TheVariants.{Pool, Desk, Done}
use Rattle.checkout_core.specs.declared.event.OpenCause.{OpenCause}
use Rattle.checkout_core.specs.declared.event.OpenCause.TheVariants as opening
use Rattle.checkout_core.specs.declared.event.Event.{Event}
use Rattle.checkout_core.specs.declared.event.Event.TheVariants.{Claim, Close, Opened, OpenFailed, Answered, Named}
use Rattle.checkout_core.specs.declared.event.Event.TheVariants.{Listed, Redone, HandBack, Shut}
use Rattle.checkout_core.specs.States.{Core, start, unclosed_count}
use Rattle.checkout_core.specs.Steps.{step_of}
use Rattle.filter_words.specs.BreakWords.{break_word}
use Rattle.journal_audit.specs.Words.{own_word, opening_word, reply_word}
use Rattle.journal_audit.specs.Journal.{done_word}
use Rattle.journal_audit.specs.declared.answer.Audit.{Audit}
use Rattle.journal_audit.specs.declared.answer.Audit.TheVariants.{Legal, Illegal, Unreadable}
use Rattle.journal_audit.specs.declared.line_reader.Head.{Head}

-- the parts of a text between bytes of this value
abbrev pub parts : ℕ → List ℕ → List (List ℕ)
parts c text = slice_split (λ b. b == c) text

abbrev pub number : List ℕ → Option ℕ
number w = decimal_within w 4294967295

abbrev pub on : {A B : Type 0} → Option A → (A → Option B) → Option B
on None f = None
on (Some x) f = f x

-- the first of these values that has this word
abbrev pub word_in : {A : Type 0} → (A → List ℕ) → List A → List ℕ → Option A
word_in word [] w = None
word_in word (x ∷ xs) w = if bytes_eq (word x) w then Some x else word_in word xs w

abbrev pub all_owns : List Own
all_owns =
    own.Fine false ∷ own.Fine true ∷ own.ReadFailed ∷ own.WriteFailed ∷ own.NoMemory ∷ own.Object object.Absent
    ∷ own.Object object.Header ∷ own.Object object.Size ∷ own.Object object.WrongName ∷ own.Object object.TooLarge ∷ []

abbrev pub all_openings : List OpenCause
all_openings =
    opening.NotStarted ∷ opening.NoMemory ∷ opening.Broken break.Ended ∷ opening.Broken break.LinkFault
    ∷ opening.Broken break.BadPacket ∷ opening.Broken break.BadHandshake ∷ opening.Broken break.UnknownStatus
    ∷ opening.Broken break.StrangeDelay ∷ opening.Broken break.TooLong ∷ opening.Broken break.StrangePath
    ∷ opening.Broken break.ListRefused ∷ []

abbrev pub all_replies : List Reply
all_replies =
    reply.Content ∷ reply.Delayed ∷ reply.Error ∷ reply.ErrorAfter ∷ reply.Abort ∷ reply.NoMemory
    ∷ reply.Broken break.Ended ∷ reply.Broken break.LinkFault ∷ reply.Broken break.BadPacket
    ∷ reply.Broken break.BadHandshake ∷ reply.Broken break.UnknownStatus ∷ reply.Broken break.StrangeDelay
    ∷ reply.Broken break.TooLong ∷ reply.Broken break.StrangePath ∷ reply.Broken break.ListRefused ∷ []

-- a list's replies of one word
abbrev pub list_word : ListReply → List ℕ
list_word (list.Names n) = []
list_word list.Empty = codes "empty"
list_word list.Abort = codes "abort"
list_word list.NoMemory = codes "no-memory"
list_word (list.Broken why) = break_word why

abbrev pub all_lists : List ListReply
all_lists =
    list.Empty ∷ list.Abort ∷ list.NoMemory ∷ list.Broken break.Ended ∷ list.Broken break.LinkFault
    ∷ list.Broken break.BadPacket ∷ list.Broken break.BadHandshake ∷ list.Broken break.UnknownStatus
    ∷ list.Broken break.StrangeDelay ∷ list.Broken break.TooLong ∷ list.Broken break.StrangePath
    ∷ list.Broken break.ListRefused ∷ []

abbrev pub all_planned : List Verdict
all_planned =
    verdict.Skipped skip.Gitlink ∷ verdict.Skipped skip.Unmerged ∷ verdict.Skipped skip.Sparse
    ∷ verdict.Skipped skip.Intent ∷ verdict.Failed fail.NameNotText ∷ verdict.Failed fail.UnknownEncoding
    ∷ verdict.Failed fail.NoProcess ∷ []

-- the word, or `-`
unfoldable pub flag : List ℕ → List ℕ → Option Bool
flag there w = if bytes_eq w there then Some true else if bytes_eq w (codes "-") then Some false else None

unfoldable pub need : List ℕ → Option Bool
need w =
    if bytes_eq w (codes "required") then Some true
    else if bytes_eq w (codes "optional") then Some false
    else None

-- an event of two, three or four words
unfoldable pub event_two : List ℕ → ℕ → Option Event
event_two head n =
    if bytes_eq head (codes "named") then Some (Named n)
    else if bytes_eq head (codes "hand-back") then Some (HandBack n)
    else if bytes_eq head (codes "shut") then Some (Shut n)
    else None

unfoldable pub event_three : List ℕ → ℕ → List ℕ → Option Event
event_three head n w =
    if bytes_eq head (codes "claim") then on (number w) (λ a. Some (Claim n a))
    else if bytes_eq head (codes "open-failed")
    then on (word_in opening_word all_openings w) (λ o. Some (OpenFailed n o))
    else if bytes_eq head (codes "answered") then on (word_in reply_word all_replies w) (λ y. Some (Answered n y))
    else if bytes_eq head (codes "listed") then on (word_in list_word all_lists w) (λ y. Some (Listed n y))
    else if bytes_eq head (codes "redone") then on (word_in reply_word all_replies w) (λ y. Some (Redone n y))
    else None

abbrev pub close_of : ℕ → List ℕ → List ℕ → Option Event
close_of p v w = on (number v) (λ a. on (word_in own_word all_owns w) (λ o. Some (Close p a o)))

abbrev pub opened_of : ℕ → List ℕ → List ℕ → Option Event
opened_of d v w =
    on (flag (codes "smudge") v) (λ smudge. on (flag (codes "delay") w)
    (λ delay. Some (Opened d (record { smudge = smudge; delay = delay }))))

unfoldable pub names_of : ℕ → List ℕ → List ℕ → Option Event
names_of d v w = if bytes_eq v (codes "names") then on (number w) (λ n. Some (Listed d (list.Names n))) else None

unfoldable pub event_four : List ℕ → ℕ → List ℕ → List ℕ → Option Event
event_four head n v w =
    if bytes_eq head (codes "close") then close_of n v w
    else if bytes_eq head (codes "opened") then opened_of n v w
    else if bytes_eq head (codes "listed") then names_of n v w
    else None

abbrev pub event_of : List (List ℕ) → Option Event
event_of [] = None
event_of (head ∷ []) = None
event_of (head ∷ n ∷ []) = on (number n) (λ n. event_two head n)
event_of (head ∷ n ∷ v ∷ []) = on (number n) (λ n. event_three head n v)
event_of (head ∷ n ∷ v ∷ w ∷ []) = on (number n) (λ n. event_four head n v w)
event_of (head ∷ n ∷ v ∷ w ∷ x ∷ ws) = None

unfoldable pub start_one : List ℕ → Option Start
start_one head = if bytes_eq head (codes "pool") then Some Pool else None

abbrev pub done_of : List ℕ → Option Start
done_of w = on (word_in done_word all_planned w) (λ v. Some (Done v))

unfoldable pub start_two : List ℕ → List ℕ → Option Start
start_two head w =
    if bytes_eq head (codes "done") then done_of w else None

abbrev pub below : ℕ → ℕ → Bool → Option Start
below drivers d required = if nat_lt d drivers then Some (Desk d required) else None

unfoldable pub start_three : ℕ → List ℕ → List ℕ → List ℕ → Option Start
start_three drivers head n w =
    if bytes_eq head (codes "desk")
    then on (number n) (λ d. on (need w) (λ required. below drivers d required)) else None

abbrev pub start_of : ℕ → List (List ℕ) → Option Start
start_of drivers [] = None
start_of drivers (head ∷ []) = start_one head
start_of drivers (head ∷ w ∷ []) = start_two head w
start_of drivers (head ∷ n ∷ w ∷ []) = start_three drivers head n w
start_of drivers (head ∷ n ∷ w ∷ x ∷ ws) = None

-- the first line, within its limits
unfoldable pub is_head : ℕ → ℕ → ℕ → Bool
is_head workers drivers paths = nat_le 1 workers && nat_le workers 16 && nat_le drivers 16 && nat_le paths 100000

unfoldable pub limited_head : ℕ → ℕ → ℕ → Option Head
limited_head workers drivers paths =
    if is_head workers drivers paths
    then Some (record { workers = workers; drivers = drivers; paths = paths }) else None

unfoldable pub head_four : List ℕ → List ℕ → List ℕ → List ℕ → Option Head
head_four head v w x =
    if bytes_eq head (codes "journal") then on (number v) (λ workers. on (number w) (λ drivers. on (number x)
    (λ paths. limited_head workers drivers paths))) else None

abbrev pub head_of : List (List ℕ) → Option Head
head_of (head ∷ v ∷ w ∷ x ∷ []) = head_four head v w x
head_of _ = None

abbrev pub same_number : Option ℕ → ℕ → Bool
same_number None k = false
same_number (Some n) k = n == k

unfoldable pub end_two : ℕ → List ℕ → List ℕ → Bool
end_two k head n = bytes_eq head (codes "end") && same_number (number n) k

abbrev pub is_end : ℕ → List (List ℕ) → Bool
is_end k (head ∷ n ∷ []) = end_two k head n
is_end k _ = false

-- whether nothing follows the last line
abbrev pub is_last : List (List ℕ) → Bool
is_last [] = false
is_last (r ∷ []) = length r == 0
is_last (r ∷ next ∷ more) = false

-- a run so far: its core, and the line of the first event that isn't a step
abbrev pub core_after : Option ℕ → Core → Event → Core
core_after (Some n) c e = c
core_after None c e = elim (step_of c e) [ None ↦ c | Some d ↦ d ]

abbrev pub wrong_after : Option ℕ → Core → Event → ℕ → Option ℕ
wrong_after (Some n) c e here = Some n
wrong_after None c e here = elim (step_of c e) [ None ↦ Some here | Some d ↦ None ]

abbrev pub judged : Option ℕ → Core → ℕ → Audit
judged (Some n) c events = Illegal n
judged None c events = Legal events (unclosed_count c.paths)

-- what follows the starts, after these events: the rows, the line of the first of them, and what is open
abbrev pub audit_end : Bool → Bool → Core → Option ℕ → ℕ → ℕ → Audit
audit_end false last c wrong events here = Unreadable here
audit_end true false c wrong events here = Unreadable (here + 1)
audit_end true true c wrong events here = judged wrong c events

abbrev pub audit_events : Core → Option ℕ → ℕ → ℕ → List (List ℕ) → Audit
audit_events c wrong events here [] = Unreadable here
audit_events c wrong events here (r ∷ []) = Unreadable here
audit_events c wrong events here (r ∷ next ∷ more) =
    elim (event_of (parts space r)) [
      | None ↦ audit_end (is_end events (parts space r)) (is_last (next ∷ more)) c wrong events here
      | Some e ↦ audit_events (core_after wrong c e) (wrong_after wrong c e here) (events + 1) (here + 1) (next ∷ more)
    ]

-- what follows the first line: so many starts after these, and then the events
abbrev pub audit_starts : ℕ → ℕ → ℕ → List Start → List (List ℕ) → Audit
audit_starts workers drivers zero starts rows =
    audit_events (start starts workers drivers) None 0 (length starts + 2) rows
audit_starts workers drivers (suc left) starts [] = Unreadable (length starts + 2)
audit_starts workers drivers (suc left) starts (r ∷ []) = Unreadable (length starts + 2)
audit_starts workers drivers (suc left) starts (r ∷ next ∷ more) =
    elim (start_of drivers (parts space r)) [
      | None ↦ Unreadable (length starts + 2)
      | Some s ↦ audit_starts workers drivers left (starts ++ s ∷ []) (next ∷ more)
    ]

abbrev pub audit_head : Option Head → List (List ℕ) → Audit
audit_head None rows = Unreadable 1
audit_head (Some h) rows = audit_starts h.workers h.drivers h.paths [] rows

abbrev pub audit_text : List (List ℕ) → Audit
audit_text [] = Unreadable 1
audit_text (r ∷ []) = Unreadable 1
audit_text (r ∷ next ∷ more) = audit_head (head_of (parts space r)) (next ∷ more)

-- what the next line does to what is left
abbrev pub IsNoStart : ℕ → List ℕ → Type 0
IsNoStart drivers text =
    (workers left : ℕ) (starts : List Start)
    → audit_starts workers drivers (suc left) starts (parts line_feed text) ≡ Unreadable (length starts + 2)

abbrev pub IsNextStart : ℕ → List ℕ → Start → List ℕ → Type 0
IsNextStart drivers text s behind =
    (workers left : ℕ) (starts : List Start)
    → audit_starts workers drivers (suc left) starts (parts line_feed text)
    ≡ audit_starts workers drivers left (starts ++ s ∷ []) (parts line_feed behind)

-- the limits of a first line
pub record IsLimited (workers drivers paths : ℕ) : Type 0 where
  pub some_workers : 1 ≤ workers
  pub few_workers : workers ≤ 16
  pub few_drivers : drivers ≤ 16
  pub few_paths : paths ≤ 100000
