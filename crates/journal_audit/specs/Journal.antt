-- The journal of a run: how many workers and drivers it had, how each path began, and all that happened.
use Rattle.std.specs.Prelude.{◌≡◌, ◌≤◌, ◌<◌, ◌^◌, ◌&&◌, ℕ, nat_lt, nat_le, Bool, true, false}
use Rattle.std.specs.Prelude.{List, [], ◌∷◌, ◌++◌, length, codes, if◌then◌else◌}
use Rattle.std.specs.List.{flat_map, list_all}
use Rattle.std.specs.Fmt.{decimal}
use Rattle.byte_path.specs.Characters.{space, line_feed}
use Rattle.filter_words.specs.declared.reply.ListReply.{ListReply}
use Rattle.filter_words.specs.declared.reply.ListReply.TheVariants as list
use Rattle.checkout_core.specs.declared.verdict.Verdict.{Verdict}
use Rattle.checkout_core.specs.declared.verdict.Verdict.TheVariants as verdict
use Rattle.checkout_core.specs.declared.verdict.FailCause.TheVariants as fail
use Rattle.checkout_core.specs.declared.path.Start.{Start}
use Rattle.checkout_core.specs.declared.path.Start.TheVariants.{Pool, Desk, Done}
use Rattle.checkout_core.specs.declared.event.Event.{Event}
use Rattle.checkout_core.specs.declared.event.Event.TheVariants.{Claim, Close, Opened, OpenFailed, Answered, Named}
use Rattle.checkout_core.specs.declared.event.Event.TheVariants.{Listed, Redone, HandBack, Shut}
use Rattle.filter_words.specs.BreakWords.{break_word}
use Rattle.checkout_core.specs.CauseWords.{skip_word, fail_word}
use Rattle.journal_audit.specs.Words.{own_word, opening_word, reply_word}

pub record Journal : Type 0 where
  pub workers : ℕ
  pub drivers : ℕ
  pub starts : List Start
  pub history : List Event

-- a line: its words with one space between, and LF
abbrev pub ends : List (List ℕ) → List ℕ
ends [] = line_feed ∷ []
ends (w ∷ ws) = space ∷ (w ++ ends ws)

abbrev pub line : List (List ℕ) → List ℕ
line [] = line_feed ∷ []
line (w ∷ ws) = w ++ ends ws

-- the verdict of a path that was closed before the run
abbrev pub done_word : Verdict → List ℕ
done_word (verdict.Skipped cause) = skip_word cause
done_word (verdict.Failed cause) = fail_word cause
done_word _ = []

abbrev pub is_planned : Verdict → Bool
is_planned (verdict.Skipped cause) = true
is_planned (verdict.Failed fail.NameNotText) = true
is_planned (verdict.Failed fail.UnknownEncoding) = true
is_planned (verdict.Failed fail.NoProcess) = true
is_planned _ = false

abbrev pub head_words : ℕ → ℕ → ℕ → List (List ℕ)
head_words workers drivers paths = codes "journal" ∷ decimal workers ∷ decimal drivers ∷ decimal paths ∷ []

abbrev pub need_word : Bool → List ℕ
need_word required = if required then codes "required" else codes "optional"

abbrev pub start_words : Start → List (List ℕ)
start_words Pool = codes "pool" ∷ []
start_words (Desk d required) = codes "desk" ∷ decimal d ∷ need_word required ∷ []
start_words (Done v) = codes "done" ∷ done_word v ∷ []

-- a word, or `-`
abbrev pub word_if : Bool → List ℕ → List ℕ
word_if there w = if there then w else codes "-"

abbrev pub list_words : ListReply → List (List ℕ)
list_words (list.Names n) = codes "names" ∷ decimal n ∷ []
list_words list.Empty = codes "empty" ∷ []
list_words list.Abort = codes "abort" ∷ []
list_words list.NoMemory = codes "no-memory" ∷ []
list_words (list.Broken why) = break_word why ∷ []

abbrev pub event_words : Event → List (List ℕ)
event_words (Claim p a) = codes "claim" ∷ decimal p ∷ decimal a ∷ []
event_words (Close p a o) = codes "close" ∷ decimal p ∷ decimal a ∷ own_word o ∷ []
event_words (Opened d caps) =
    codes "opened" ∷ decimal d ∷ word_if caps.smudge (codes "smudge") ∷ word_if caps.delay (codes "delay") ∷ []
event_words (OpenFailed p o) = codes "open-failed" ∷ decimal p ∷ opening_word o ∷ []
event_words (Answered p y) = codes "answered" ∷ decimal p ∷ reply_word y ∷ []
event_words (Named p) = codes "named" ∷ decimal p ∷ []
event_words (Listed d y) = codes "listed" ∷ decimal d ∷ list_words y
event_words (Redone p y) = codes "redone" ∷ decimal p ∷ reply_word y ∷ []
event_words (HandBack p) = codes "hand-back" ∷ decimal p ∷ []
event_words (Shut d) = codes "shut" ∷ decimal d ∷ []

abbrev pub end_words : ℕ → List (List ℕ)
end_words events = codes "end" ∷ decimal events ∷ []

abbrev pub start_line : Start → List ℕ
start_line s = line (start_words s)

abbrev pub event_line : Event → List ℕ
event_line e = line (event_words e)

-- the text of a journal
abbrev pub spelling : Journal → List ℕ
spelling j =
    line (head_words j.workers j.drivers (length j.starts)) ++ (flat_map start_line j.starts
    ++ (flat_map event_line j.history ++ line (end_words (length j.history))))

-- a number of 32 bits
abbrev pub fits : ℕ → Bool
fits n = nat_le n 4294967295

abbrev pub list_fits : ListReply → Bool
list_fits (list.Names n) = fits n
list_fits _ = true

-- the numbers of an event are of 32 bits
abbrev pub event_fits : Event → Bool
event_fits (Claim p a) = fits p && fits a
event_fits (Close p a o) = fits p && fits a
event_fits (Opened d caps) = fits d
event_fits (OpenFailed p o) = fits p
event_fits (Answered p y) = fits p
event_fits (Named p) = fits p
event_fits (Listed d y) = fits d && list_fits y
event_fits (Redone p y) = fits p
event_fits (HandBack p) = fits p
event_fits (Shut d) = fits d

-- a start that a plan gives, with a driver below this number
abbrev pub start_fits : ℕ → Start → Bool
start_fits drivers Pool = true
start_fits drivers (Desk d required) = nat_lt d drivers
start_fits drivers (Done v) = is_planned v

-- how many workers, drivers, paths and events there may be
pub record IsJournal (j : Journal) : Type 0 where
  pub some_workers : 1 ≤ j.workers
  pub few_workers : j.workers ≤ 16
  pub few_drivers : j.drivers ≤ 16
  pub few_paths : length j.starts ≤ 100000
  pub few_events : length j.history < 2 ^ 32
  pub starts_fit : list_all (λ s. start_fits j.drivers s) j.starts ≡ true
  pub events_fit : list_all event_fits j.history ≡ true
