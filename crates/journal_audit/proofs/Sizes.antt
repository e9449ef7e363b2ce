-- How long a journal is at most.
use Rattle.std.proofs.Common.{◌≡◌, ◌≤◌, ◌*◌, ◌+◌, ℕ, Bool, true, false, List, [], ◌∷◌, ◌++◌, length, length-append, ap, arith}
use Rattle.std.specs.Prelude.{codes}
use Rattle.std.specs.List.{flat_map, list_all}
use Rattle.std.specs.Fmt.{decimal}
use Rattle.std.proofs.lemmas.Fmt.{length-decimal-le}
use Rattle.filter_words.specs.declared.reply.BreakCause.{BreakCause}
use Rattle.filter_words.specs.declared.reply.BreakCause.TheVariants as break
use Rattle.filter_words.specs.declared.reply.Reply.{Reply}
use Rattle.filter_words.specs.declared.reply.Reply.TheVariants as reply
use Rattle.filter_words.specs.declared.reply.ListReply.{ListReply}
use Rattle.filter_words.specs.declared.reply.ListReply.TheVariants as list
use Rattle.checkout_core.specs.declared.verdict.ObjectKind.TheVariants as object
use Rattle.checkout_core.specs.declared.verdict.Own.{Own}
use Rattle.checkout_core.specs.declared.verdict.Own.TheVariants as own
use Rattle.checkout_core.specs.declared.verdict.Verdict.{Verdict}
use Rattle.checkout_core.specs.declared.verdict.Verdict.TheVariants as verdict
use Rattle.checkout_core.specs.declared.verdict.FailCause.TheVariants as fail
use Rattle.checkout_core.specs.declared.verdict.SkipCause.TheVariants as skip
use Rattle.checkout_core.specs.declared.path.Start.{Start}
use Rattle.checkout_core.specs.declared.path.Start.TheVariants.{Pool, Desk, Done}
use Rattle.checkout_core.specs.declared.event.OpenCause.{OpenCause}
use Rattle.checkout_core.specs.declared.event.OpenCause.TheVariants as opening
use Rattle.checkout_core.specs.declared.event.Event.{Event}
use Rattle.checkout_core.specs.declared.event.Event.TheVariants.{Claim, Close, Opened, OpenFailed, Answered, Named}
use Rattle.checkout_core.specs.declared.event.Event.TheVariants.{Listed, Redone, HandBack, Shut}
use Rattle.filter_words.specs.BreakWords.{break_word}
use Rattle.journal_audit.specs.Words.{own_word, opening_word, reply_word}
use Rattle.journal_audit.specs.Journal.{Journal, line, event_line, event_fits, fits, list_fits, word_if, end_words, head_words}
use Rattle.journal_audit.specs.Journal.{start_line, start_fits, done_word, is_planned, need_word}
use Rattle.journal_audit.specs.Audits.{Spells}
use Rattle.journal_audit.proofs.Clean.{both_and}
use Rattle.journal_audit.proofs.Spelled.{fits_le}
use Rattle.journal_audit.proofs.Heads.{below_is, small_fits}

line_two : (a b : List ℕ) → length (line (a ∷ b ∷ [])) ≡ length a + length b + 2
line_two a b = omega (arith, length-append a (32 ∷ (b ++ 10 ∷ [])), length-append b (10 ∷ []))

line_three : (a b c : List ℕ) → length (line (a ∷ b ∷ c ∷ [])) ≡ length a + length b + length c + 3
line_three a b c =
    omega (arith, length-append a (32 ∷ (b ++ 32 ∷ (c ++ 10 ∷ []))), length-append b (32 ∷ (c ++ 10 ∷ [])), length-append c (10 ∷ []))

line_four : (a b c d : List ℕ) → length (line (a ∷ b ∷ c ∷ d ∷ [])) ≡ length a + length b + length c + length d + 4
line_four a b c d =
    omega (
      arith,
      length-append a (32 ∷ (b ++ 32 ∷ (c ++ 32 ∷ (d ++ 10 ∷ [])))),
      length-append b (32 ∷ (c ++ 32 ∷ (d ++ 10 ∷ []))),
      length-append c (32 ∷ (d ++ 10 ∷ [])),
      length-append d (10 ∷ []),
    )

number_short : (n : ℕ) → fits n ≡ true → length (decimal n) ≤ 10
number_short n e = length-decimal-le 10 n (omega arith) (omega (arith, fits_le n e)) (omega (arith, fits_le n e))

break_short : (b : BreakCause) → length (break_word b) ≤ 19
break_short break.Ended = omega arith
break_short break.LinkFault = omega arith
break_short break.BadPacket = omega arith
break_short break.BadHandshake = omega arith
break_short break.UnknownStatus = omega arith
break_short break.StrangeDelay = omega arith
break_short break.TooLong = omega arith
break_short break.StrangePath = omega arith
break_short break.ListRefused = omega arith

own_short : (o : Own) → length (own_word o) ≤ 16
own_short (own.Fine true) = omega arith
own_short (own.Fine false) = omega arith
own_short own.ReadFailed = omega arith
own_short own.WriteFailed = omega arith
own_short own.NoMemory = omega arith
own_short (own.Object object.Absent) = omega arith
own_short (own.Object object.Header) = omega arith
own_short (own.Object object.Size) = omega arith
own_short (own.Object object.WrongName) = omega arith
own_short (own.Object object.TooLarge) = omega arith

opening_short : (o : OpenCause) → length (opening_word o) ≤ 19
opening_short opening.NotStarted = omega arith
opening_short opening.NoMemory = omega arith
opening_short (opening.Broken b) = break_short b

reply_short : (y : Reply) → length (reply_word y) ≤ 19
reply_short reply.Content = omega arith
reply_short reply.Error = omega arith
reply_short reply.ErrorAfter = omega arith
reply_short reply.Abort = omega arith
reply_short reply.Delayed = omega arith
reply_short reply.NoMemory = omega arith
reply_short (reply.Broken b) = break_short b

smudge_short : (b : Bool) → length (word_if b (codes "smudge")) ≤ 6
smudge_short true = omega arith
smudge_short false = omega arith

delay_short : (b : Bool) → length (word_if b (codes "delay")) ≤ 5
delay_short true = omega arith
delay_short false = omega arith

listed_short : (d : ℕ) (y : ListReply) → fits d ≡ true → list_fits y ≡ true → length (event_line (Listed d y)) ≤ 45
listed_short d (list.Names n) e f = omega (arith, line_four (codes "listed") (decimal d) (codes "names") (decimal n), number_short d e, number_short n f)
listed_short d list.Empty e f = omega (arith, line_three (codes "listed") (decimal d) (codes "empty"), number_short d e)
listed_short d list.Abort e f = omega (arith, line_three (codes "listed") (decimal d) (codes "abort"), number_short d e)
listed_short d list.NoMemory e f = omega (arith, line_three (codes "listed") (decimal d) (codes "no-memory"), number_short d e)
listed_short d (list.Broken b) e f = omega (arith, line_three (codes "listed") (decimal d) (break_word b), number_short d e, break_short b)

event_short : (e : Event) → event_fits e ≡ true → length (event_line e) ≤ 45
event_short (Claim p a) e =
    let h = both_and (fits p) (fits a) e in
    omega (arith, line_three (codes "claim") (decimal p) (decimal a), number_short p h.0, number_short a h.1)
event_short (Close p a o) e =
    let h = both_and (fits p) (fits a) e in
    omega (arith, line_four (codes "close") (decimal p) (decimal a) (own_word o), number_short p h.0, number_short a h.1, own_short o)
event_short (Opened d caps) e =
    omega (
      arith,
      line_four (codes "opened") (decimal d) (word_if caps.smudge (codes "smudge")) (word_if caps.delay (codes "delay")),
      number_short d e,
      smudge_short caps.smudge,
      delay_short caps.delay,
    )
event_short (OpenFailed p o) e = omega (arith, line_three (codes "open-failed") (decimal p) (opening_word o), number_short p e, opening_short o)
event_short (Answered p y) e = omega (arith, line_three (codes "answered") (decimal p) (reply_word y), number_short p e, reply_short y)
event_short (Named p) e = omega (arith, line_two (codes "named") (decimal p), number_short p e)
event_short (Listed d y) e = let h = both_and (fits d) (list_fits y) e in listed_short d y h.0 h.1
event_short (Redone p y) e = omega (arith, line_three (codes "redone") (decimal p) (reply_word y), number_short p e, reply_short y)
event_short (HandBack p) e = omega (arith, line_two (codes "hand-back") (decimal p), number_short p e)
event_short (Shut d) e = omega (arith, line_two (codes "shut") (decimal d), number_short d e)

need_short : (b : Bool) → length (need_word b) ≤ 8
need_short true = omega arith
need_short false = omega arith

done_short : (v : Verdict) → is_planned v ≡ true → length (done_word v) ≤ 10
done_short (verdict.Skipped skip.Gitlink) e = omega arith
done_short (verdict.Skipped skip.Unmerged) e = omega arith
done_short (verdict.Skipped skip.Sparse) e = omega arith
done_short (verdict.Skipped skip.Intent) e = omega arith
done_short (verdict.Failed fail.NameNotText) e = omega arith
done_short (verdict.Failed fail.UnknownEncoding) e = omega arith
done_short (verdict.Failed fail.NoProcess) e = omega arith
done_short (verdict.Failed (fail.Filter c)) e = absurd (cc (e))
done_short (verdict.Failed fail.Missing) e = omega arith
done_short (verdict.Failed (fail.Object k)) e = absurd (cc (e))
done_short (verdict.Failed fail.ReadFailed) e = omega arith
done_short (verdict.Failed fail.WriteFailed) e = omega arith
done_short (verdict.Written u) e = omega arith
done_short (verdict.Unfiltered c u) e = omega arith
done_short verdict.NoMemory e = omega arith

start_short : (drivers : ℕ) (s : Start) → drivers ≤ 16 → start_fits drivers s ≡ true → length (start_line s) ≤ 45
start_short drivers Pool few e = omega arith
start_short drivers (Desk d b) few e =
    omega (arith, line_three (codes "desk") (decimal d) (need_word b), number_short d (small_fits d (omega (arith, below_is d drivers e))), need_short b)
start_short drivers (Done v) few e = omega (arith, line_two (codes "done") (done_word v), done_short v e)

events_short : (h : List Event) → list_all event_fits h ≡ true → length (flat_map event_line h) ≤ 45 * length h
events_short [] all = omega arith
events_short (e ∷ h) all =
    let k = both_and (event_fits e) (list_all event_fits h) all in
    omega (arith, length-append (event_line e) (flat_map event_line h), event_short e k.0, events_short h k.1)

starts_short : (drivers : ℕ) (ss : List Start) → drivers ≤ 16 → list_all (λ s. start_fits drivers s) ss ≡ true → length (flat_map start_line ss) ≤ 45 * length ss
starts_short drivers [] few all = omega arith
starts_short drivers (s ∷ ss) few all =
    let k = both_and (start_fits drivers s) (list_all (λ s. start_fits drivers s) ss) all in
    omega (arith, length-append (start_line s) (flat_map start_line ss), start_short drivers s few k.0, starts_short drivers ss few k.1)

pub fits_text : (text : List ℕ) (j : Journal) → Spells text j → length j.history ≤ 1000000 → length text ≤ 67108864
fits_text text j s few =
    let r = s.right in
    let head = line (head_words j.workers j.drivers (length j.starts)) in
    let starts = flat_map start_line j.starts in
    let events = flat_map event_line j.history in
    let last = line (end_words (length j.history)) in
    omega (
      arith,
      ap (λ (l : List ℕ). length l) s.text_is,
      length-append head (starts ++ (events ++ last)),
      length-append starts (events ++ last),
      length-append events last,
      line_four (codes "journal") (decimal j.workers) (decimal j.drivers) (decimal (length j.starts)),
      number_short j.workers (small_fits j.workers (omega (arith, r.few_workers))),
      number_short j.drivers (small_fits j.drivers (omega (arith, r.few_drivers))),
      number_short (length j.starts) (small_fits (length j.starts) (omega (arith, r.few_paths))),
      line_two (codes "end") (decimal (length j.history)),
      number_short (length j.history) (small_fits (length j.history) (omega (arith, few))),
      starts_short j.drivers j.starts r.few_drivers r.starts_fit,
      events_short j.history r.events_fit,
      few,
      r.few_paths,
    )
