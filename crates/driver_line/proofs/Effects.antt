-- What each exchange of an open session leaves.
use Rattle.std.proofs.Common.{◌≡◌, ◌⊎◌, inl, inr, ℕ, zero, suc, ◌-◌, ◌<◌, Bool, true, false, List, [], ◌∷◌, ◌++◌, Option, Some, None, refl, sym, ap, subst, ◌∙◌, arith}
use Rattle.std.proofs.lemmas.Bool.{lt-ltb, le-ltb, cases_lt}
use Rattle.pkt_line.specs.Packets.{Packet, Payload, Flush, size}
use Rattle.filter_words.specs.Outcomes.{outcome, limit}
use Rattle.filter_words.specs.SmudgeReply.{reply_step, reply_start}
use Rattle.filter_words.specs.declared.reply.Reply.{Reply}
use Rattle.filter_words.specs.declared.reply.Reply.TheVariants as reply
use Rattle.filter_words.specs.declared.reply.BreakCause.{BreakCause}
use Rattle.filter_words.specs.declared.reply.BreakCause.TheVariants as cause
use Rattle.filter_words.specs.declared.words.Status.{Status}
use Rattle.filter_words.specs.declared.words.Status.TheVariants as status
use Rattle.filter_words.specs.declared.smudge_reply.GoodReply.{GoodReply}
use Rattle.filter_words.specs.declared.smudge_reply.GoodReply.TheVariants as good
use Rattle.filter_words.specs.declared.smudge_reply.ReplyPhase.{ReplyPhase}
use Rattle.filter_words.specs.declared.smudge_reply.ReplyPhase.TheVariants.{KeyList, Content, LastKeyList}
use Rattle.filter_words.specs.declared.answer_state.AnswerState.{AnswerState}
use Rattle.filter_words.specs.declared.answer_state.AnswerState.TheVariants.{On, Done, Broken, Late}
use Rattle.edge_kit.specs.Faults.{Rose}
use Rattle.edge_kit.specs.Starters.{StarterSeen, Session, SessionHad}
use Rattle.edge_kit.specs.Links.{Stage, Open, InputShut, Shut, is_shut}
use Rattle.filter_proto.specs.Wires.{Wire, IsSentPart}
use Rattle.filter_proto.specs.Exchanges.{Ends, Good, Broke, OutOfMemory, Still, Stops, Unsent, IsHeard, IsExchange}
use Rattle.filter_proto.specs.Wires.{shut_after}
use Rattle.filter_proto.specs.Wires.{SessionSeen}
use Rattle.filter_proto.specs.Replies.{reply_end}
use Rattle.filter_proto.specs.declared.session.Standing.{Standing}
use Rattle.filter_proto.specs.declared.session.Standing.TheVariants as standing
use Rattle.driver_line.specs.Conversations.{Exchange, NoStart, NoRoom, Opening, First, Listing, Second, Shutting}
use Rattle.std.specs.Prelude.{if◌then◌else◌, ◌&&◌, not, map, codes}
use Rattle.filter_words.specs.Words.{value_of}
use Rattle.filter_words.specs.Listing as phase
use Rattle.filter_words.specs.Listing.{ListPhase, Names, GoodList, Listed, list_step, list_start, list_status, after_value, name_in}
use Rattle.filter_words.specs.Requests.{list_text, first_text, second_text}
use Rattle.filter_words.specs.declared.reply.ListReply.{ListReply}
use Rattle.filter_words.specs.declared.reply.ListReply.TheVariants as list
use Rattle.driver_line.proofs.Told.{grown_nothing}
use Rattle.driver_line.specs.Lines.{LineView, Paths, Says, After, IsEnded, IsAsked, IsListed, HasContent}
use Rattle.driver_line.specs.Transcripts.{IsPart, request_of, AnswerIs, MayCut, HasNothing, break_of, wants, FitsCounts, HasOneCount, is_fine}
use Rattle.driver_line.proofs.Spoken.{SpokenFrom, last_spoken, more_spoken}

-- causes that come from packets alone
abbrev pub IsPlain : BreakCause → Type 0
IsPlain cause.LinkFault = ⊥
IsPlain cause.Ended = ⊥
IsPlain c = Unit {0}

abbrev pub PlainTurn : {P G : Type 0} → AnswerState P G → Type 0
PlainTurn (On p) = Unit {0}
PlainTurn (Done g) = Unit {0}
PlainTurn (Broken c) = IsPlain c
PlainTurn Late = Unit {0}

pub runs_plain : {P G : Type 0} (step : P → Packet → AnswerState P G) (room : ℕ) (t : AnswerState P G) (ps : List Packet) → ((p : P) (x : Packet) → PlainTurn (step p x)) → PlainTurn t → PlainTurn (outcome step room t ps)
runs_plain step room t [] steps h = h
runs_plain step room (On p) (x ∷ ps) steps h = elim (cases_lt room (size x)) [
  | inl less ↦ rw (lt-ltb room (size x) less) (runs_plain step room (Broken cause.TooLong) ps steps tt)
  | inr more ↦ rw (le-ltb room (size x) more) (runs_plain step (room - size x) (step p x) ps steps (steps p x))
]
runs_plain step room (Done g) (x ∷ ps) steps h = tt
runs_plain step room (Broken c) (x ∷ ps) steps h = tt
runs_plain step room Late (x ∷ ps) steps h = tt

first_plain : (d : Bool) (s : Option Status) → PlainTurn (reply_step d (KeyList s) Flush)
first_plain d None = tt
first_plain d (Some status.Success) = tt
first_plain d (Some status.Error) = tt
first_plain d (Some status.Abort) = tt
first_plain true (Some status.Delayed) = tt
first_plain false (Some status.Delayed) = tt
first_plain d (Some status.Other) = tt

last_plain : (d : Bool) (s : Option Status) → PlainTurn (reply_step d (LastKeyList s) Flush)
last_plain d None = tt
last_plain d (Some status.Success) = tt
last_plain d (Some status.Error) = tt
last_plain d (Some status.Abort) = tt
last_plain d (Some status.Delayed) = tt
last_plain d (Some status.Other) = tt

pub reply_plain : (d : Bool) (p : ReplyPhase) (x : Packet) → PlainTurn (reply_step d p x)
reply_plain d (KeyList s) (Payload l) = tt
reply_plain d (KeyList s) Flush = first_plain d s
reply_plain d Content (Payload l) = tt
reply_plain d Content Flush = tt
reply_plain d (LastKeyList s) (Payload l) = tt
reply_plain d (LastKeyList s) Flush = last_plain d s

broke_is : {G : Type 0} (a b : BreakCause) (x y : Ends G) → x ≡ Broke a → y ≡ Broke b → x ≡ y → a ≡ b
broke_is a b x y e f i = cc

-- a count that rose isn't 0
rose_some : (a b : ℕ) → Rose a b → 0 < b
rose_some a zero r = absurd (zero_not a (r.risen (λ e. absurd (cc e))))
  where
    zero_not : (a : ℕ) → a < zero → ⊥
    zero_not a lt = omega (arith, lt)
rose_some a (suc b) r = omega arith

-- a wire that met neither a fault nor an end of input
abbrev pub IsQuiet : Wire → Type 0
IsQuiet wire = (wire.faults ≡ 0) × (wire.ends ≡ 0)

pub stops_counts : {P G : Type 0} (t : AnswerState P G) (old new : Wire) (c : BreakCause) (seen : SessionHad) → PlainTurn t → Stops t old new (Broke c) → IsQuiet old → seen.faults ≡ new.faults → seen.ends ≡ new.ends → FitsCounts seen (Some c)
stops_counts t old new cause.LinkFault seen plain h quiet fs es = link t plain h
  where
    link : {P G : Type 0} (t : AnswerState P G) → PlainTurn t → Stops t old new (Broke cause.LinkFault) → (0 < seen.faults) × (seen.ends ≡ 0)
    link (On p) plain h = let r = rose_some old.faults new.faults h.1 in (omega (arith, r, fs), es ∙ (h.2 ∙ quiet.1))
    link (Done g) plain h = absurd (cc (h.0))
    link (Broken c) plain h = absurd (subst IsPlain (sym (broke_is cause.LinkFault c _ _ refl refl h.0)) plain)
    link Late plain h = absurd h
stops_counts t old new cause.Ended seen plain h quiet fs es = ended t plain h
  where
    ended : {P G : Type 0} (t : AnswerState P G) → PlainTurn t → Stops t old new (Broke cause.Ended) → (0 < seen.ends) × (seen.faults ≡ 0)
    ended (On p) plain h = let r = rose_some old.ends new.ends h.1 in (omega (arith, r, es), fs ∙ (h.2 ∙ quiet.0))
    ended (Done g) plain h = absurd (cc (h.0))
    ended (Broken c) plain h = absurd (subst IsPlain (sym (broke_is cause.Ended c _ _ refl refl h.0)) plain)
    ended Late plain h = absurd h
stops_counts t old new cause.BadPacket seen plain h quiet fs es = tt
stops_counts t old new cause.BadHandshake seen plain h quiet fs es = tt
stops_counts t old new cause.UnknownStatus seen plain h quiet fs es = tt
stops_counts t old new cause.StrangeDelay seen plain h quiet fs es = tt
stops_counts t old new cause.TooLong seen plain h quiet fs es = tt
stops_counts t old new cause.StrangePath seen plain h quiet fs es = tt
stops_counts t old new cause.ListRefused seen plain h quiet fs es = tt

-- a good answer leaves the counts, and any other raises one of them at most
abbrev pub HasOne : Wire → Type 0
HasOne wire = (wire.ends ≡ 0) ⊎ (wire.faults ≡ 0)

pub stops_still : {P G : Type 0} (t : AnswerState P G) (old new : Wire) (g : G) → Stops t old new (Good g) → Still old new
stops_still (On p) old new g h = absurd h
stops_still (Done k) old new g h = h.1
stops_still (Broken c) old new g h = h.1
stops_still Late old new g h = absurd h

on_one : {P G : Type 0} (p : P) (old new : Wire) (end : Ends G) → Stops {G = G} (On p) old new end → IsQuiet old → HasOne new
on_one p old new (Good g) h q = absurd h
on_one p old new OutOfMemory h q = absurd h
on_one p old new (Broke cause.BadPacket) h q = inl (h.1.1 ∙ q.1)
on_one p old new (Broke cause.Ended) h q = inr (h.2 ∙ q.0)
on_one p old new (Broke cause.LinkFault) h q = inl (h.2 ∙ q.1)
on_one p old new (Broke cause.BadHandshake) h q = absurd h
on_one p old new (Broke cause.UnknownStatus) h q = absurd h
on_one p old new (Broke cause.StrangeDelay) h q = absurd h
on_one p old new (Broke cause.TooLong) h q = absurd h
on_one p old new (Broke cause.StrangePath) h q = absurd h
on_one p old new (Broke cause.ListRefused) h q = absurd h

stops_one : {P G : Type 0} (t : AnswerState P G) (old new : Wire) (end : Ends G) → Stops t old new end → IsQuiet old → HasOne new
stops_one (On p) old new end h q = on_one p old new end h q
stops_one (Done g) old new end h q = inl (h.1.1 ∙ q.1)
stops_one (Broken c) old new end h q = inl (h.1.1 ∙ q.1)
stops_one Late old new end h q = absurd h

pub heard_one : {P G : Type 0} (step : P → Packet → AnswerState P G) (start : AnswerState P G) (s t : Wire) (end : Ends G) (extra : List Packet → Type 0) → IsHeard step start s t end extra → IsQuiet s → HasOne t
heard_one step start s t end extra h q = stops_one (outcome step limit start h.packets) s t end h.stops q

pub unsent_one : (text : List ℕ) (s t : Wire) → IsSentPart text s t → IsQuiet s → HasOne t
unsent_one text s t u q = inl (ap (λ (w : Wire). w.ends) u.stays ∙ q.1)

exchange_one : {P G : Type 0} (step : P → Packet → AnswerState P G) (start : AnswerState P G) (text : List ℕ) (s t : Wire) (end : Ends G) (extra : List Packet → Type 0) → IsExchange step start text s t end extra → IsQuiet s → HasOne t
exchange_one step start text s t end extra (inl u) q = unsent_one text s t u.sent q
exchange_one step start text s t end extra (inr a) q = heard_one step start s t end extra a.heard q

exchange_quiet : {P G : Type 0} (step : P → Packet → AnswerState P G) (start : AnswerState P G) (text : List ℕ) (s t : Wire) (g : G) (extra : List Packet → Type 0) → IsExchange step start text s t (Good g) extra → IsQuiet s → IsQuiet t
exchange_quiet step start text s t g extra (inl u) q = absurd u.why
exchange_quiet step start text s t g extra (inr a) q = let h = stops_still (outcome step limit start a.heard.packets) s t g a.heard.stops in (h.0 ∙ q.0, h.1 ∙ q.1)

-- each count above 0 has its cause
pub record IsCaused {G : Type 0} (wire : Wire) (end : Ends G) : Type 0 where
  pub ended : 0 < wire.ends → end ≡ Broke cause.Ended
  pub failed : 0 < wire.faults → end ≡ Broke cause.LinkFault

not_above : (n : ℕ) → n ≡ 0 → 0 < n → ⊥
not_above n e lt = omega (arith, e, lt)

quiet_caused : (G : Type 0) (t : Wire) (end : Ends G) → t.faults ≡ 0 → t.ends ≡ 0 → IsCaused t end
quiet_caused G t end f e = record { ended = λ lt. absurd (not_above t.ends e lt); failed = λ lt. absurd (not_above t.faults f lt) }

on_caused : (P G : Type 0) (p : P) (old new : Wire) (end : Ends G) → Stops {G = G} (On p) old new end → IsQuiet old → IsCaused new end
on_caused P G p old new (Good g) h q = absurd h
on_caused P G p old new OutOfMemory h q = absurd h
on_caused P G p old new (Broke cause.BadPacket) h q = quiet_caused G new (Broke cause.BadPacket) (h.1.0 ∙ q.0) (h.1.1 ∙ q.1)
on_caused P G p old new (Broke cause.Ended) h q = record { ended = λ lt. refl; failed = λ lt. absurd (not_above new.faults (h.2 ∙ q.0) lt) }
on_caused P G p old new (Broke cause.LinkFault) h q = record { ended = λ lt. absurd (not_above new.ends (h.2 ∙ q.1) lt); failed = λ lt. refl }
on_caused P G p old new (Broke cause.BadHandshake) h q = absurd h
on_caused P G p old new (Broke cause.UnknownStatus) h q = absurd h
on_caused P G p old new (Broke cause.StrangeDelay) h q = absurd h
on_caused P G p old new (Broke cause.TooLong) h q = absurd h
on_caused P G p old new (Broke cause.StrangePath) h q = absurd h
on_caused P G p old new (Broke cause.ListRefused) h q = absurd h

stops_caused : (P G : Type 0) (t : AnswerState P G) (old new : Wire) (end : Ends G) → Stops t old new end → IsQuiet old → IsCaused new end
stops_caused P G (On p) old new end h q = on_caused P G p old new end h q
stops_caused P G (Done g) old new end h q = quiet_caused G new end (h.1.0 ∙ q.0) (h.1.1 ∙ q.1)
stops_caused P G (Broken c) old new end h q = quiet_caused G new end (h.1.0 ∙ q.0) (h.1.1 ∙ q.1)
stops_caused P G Late old new end h q = absurd h

pub heard_caused : (P G : Type 0) (step : P → Packet → AnswerState P G) (start : AnswerState P G) (s t : Wire) (end : Ends G) (extra : List Packet → Type 0) → IsHeard step start s t end extra → IsQuiet s → IsCaused t end
heard_caused P G step start s t end extra h q = stops_caused P G (outcome step limit start h.packets) s t end h.stops q

pub unsent_caused : (G : Type 0) (text : List ℕ) (s t : Wire) (end : Ends G) → IsSentPart text s t → Unsent s t end → IsQuiet s → IsCaused t end
unsent_caused G text s t (Good g) u h q = absurd h
unsent_caused G text s t OutOfMemory u h q = quiet_caused G t OutOfMemory (h ∙ q.0) (ap (λ (w : Wire). w.ends) u.stays ∙ q.1)
unsent_caused G text s t (Broke cause.LinkFault) u h q = record { ended = λ lt. absurd (not_above t.ends (ap (λ (w : Wire). w.ends) u.stays ∙ q.1) lt); failed = λ lt. refl }
unsent_caused G text s t (Broke cause.BadPacket) u h q = absurd h
unsent_caused G text s t (Broke cause.Ended) u h q = absurd h
unsent_caused G text s t (Broke cause.BadHandshake) u h q = absurd h
unsent_caused G text s t (Broke cause.UnknownStatus) u h q = absurd h
unsent_caused G text s t (Broke cause.StrangeDelay) u h q = absurd h
unsent_caused G text s t (Broke cause.TooLong) u h q = absurd h
unsent_caused G text s t (Broke cause.StrangePath) u h q = absurd h
unsent_caused G text s t (Broke cause.ListRefused) u h q = absurd h

exchange_caused : (P G : Type 0) (step : P → Packet → AnswerState P G) (start : AnswerState P G) (text : List ℕ) (s t : Wire) (end : Ends G) (extra : List Packet → Type 0) → IsExchange step start text s t end extra → IsQuiet s → IsCaused t end
exchange_caused P G step start text s t end extra (inl u) q = unsent_caused G text s t end u.sent u.why q
exchange_caused P G step start text s t end extra (inr a) q = heard_caused P G step start s t end extra a.heard q

-- what the counts of a session say of its last exchange
pub record IsLastCause (seen : SessionHad) (e : Exchange) : Type 0 where
  pub ended : 0 < seen.ends → break_of e ≡ Some cause.Ended
  pub failed : 0 < seen.faults → seen.shut ≡ false → break_of e ≡ Some cause.LinkFault

seen_caused : (G : Type 0) (seen : SessionHad) (wire : Wire) (end : Ends G) (e : Exchange) → IsCaused wire end → seen.faults ≡ wire.faults → seen.ends ≡ wire.ends
    → ((why : BreakCause) → end ≡ Broke why → break_of e ≡ Some why) → IsLastCause seen e
seen_caused G seen wire end e k fs es back = record {
  ended = λ lt. back cause.Ended (k.ended (subst (λ (n : ℕ). 0 < n) es lt));
  failed = λ lt left. back cause.LinkFault (k.failed (subst (λ (n : ℕ). 0 < n) fs lt));
}

-- one that was shut met no end of input
shut_caused : (seen : SessionHad) (e : Exchange) → seen.ends ≡ 0 → seen.shut ≡ true → IsLastCause seen e
shut_caused seen e none shut = record { ended = λ lt. absurd (not_above seen.ends none lt); failed = λ lt left. absurd (cc (sym shut ∙ left)) }

pub seen_one : (seen : SessionHad) (wire : Wire) → HasOne wire → seen.faults ≡ wire.faults → seen.ends ≡ wire.ends → HasOneCount seen
seen_one seen wire (inl e) fs es = inl (es ∙ e)
seen_one seen wire (inr e) fs es = inr (fs ∙ e)

-- the session goes on
pub record Goes (paths : Paths) (s : SessionSeen) (v : LineView) (e : Exchange) (w : LineView) : Type 0 where
  pub next : SessionSeen
  pub open_is : w.session ≡ Some next
  pub caps : next.caps ≡ s.caps
  pub stage : next.wire.stage ≡ Open
  pub quiet : IsQuiet next.wire
  pub starter : w.starter ≡ v.starter
  pub fine : is_fine e ≡ true
  pub counts : (seen : SessionHad) → FitsCounts seen (break_of e)
  pub spoken : (es : List Exchange) (seen : SessionHad) → SpokenFrom paths s.caps next.wire es seen → SpokenFrom paths s.caps s.wire (e ∷ es) seen

-- or it is over
pub record Finishes (paths : Paths) (s : SessionSeen) (v : LineView) (e : Exchange) (w : LineView) : Type 0 where
  pub seen : SessionHad
  pub none : w.session ≡ None
  pub had : w.starter.had ≡ v.starter.had ++ Session seen ∷ []
  pub counts : FitsCounts seen (break_of e)
  pub one : HasOneCount seen
  pub cause : IsLastCause seen e
  pub shut : seen.shut ≡ is_fine e
  pub spoken : SpokenFrom paths s.caps s.wire (e ∷ []) seen

abbrev pub Effect : Paths → SessionSeen → LineView → Exchange → LineView → Type 0
Effect paths s v e w = Goes paths s v e w ⊎ Finishes paths s v e w

abbrev reply_break : Reply → Option BreakCause
reply_break (reply.Broken c) = Some c
reply_break r = None

abbrev reply_wants : Reply → Bool
reply_wants reply.NoMemory = true
reply_wants r = false

exchange_stage : {P G : Type 0} (step : P → Packet → AnswerState P G) (start : AnswerState P G) (text : List ℕ) (s t : Wire) (end : Ends G) (extra : List Packet → Type 0) → IsExchange step start text s t end extra → t.stage ≡ s.stage
exchange_stage step start text s t end extra (inl u) = ap (λ (w : Wire). w.stage) u.sent.stays
exchange_stage step start text s t end extra (inr a) = a.stage

unsent_link : (G : Type 0) (s t : Wire) (c : BreakCause) → Unsent {G = G} s t (Broke c) → c ≡ cause.LinkFault
unsent_link G s t cause.LinkFault h = refl
unsent_link G s t cause.Ended h = absurd h
unsent_link G s t cause.BadPacket h = absurd h
unsent_link G s t cause.BadHandshake h = absurd h
unsent_link G s t cause.UnknownStatus h = absurd h
unsent_link G s t cause.StrangeDelay h = absurd h
unsent_link G s t cause.TooLong h = absurd h
unsent_link G s t cause.StrangePath h = absurd h
unsent_link G s t cause.ListRefused h = absurd h

pub unsent_counts : (G : Type 0) (s t : Wire) (c : BreakCause) (seen : SessionHad) (text : List ℕ) → Unsent {G = G} s t (Broke c) → IsSentPart text s t → IsQuiet s → seen.faults ≡ t.faults → seen.ends ≡ t.ends → FitsCounts seen (Some c)
unsent_counts G s t cause.LinkFault seen text h u q fs es = let r = rose_some s.faults t.faults h in (omega (arith, r, fs), es ∙ (ap (λ (w : Wire). w.ends) u.stays ∙ q.1))
unsent_counts G s t cause.Ended seen text h u q fs es = absurd h
unsent_counts G s t cause.BadPacket seen text h u q fs es = absurd h
unsent_counts G s t cause.BadHandshake seen text h u q fs es = absurd h
unsent_counts G s t cause.UnknownStatus seen text h u q fs es = absurd h
unsent_counts G s t cause.StrangeDelay seen text h u q fs es = absurd h
unsent_counts G s t cause.TooLong seen text h u q fs es = absurd h
unsent_counts G s t cause.StrangePath seen text h u q fs es = absurd h
unsent_counts G s t cause.ListRefused seen text h u q fs es = absurd h

exchange_counts : {P : Type 0} (G : Type 0) (step : P → Packet → AnswerState P G) (p0 : P) (text : List ℕ) (s t : Wire) (c : BreakCause) (extra : List Packet → Type 0) (seen : SessionHad) → ((p : P) (x : Packet) → PlainTurn (step p x))
    → IsExchange step (On p0) text s t (Broke c) extra → IsQuiet s → seen.faults ≡ t.faults → seen.ends ≡ t.ends → FitsCounts seen (Some c)
exchange_counts G step p0 text s t c extra seen plain (inl u) q fs es = unsent_counts G s t c seen text u.why u.sent q fs es
exchange_counts G step p0 text s t c extra seen plain (inr a) q fs es =
    stops_counts (outcome step limit (On p0) a.heard.packets) s t c seen (runs_plain step limit (On p0) a.heard.packets plain tt) a.heard.stops q fs es

shut_always : (z : Stage) → is_shut (shut_after standing.Aborted z) ≡ true
shut_always Open = refl
shut_always InputShut = refl
shut_always Shut = refl

shut_live : (z : Stage) → is_shut (shut_after standing.Live z) ≡ true
shut_live Open = refl
shut_live InputShut = refl
shut_live Shut = refl

goes_good : (d : Bool) (paths : Paths) (v w : LineView) (s : SessionSeen) (e : Exchange) (g : GoodReply) (content : List ℕ) (t : Wire)
    → IsExchange (reply_step d) reply_start (request_of paths s.caps e) s.wire t (Good g) (HasContent d content) → ((used rest : List ℕ) → IsPart (reply_step d) reply_start used rest (Good g) (HasContent d content) → AnswerIs paths s.caps e used rest)
    → break_of e ≡ None → wants e ≡ false → s.wire.stage ≡ Open → IsQuiet s.wire → After v s t standing.Live w → Effect paths s v e w
goes_good d paths v w s e g content t x answers be we st q after = inl (record {
  quiet = exchange_quiet _ _ _ _ _ _ _ x q;
  next = record { wire = t; caps = s.caps; standing = standing.Live };
  open_is = after.0;
  caps = refl;
  stage = exchange_stage _ _ _ _ _ _ _ x ∙ st;
  starter = after.1;
  fine = rw (be, we) refl;
  counts = λ seen. rw be tt;
  spoken = λ es seen h. more_spoken (reply_step d) reply_start g (HasContent d content) paths s.caps e es s.wire t seen x answers h;
})

finish_with : (d : Bool) (paths : Paths) (v w : LineView) (s : SessionSeen) (e : Exchange) (end : Ends GoodReply) (content : List ℕ) (t : Wire) (how : Standing)
    → IsExchange (reply_step d) reply_start (request_of paths s.caps e) s.wire t end (HasContent d content) → ((used rest : List ℕ) → IsPart (reply_step d) reply_start used rest end (HasContent d content) → AnswerIs paths s.caps e used rest)
    → (Unsent s.wire t end → HasContent d content [] → MayCut e × HasNothing e) → (h : IsEnded v.starter t how w) → FitsCounts h.seen (break_of e) → HasOneCount h.seen → IsLastCause h.seen e → is_shut (shut_after how t.stage) ≡ is_fine e → Effect paths s v e w
finish_with d paths v w s e end content t how x answers cuts h counts one caused shuts = inr (record {
  one = one;
  cause = caused;
  seen = h.seen;
  none = h.none;
  had = ap (λ (x : StarterSeen). x.had) h.kept;
  counts = counts;
  shut = h.shut ∙ shuts;
  spoken = last_spoken (reply_step d) reply_start end (HasContent d content) paths s.caps e s.wire t h.seen x answers cuts h.sent h.taken;
})

asked_effect : (d : Bool) (paths : Paths) (v w : LineView) (s : SessionSeen) (e : Exchange) (r : Reply) (content : List ℕ) → IsAsked d (request_of paths s.caps e) v s r content w
    → ((used rest : List ℕ) → IsPart (reply_step d) reply_start used rest (reply_end r) (HasContent d content) → AnswerIs paths s.caps e used rest) → break_of e ≡ reply_break r → wants e ≡ reply_wants r → (content ≡ [] → HasNothing e) → s.wire.stage ≡ Open → IsQuiet s.wire → Effect paths s v e w
asked_effect d paths v w s e reply.Content content a answers be we bare st q = goes_good d paths v w s e good.Content content a.wire a.exchange answers be we st q a.after
asked_effect d paths v w s e reply.Error content a answers be we bare st q = goes_good d paths v w s e good.Error content a.wire a.exchange answers be we st q a.after
asked_effect d paths v w s e reply.ErrorAfter content a answers be we bare st q = goes_good d paths v w s e good.ErrorAfter content a.wire a.exchange answers be we st q a.after
asked_effect d paths v w s e reply.Delayed content a answers be we bare st q = goes_good d paths v w s e good.Delayed content a.wire a.exchange answers be we st q a.after
asked_effect d paths v w s e reply.Abort content a answers be we bare st q =
    finish_with d paths v w s e (Good good.Abort) content a.wire standing.Aborted a.exchange answers (λ u done. absurd u) a.after (rw be tt) (inl (a.after.ends ∙ (exchange_quiet _ _ _ _ _ _ _ a.exchange q).1))
    (shut_caused a.after.seen e (a.after.ends ∙ (exchange_quiet _ _ _ _ _ _ _ a.exchange q).1) (a.after.shut ∙ shut_always a.wire.stage)) (shut_always a.wire.stage ∙ rw (be, we) refl)
asked_effect d paths v w s e (reply.Broken c) content a answers be we bare st q =
    finish_with d paths v w s e (Broke c) content a.wire standing.Over a.exchange answers (λ u done. (inl (be ∙ ap Some (unsent_link GoodReply s.wire a.wire c u)), bare done)) a.after
    (rw be (exchange_counts GoodReply (reply_step d) (KeyList None) (request_of paths s.caps e) s.wire a.wire c (HasContent d content) a.after.seen (reply_plain d) a.exchange q a.after.faults.0 a.after.ends))
    (seen_one a.after.seen a.wire (exchange_one _ _ _ _ _ _ _ a.exchange q) a.after.faults.0 a.after.ends)
    (seen_caused GoodReply a.after.seen a.wire (Broke c) e (exchange_caused _ _ _ _ _ _ _ _ _ a.exchange q) a.after.faults.0 a.after.ends (λ why i. be ∙ ap Some (broke_is c why _ _ refl refl i)))
    (rw (exchange_stage _ _ _ _ _ _ _ a.exchange, st, be) refl)
asked_effect d paths v w s e reply.NoMemory content a answers be we bare st q =
    finish_with d paths v w s e OutOfMemory content a.wire standing.Over a.exchange answers (λ u done. (inr we, bare done)) a.after (rw be tt) (seen_one a.after.seen a.wire (exchange_one _ _ _ _ _ _ _ a.exchange q) a.after.faults.0 a.after.ends)
    (seen_caused GoodReply a.after.seen a.wire OutOfMemory e (exchange_caused _ _ _ _ _ _ _ _ _ a.exchange q) a.after.faults.0 a.after.ends (λ why i. absurd (cc i))) (rw (exchange_stage _ _ _ _ _ _ _ a.exchange, st, be, we) refl)

-- lists

status_plain : (names : List (List ℕ)) (s : Option Status) → PlainTurn (list_status names s)
status_plain names None = tt
status_plain names (Some status.Success) = tt
status_plain names (Some status.Error) = tt
status_plain names (Some status.Abort) = tt
status_plain names (Some status.Delayed) = tt
status_plain names (Some status.Other) = tt

name_plain : (b : Bool) (p : ListPhase) → PlainTurn {G = GoodList} (if b then On p else Broken cause.StrangePath)
name_plain true p = tt
name_plain false p = tt

value_plain : (delayed listed : List (List ℕ)) (o : Option (List ℕ)) → PlainTurn (after_value delayed listed o)
value_plain delayed listed None = tt
value_plain delayed listed (Some name) = name_plain (name_in delayed name && not (name_in listed name)) (Names (listed ++ name ∷ []))

pub list_plain : (delayed : List (List ℕ)) (p : ListPhase) (x : Packet) → PlainTurn (list_step delayed p x)
list_plain delayed (Names listed) (Payload line) = value_plain delayed listed (value_of (codes "pathname") line)
list_plain delayed (Names listed) Flush = tt
list_plain delayed (phase.KeyList listed s) (Payload line) = tt
list_plain delayed (phase.KeyList listed s) Flush = status_plain listed s

listed_effect : (paths : Paths) (v w : LineView) (s : SessionSeen) (late names : List ℕ) (r : ListReply) → IsListed paths (map paths.text late) v s names r w → s.wire.stage ≡ Open → IsQuiet s.wire → Effect paths s v (Listing late names r) w
listed_effect paths v w s late names (list.Names n) a st q = inl (record {
  quiet = exchange_quiet _ _ _ _ _ _ _ (subst (λ (end : Ends GoodList). IsExchange (list_step (map paths.text late)) list_start list_text s.wire a.wire end (λ _. Unit {0})) a.is a.exchange) q;
  next = record { wire = a.wire; caps = s.caps; standing = standing.Live };
  open_is = a.after.0;
  caps = refl;
  stage = exchange_stage _ _ _ _ _ _ _ a.exchange ∙ st;
  starter = a.after.1;
  fine = refl;
  counts = λ seen. tt;
  spoken = λ es seen h. more_spoken (list_step (map paths.text late)) list_start (Listed (map paths.text names)) (λ _. Unit {0}) paths s.caps (Listing late names (list.Names n)) es s.wire a.wire seen
      (subst (λ (end : Ends GoodList). IsExchange (list_step (map paths.text late)) list_start list_text s.wire a.wire end (λ _. Unit {0})) a.is a.exchange) (λ used rest part. (Good (Listed (map paths.text names)), refl, part)) h;
})
listed_effect paths v w s late names list.Empty a st q = inr (record {
  one = inl (a.after.ends ∙ (exchange_quiet _ _ _ _ _ _ _ (subst (λ (end : Ends GoodList). IsExchange (list_step (map paths.text late)) list_start list_text s.wire a.wire end (λ _. Unit {0})) a.is.0 a.exchange) q).1);
  cause = shut_caused a.after.seen (Listing late names list.Empty) (a.after.ends ∙ (exchange_quiet _ _ _ _ _ _ _ (subst (λ (end : Ends GoodList). IsExchange (list_step (map paths.text late)) list_start list_text s.wire a.wire end (λ _. Unit {0})) a.is.0 a.exchange) q).1) (a.after.shut ∙ shut_always a.wire.stage);
  seen = a.after.seen;
  none = a.after.none;
  had = ap (λ (x : StarterSeen). x.had) a.after.kept;
  counts = tt;
  shut = a.after.shut ∙ shut_always a.wire.stage;
  spoken = last_spoken (list_step (map paths.text late)) list_start a.end (λ _. Unit {0}) paths s.caps (Listing late names list.Empty) s.wire a.wire a.after.seen a.exchange (λ used rest part. (a.end, a.is, part)) (λ u done. absurd (subst (λ (end : Ends GoodList). Unsent s.wire a.wire end) a.is.0 u)) a.after.sent a.after.taken;
})
listed_effect paths v w s late names list.Abort a st q = inr (record {
  one = inl (a.after.ends ∙ (exchange_quiet _ _ _ _ _ _ _ (subst (λ (end : Ends GoodList). IsExchange (list_step (map paths.text late)) list_start list_text s.wire a.wire end (λ _. Unit {0})) a.is.0 a.exchange) q).1);
  cause = shut_caused a.after.seen (Listing late names list.Abort) (a.after.ends ∙ (exchange_quiet _ _ _ _ _ _ _ (subst (λ (end : Ends GoodList). IsExchange (list_step (map paths.text late)) list_start list_text s.wire a.wire end (λ _. Unit {0})) a.is.0 a.exchange) q).1) (a.after.shut ∙ shut_always a.wire.stage);
  seen = a.after.seen;
  none = a.after.none;
  had = ap (λ (x : StarterSeen). x.had) a.after.kept;
  counts = tt;
  shut = a.after.shut ∙ shut_always a.wire.stage;
  spoken = last_spoken (list_step (map paths.text late)) list_start a.end (λ _. Unit {0}) paths s.caps (Listing late names list.Abort) s.wire a.wire a.after.seen a.exchange (λ used rest part. (a.end, a.is, part)) (λ u done. absurd (subst (λ (end : Ends GoodList). Unsent s.wire a.wire end) a.is.0 u)) a.after.sent a.after.taken;
})
listed_effect paths v w s late names (list.Broken c) a st q = inr (record {
  one = seen_one a.after.seen a.wire (exchange_one _ _ _ _ _ _ _ a.exchange q) a.after.faults.0 a.after.ends;
  cause = seen_caused GoodList a.after.seen a.wire a.end (Listing late names (list.Broken c)) (exchange_caused _ _ _ _ _ _ _ _ _ a.exchange q) a.after.faults.0 a.after.ends (λ why i. ap Some (broke_is c why _ _ refl refl (sym a.is.0 ∙ i)));
  seen = a.after.seen;
  none = a.after.none;
  had = ap (λ (x : StarterSeen). x.had) a.after.kept;
  counts = exchange_counts GoodList (list_step (map paths.text late)) (Names []) list_text s.wire a.wire c (λ _. Unit {0}) a.after.seen (list_plain (map paths.text late)) (subst (λ (end : Ends GoodList). IsExchange (list_step (map paths.text late)) list_start list_text s.wire a.wire end (λ _. Unit {0})) a.is.0 a.exchange) q a.after.faults.0 a.after.ends;
  shut = a.after.shut ∙ (ap is_shut (exchange_stage _ _ _ _ _ _ _ a.exchange) ∙ ap is_shut st);
  spoken = last_spoken (list_step (map paths.text late)) list_start a.end (λ _. Unit {0}) paths s.caps (Listing late names (list.Broken c)) s.wire a.wire a.after.seen a.exchange (λ used rest part. (a.end, a.is, part))
      (λ u done. (inl (ap Some (unsent_link GoodList s.wire a.wire c (subst (λ (end : Ends GoodList). Unsent s.wire a.wire end) a.is.0 u))), a.is.1)) a.after.sent a.after.taken;
})
listed_effect paths v w s late names list.NoMemory a st q = inr (record {
  one = seen_one a.after.seen a.wire (exchange_one _ _ _ _ _ _ _ a.exchange q) a.after.faults.0 a.after.ends;
  cause = seen_caused GoodList a.after.seen a.wire a.end (Listing late names list.NoMemory) (exchange_caused _ _ _ _ _ _ _ _ _ a.exchange q) a.after.faults.0 a.after.ends (λ why i. let no = sym a.is.0 ∙ i in absurd (cc no));
  seen = a.after.seen;
  none = a.after.none;
  had = ap (λ (x : StarterSeen). x.had) a.after.kept;
  counts = tt;
  shut = a.after.shut ∙ (ap is_shut (exchange_stage _ _ _ _ _ _ _ a.exchange) ∙ ap is_shut st);
  spoken = last_spoken (list_step (map paths.text late)) list_start a.end (λ _. Unit {0}) paths s.caps (Listing late names list.NoMemory) s.wire a.wire a.after.seen a.exchange (λ used rest part. (a.end, a.is, part)) (λ u done. (inr refl, a.is.1)) a.after.sent a.after.taken;
})

first_break : (p : ℕ) (r : Reply) (content : List ℕ) → break_of (First p r content) ≡ reply_break r
first_break p reply.Content content = refl
first_break p reply.Error content = refl
first_break p reply.ErrorAfter content = refl
first_break p reply.Delayed content = refl
first_break p reply.Abort content = refl
first_break p (reply.Broken c) content = refl
first_break p reply.NoMemory content = refl

first_wants : (p : ℕ) (r : Reply) (content : List ℕ) → wants (First p r content) ≡ reply_wants r
first_wants p reply.Content content = refl
first_wants p reply.Error content = refl
first_wants p reply.ErrorAfter content = refl
first_wants p reply.Delayed content = refl
first_wants p reply.Abort content = refl
first_wants p (reply.Broken c) content = refl
first_wants p reply.NoMemory content = refl

second_break : (p : ℕ) (r : Reply) (content : List ℕ) → break_of (Second p r content) ≡ reply_break r
second_break p reply.Content content = refl
second_break p reply.Error content = refl
second_break p reply.ErrorAfter content = refl
second_break p reply.Delayed content = refl
second_break p reply.Abort content = refl
second_break p (reply.Broken c) content = refl
second_break p reply.NoMemory content = refl

second_wants : (p : ℕ) (r : Reply) (content : List ℕ) → wants (Second p r content) ≡ reply_wants r
second_wants p reply.Content content = refl
second_wants p reply.Error content = refl
second_wants p reply.ErrorAfter content = refl
second_wants p reply.Delayed content = refl
second_wants p reply.Abort content = refl
second_wants p (reply.Broken c) content = refl
second_wants p reply.NoMemory content = refl

same_some : (s z : SessionSeen) → Some s ≡ Some z → s ≡ z
same_some s z e = cc

-- an exchange while a session is open
pub effect : (paths : Paths) (v w : LineView) (s : SessionSeen) (e : Exchange) → v.session ≡ Some s → s.wire.stage ≡ Open → IsQuiet s.wire → Says paths v e w → Effect paths s v e w
effect paths v w s (NoStart p) is st q says = absurd (cc (sym is ∙ says.0))
effect paths v w s (NoRoom p) is st q says = absurd (cc (sym is ∙ says.0))
effect paths v w s (Opening p (Good caps)) is st q says = absurd (cc (sym is ∙ says.2.closed))
effect paths v w s (Opening p (Broke c)) is st q says = absurd (cc (sym is ∙ says.2.closed))
effect paths v w s (Opening p OutOfMemory) is st q says = absurd (cc (sym is ∙ says.2.closed))
effect paths v w s (First p r content) is st q says =
    let same = same_some says.0 s (sym says.1 ∙ is) in
    asked_effect s.caps.delay paths v w s (First p r content) r content (subst (λ (z : SessionSeen). IsAsked z.caps.delay (first_text (paths.text p) (paths.name p) z.caps.delay (paths.content p)) v z r content w) same says.2) (λ used rest part. part) (first_break p r content) (first_wants p r content) (λ e. e) st q
effect paths v w s (Second p r content) is st q says =
    let same = same_some says.0 s (sym says.1 ∙ is) in
    asked_effect false paths v w s (Second p r content) r content (subst (λ (z : SessionSeen). IsAsked false (second_text (paths.text p) (paths.name p)) v z r content w) same says.2) (λ used rest part. part) (second_break p r content) (second_wants p r content) (λ e. e) st q
effect paths v w s (Listing late names r) is st q says =
    let same = same_some says.0 s (sym says.1 ∙ is) in
    listed_effect paths v w s late names r (subst (λ (z : SessionSeen). IsListed paths (map paths.text late) v z names r w) same says.2) st q
effect paths v w s Shutting is st q says =
    let same = same_some says.0 s (sym says.1 ∙ is) in
    let h = subst (λ (z : SessionSeen). IsEnded v.starter z.wire standing.Live w) same says.2 in
    inr (record {
      seen = h.seen;
      none = h.none;
      had = ap (λ (x : StarterSeen). x.had) h.kept;
      counts = tt;
      one = inl (h.ends ∙ q.1);
      cause = shut_caused h.seen Shutting (h.ends ∙ q.1) (h.shut ∙ shut_live s.wire.stage);
      shut = h.shut ∙ shut_live s.wire.stage;
      spoken = record {
        more = [];
        came = [];
        sent = h.sent ∙ sym (grown_nothing s.wire.sent);
        taken = h.taken ∙ sym (grown_nothing s.wire.taken);
        spoken = inr ([], [], s.wire.unread ++ [], refl, refl, refl, refl);
      };
    })
