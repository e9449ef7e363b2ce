-- A fault of the link, read as an end of input: what the bytes alone tell of an exchange.
use Rattle.std.proofs.Common.{◌≡◌, ◌⊎◌, inl, inr, ℕ, Bool, List, [], ◌∷◌, map, Option, Some, None, refl, sym, ap, subst, ◌∙◌, arith}
use Rattle.std.specs.Prelude.{false}
use Rattle.std.specs.Option.{option_map}
use Rattle.pkt_line.specs.Packets.{Packet}
use Rattle.filter_words.specs.Outcomes.{outcome, limit}
use Rattle.filter_words.specs.SmudgeReply.{reply_step, reply_start}
use Rattle.filter_words.specs.Listing.{list_step, list_start, GoodList}
use Rattle.filter_words.specs.declared.reply.Caps.{Caps}
use Rattle.filter_words.specs.declared.reply.BreakCause.{BreakCause}
use Rattle.filter_words.specs.declared.reply.BreakCause.TheVariants as cause
use Rattle.filter_words.specs.declared.reply.Reply.{Reply}
use Rattle.filter_words.specs.declared.reply.Reply.TheVariants as reply
use Rattle.filter_words.specs.declared.reply.ListReply.{ListReply}
use Rattle.filter_words.specs.declared.reply.ListReply.TheVariants as list
use Rattle.filter_words.specs.declared.answer_state.AnswerState.{AnswerState}
use Rattle.filter_words.specs.declared.answer_state.AnswerState.TheVariants.{On, Done, Broken, Late}
use Rattle.edge_kit.specs.Starters.{SessionHad}
use Rattle.filter_proto.specs.Exchanges.{Ends, Good, Broke, OutOfMemory}
use Rattle.filter_proto.specs.Replies.{reply_end}
use Rattle.checkout_core.specs.Talks.{Talk, Between, Refusing, InRound, Ended, Round, ask, ask_again, talk_run}
use Rattle.driver_line.specs.Conversations.{Exchange, NoStart, NoRoom, Opening, First, Listing, Second, Shutting, notes_of, FitsTalk}
use Rattle.driver_line.specs.Lines.{Paths, HasContent, ListIs}
use Rattle.driver_line.specs.Transcripts.{StopsAt, IsPart, AnswerIs, FitsCounts, break_of, wants}
use Rattle.driver_line.proofs.Effects.{IsPlain, PlainTurn, runs_plain, reply_plain, list_plain}

abbrev pub calm : BreakCause → BreakCause
calm cause.LinkFault = cause.Ended
calm c = c

abbrev pub calm_end : {G : Type 0} → Ends G → Ends G
calm_end (Good g) = Good g
calm_end (Broke why) = Broke (calm why)
calm_end OutOfMemory = OutOfMemory

abbrev calm_reply : Reply → Reply
calm_reply (reply.Broken why) = reply.Broken (calm why)
calm_reply r = r

abbrev calm_list : ListReply → ListReply
calm_list (list.Broken why) = list.Broken (calm why)
calm_list r = r

abbrev pub calmed : Exchange → Exchange
calmed (First p r content) = First p (calm_reply r) content
calmed (Listing late names r) = Listing late names (calm_list r)
calmed (Second p r content) = Second p (calm_reply r) content
calmed e = e

calm_plain : (c : BreakCause) → IsPlain c → calm c ≡ c
calm_plain cause.LinkFault h = absurd h
calm_plain cause.Ended h = refl
calm_plain cause.BadPacket h = refl
calm_plain cause.BadHandshake h = refl
calm_plain cause.UnknownStatus h = refl
calm_plain cause.StrangeDelay h = refl
calm_plain cause.TooLong h = refl
calm_plain cause.StrangePath h = refl
calm_plain cause.ListRefused h = refl

-- no fault is left
pub calm_never : (c : BreakCause) → calm c ≡ cause.LinkFault → ⊥
calm_never cause.LinkFault e = absurd (cc e)
calm_never cause.Ended e = absurd (cc e)
calm_never cause.BadPacket e = absurd (cc e)
calm_never cause.BadHandshake e = absurd (cc e)
calm_never cause.UnknownStatus e = absurd (cc e)
calm_never cause.StrangeDelay e = absurd (cc e)
calm_never cause.TooLong e = absurd (cc e)
calm_never cause.StrangePath e = absurd (cc e)
calm_never cause.ListRefused e = absurd (cc e)

-- the answer is the same part of the bytes

stops_on : {P G : Type 0} (p : P) (rest : List ℕ) (end : Ends G) → StopsAt {G = G} (On p) rest end → StopsAt {G = G} (On p) rest (calm_end end)
stops_on p rest (Good g) h = h
stops_on p rest OutOfMemory h = h
stops_on p rest (Broke cause.LinkFault) h = h
stops_on p rest (Broke cause.Ended) h = h
stops_on p rest (Broke cause.BadPacket) h = h
stops_on p rest (Broke cause.BadHandshake) h = h
stops_on p rest (Broke cause.UnknownStatus) h = h
stops_on p rest (Broke cause.StrangeDelay) h = h
stops_on p rest (Broke cause.TooLong) h = h
stops_on p rest (Broke cause.StrangePath) h = h
stops_on p rest (Broke cause.ListRefused) h = h

stops_calm : {P G : Type 0} (t : AnswerState P G) (rest : List ℕ) (end : Ends G) → PlainTurn t → StopsAt t rest end → StopsAt t rest (calm_end end)
stops_calm (On p) rest end plain h = stops_on p rest end h
stops_calm (Done g) rest end plain h = ap calm_end h
stops_calm (Broken why) rest end plain h = ap calm_end h ∙ ap Broke (calm_plain why plain)
stops_calm Late rest end plain h = absurd h

pub part_calm : {P G : Type 0} (step : P → Packet → AnswerState P G) (start : AnswerState P G) (used rest : List ℕ) (end : Ends G) (extra : List Packet → Type 0)
    → ((p : P) (x : Packet) → PlainTurn (step p x)) → PlainTurn start → IsPart step start used rest end extra → IsPart step start used rest (calm_end end) extra
part_calm step start used rest end extra steps plain h = record {
  packets = h.packets;
  spelled = h.spelled;
  stops = stops_calm (outcome step limit start h.packets) rest end (runs_plain step limit start h.packets steps plain) h.stops;
  done = h.done;
}

reply_calm : (r : Reply) → reply_end (calm_reply r) ≡ calm_end (reply_end r)
reply_calm reply.Content = refl
reply_calm reply.Error = refl
reply_calm reply.ErrorAfter = refl
reply_calm reply.Delayed = refl
reply_calm reply.Abort = refl
reply_calm (reply.Broken why) = refl
reply_calm reply.NoMemory = refl

reply_part : (d : Bool) (r : Reply) (content used rest : List ℕ) → IsPart (reply_step d) reply_start used rest (reply_end r) (HasContent d content)
    → IsPart (reply_step d) reply_start used rest (reply_end (calm_reply r)) (HasContent d content)
reply_part d r content used rest h =
    rw (reply_calm r) (part_calm (reply_step d) reply_start used rest (reply_end r) (HasContent d content) (reply_plain d) tt h)

list_is : (paths : Paths) (names : List ℕ) (r : ListReply) (end : Ends GoodList) → ListIs paths names r end → ListIs paths names (calm_list r) (calm_end end)
list_is paths names (list.Names n) end h = ap calm_end h
list_is paths names list.Empty end h = (ap calm_end h.0, h.1)
list_is paths names list.Abort end h = (ap calm_end h.0, h.1)
list_is paths names (list.Broken why) end h = (ap calm_end h.0, h.1)
list_is paths names list.NoMemory end h = (ap calm_end h.0, h.1)

pub answer_calm : (paths : Paths) (caps : Caps) (e : Exchange) (used rest : List ℕ) → AnswerIs paths caps e used rest → AnswerIs paths caps (calmed e) used rest
answer_calm paths caps (First p r content) used rest h = reply_part caps.delay r content used rest h
answer_calm paths caps (Second p r content) used rest h = reply_part false r content used rest h
answer_calm paths caps (Listing late names r) used rest h = (
  calm_end h.0,
  list_is paths names r h.0 h.1,
  part_calm (list_step (map paths.text late)) list_start used rest h.0 (λ _. Unit {0}) (list_plain (map paths.text late)) tt h.2,
)
answer_calm paths caps Shutting used rest h = h
answer_calm paths caps (NoStart p) used rest h = h
answer_calm paths caps (NoRoom p) used rest h = h
answer_calm paths caps (Opening p end) used rest h = h

-- the talk goes on in the same way

ask_same : (r : Round) (ps : List ℕ) (p : ℕ) → ask r ps p (reply.Broken cause.LinkFault) ≡ ask r ps p (reply.Broken cause.Ended)
ask_same r [] p = refl
ask_same r (q ∷ ps) p = refl

again_same : (r : Round) (ps : List ℕ) (p : ℕ) → ask_again r ps p (reply.Broken cause.LinkFault) ≡ ask_again r ps p (reply.Broken cause.Ended)
again_same r [] p = refl
again_same r (q ∷ ps) p = refl

first_runs : (d : ℕ) (t : Talk) (p : ℕ) (c : List ℕ) → talk_run d t (notes_of d (First p (reply.Broken cause.LinkFault) c)) ≡ talk_run d t (notes_of d (First p (reply.Broken cause.Ended) c))
first_runs d (Between []) p c = refl
first_runs d (Between (q ∷ qs)) p c = refl
first_runs d Refusing p c = refl
first_runs d (InRound r) p c = ap (λ (x : Option Talk). elim x [ None ↦ None | Some u ↦ Some u ]) (ask_same r r.rest p)
first_runs d Ended p c = refl

second_runs : (d : ℕ) (t : Talk) (p : ℕ) (c : List ℕ) → talk_run d t (notes_of d (Second p (reply.Broken cause.LinkFault) c)) ≡ talk_run d t (notes_of d (Second p (reply.Broken cause.Ended) c))
second_runs d (Between []) p c = refl
second_runs d (Between (q ∷ qs)) p c = refl
second_runs d Refusing p c = refl
second_runs d (InRound r) p c = ap (λ (x : Option Talk). elim x [ None ↦ None | Some u ↦ Some u ]) (again_same r r.turns p)
second_runs d Ended p c = refl

list_runs : (d : ℕ) (t : Talk) (late names : List ℕ) → talk_run d t (notes_of d (Listing late names (list.Broken cause.LinkFault))) ≡ talk_run d t (notes_of d (Listing late names (list.Broken cause.Ended)))
list_runs d (Between []) late names = refl
list_runs d (Between (q ∷ qs)) late names = refl
list_runs d Refusing late names = refl
list_runs d (InRound r) late names = refl
list_runs d Ended late names = refl

abbrev pub Goes : ℕ → Talk → Exchange → Talk → Type 0
Goes d t e u = FitsTalk t e × (talk_run d t (notes_of d e) ≡ Some u)

first_goes : (d : ℕ) (t : Talk) (p : ℕ) (r : Reply) (c : List ℕ) (u : Talk) → Goes d t (First p r c) u → Goes d t (First p (calm_reply r) c) u
first_goes d t p (reply.Broken cause.LinkFault) c u h = (h.0, sym (first_runs d t p c) ∙ h.1)
first_goes d t p (reply.Broken cause.Ended) c u h = h
first_goes d t p (reply.Broken cause.BadPacket) c u h = h
first_goes d t p (reply.Broken cause.BadHandshake) c u h = h
first_goes d t p (reply.Broken cause.UnknownStatus) c u h = h
first_goes d t p (reply.Broken cause.StrangeDelay) c u h = h
first_goes d t p (reply.Broken cause.TooLong) c u h = h
first_goes d t p (reply.Broken cause.StrangePath) c u h = h
first_goes d t p (reply.Broken cause.ListRefused) c u h = h
first_goes d t p reply.Content c u h = h
first_goes d t p reply.Error c u h = h
first_goes d t p reply.ErrorAfter c u h = h
first_goes d t p reply.Delayed c u h = h
first_goes d t p reply.Abort c u h = h
first_goes d t p reply.NoMemory c u h = h

second_goes : (d : ℕ) (t : Talk) (p : ℕ) (r : Reply) (c : List ℕ) (u : Talk) → Goes d t (Second p r c) u → Goes d t (Second p (calm_reply r) c) u
second_goes d t p (reply.Broken cause.LinkFault) c u h = (h.0, sym (second_runs d t p c) ∙ h.1)
second_goes d t p (reply.Broken cause.Ended) c u h = h
second_goes d t p (reply.Broken cause.BadPacket) c u h = h
second_goes d t p (reply.Broken cause.BadHandshake) c u h = h
second_goes d t p (reply.Broken cause.UnknownStatus) c u h = h
second_goes d t p (reply.Broken cause.StrangeDelay) c u h = h
second_goes d t p (reply.Broken cause.TooLong) c u h = h
second_goes d t p (reply.Broken cause.StrangePath) c u h = h
second_goes d t p (reply.Broken cause.ListRefused) c u h = h
second_goes d t p reply.Content c u h = h
second_goes d t p reply.Error c u h = h
second_goes d t p reply.ErrorAfter c u h = h
second_goes d t p reply.Delayed c u h = h
second_goes d t p reply.Abort c u h = h
second_goes d t p reply.NoMemory c u h = h

list_goes : (d : ℕ) (t : Talk) (late names : List ℕ) (r : ListReply) (u : Talk) → Goes d t (Listing late names r) u → Goes d t (Listing late names (calm_list r)) u
list_goes d t late names (list.Broken cause.LinkFault) u h = (h.0, sym (list_runs d t late names) ∙ h.1)
list_goes d t late names (list.Broken cause.Ended) u h = h
list_goes d t late names (list.Broken cause.BadPacket) u h = h
list_goes d t late names (list.Broken cause.BadHandshake) u h = h
list_goes d t late names (list.Broken cause.UnknownStatus) u h = h
list_goes d t late names (list.Broken cause.StrangeDelay) u h = h
list_goes d t late names (list.Broken cause.TooLong) u h = h
list_goes d t late names (list.Broken cause.StrangePath) u h = h
list_goes d t late names (list.Broken cause.ListRefused) u h = h
list_goes d t late names (list.Names n) u h = h
list_goes d t late names list.Empty u h = h
list_goes d t late names list.Abort u h = h
list_goes d t late names list.NoMemory u h = h

pub goes_calm : (d : ℕ) (t : Talk) (e : Exchange) (u : Talk) → Goes d t e u → Goes d t (calmed e) u
goes_calm d t (First p r c) u h = first_goes d t p r c u h
goes_calm d t (Second p r c) u h = second_goes d t p r c u h
goes_calm d t (Listing late names r) u h = list_goes d t late names r u h
goes_calm d t Shutting u h = h
goes_calm d t (NoStart p) u h = h
goes_calm d t (NoRoom p) u h = h
goes_calm d t (Opening p end) u h = h

-- how it breaks, and whether it wants memory

break_calm : (e : Exchange) → break_of (calmed e) ≡ option_map calm (break_of e)
break_calm (First p reply.Content c) = refl
break_calm (First p reply.Error c) = refl
break_calm (First p reply.ErrorAfter c) = refl
break_calm (First p reply.Delayed c) = refl
break_calm (First p reply.Abort c) = refl
break_calm (First p (reply.Broken why) c) = refl
break_calm (First p reply.NoMemory c) = refl
break_calm (Second p reply.Content c) = refl
break_calm (Second p reply.Error c) = refl
break_calm (Second p reply.ErrorAfter c) = refl
break_calm (Second p reply.Delayed c) = refl
break_calm (Second p reply.Abort c) = refl
break_calm (Second p (reply.Broken why) c) = refl
break_calm (Second p reply.NoMemory c) = refl
break_calm (Listing late names (list.Names n)) = refl
break_calm (Listing late names list.Empty) = refl
break_calm (Listing late names list.Abort) = refl
break_calm (Listing late names (list.Broken why)) = refl
break_calm (Listing late names list.NoMemory) = refl
break_calm Shutting = refl
break_calm (NoStart p) = refl
break_calm (NoRoom p) = refl
break_calm (Opening p end) = refl

pub wants_calm : (e : Exchange) → wants (calmed e) ≡ wants e
wants_calm (First p reply.Content c) = refl
wants_calm (First p reply.Error c) = refl
wants_calm (First p reply.ErrorAfter c) = refl
wants_calm (First p reply.Delayed c) = refl
wants_calm (First p reply.Abort c) = refl
wants_calm (First p (reply.Broken why) c) = refl
wants_calm (First p reply.NoMemory c) = refl
wants_calm (Second p reply.Content c) = refl
wants_calm (Second p reply.Error c) = refl
wants_calm (Second p reply.ErrorAfter c) = refl
wants_calm (Second p reply.Delayed c) = refl
wants_calm (Second p reply.Abort c) = refl
wants_calm (Second p (reply.Broken why) c) = refl
wants_calm (Second p reply.NoMemory c) = refl
wants_calm (Listing late names (list.Names n)) = refl
wants_calm (Listing late names list.Empty) = refl
wants_calm (Listing late names list.Abort) = refl
wants_calm (Listing late names (list.Broken why)) = refl
wants_calm (Listing late names list.NoMemory) = refl
wants_calm Shutting = refl
wants_calm (NoStart p) = refl
wants_calm (NoRoom p) = refl
wants_calm (Opening p end) = refl

no_fault : (b : Option BreakCause) → option_map calm b ≡ Some cause.LinkFault → ⊥
no_fault None e = absurd (cc e)
no_fault (Some c) e = calm_never c (cc e)

pub never_linked : (e : Exchange) → break_of (calmed e) ≡ Some cause.LinkFault → ⊥
never_linked e h = no_fault (break_of e) (sym (break_calm e) ∙ h)

-- the counts of a session tell a fault from an end of input

is_calm : (b : Option BreakCause) → (b ≡ Some cause.LinkFault) ⊎ (option_map calm b ≡ b)
is_calm None = inr refl
is_calm (Some cause.LinkFault) = inl refl
is_calm (Some cause.Ended) = inr refl
is_calm (Some cause.BadPacket) = inr refl
is_calm (Some cause.BadHandshake) = inr refl
is_calm (Some cause.UnknownStatus) = inr refl
is_calm (Some cause.StrangeDelay) = inr refl
is_calm (Some cause.TooLong) = inr refl
is_calm (Some cause.StrangePath) = inr refl
is_calm (Some cause.ListRefused) = inr refl

fault_or_end : (seen : SessionHad) (b c : Option BreakCause) → FitsCounts seen b → FitsCounts seen c → option_map calm b ≡ option_map calm c → b ≡ Some cause.LinkFault → option_map calm c ≡ c → ⊥
fault_or_end seen b c h k e f g =
    let ended : c ≡ Some cause.Ended = sym g ∙ (sym e ∙ ap (option_map calm) f) in
    let none = (subst (FitsCounts seen) f h).1 in
    let some = (subst (FitsCounts seen) ended k).0 in
    omega (arith, none, some)

same_breaks : (seen : SessionHad) (b c : Option BreakCause) → FitsCounts seen b → FitsCounts seen c → option_map calm b ≡ option_map calm c → b ≡ c
same_breaks seen b c h k e = elim (is_calm b) [
  | inl f ↦ elim (is_calm c) [ inl g ↦ f ∙ sym g | inr g ↦ absurd (fault_or_end seen b c h k e f g) ]
  | inr f ↦ elim (is_calm c) [ inl g ↦ absurd (fault_or_end seen c b k h (sym e) g f) | inr g ↦ sym f ∙ (e ∙ g) ]
]

-- an exchange, with the cause of its break

abbrev with_break : Option BreakCause → Exchange → Exchange
with_break (Some why) (First p (reply.Broken c) content) = First p (reply.Broken why) content
with_break (Some why) (Second p (reply.Broken c) content) = Second p (reply.Broken why) content
with_break (Some why) (Listing late names (list.Broken c)) = Listing late names (list.Broken why)
with_break b e = e

restored : (e : Exchange) → with_break (break_of e) (calmed e) ≡ e
restored (First p reply.Content c) = refl
restored (First p reply.Error c) = refl
restored (First p reply.ErrorAfter c) = refl
restored (First p reply.Delayed c) = refl
restored (First p reply.Abort c) = refl
restored (First p (reply.Broken why) c) = refl
restored (First p reply.NoMemory c) = refl
restored (Second p reply.Content c) = refl
restored (Second p reply.Error c) = refl
restored (Second p reply.ErrorAfter c) = refl
restored (Second p reply.Delayed c) = refl
restored (Second p reply.Abort c) = refl
restored (Second p (reply.Broken why) c) = refl
restored (Second p reply.NoMemory c) = refl
restored (Listing late names (list.Names n)) = refl
restored (Listing late names list.Empty) = refl
restored (Listing late names list.Abort) = refl
restored (Listing late names (list.Broken why)) = refl
restored (Listing late names list.NoMemory) = refl
restored Shutting = refl
restored (NoStart p) = refl
restored (NoRoom p) = refl
restored (Opening p end) = refl

pub told_apart : (seen : SessionHad) (e f : Exchange) → FitsCounts seen (break_of e) → FitsCounts seen (break_of f) → calmed e ≡ calmed f → e ≡ f
told_apart seen e f h k same =
    let breaks : break_of e ≡ break_of f = same_breaks seen (break_of e) (break_of f) h k (sym (break_calm e) ∙ (ap break_of same ∙ break_calm f)) in
    sym (restored e) ∙ (ap (with_break (break_of e)) same ∙ (ap (λ (b : Option BreakCause). with_break b (calmed f)) breaks ∙ restored f))
