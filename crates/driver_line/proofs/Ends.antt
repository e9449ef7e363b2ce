-- How replies end, and what is known of their contents.
use Rattle.std.proofs.Common.{◌≡◌, inl, inr, ℕ, ◌+◌, ◌++◌, ◌-◌, Bool, true, false, List, [], ◌∷◌, Option, Some, None, Result, refl, sym, ap, subst, ◌∙◌}
use Rattle.std.specs.Prelude.{⊤}
use Rattle.std.proofs.lemmas.Bool.{lt-ltb, le-ltb, cases_lt}
use Rattle.pkt_line.specs.Packets.{Packet, Payload, Flush, size}
use Rattle.filter_words.specs.Outcomes.{outcome, limit}
use Rattle.filter_words.specs.SmudgeReply.{reply_step, reply_start, content_in}
use Rattle.filter_words.specs.declared.reply.BreakCause.TheVariants as cause
use Rattle.filter_words.specs.declared.reply.Reply.{Reply}
use Rattle.filter_words.specs.declared.reply.Reply.TheVariants as reply
use Rattle.filter_words.specs.declared.words.Status.{Status}
use Rattle.filter_words.specs.declared.words.Status.TheVariants as status
use Rattle.filter_words.specs.declared.smudge_reply.GoodReply.{GoodReply}
use Rattle.filter_words.specs.declared.smudge_reply.GoodReply.TheVariants as good
use Rattle.filter_words.specs.declared.smudge_reply.ReplyPhase.{ReplyPhase}
use Rattle.filter_words.specs.declared.smudge_reply.ReplyPhase.TheVariants.{KeyList, Content, LastKeyList}
use Rattle.filter_words.specs.declared.answer_state.AnswerState.{AnswerState}
use Rattle.filter_words.specs.declared.answer_state.AnswerState.TheVariants.{On, Done, Broken, Late}
use Rattle.edge_kit.specs.declared.faults.SendFault.{SendFault}
use Rattle.edge_kit.specs.Links.{LinkSeen, is_shut, replies_in}
use Rattle.edge_kit.specs.Starters.{StarterSeen, session_had}
use Rattle.filter_proto.specs.Wires.{Wire, IsShutAfter}
use Rattle.filter_proto.specs.Exchanges.{Ends, Good, Broke, OutOfMemory, Stops, Unsent, IsExchange}
use Rattle.edge_kit.specs.Seen.{LeafSeen}
use Rattle.filter_proto.specs.Replies.{IsFrontPut, IsKept, EndPut, TouchesNot, reply_end}
use Rattle.checkout_core.specs.Conditions.{is_path_break}
use Rattle.driver_line.specs.Lines.{LineView, Paths, Says, After, IsEnded, IsLeafAfter, MayReply, HasAnswered, GoesOn}
use Rattle.driver_line.specs.Conversations.{First, Second}
use Rattle.filter_words.specs.Requests.{first_text, second_text}
use Rattle.filter_proto.specs.Wires.{SessionSeen}
use Rattle.filter_proto.specs.Replies.{standing_after}
use Rattle.filter_proto.specs.declared.session.Standing.{Standing}
use Rattle.filter_proto.specs.declared.session.Standing.TheVariants as standing

-- how a reply may end
abbrev MayEnd : Bool → AnswerState ReplyPhase GoodReply → Type 0
MayEnd d (On p) = Unit {0}
MayEnd d (Done good.Delayed) = d ≡ true
MayEnd d (Done g) = Unit {0}
MayEnd d (Broken why) = is_path_break why ≡ true
MayEnd d Late = Unit {0}

first_may : (d : Bool) (s : Option Status) → MayEnd d (reply_step d (KeyList s) Flush)
first_may d None = refl
first_may d (Some status.Success) = tt
first_may d (Some status.Error) = tt
first_may d (Some status.Abort) = tt
first_may true (Some status.Delayed) = refl
first_may false (Some status.Delayed) = refl
first_may d (Some status.Other) = refl

last_may : (d : Bool) (s : Option Status) → MayEnd d (reply_step d (LastKeyList s) Flush)
last_may d None = tt
last_may d (Some status.Success) = tt
last_may d (Some status.Error) = tt
last_may d (Some status.Abort) = tt
last_may d (Some status.Delayed) = refl
last_may d (Some status.Other) = refl

step_may : (d : Bool) (p : ReplyPhase) (x : Packet) → MayEnd d (reply_step d p x)
step_may d (KeyList s) (Payload l) = tt
step_may d (KeyList s) Flush = first_may d s
step_may d Content (Payload l) = tt
step_may d Content Flush = tt
step_may d (LastKeyList s) (Payload l) = tt
step_may d (LastKeyList s) Flush = last_may d s

runs_may : (d : Bool) (room : ℕ) (t : AnswerState ReplyPhase GoodReply) (ps : List Packet) → MayEnd d t → MayEnd d (outcome (reply_step d) room t ps)
runs_may d room t [] h = h
runs_may d room (On p) (x ∷ ps) h = elim (cases_lt room (size x)) [
  | inl less ↦ rw (lt-ltb room (size x) less) (runs_may d room (Broken cause.TooLong) ps refl)
  | inr more ↦ rw (le-ltb room (size x) more) (runs_may d (room - size x) (reply_step d p x) ps (step_may d p x))
]
runs_may d room (Done g) (x ∷ ps) h = tt
runs_may d room (Broken c) (x ∷ ps) h = tt
runs_may d room Late (x ∷ ps) h = tt

-- how an exchange may end
abbrev MayCome : Bool → Ends GoodReply → Type 0
MayCome d (Good good.Delayed) = d ≡ true
MayCome d (Good g) = Unit {0}
MayCome d (Broke why) = is_path_break why ≡ true
MayCome d OutOfMemory = Unit {0}

turn_end : (d : Bool) (g : GoodReply) → MayEnd d (Done g) → MayCome d (Good g)
turn_end d good.Delayed h = h
turn_end d good.Content h = tt
turn_end d good.Error h = tt
turn_end d good.ErrorAfter h = tt
turn_end d good.Abort h = tt

open_may : (d : Bool) (p : ReplyPhase) (old new : Wire) (end : Ends GoodReply) → Stops {G = GoodReply} (On p) old new end → MayCome d end
open_may d p old new (Good g) h = absurd h
open_may d p old new OutOfMemory h = absurd h
open_may d p old new (Broke cause.BadPacket) h = refl
open_may d p old new (Broke cause.Ended) h = refl
open_may d p old new (Broke cause.LinkFault) h = refl
open_may d p old new (Broke cause.BadHandshake) h = absurd h
open_may d p old new (Broke cause.UnknownStatus) h = absurd h
open_may d p old new (Broke cause.StrangeDelay) h = absurd h
open_may d p old new (Broke cause.TooLong) h = absurd h
open_may d p old new (Broke cause.StrangePath) h = absurd h
open_may d p old new (Broke cause.ListRefused) h = absurd h

stops_may : (d : Bool) (t : AnswerState ReplyPhase GoodReply) (old new : Wire) (end : Ends GoodReply) → MayEnd d t → Stops t old new end → MayCome d end
stops_may d (On p) old new end h s = open_may d p old new end s
stops_may d (Done g) old new end h s = subst (MayCome d) (sym s.0) (turn_end d g h)
stops_may d (Broken c) old new end h s = subst (MayCome d) (sym s.0) h
stops_may d Late old new end h s = absurd s

unsent_may : (d : Bool) (old new : Wire) (end : Ends GoodReply) → Unsent old new end → MayCome d end
unsent_may d old new (Good g) h = absurd h
unsent_may d old new OutOfMemory h = tt
unsent_may d old new (Broke cause.LinkFault) h = refl
unsent_may d old new (Broke cause.BadPacket) h = absurd h
unsent_may d old new (Broke cause.Ended) h = absurd h
unsent_may d old new (Broke cause.BadHandshake) h = absurd h
unsent_may d old new (Broke cause.UnknownStatus) h = absurd h
unsent_may d old new (Broke cause.StrangeDelay) h = absurd h
unsent_may d old new (Broke cause.TooLong) h = absurd h
unsent_may d old new (Broke cause.StrangePath) h = absurd h
unsent_may d old new (Broke cause.ListRefused) h = absurd h

may_come : (d : Bool) (text : List ℕ) (old new : Wire) (end : Ends GoodReply) (extra : List Packet → Type 0) → IsExchange (reply_step d) reply_start text old new end extra → MayCome d end
may_come d text old new end extra (inl u) = unsent_may d old new end u.why
may_come d text old new end extra (inr a) = stops_may d (outcome (reply_step d) limit reply_start a.heard.packets) old new end (runs_may d limit reply_start a.heard.packets tt) a.heard.stops

may_reply : (d : Bool) (r : Reply) → MayCome d (reply_end r) → MayReply d r
may_reply d reply.Content h = tt
may_reply d reply.Error h = tt
may_reply d reply.ErrorAfter h = tt
may_reply d reply.Abort h = tt
may_reply d reply.Delayed h = h
may_reply d (reply.Broken c) h = h
may_reply d reply.NoMemory h = tt

pub asked_may : (d : Bool) (text : List ℕ) (old new : Wire) (r : Reply) (extra : List Packet → Type 0) → IsExchange (reply_step d) reply_start text old new (reply_end r) extra → MayReply d r
asked_may d text old new r extra h = may_reply d r (may_come d text old new (reply_end r) extra h)

-- the content of an exchange, and what the leaf has of it
kept_end : (d : Bool) (old new : LeafSeen) (put : Result ⊤ SendFault) (end : Ends GoodReply) (ps : List Packet) → EndPut d old new put end ps → IsKept old new put
kept_end d old new put (Good g) ps h = record { path = h.path; told = h.told; usable = h.usable; broken = h.broken }
kept_end d old new put (Broke c) ps h = h.0
kept_end d old new put OutOfMemory ps h = h.0

front_end : (d : Bool) (old new : LeafSeen) (put : Result ⊤ SendFault) (end : Ends GoodReply) (ps : List Packet) → EndPut d old new put end ps → IsFrontPut old new (content_in d reply_start ps)
front_end d old new put (Good g) ps h = h.part
front_end d old new put (Broke c) ps h = h.1
front_end d old new put OutOfMemory ps h = h.1

leaf_after : (d : Bool) (old new : LeafSeen) (put : Result ⊤ SendFault) (r : Reply) (ps : List Packet) → EndPut d old new put (reply_end r) ps → TouchesNot r old new put → IsLeafAfter old new put r (content_in d reply_start ps)
leaf_after d old new put r ps h t = record { kept = kept_end d old new put (reply_end r) ps h; part = front_end d old new put (reply_end r) ps h; touches = t; holds = λ e. (subst (λ (x : Reply). EndPut d old new put (reply_end x) ps) e h).holds }

pub with_content : (d : Bool) (text : List ℕ) (s t : Wire) (old new : LeafSeen) (put : Result ⊤ SendFault) (r : Reply) → IsExchange (reply_step d) reply_start text s t (reply_end r) (EndPut d old new put (reply_end r)) → TouchesNot r old new put → HasAnswered d text s t old new put r
with_content d text s t old new put r (inl u) k = record {
  content = [];
  exchange = inl (record { sent = u.sent; why = u.why; done = refl });
  leaf = leaf_after d old new put r [] u.done k;
}
with_content d text s t old new put r (inr a) k = record {
  content = content_in d reply_start a.heard.packets;
  exchange = inr (record { sent = a.sent; stage = a.stage; heard = record { packets = a.heard.packets; used = a.heard.used; spelled = a.heard.spelled; took = a.heard.took; stops = a.heard.stops; done = refl } });
  leaf = leaf_after d old new put r a.heard.packets a.heard.done k;
}

-- what an exchange does to a line

pub after_live : (old new : LineView) (s u : SessionSeen) (r : Reply) → u.caps ≡ s.caps → u.standing ≡ standing_after r → u.standing ≡ standing.Live → new ≡ record { starter = old.starter; session = Some u } → After old s u.wire (standing_after r) new
after_live old new s u r caps is live e =
    subst (λ (z : Standing). After old s u.wire z new) (sym live ∙ is) (ap (λ (v : LineView). v.session) e ∙ rw (sym caps, sym live) refl, ap (λ (v : LineView). v.starter) e)

after_over_as : (z : Standing) (old new : LineView) (s : SessionSeen) (wire : Wire) → (z ≡ standing.Live → ⊥) → IsEnded old.starter wire z new → After old s wire z new
after_over_as standing.Live old new s wire nope h = absurd (nope refl)
after_over_as standing.Aborted old new s wire nope h = h
after_over_as standing.Over old new s wire nope h = h

pub after_over : (old new : LineView) (s u : SessionSeen) (r : Reply) → u.standing ≡ standing_after r → (u.standing ≡ standing.Live → ⊥) → IsEnded old.starter u.wire u.standing new → After old s u.wire (standing_after r) new
after_over old new s u r is nope h = subst (λ (z : Standing). After old s u.wire z new) is (after_over_as u.standing old new s u.wire nope h)

pub first_says : (p : ℕ) (text name content : List ℕ) (old new : LineView) (s : SessionSeen) (wire : Wire) (before leaf : LeafSeen) (put : Result ⊤ SendFault) (r : Reply) → old.session ≡ Some s → s.standing ≡ standing.Live → s.caps.smudge ≡ true
    → HasAnswered s.caps.delay (first_text text name s.caps.delay content) s.wire wire before leaf put r → After old s wire (standing_after r) new
    → (c : List ℕ) × ((paths : Paths) → paths.text p ≡ text → paths.name p ≡ name → paths.content p ≡ content → Says paths old (First p r c) new) × IsLeafAfter before leaf put r c
first_says p text name content old new s wire before leaf put r is live smudge h after =
    (h.content, (λ paths e n i. (s, is, record { wire = wire; live = live; smudge = smudge; exchange = rw (e, n, i) h.exchange; after = after })), h.leaf)

pub second_says : (p : ℕ) (text name : List ℕ) (old new : LineView) (s : SessionSeen) (wire : Wire) (before leaf : LeafSeen) (put : Result ⊤ SendFault) (r : Reply) → old.session ≡ Some s → s.standing ≡ standing.Live → s.caps.smudge ≡ true
    → HasAnswered false (second_text text name) s.wire wire before leaf put r → After old s wire (standing_after r) new
    → (c : List ℕ) × ((paths : Paths) → paths.text p ≡ text → paths.name p ≡ name → Says paths old (Second p r c) new) × IsLeafAfter before leaf put r c
second_says p text name old new s wire before leaf put r is live smudge h after =
    (h.content, (λ paths e n. (s, is, record { wire = wire; live = live; smudge = smudge; exchange = rw (e, n) h.exchange; after = after })), h.leaf)

goes_over_as : (z : Standing) (s : SessionSeen) (new : Option SessionSeen) → (z ≡ standing.Live → ⊥) → new ≡ None → GoesOn s z new
goes_over_as standing.Live s new nope e = absurd (nope refl)
goes_over_as standing.Aborted s new nope e = e
goes_over_as standing.Over s new nope e = e

pub goes_over : (s u : SessionSeen) (r : Reply) → {new : Option SessionSeen} → u.standing ≡ standing_after r → (u.standing ≡ standing.Live → ⊥) → new ≡ None → GoesOn s (standing_after r) new
goes_over s u r {new} is nope e = subst (λ (z : Standing). GoesOn s z new) is (goes_over_as u.standing s new nope e)

pub goes_live : (o s u : SessionSeen) (r : Reply) → Some o ≡ Some s → u.caps ≡ o.caps → u.standing ≡ standing_after r → u.standing ≡ standing.Live → GoesOn s (standing_after r) (Some u)
goes_live o s u r same caps is live =
    let one : o ≡ s = cc in
    subst (λ (z : Standing). GoesOn s z (Some u)) (sym live ∙ is) (u.wire, rw (sym one, sym caps, sym live) refl)

-- a session that was shut, and whose link its starter took back
pub finished : (mid s : SessionSeen) (from old last : StarterSeen) (o : Option SessionSeen) (link : LinkSeen) → mid ≡ s → from ≡ old → o ≡ None → IsShutAfter mid.standing mid.wire link → last.out + 1 ≡ from.out
    → last ≡ record from { had = from.had ++ session_had link ∷ []; out = last.out } → IsEnded old s.wire s.standing (record { starter = last; session = o })
finished mid s from old last o link is same none shut out kept =
    let ended : IsEnded from mid.wire mid.standing (record { starter = last; session = o }) = record {
      seen = record { sent = link.sent; taken = link.taken; replies = replies_in link.left; faults = link.faults; ends = link.ends; shut = is_shut link.stage };
      none = none;
      kept = kept;
      out = out;
      sent = ap (λ (w : Wire). w.sent) shut.kept;
      taken = ap (λ (w : Wire). w.taken) shut.kept;
      ends = ap (λ (w : Wire). w.ends) shut.kept;
      replies = ap (λ (w : Wire). replies_in w.left) shut.kept;
      input = shut.input;
      end = shut.end;
      faults = shut.counts;
      shut = ap (λ (w : Wire). is_shut w.stage) shut.kept;
    } in
    subst (λ (x : SessionSeen). IsEnded old x.wire x.standing (record { starter = last; session = o })) is
    (subst (λ (x : StarterSeen). IsEnded x mid.wire mid.standing (record { starter = last; session = o })) same ended)
