-- Two talks whose sessions have equal outputs have equal answers.
use Rattle.std.proofs.Common.{◌≡◌, ◌⊎◌, ◌<◌, ◌≤◌, ℕ, zero, suc, Bool, true, false, List, [], ◌∷◌, ◌++◌, Option, Some, None, Result, Ok, Err, refl, sym, ap, subst, inl, inr, ◌∙◌, append_assoc, append-nil, arith}
use Rattle.std.specs.Prelude.{⊤, if◌then◌else◌}
use Rattle.std.specs.Str.{bytes_eq}
use Rattle.std.proofs.lemmas.Bool.{lt-ltb, le-ltb, cases_lt}
use Rattle.std.specs.Prelude.{◌-◌}
use Rattle.pkt_line.specs.Packets.{Packet, Payload, Flush, size}
use Rattle.filter_words.specs.declared.words.Status.{Status}
use Rattle.filter_words.specs.declared.words.Status.TheVariants as status
use Rattle.filter_words.specs.declared.smudge_reply.ReplyPhase.TheVariants.{KeyList, Content, LastKeyList}
use Rattle.filter_words.specs.declared.handshake.HandshakePhase.TheVariants.{Server, Version, EndOfHello, Capabilities}
use Rattle.filter_words.specs.Words.{without_lf}
use Rattle.filter_words.specs.Outcomes.{outcome, limit}
use Rattle.filter_words.specs.Requests.{clean_text}
use Rattle.filter_words.specs.Handshake.{handshake_step, handshake_start}
use Rattle.filter_words.specs.SmudgeReply.{reply_step, reply_start, content_in}
use Rattle.filter_words.specs.declared.reply.Caps.{Caps}
use Rattle.filter_words.specs.declared.reply.BreakCause.{BreakCause}
use Rattle.filter_words.specs.declared.reply.BreakCause.TheVariants as broke
use Rattle.filter_words.specs.declared.smudge_reply.GoodReply.{GoodReply}
use Rattle.filter_words.specs.declared.smudge_reply.GoodReply.TheVariants as good
use Rattle.filter_words.specs.declared.smudge_reply.ReplyPhase.{ReplyPhase}
use Rattle.filter_words.specs.declared.handshake.HandshakePhase.{HandshakePhase}
use Rattle.filter_words.specs.declared.answer_state.AnswerState.{AnswerState}
use Rattle.filter_words.specs.declared.answer_state.AnswerState.TheVariants.{On, Done, Broken, Late}
use Rattle.edge_kit.specs.Faults.{Rose, AfterCall}
use Rattle.edge_kit.specs.Files.{grown}
use Rattle.edge_kit.specs.Told.{Tells}
use Rattle.edge_kit.specs.Links.{LinkSeen, IsNewLink}
use Rattle.edge_kit.specs.Starters.{SessionHad, Had, Session, StartFailed, StartOutOfMemory, StartTold, Fails, Gives}
use Rattle.edge_kit.specs.declared.faults.Failed.{Failed}
use Rattle.filter_proto.specs.Wires.{Wire, wire_of, CountsShut}
use Rattle.filter_proto.specs.Exchanges.{Ends, Good, Broke, OutOfMemory, Stops, IsHeard, Unsent, IsAnswered}
use Rattle.filter_proto.specs.Complete.{IsSettled, IsHeardOf, IsHeardOnce}
use Rattle.filter_proto.specs.Openings.{IsOpening, has_clean}
use Rattle.filter_proto.specs.Cleans.{IsCleaning, LacksRoom, HasContent, cleaned_end, standing_after_clean}
use Rattle.filter_proto.specs.declared.session.Standing.{Standing}
use Rattle.filter_proto.specs.declared.session.Standing.TheVariants as standing
use Rattle.filter_proto.specs.declared.clean_session.Cleaned.{Cleaned}
use Rattle.filter_proto.specs.declared.clean_session.Cleaned.TheVariants as cleaned
use Rattle.clean_drivers.specs.declared.cause.CleanCause.{CleanCause}
use Rattle.clean_drivers.specs.declared.cause.CleanCause.TheVariants as cause
use Rattle.clean_drivers.specs.declared.cause.CleanFault.{CleanFault}
use Rattle.clean_drivers.specs.declared.cause.CleanFault.TheVariants.{Refused, NoMemory}
use Rattle.clean_drivers.specs.CleanLines.{answer_of}
use Rattle.clean_drivers.specs.CleanTalks.{Turn, OnLive, AreHad, IsKeptAs, IsUnopenedBy, IsUnopenedFor, IsUnclean, AreRefused, FirstEnds, Follows, HaveSession, IsCleanTalk}
use Rattle.clean_drivers.specs.EqualAnswers.{IsOf, AreOf, AreAskedAlike, HadMemory, EqualAnswers}

abbrev pub ReplyLaw : Type 0
ReplyLaw = IsHeardOnce ReplyPhase GoodReply (reply_step false) reply_start

abbrev pub HandLaw : Type 0
HandLaw = IsHeardOnce HandshakePhase Caps handshake_step handshake_start

-- lists

cut_front : (a b x y : List ℕ) → a ≡ b → a ++ x ≡ b ++ y → x ≡ y
cut_front a b x y same whole = drops b x y (sym (ap (λ (z : List ℕ). z ++ x) same) ∙ whole)
  where
    tails : (p q : ℕ) (xs ys : List ℕ) → p ∷ xs ≡ q ∷ ys → xs ≡ ys
    tails p q xs ys i = cc i

    drops : (b x y : List ℕ) → b ++ x ≡ b ++ y → x ≡ y
    drops [] x y i = i
    drops (p ∷ ps) x y i = drops ps x y (tails p p (ps ++ x) (ps ++ y) i)

some_same : (a b : List ℕ) → Some a ≡ Some b → a ≡ b
some_same a b is = cc is

-- counts

none_rose : (a b : ℕ) → Rose a b → b ≡ 0 → ⊥
none_rose a b rose is = let lt : a < b = rose.risen (λ e. omega (arith, e, is)) in omega (arith, lt, is)

some_rose : (a b : ℕ) → Rose a b → 0 < b
some_rose a zero rose = absurd (none_rose a zero rose refl)
some_rose a (suc b) rose = omega arith

-- what was taken before a read that is told

record WasTold (old : Option (List ℕ)) (came taken : List ℕ) : Type 0 where
  before : List ℕ
  told : old ≡ Some before
  parts : taken ≡ before ++ came

was_told : (old new : Option (List ℕ)) (came taken : List ℕ) → new ≡ grown old came → new ≡ Some taken → WasTold old came taken
was_told None new came taken is told = absurd (cc (sym is ∙ told))
was_told (Some before) new came taken is told = record { before = before; told = refl; parts = sym (some_same (before ++ came) taken (sym is ∙ told)) }

-- no step breaks an answer by an end of input or by a fault of the link

abbrev IsPlain : BreakCause → Type 0
IsPlain broke.Ended = ⊥
IsPlain broke.LinkFault = ⊥
IsPlain why = Unit {0}

abbrev IsPlainState : {P G : Type 0} → AnswerState P G → Type 0
IsPlainState (On p) = Unit {0}
IsPlainState (Done g) = Unit {0}
IsPlainState (Broken why) = IsPlain why
IsPlainState Late = Unit {0}

runs_plain : {P G : Type 0} (step : P → Packet → AnswerState P G) (room : ℕ) (state : AnswerState P G) (ps : List Packet) → ((p : P) (x : Packet) → IsPlainState (step p x)) → IsPlainState state → IsPlainState (outcome step room state ps)
runs_plain step room state [] steps is = is
runs_plain step room (On p) (x ∷ ps) steps is = elim (cases_lt room (size x)) [
  | inl less ↦ rw (lt-ltb room (size x) less) (runs_plain step room (Broken broke.TooLong) ps steps tt)
  | inr more ↦ rw (le-ltb room (size x) more) (runs_plain step (room - size x) (step p x) ps steps (steps p x))
]
runs_plain step room (Done g) (x ∷ ps) steps is = tt
runs_plain step room (Broken why) (x ∷ ps) steps is = tt
runs_plain step room Late (x ∷ ps) steps is = tt

first_plain : (s : Option Status) → IsPlainState (reply_step false (KeyList s) Flush)
first_plain None = tt
first_plain (Some status.Success) = tt
first_plain (Some status.Error) = tt
first_plain (Some status.Abort) = tt
first_plain (Some status.Delayed) = tt
first_plain (Some status.Other) = tt

last_plain : (s : Option Status) → IsPlainState (reply_step false (LastKeyList s) Flush)
last_plain None = tt
last_plain (Some status.Success) = tt
last_plain (Some status.Error) = tt
last_plain (Some status.Abort) = tt
last_plain (Some status.Delayed) = tt
last_plain (Some status.Other) = tt

reply_plain : (p : ReplyPhase) (x : Packet) → IsPlainState (reply_step false p x)
reply_plain (KeyList s) (Payload l) = tt
reply_plain (KeyList s) Flush = first_plain s
reply_plain Content (Payload l) = tt
reply_plain Content Flush = tt
reply_plain (LastKeyList s) (Payload l) = tt
reply_plain (LastKeyList s) Flush = last_plain s

wanted_plain : (b : Bool) (p : HandshakePhase) → IsPlainState {P = HandshakePhase} {G = Caps} (if b then On p else Broken broke.BadHandshake)
wanted_plain true p = tt
wanted_plain false p = tt

hand_plain : (p : HandshakePhase) (x : Packet) → IsPlainState (handshake_step p x)
hand_plain Server (Payload l) = wanted_plain (bytes_eq (without_lf l) _) Version
hand_plain Server Flush = tt
hand_plain Version (Payload l) = wanted_plain (bytes_eq (without_lf l) _) EndOfHello
hand_plain Version Flush = tt
hand_plain EndOfHello (Payload l) = tt
hand_plain EndOfHello Flush = tt
hand_plain (Capabilities c) (Payload l) = tt
hand_plain (Capabilities c) Flush = tt

-- how the reading of an answer stopped, where no link failed

never_broke : {G : Type 0} (why other : BreakCause) (end : Ends G) → end ≡ Broke why → end ≡ Broke other → why ≡ other
never_broke why other end is so = cc (is, so)

plain_settled : {G : Type 0} (why : BreakCause) (end : Ends G) → end ≡ Broke why → IsPlain why → IsSettled end
plain_settled why (Good g) is plain = tt
plain_settled why OutOfMemory is plain = absurd (cc is)
plain_settled why (Broke broke.LinkFault) is plain = absurd (subst IsPlain (never_broke why broke.LinkFault (Broke broke.LinkFault) is refl) plain)
plain_settled why (Broke broke.Ended) is plain = tt
plain_settled why (Broke broke.BadPacket) is plain = tt
plain_settled why (Broke broke.BadHandshake) is plain = tt
plain_settled why (Broke broke.UnknownStatus) is plain = tt
plain_settled why (Broke broke.StrangeDelay) is plain = tt
plain_settled why (Broke broke.TooLong) is plain = tt
plain_settled why (Broke broke.StrangePath) is plain = tt
plain_settled why (Broke broke.ListRefused) is plain = tt

stops_settled : {P G : Type 0} (state : AnswerState P G) (old new : Wire) (end : Ends G) → IsPlainState state → Stops state old new end → new.faults ≡ 0 → IsSettled end
stops_settled (On phase) old new (Good g) plain stops none = tt
stops_settled (On phase) old new OutOfMemory plain stops none = absurd stops
stops_settled (On phase) old new (Broke broke.Ended) plain stops none = tt
stops_settled (On phase) old new (Broke broke.LinkFault) plain stops none = absurd (none_rose old.faults new.faults stops.1 none)
stops_settled (On phase) old new (Broke broke.BadPacket) plain stops none = tt
stops_settled (On phase) old new (Broke broke.BadHandshake) plain stops none = tt
stops_settled (On phase) old new (Broke broke.UnknownStatus) plain stops none = tt
stops_settled (On phase) old new (Broke broke.StrangeDelay) plain stops none = tt
stops_settled (On phase) old new (Broke broke.TooLong) plain stops none = tt
stops_settled (On phase) old new (Broke broke.StrangePath) plain stops none = tt
stops_settled (On phase) old new (Broke broke.ListRefused) plain stops none = tt
stops_settled {P} {G} (Done g) old new end plain stops none = subst (λ (e : Ends G). IsSettled e) (sym stops.0) tt
stops_settled (Broken why) old new end plain stops none = plain_settled why end stops.0 plain
stops_settled Late old new end plain stops none = absurd stops

stops_ended : {P G : Type 0} (state : AnswerState P G) (old new : Wire) (end : Ends G) → IsPlainState state → Stops state old new end → end ≡ Broke broke.Ended → 0 < new.ends
stops_ended (On phase) old new (Good g) plain stops is = absurd stops
stops_ended (On phase) old new OutOfMemory plain stops is = absurd stops
stops_ended (On phase) old new (Broke broke.Ended) plain stops is = some_rose old.ends new.ends stops.1
stops_ended (On phase) old new (Broke broke.LinkFault) plain stops is = absurd (cc is)
stops_ended (On phase) old new (Broke broke.BadPacket) plain stops is = absurd (cc is)
stops_ended (On phase) old new (Broke broke.BadHandshake) plain stops is = absurd stops
stops_ended (On phase) old new (Broke broke.UnknownStatus) plain stops is = absurd stops
stops_ended (On phase) old new (Broke broke.StrangeDelay) plain stops is = absurd stops
stops_ended (On phase) old new (Broke broke.TooLong) plain stops is = absurd stops
stops_ended (On phase) old new (Broke broke.StrangePath) plain stops is = absurd stops
stops_ended (On phase) old new (Broke broke.ListRefused) plain stops is = absurd stops
stops_ended (Done g) old new end plain stops is = absurd (cc (sym stops.0 ∙ is))
stops_ended (Broken why) old new end plain stops is = absurd (subst IsPlain (never_broke why broke.Ended end stops.0 is) plain)
stops_ended Late old new end plain stops is = absurd stops

-- the faults of a link never fall

stops_faults : {P G : Type 0} (state : AnswerState P G) (old new : Wire) (end : Ends G) → Stops state old new end → old.faults ≤ new.faults
stops_faults (On phase) old new (Good g) stops = absurd stops
stops_faults (On phase) old new OutOfMemory stops = absurd stops
stops_faults (On phase) old new (Broke broke.Ended) stops = let same : new.faults ≡ old.faults = stops.2 in omega (arith, same)
stops_faults (On phase) old new (Broke broke.LinkFault) stops = stops.1.kept
stops_faults (On phase) old new (Broke broke.BadPacket) stops = let same : new.faults ≡ old.faults = stops.1.0 in omega (arith, same)
stops_faults (On phase) old new (Broke broke.BadHandshake) stops = absurd stops
stops_faults (On phase) old new (Broke broke.UnknownStatus) stops = absurd stops
stops_faults (On phase) old new (Broke broke.StrangeDelay) stops = absurd stops
stops_faults (On phase) old new (Broke broke.TooLong) stops = absurd stops
stops_faults (On phase) old new (Broke broke.StrangePath) stops = absurd stops
stops_faults (On phase) old new (Broke broke.ListRefused) stops = absurd stops
stops_faults (Done g) old new end stops = let same : new.faults ≡ old.faults = stops.1.0 in omega (arith, same)
stops_faults (Broken why) old new end stops = let same : new.faults ≡ old.faults = stops.1.0 in omega (arith, same)
stops_faults Late old new end stops = absurd stops

no_faults : (a b : ℕ) → a ≤ b → b ≡ 0 → a ≡ 0
no_faults a b le is = omega (arith, le, is)

-- an answer that was read from the front of an output, of which this is left behind it
record IsReadOf {P G : Type 0} (step : P → Packet → AnswerState P G) (start : AnswerState P G) (output later : List ℕ) (end : Ends G) (extra : List Packet → Type 0) : Type 0 where
  old : Wire
  new : Wire
  of : IsHeardOf step start output old new end
  parts : output ≡ of.heard.used ++ later
  done : extra of.heard.packets

read_of : {P G : Type 0} (step : P → Packet → AnswerState P G) (start : AnswerState P G) (old new : Wire) (end : Ends G) (extra : List Packet → Type 0) → ((p : P) (x : Packet) → IsPlainState (step p x)) → IsPlainState start
    → (h : IsHeard step start old new end extra) (ahead : List ℕ) → (0 < new.ends → end ≡ Broke broke.Ended → ahead ≡ []) → new.faults ≡ 0 → IsReadOf step start (old.unread ++ (h.took.came ++ ahead)) (new.unread ++ ahead) end extra
read_of step start old new end extra steps first h ahead ended none =
    let plain = runs_plain step limit start h.packets steps first in record {
      old = old;
      new = new;
      of = record {
        heard = record { packets = h.packets; used = h.used; spelled = h.spelled; took = h.took; stops = h.stops; done = tt };
        ahead = ahead;
        whole = refl;
        ended = λ is. ended (stops_ended (outcome step limit start h.packets) old new end plain h.stops is) is;
        settled = stops_settled (outcome step limit start h.packets) old new end plain h.stops none;
      };
      parts = sym (append_assoc old.unread h.took.came ahead) ∙ ap (λ (l : List ℕ). l ++ ahead) h.took.unread ∙ append_assoc h.used new.unread ahead;
      done = h.done;
    }

record AreSame {P G : Type 0} (step : P → Packet → AnswerState P G) (start : AnswerState P G) (output l m : List ℕ) (x y : Ends G) (e f : List Packet → Type 0) (a : IsReadOf step start output l x e) (b : IsReadOf step start output m y f) : Type 0 where
  ends : x ≡ y
  packets : (g : G) → x ≡ Good g → a.of.heard.packets ≡ b.of.heard.packets
  later : (g : G) → x ≡ Good g → l ≡ m

same_read : {P G : Type 0} (step : P → Packet → AnswerState P G) (start : AnswerState P G) → IsHeardOnce P G step start → (output l m : List ℕ) (x y : Ends G) (e f : List Packet → Type 0) (a : IsReadOf step start output l x e) (b : IsReadOf step start output m y f)
    → AreSame step start output l m x y e f a b
same_read step start law output l m x y e f a b =
    let both = law output a.old a.new b.old b.new x y a.of b.of in record {
      ends = both.0;
      packets = λ g is. (both.1 g is).0;
      later = λ g is. cut_front a.of.heard.used b.of.heard.used l m (both.1 g is).1 (sym a.parts ∙ b.parts);
    }

-- a reply by its end and its content

abbrev reply_by : Ends GoodReply → List ℕ → Cleaned
reply_by (Good good.Content) bytes = cleaned.Content bytes
reply_by (Good good.Error) bytes = cleaned.Error
reply_by (Good good.ErrorAfter) bytes = cleaned.ErrorAfter
reply_by (Good good.Abort) bytes = cleaned.Abort
reply_by (Good good.Delayed) bytes = cleaned.NoMemory
reply_by (Broke why) bytes = cleaned.Broken why
reply_by OutOfMemory bytes = cleaned.NoMemory

abbrev bytes_in : Ends GoodReply → List Packet → List ℕ
bytes_in (Good good.Content) packets = content_in false reply_start packets
bytes_in (Good good.Error) packets = []
bytes_in (Good good.ErrorAfter) packets = []
bytes_in (Good good.Abort) packets = []
bytes_in (Good good.Delayed) packets = []
bytes_in (Broke why) packets = []
bytes_in OutOfMemory packets = []

reply_is : (x : Cleaned) (packets : List Packet) → HasContent x packets → x ≡ reply_by (cleaned_end x) (bytes_in (cleaned_end x) packets)
reply_is (cleaned.Content bytes) packets has = ap (λ (b : List ℕ). cleaned.Content b) has
reply_is cleaned.Error packets has = refl
reply_is cleaned.ErrorAfter packets has = refl
reply_is cleaned.Abort packets has = refl
reply_is (cleaned.Broken why) packets has = refl
reply_is cleaned.NoMemory packets has = refl

same_bytes : (end : Ends GoodReply) (ps qs : List Packet) → ((g : GoodReply) → end ≡ Good g → ps ≡ qs) → bytes_in end ps ≡ bytes_in end qs
same_bytes (Good good.Content) ps qs same = ap (λ (l : List Packet). content_in false reply_start l) (same good.Content refl)
same_bytes (Good good.Error) ps qs same = refl
same_bytes (Good good.ErrorAfter) ps qs same = refl
same_bytes (Good good.Abort) ps qs same = refl
same_bytes (Good good.Delayed) ps qs same = refl
same_bytes (Broke why) ps qs same = refl
same_bytes OutOfMemory ps qs same = refl

same_reply : (x y : Cleaned) (ps qs : List Packet) → HasContent x ps → HasContent y qs → cleaned_end x ≡ cleaned_end y → ((g : GoodReply) → cleaned_end x ≡ Good g → ps ≡ qs) → x ≡ y
same_reply x y ps qs has has' ends packets =
    reply_is x ps has ∙ ap (λ (b : List ℕ). reply_by (cleaned_end x) b) (same_bytes (cleaned_end x) ps qs packets)
    ∙ ap (λ (e : Ends GoodReply). reply_by e (bytes_in e qs)) ends ∙ sym (reply_is y qs has')

-- the turns of a session, by what was left of its output before each

abbrev Reads : List Turn → List ℕ → Standing → Type 0
Reads [] output how = how ≡ standing.Live
Reads (t ∷ ts) output how = (reply : Cleaned) × (later : List ℕ) × IsReadOf (reply_step false) reply_start output later (cleaned_end reply) (HasContent reply)
    × (t.answer ≡ answer_of reply) × OnLive (standing_after_clean reply) (Reads ts later how) ((ts ≡ []) × (how ≡ standing_after_clean reply))

record FromHere (old : Wire) (ts : List Turn) (how : Standing) (taken ahead : List ℕ) : Type 0 where
  before : List ℕ
  told : old.taken ≡ Some before
  more : List ℕ
  parts : taken ≡ before ++ more
  reads : Reads ts (old.unread ++ (more ++ ahead)) how
  unfailed : old.faults ≡ 0

record FromMid (reply : Cleaned) (mid : Wire) (ts : List Turn) (how : Standing) (taken ahead : List ℕ) : Type 0 where
  before : List ℕ
  told : mid.taken ≡ Some before
  more : List ℕ
  parts : taken ≡ before ++ more
  goes : OnLive (standing_after_clean reply) (Reads ts (mid.unread ++ (more ++ ahead)) how) ((ts ≡ []) × (how ≡ standing_after_clean reply))
  ended : 0 < mid.ends → cleaned_end reply ≡ Broke broke.Ended → more ++ ahead ≡ []
  unfailed : mid.faults ≡ 0

module _ (t : Turn) (ts : List Turn) (old mid : Wire) (how : Standing) (taken ahead : List ℕ) where
  answered_read : (reply : Cleaned) → IsAnswered (reply_step false) reply_start (clean_text t.path t.content) old mid (cleaned_end reply) (HasContent reply) → t.answer ≡ answer_of reply → FromMid reply mid ts how taken ahead
      → FromHere old (t ∷ ts) how taken ahead
  answered_read reply answered answers from =
      let h = answered.heard in
      let was = was_told old.taken mid.taken h.took.came from.before h.took.taken from.told in
      let one = read_of (reply_step false) reply_start old mid (cleaned_end reply) (HasContent reply) reply_plain tt h (from.more ++ ahead) from.ended from.unfailed in record {
        before = was.before;
        told = was.told;
        more = h.took.came ++ from.more;
        parts = from.parts ∙ ap (λ (l : List ℕ). l ++ from.more) was.parts ∙ append_assoc was.before h.took.came from.more;
        reads = (
          reply,
          mid.unread ++ (from.more ++ ahead),
          subst (λ (l : List ℕ). IsReadOf (reply_step false) reply_start (old.unread ++ l) (mid.unread ++ (from.more ++ ahead)) (cleaned_end reply) (HasContent reply)) (sym (append_assoc h.took.came from.more ahead)) one,
          answers,
          from.goes,
        );
        unfailed = no_faults old.faults mid.faults (stops_faults (outcome (reply_step false) limit reply_start h.packets) old mid (cleaned_end reply) h.stops) from.unfailed;
      }

  -- a request that wasn't sent whole
  unsent_read : (reply : Cleaned) → Unsent old mid (cleaned_end reply) → t.answer ≡ answer_of reply → (t.answer ≡ Err NoMemory → ⊥) → mid.faults ≡ 0 → ⊥
  unsent_read (cleaned.Content bytes) why answers memory none = why
  unsent_read cleaned.Error why answers memory none = why
  unsent_read cleaned.ErrorAfter why answers memory none = why
  unsent_read cleaned.Abort why answers memory none = why
  unsent_read (cleaned.Broken broke.Ended) why answers memory none = why
  unsent_read (cleaned.Broken broke.LinkFault) why answers memory none = none_rose old.faults mid.faults why none
  unsent_read (cleaned.Broken broke.BadPacket) why answers memory none = why
  unsent_read (cleaned.Broken broke.BadHandshake) why answers memory none = why
  unsent_read (cleaned.Broken broke.UnknownStatus) why answers memory none = why
  unsent_read (cleaned.Broken broke.StrangeDelay) why answers memory none = why
  unsent_read (cleaned.Broken broke.TooLong) why answers memory none = why
  unsent_read (cleaned.Broken broke.StrangePath) why answers memory none = why
  unsent_read (cleaned.Broken broke.ListRefused) why answers memory none = why
  unsent_read cleaned.NoMemory why answers memory none = memory answers

  lacking : (reply : Cleaned) → LacksRoom (clean_text t.path t.content) old mid reply → t.answer ≡ answer_of reply → (t.answer ≡ Err NoMemory → ⊥) → ⊥
  lacking (cleaned.Content bytes) lacks answers memory = lacks
  lacking cleaned.Error lacks answers memory = lacks
  lacking cleaned.ErrorAfter lacks answers memory = lacks
  lacking cleaned.Abort lacks answers memory = lacks
  lacking (cleaned.Broken why) lacks answers memory = lacks
  lacking cleaned.NoMemory lacks answers memory = memory answers

  one_read : (reply : Cleaned) → IsCleaning (clean_text t.path t.content) old mid reply → t.answer ≡ answer_of reply → (t.answer ≡ Err NoMemory → ⊥) → FromMid reply mid ts how taken ahead → FromHere old (t ∷ ts) how taken ahead
  one_read reply (inl (inl unsent)) answers memory from = absurd (unsent_read reply unsent.why answers memory from.unfailed)
  one_read reply (inl (inr answered)) answers memory from = answered_read reply answered answers from
  one_read reply (inr lacks) answers memory from = absurd (lacking reply lacks answers memory)

module _ (ts : List Turn) (mid last : Wire) (how : Standing) (taken ahead : List ℕ) (told : last.taken ≡ Some taken) (none : last.faults ≡ 0) (ended : 0 < last.ends → ahead ≡ []) where
  over_mid : (reply : Cleaned) → (ts ≡ []) × (last ≡ mid) × (how ≡ standing_after_clean reply) → (((ts ≡ []) × (how ≡ standing_after_clean reply)) → OnLive (standing_after_clean reply) (Reads ts (mid.unread ++ ahead) how) ((ts ≡ []) × (how ≡ standing_after_clean reply)))
      → FromMid reply mid ts how taken ahead
  over_mid reply (no_more, same, stands) goes = record {
    before = taken;
    told = ap (λ (w : Wire). w.taken) (sym same) ∙ told;
    more = [];
    parts = sym (append-nil taken);
    goes = goes (no_more, stands);
    ended = λ lt is. ended (subst (λ (w : Wire). 0 < w.ends) (sym same) lt);
    unfailed = ap (λ (w : Wire). w.faults) (sym same) ∙ none;
  }

  mid_of : (reply : Cleaned) → OnLive (standing_after_clean reply) (AreHad ts mid last how) ((ts ≡ []) × (last ≡ mid) × (how ≡ standing_after_clean reply)) → (AreHad ts mid last how → FromHere mid ts how taken ahead) → FromMid reply mid ts how taken ahead
  mid_of (cleaned.Content bytes) goes rest = let h = rest goes in record { before = h.before; told = h.told; more = h.more; parts = h.parts; goes = h.reads; ended = λ lt is. absurd (cc is); unfailed = h.unfailed }
  mid_of cleaned.Error goes rest = let h = rest goes in record { before = h.before; told = h.told; more = h.more; parts = h.parts; goes = h.reads; ended = λ lt is. absurd (cc is); unfailed = h.unfailed }
  mid_of cleaned.ErrorAfter goes rest = let h = rest goes in record { before = h.before; told = h.told; more = h.more; parts = h.parts; goes = h.reads; ended = λ lt is. absurd (cc is); unfailed = h.unfailed }
  mid_of cleaned.Abort goes rest = over_mid cleaned.Abort goes (λ is. is)
  mid_of (cleaned.Broken why) goes rest = over_mid (cleaned.Broken why) goes (λ is. is)
  mid_of cleaned.NoMemory goes rest = over_mid cleaned.NoMemory goes (λ is. is)

reads : (ts : List Turn) (old last : Wire) (how : Standing) (taken ahead : List ℕ) → AreHad ts old last how → HadMemory ts → last.taken ≡ Some taken → last.faults ≡ 0 → (0 < last.ends → ahead ≡ []) → FromHere old ts how taken ahead
reads [] old last how taken ahead (same, live) memory told none ended = record {
  before = taken;
  told = ap (λ (w : Wire). w.taken) (sym same) ∙ told;
  more = [];
  parts = sym (append-nil taken);
  reads = live;
  unfailed = ap (λ (w : Wire). w.faults) (sym same) ∙ none;
}
reads (t ∷ ts) old last how taken ahead (mid, reply, cleaning, answers, goes) (memory, rest) told none ended =
    one_read t ts old mid how taken ahead reply cleaning answers memory (mid_of ts mid last how taken ahead told none ended reply goes (λ had. reads ts mid last how taken ahead had rest told none ended))

-- a session at its end, and as its starter keeps it

record IsAtEnd (last : Wire) (seen : SessionHad) : Type 0 where
  taken : last.taken ≡ seen.taken
  faults : seen.faults ≡ 0 → last.faults ≡ 0
  ends : last.ends ≡ seen.ends

after_call : (a b : ℕ) (r : Result ⊤ Failed) → AfterCall a b r → a ≤ b
after_call a b (Ok x) is = omega (arith, is)
after_call a b (Err e) rose = rose.kept

shut_faults : (how : Standing) (input end : Result ⊤ Failed) (a b : ℕ) → CountsShut how input end a b → a ≤ b
shut_faults standing.Live input end a b counts = let one = after_call a counts.between input counts.closed in let two = after_call counts.between b end counts.waited in omega (arith, one, two)
shut_faults standing.Aborted input end a b counts = let one = after_call a counts.between input counts.closed in let two = after_call counts.between b end counts.waited in omega (arith, one, two)
shut_faults standing.Over input end a b counts = let same : b ≡ a = counts.0 in omega (arith, same)

at_end : (last : Wire) (how : Standing) (seen : SessionHad) → IsKeptAs last how seen → IsAtEnd last seen
at_end last how seen kept = record {
  taken = ap (λ (w : Wire). w.taken) (sym kept.shut.kept) ∙ ap (λ (s : SessionHad). s.taken) (sym kept.is);
  faults = λ none. no_faults last.faults kept.link.faults (shut_faults how kept.shut.input kept.shut.end last.faults kept.link.faults kept.shut.counts) (ap (λ (s : SessionHad). s.faults) (sym kept.is) ∙ none);
  ends = ap (λ (w : Wire). w.ends) (sym kept.shut.kept) ∙ ap (λ (s : SessionHad). s.ends) (sym kept.is);
}

-- the handshake of a session with this output

fresh_taken : (taken : Option (List ℕ)) (before : List ℕ) → Tells taken [] → taken ≡ Some before → before ≡ []
fresh_taken None before tells told = absurd (cc told)
fresh_taken (Some bytes) before tells told = some_same before bytes (sym told) ∙ tells

abbrev IsHandOf : List ℕ → List ℕ → Ends Caps → (List Packet → Type 0) → Type 0
IsHandOf output later end extra = IsReadOf handshake_step handshake_start output later end extra

module _ (output : List ℕ) (seen : SessionHad) (of : IsOf output seen) (link : LinkSeen) (fresh : IsNewLink link) (new : Wire) (before more : List ℕ) (told : new.taken ≡ Some before) (parts : of.taken ≡ before ++ more) (none : new.faults ≡ 0) where
  hand_of : (end : Ends Caps) (extra : List Packet → Type 0) → IsHeard handshake_step handshake_start (wire_of [] link) new end extra → (0 < new.ends → end ≡ Broke broke.Ended → more ++ of.ahead ≡ []) → IsHandOf output (new.unread ++ (more ++ of.ahead)) end extra
  hand_of end extra h ended =
      let was = was_told link.taken new.taken h.took.came before h.took.taken told in
      let nothing : was.before ≡ [] = fresh_taken link.taken was.before fresh.taken was.told in
      let came : before ≡ h.took.came = was.parts ∙ ap (λ (l : List ℕ). l ++ h.took.came) nothing in
      let whole : output ≡ h.took.came ++ (more ++ of.ahead) = of.whole ∙ ap (λ (l : List ℕ). l ++ of.ahead) (parts ∙ ap (λ (l : List ℕ). l ++ more) came) ∙ append_assoc h.took.came more of.ahead in
      subst (λ (l : List ℕ). IsHandOf l (new.unread ++ (more ++ of.ahead)) end extra) (sym whole)
      (read_of handshake_step handshake_start (wire_of [] link) new end extra hand_plain tt h (more ++ of.ahead) ended none)

-- a handshake that gave no session was broken
module _ (output : List ℕ) (seen : SessionHad) (of : IsOf output seen) (why : BreakCause) (is : IsUnopenedBy (Broke why) seen) where
  abbrev Breaks : Type 0
  Breaks = (later : List ℕ) × IsHandOf output later (Broke why) (λ _. Unit {0})

  end_of : IsAtEnd is.last seen
  end_of = at_end is.last standing.Over seen is.kept

  never_unsent : (old new : Wire) (why : BreakCause) → Unsent {G = Caps} old new (Broke why) → new.faults ≡ 0 → ⊥
  never_unsent old new broke.Ended unsent none = unsent
  never_unsent old new broke.LinkFault unsent none = none_rose old.faults new.faults unsent none
  never_unsent old new broke.BadPacket unsent none = unsent
  never_unsent old new broke.BadHandshake unsent none = unsent
  never_unsent old new broke.UnknownStatus unsent none = unsent
  never_unsent old new broke.StrangeDelay unsent none = unsent
  never_unsent old new broke.TooLong unsent none = unsent
  never_unsent old new broke.StrangePath unsent none = unsent
  never_unsent old new broke.ListRefused unsent none = unsent

  breaks_so : (extra : List Packet → Type 0) → IsHeard handshake_step handshake_start (wire_of [] is.link) is.last (Broke why) extra → Breaks
  breaks_so extra h = (
    is.last.unread ++ ([] ++ of.ahead),
    hand_of output seen of is.link is.fresh is.last of.taken [] (end_of.taken ∙ of.told) (sym (append-nil of.taken)) (end_of.faults of.unfailed) (Broke why) (λ _. Unit {0})
        (record { packets = h.packets; used = h.used; spelled = h.spelled; took = h.took; stops = h.stops; done = tt })
        (λ lt ended. of.ended (subst (λ (n : ℕ). 0 < n) end_of.ends lt)),
  )

  breaks : Breaks
  breaks = by is.opening
    where
      by : IsOpening (wire_of [] is.link) is.last (Broke why) → Breaks
      by (inl unsent) = absurd (never_unsent (wire_of [] is.link) is.last why unsent.why (end_of.faults of.unfailed))
      by (inr (inl refused)) = breaks_so _ refused.heard
      by (inr (inr (inl caps))) = absurd (never_unsent caps.mid is.last why caps.unsent.why (end_of.faults of.unfailed))
      by (inr (inr (inr opened))) = breaks_so _ opened.heard

-- what a session says, by its output
record HaveReads (output : List ℕ) (ts : List Turn) (items : List Had) (talk : List Turn → Type 0) : Type 0 where
  own : List Turn
  rest : List Turn
  parts : ts ≡ own ++ rest
  how : Standing
  caps : Caps
  later : List ℕ
  hand : IsHandOf output later (Good caps) (λ ps. has_clean ps ≡ true)
  reads : Reads own later how
  follows : Follows how rest items (talk rest)

abbrev Says : List ℕ → List Had → List Turn → Type 0
Says output items ts =
    ((why : BreakCause) × (later : List ℕ) × IsHandOf output later (Broke why) (λ _. Unit {0}) × FirstEnds (Refused (cause.Broken why)) ts (λ rest. IsCleanTalk items rest))
    ⊎ ((caps : Caps) × (later : List ℕ) × IsHandOf output later (Good caps) (λ ps. has_clean ps ≡ false) × AreRefused cause.NoClean ts)
    ⊎ HaveReads output ts items (λ rest. IsCleanTalk items rest)

memory_front : (own rest : List Turn) → HadMemory (own ++ rest) → HadMemory own
memory_front [] rest memory = tt
memory_front (t ∷ ts) rest memory = (memory.0, memory_front ts rest memory.1)

module _ (output : List ℕ) (seen : SessionHad) (of : IsOf output seen) (items : List Had) where
  unopened_says : (ts : List Turn) (fault : CleanFault) → IsUnopenedFor fault seen → HadMemory ts → FirstEnds fault ts (λ rest. IsCleanTalk items rest) → Says output items ts
  unopened_says ts (Refused (cause.Broken why)) is memory first = let b = breaks output seen of why is in inl (why, b.0, b.1, first)
  unopened_says ts (Refused cause.Error) is memory first = absurd is
  unopened_says ts (Refused cause.ErrorAfter) is memory first = absurd is
  unopened_says ts (Refused cause.Abort) is memory first = absurd is
  unopened_says ts (Refused cause.NoClean) is memory first = absurd is
  unopened_says ts (Refused cause.NotStarted) is memory first = absurd is
  unopened_says [] NoMemory is memory first = absurd first
  unopened_says (t ∷ ts) NoMemory is memory first = absurd (memory.0 first.0)

  unclean_says : (ts : List Turn) → IsUnclean seen → AreRefused cause.NoClean ts → Says output items ts
  unclean_says ts is refused =
      let end = at_end is.last standing.Live seen is.kept in
      let h = is.opened.0.heard in
      inr (inl (
        is.caps,
        is.last.unread ++ ([] ++ of.ahead),
        hand_of output seen of is.link is.fresh is.last of.taken [] (end.taken ∙ of.told) (sym (append-nil of.taken)) (end.faults of.unfailed) (Good is.caps) (λ ps. has_clean ps ≡ false)
            (record { packets = h.packets; used = h.used; spelled = h.spelled; took = h.took; stops = h.stops; done = is.opened.1 }) (λ lt ended. absurd (cc ended)),
        refused,
      ))

  had_says : (ts : List Turn) (have : HaveSession ts seen items (λ rest. IsCleanTalk items rest)) → HadMemory ts → Says output items ts
  had_says ts have memory =
      let is = have.session in
      let end = at_end is.last have.how seen is.kept in
      let all : HadMemory ((have.first ∷ have.more) ++ have.rest) = subst HadMemory have.parts memory in
      let from = reads (have.first ∷ have.more) is.begun is.last have.how of.taken of.ahead is.had (memory_front (have.first ∷ have.more) have.rest all) (end.taken ∙ of.told) (end.faults of.unfailed)
      (λ lt. of.ended (subst (λ (n : ℕ). 0 < n) end.ends lt)) in
      let h = is.opened.0.heard in
      inr (inr (record {
        own = have.first ∷ have.more;
        rest = have.rest;
        parts = have.parts;
        how = have.how;
        caps = is.caps;
        later = is.begun.unread ++ (from.more ++ of.ahead);
        hand = hand_of output seen of is.link is.fresh is.begun from.before from.more from.told from.parts from.unfailed (Good is.caps) (λ ps. has_clean ps ≡ true)
            (record { packets = h.packets; used = h.used; spelled = h.spelled; took = h.took; stops = h.stops; done = is.opened.1 }) (λ lt ended. absurd (cc ended));
        reads = from.reads;
        follows = have.follows;
      }))

  session_says : (ts : List Turn) → IsCleanTalk (Session seen ∷ items) ts → HadMemory ts → Says output items ts
  session_says ts (inl (fault, is, first)) memory = unopened_says ts fault is memory first
  session_says ts (inr (inl none)) memory = unclean_says ts none.session none.refused
  session_says ts (inr (inr have)) memory = had_says ts have memory

-- two talks

abbrev turn : List ℕ → List ℕ → Result (List ℕ) CleanFault → Turn
turn path content answer = record { path = path; content = content; answer = answer }

turn_same : (t u : Turn) → t.path ≡ u.path → t.content ≡ u.content → t.answer ≡ u.answer → t ≡ u
turn_same t u path content answer =
    ap (λ (x : List ℕ). turn x t.content t.answer) path ∙ ap (λ (x : List ℕ). turn u.path x t.answer) content ∙ ap (λ (x : Result (List ℕ) CleanFault). turn u.path u.content x) answer

both_same : (t u : Turn) (ts us : List Turn) → t ≡ u → ts ≡ us → t ∷ ts ≡ u ∷ us
both_same t u ts us first rest = ap (λ (x : Turn). x ∷ ts) first ∙ ap (λ (l : List Turn). u ∷ l) rest

refused_same : (why : CleanCause) (a b : List Turn) → AreAskedAlike a b → AreRefused why a → AreRefused why b → a ≡ b
refused_same why [] [] alike one two = refl
refused_same why [] (u ∷ us) alike one two = absurd alike
refused_same why (t ∷ ts) [] alike one two = absurd alike
refused_same why (t ∷ ts) (u ∷ us) (path, content, alike) (answer, one) (other, two) =
    both_same t u ts us (turn_same t u path content (answer ∙ sym other)) (refused_same why ts us alike one two)

abbrev Same : List Turn → List Turn → Type 0
Same a b = a ≡ b

module _ (replies_law : ReplyLaw) (hand_law : HandLaw) (i j : List Had)
    (again : (a b : List Turn) → AreAskedAlike a b → HadMemory a → HadMemory b → IsCleanTalk i a → IsCleanTalk j b → a ≡ b) where
  -- behind a session that is over
  behind : (how how' : Standing) (st : Standing) → how ≡ st → how' ≡ st → (st ≡ standing.Live → ⊥) → (a b : List Turn) → AreAskedAlike a b → HadMemory a → HadMemory b
      → Follows how a i (IsCleanTalk i a) → Follows how' b j (IsCleanTalk j b) → a ≡ b
  behind how how' standing.Live is is' over a b alike m n f g = absurd (over refl)
  behind how how' standing.Aborted is is' over a b alike m n f g =
      let f' : Follows standing.Aborted a i (IsCleanTalk i a) = subst (λ (s : Standing). Follows s a i (IsCleanTalk i a)) is f in
      let g' : Follows standing.Aborted b j (IsCleanTalk j b) = subst (λ (s : Standing). Follows s b j (IsCleanTalk j b)) is' g in
      refused_same cause.Abort a b alike f'.0 g'.0
  behind how how' standing.Over is is' over a b alike m n f g =
      again a b alike m n (subst (λ (s : Standing). Follows s a i (IsCleanTalk i a)) is f) (subst (λ (s : Standing). Follows s b j (IsCleanTalk j b)) is' g)

  module _ (how how' : Standing) (rest rest' : List Turn) (f : Follows how rest i (IsCleanTalk i rest)) (g : Follows how' rest' j (IsCleanTalk j rest')) where
    none_left : how ≡ standing.Live → rest ≡ []
    none_left is = let f' : Follows standing.Live rest i (IsCleanTalk i rest) = subst (λ (s : Standing). Follows s rest i (IsCleanTalk i rest)) is f in f'.0

    none_left' : how' ≡ standing.Live → rest' ≡ []
    none_left' is = let g' : Follows standing.Live rest' j (IsCleanTalk j rest') = subst (λ (s : Standing). Follows s rest' j (IsCleanTalk j rest')) is g in g'.0

    -- a turn that was the last of its session in both
    last_turn : (st : Standing) → (st ≡ standing.Live → ⊥) → (ts us : List Turn) → AreAskedAlike (ts ++ rest) (us ++ rest') → HadMemory (ts ++ rest) → HadMemory (us ++ rest') → (ts ≡ []) × (how ≡ st) → (us ≡ []) × (how' ≡ st) → ts ++ rest ≡ us ++ rest'
    last_turn st over ts us alike m n (none, is) (none', is') =
        let one : ts ++ rest ≡ rest = ap (λ (l : List Turn). l ++ rest) none in
        let two : us ++ rest' ≡ rest' = ap (λ (l : List Turn). l ++ rest') none' in
        one ∙ behind how how' st is is' over rest rest' (subst (λ (l : List Turn). AreAskedAlike l rest') one (subst (λ (l : List Turn). AreAskedAlike (ts ++ rest) l) two alike)) (subst HadMemory one m) (subst HadMemory two n) f g ∙ sym two

    after_turn : (x : Cleaned) (ts us : List Turn) (l : List ℕ) → AreAskedAlike (ts ++ rest) (us ++ rest') → HadMemory (ts ++ rest) → HadMemory (us ++ rest') → (Reads ts l how → Reads us l how' → ts ++ rest ≡ us ++ rest')
        → OnLive (standing_after_clean x) (Reads ts l how) ((ts ≡ []) × (how ≡ standing_after_clean x)) → OnLive (standing_after_clean x) (Reads us l how') ((us ≡ []) × (how' ≡ standing_after_clean x)) → ts ++ rest ≡ us ++ rest'
    after_turn (cleaned.Content bytes) ts us l alike m n more one two = more one two
    after_turn cleaned.Error ts us l alike m n more one two = more one two
    after_turn cleaned.ErrorAfter ts us l alike m n more one two = more one two
    after_turn cleaned.Abort ts us l alike m n more one two = last_turn standing.Aborted (λ e. cc e) ts us alike m n one two
    after_turn (cleaned.Broken why) ts us l alike m n more one two = last_turn standing.Over (λ e. cc e) ts us alike m n one two
    after_turn cleaned.NoMemory ts us l alike m n more one two = last_turn standing.Over (λ e. cc e) ts us alike m n one two

    -- what is left behind a good reply
    later_for : (x : Cleaned) (us : List Turn) (l m : List ℕ) → ((k : GoodReply) → cleaned_end x ≡ Good k → l ≡ m) → OnLive (standing_after_clean x) (Reads us m how') ((us ≡ []) × (how' ≡ standing_after_clean x))
        → OnLive (standing_after_clean x) (Reads us l how') ((us ≡ []) × (how' ≡ standing_after_clean x))
    later_for (cleaned.Content bytes) us l m same on = subst (λ (z : List ℕ). Reads us z how') (sym (same good.Content refl)) on
    later_for cleaned.Error us l m same on = subst (λ (z : List ℕ). Reads us z how') (sym (same good.Error refl)) on
    later_for cleaned.ErrorAfter us l m same on = subst (λ (z : List ℕ). Reads us z how') (sym (same good.ErrorAfter refl)) on
    later_for cleaned.Abort us l m same on = on
    later_for (cleaned.Broken why) us l m same on = on
    later_for cleaned.NoMemory us l m same on = on

    same_had : (own own' : List Turn) (output : List ℕ) → Reads own output how → Reads own' output how' → AreAskedAlike (own ++ rest) (own' ++ rest') → HadMemory (own ++ rest) → HadMemory (own' ++ rest') → own ++ rest ≡ own' ++ rest'
    same_had [] [] output live live' alike m n = none_left live ∙ sym (none_left' live')
    same_had [] (u ∷ us) output live reads alike m n = absurd (subst (λ (l : List Turn). AreAskedAlike l (u ∷ (us ++ rest'))) (none_left live) alike)
    same_had (t ∷ ts) [] output reads live alike m n = absurd (subst (λ (l : List Turn). AreAskedAlike (t ∷ (ts ++ rest)) l) (none_left' live) alike)
    same_had (t ∷ ts) (u ∷ us) output (x, l, read, answer, on) (y, k, read', answer', on') (path, content, alike) (m, ms) (n, ns) =
        let same = same_read (reply_step false) reply_start replies_law output l k (cleaned_end x) (cleaned_end y) (HasContent x) (HasContent y) read read' in
        let reply : x ≡ y = same_reply x y read.of.heard.packets read'.of.heard.packets read.done read'.done same.ends same.packets in
        both_same t u (ts ++ rest) (us ++ rest') (turn_same t u path content (answer ∙ ap answer_of reply ∙ sym answer'))
        (after_turn x ts us l alike ms ns (λ one two. same_had ts us l one two alike ms ns) on
        (later_for x us l k same.later (subst (λ (z : Cleaned). OnLive (standing_after_clean z) (Reads us k how') ((us ≡ []) × (how' ≡ standing_after_clean z))) (sym reply) on')))

  first_same : (fault : CleanFault) (a b : List Turn) → AreAskedAlike a b → HadMemory a → HadMemory b → FirstEnds fault a (λ rest. IsCleanTalk i rest) → FirstEnds fault b (λ rest. IsCleanTalk j rest) → a ≡ b
  first_same fault [] b alike m n one two = absurd one
  first_same fault (t ∷ ts) [] alike m n one two = absurd two
  first_same fault (t ∷ ts) (u ∷ us) (path, content, alike) (m, ms) (n, ns) (answer, one) (other, two) =
      both_same t u ts us (turn_same t u path content (answer ∙ sym other)) (again ts us alike ms ns one two)

  -- two sessions with one output
  module _ (output : List ℕ) where
    ends_same : (l m : List ℕ) (x y : Ends Caps) (e f : List Packet → Type 0) (a : IsHandOf output l x e) (b : IsHandOf output m y f) → AreSame handshake_step handshake_start output l m x y e f a b
    ends_same l m x y e f a b = same_read handshake_step handshake_start hand_law output l m x y e f a b

    never_both : (why : BreakCause) (caps : Caps) → Broke why ≡ Good caps → ⊥
    never_both why caps is = cc is

    no_two : (caps : Caps) (ps qs : List Packet) → ps ≡ qs → has_clean ps ≡ true → has_clean qs ≡ false → ⊥
    no_two caps ps qs same one two = cc (sym one ∙ ap has_clean same ∙ two)

    same_says : (a b : List Turn) → AreAskedAlike a b → HadMemory a → HadMemory b → Says output i a → Says output j b → a ≡ b
    same_says a b alike m n (inl (why, l, hand, first)) (inl (other, k, hand', first')) =
        let same : why ≡ other = never_broke why other _ refl (ends_same l k (Broke why) (Broke other) _ _ hand hand').ends in
        first_same (Refused (cause.Broken why)) a b alike m n first (subst (λ (w : BreakCause). FirstEnds (Refused (cause.Broken w)) b (λ rest. IsCleanTalk j rest)) (sym same) first')
    same_says a b alike m n (inl (why, l, hand, first)) (inr (inl (caps, k, hand', refused))) = absurd (never_both why caps (ends_same l k (Broke why) (Good caps) _ _ hand hand').ends)
    same_says a b alike m n (inl (why, l, hand, first)) (inr (inr h)) = absurd (never_both why h.caps (ends_same l h.later (Broke why) (Good h.caps) _ _ hand h.hand).ends)
    same_says a b alike m n (inr (inl (caps, l, hand, refused))) (inl (why, k, hand', first)) = absurd (never_both why caps (ends_same k l (Broke why) (Good caps) _ _ hand' hand).ends)
    same_says a b alike m n (inr (inl (caps, l, hand, refused))) (inr (inl (other, k, hand', refused'))) = refused_same cause.NoClean a b alike refused refused'
    same_says a b alike m n (inr (inl (caps, l, hand, refused))) (inr (inr h)) =
        absurd (no_two caps h.hand.of.heard.packets hand.of.heard.packets ((ends_same h.later l (Good h.caps) (Good caps) _ _ h.hand hand).packets h.caps refl) h.hand.done hand.done)
    same_says a b alike m n (inr (inr h)) (inl (why, k, hand, first)) = absurd (never_both why h.caps (ends_same k h.later (Broke why) (Good h.caps) _ _ hand h.hand).ends)
    same_says a b alike m n (inr (inr h)) (inr (inl (caps, l, hand, refused))) =
        absurd (no_two caps h.hand.of.heard.packets hand.of.heard.packets ((ends_same h.later l (Good h.caps) (Good caps) _ _ h.hand hand).packets h.caps refl) h.hand.done hand.done)
    same_says a b alike m n (inr (inr h)) (inr (inr k)) =
        let later : h.later ≡ k.later = (ends_same h.later k.later (Good h.caps) (Good k.caps) _ _ h.hand k.hand).later h.caps refl in
        h.parts ∙ same_had h.how k.how h.rest k.rest h.follows k.follows h.own k.own h.later h.reads (subst (λ (l : List ℕ). Reads k.own l k.how) (sym later) k.reads)
        (subst (λ (l : List Turn). AreAskedAlike l (k.own ++ k.rest)) h.parts (subst (λ (l : List Turn). AreAskedAlike a l) k.parts alike)) (subst HadMemory h.parts m) (subst HadMemory k.parts n) ∙ sym k.parts

none_alike : (b : List Turn) → AreAskedAlike [] b → b ≡ []
none_alike [] alike = refl
none_alike (u ∷ us) alike = absurd alike

alike_none : (a : List Turn) → AreAskedAlike a [] → a ≡ []
alike_none [] alike = refl
alike_none (t ∷ ts) alike = absurd alike

module _ (replies_law : ReplyLaw) (hand_law : HandLaw) where
  same_talks : (starts : List StartTold) (i j : List Had) (a b : List Turn) → AreAskedAlike a b → IsCleanTalk i a → AreOf starts i → HadMemory a → IsCleanTalk j b → AreOf starts j → HadMemory b → a ≡ b
  same_talks starts [] j a b alike none of m talk of' n = none ∙ sym (none_alike b (subst (λ (l : List Turn). AreAskedAlike l b) none alike))
  same_talks starts (item ∷ i) [] a b alike talk of m none of' n = alike_none a (subst (λ (l : List Turn). AreAskedAlike a l) none alike) ∙ sym none
  same_talks [] (StartFailed ∷ i) (StartFailed ∷ j) a b alike talk of m talk' of' n =
      first_same replies_law hand_law i j (λ c d e f g h k. same_talks [] i j c d e h of f k of' g) (Refused cause.NotStarted) a b alike m n talk talk'
  same_talks (Fails ∷ starts) (StartFailed ∷ i) (StartFailed ∷ j) a b alike talk of m talk' of' n =
      first_same replies_law hand_law i j (λ c d e f g h k. same_talks starts i j c d e h of f k of' g) (Refused cause.NotStarted) a b alike m n talk talk'
  same_talks (Gives output ∷ starts) (Session seen ∷ i) (Session seen' ∷ j) a b alike talk of m talk' of' n =
      same_says replies_law hand_law i j (λ c d e f g h k. same_talks starts i j c d e h of.1 f k of'.1 g) output a b alike m n (session_says output seen of.0 i a talk m) (session_says output seen' of'.0 j b talk' n)
  same_talks [] (Session seen ∷ i) (k ∷ j) a b alike talk of m talk' of' n = absurd of
  same_talks [] (StartOutOfMemory ∷ i) (k ∷ j) a b alike talk of m talk' of' n = absurd of
  same_talks [] (StartFailed ∷ i) (Session seen ∷ j) a b alike talk of m talk' of' n = absurd of'
  same_talks [] (StartFailed ∷ i) (StartOutOfMemory ∷ j) a b alike talk of m talk' of' n = absurd of'
  same_talks (Fails ∷ starts) (Session seen ∷ i) (k ∷ j) a b alike talk of m talk' of' n = absurd of
  same_talks (Fails ∷ starts) (StartOutOfMemory ∷ i) (k ∷ j) a b alike talk of m talk' of' n = absurd of
  same_talks (Fails ∷ starts) (StartFailed ∷ i) (Session seen ∷ j) a b alike talk of m talk' of' n = absurd of'
  same_talks (Fails ∷ starts) (StartFailed ∷ i) (StartOutOfMemory ∷ j) a b alike talk of m talk' of' n = absurd of'
  same_talks (Gives output ∷ starts) (StartFailed ∷ i) (k ∷ j) a b alike talk of m talk' of' n = absurd of
  same_talks (Gives output ∷ starts) (StartOutOfMemory ∷ i) (k ∷ j) a b alike talk of m talk' of' n = absurd of
  same_talks (Gives output ∷ starts) (Session seen ∷ i) (StartFailed ∷ j) a b alike talk of m talk' of' n = absurd of'
  same_talks (Gives output ∷ starts) (Session seen ∷ i) (StartOutOfMemory ∷ j) a b alike talk of m talk' of' n = absurd of'

pub equal_answers : ReplyLaw → HandLaw → EqualAnswers
equal_answers replies_law hand_law starts i j a b alike one two = same_talks replies_law hand_law starts i j a b alike one.talk one.by one.memory two.talk two.by two.memory
