-- Openings of a line.
use Rattle.std.proofs.Common.{◌≡◌, inl, inr, ℕ, ◌+◌, ◌-◌, Bool, true, false, List, [], ◌∷◌, ◌++◌, Option, Some, None, Ok, refl, sym, ap, subst, ◌∙◌}
use Rattle.std.proofs.lemmas.Bool.{lt-ltb, le-ltb, cases_lt}
use Rattle.std.specs.Prelude.{if◌then◌else◌}
use Rattle.std.specs.Str.{bytes_eq}
use Rattle.pkt_line.specs.Packets.{Packet, Payload, Flush, size}
use Rattle.filter_words.specs.Outcomes.{outcome, limit}
use Rattle.filter_words.specs.Words.{without_lf}
use Rattle.filter_words.specs.Handshake.{handshake_step, handshake_start}
use Rattle.filter_words.specs.declared.reply.BreakCause.{BreakCause}
use Rattle.filter_words.specs.declared.reply.BreakCause.TheVariants as cause
use Rattle.filter_words.specs.declared.reply.Caps.{Caps}
use Rattle.filter_words.specs.declared.handshake.HandshakePhase.{HandshakePhase}
use Rattle.filter_words.specs.declared.handshake.HandshakePhase.TheVariants.{Server, Version, EndOfHello, Capabilities}
use Rattle.filter_words.specs.declared.answer_state.AnswerState.{AnswerState}
use Rattle.filter_words.specs.declared.answer_state.AnswerState.TheVariants.{On, Done, Broken, Late}
use Rattle.filter_proto.specs.Wires.{Wire, wire_of}
use Rattle.filter_proto.specs.Exchanges.{Ends, Good, Broke, Stops, Unsent, IsHeard}
use Rattle.filter_proto.specs.Openings.{IsOpening}
use Rattle.checkout_core.specs.Conditions.{is_path_break}
use Rattle.edge_kit.specs.Starters.{StarterSeen, StartOutOfMemory, IsStarted, NextGives, session_had}
use Rattle.edge_kit.specs.Links.{LinkSeen, IsNewLink, is_shut, replies_in}
use Rattle.filter_proto.specs.Wires.{SessionSeen}
use Rattle.filter_proto.specs.declared.session.Standing.{Standing}
use Rattle.filter_proto.specs.declared.session.Standing.TheVariants as standing
use Rattle.driver_line.specs.Conversations.{Opening}
use Rattle.driver_line.specs.Lines.{LineView, Paths, IsEnded, IsFresh, IsOpenedLine, Says, started}

abbrev MayEnd : AnswerState HandshakePhase Caps → Type 0
MayEnd (On p) = Unit {0}
MayEnd (Done g) = Unit {0}
MayEnd (Broken why) = is_path_break why ≡ true
MayEnd Late = Unit {0}

wanted_may : (b : Bool) (p : HandshakePhase) → MayEnd (if b then On p else Broken cause.BadHandshake)
wanted_may true p = tt
wanted_may false p = refl

step_may : (p : HandshakePhase) (x : Packet) → MayEnd (handshake_step p x)
step_may Server (Payload l) = wanted_may (bytes_eq (without_lf l) _) Version
step_may Server Flush = refl
step_may Version (Payload l) = wanted_may (bytes_eq (without_lf l) _) EndOfHello
step_may Version Flush = refl
step_may EndOfHello (Payload l) = refl
step_may EndOfHello Flush = tt
step_may (Capabilities c) (Payload l) = tt
step_may (Capabilities c) Flush = tt

runs_may : (room : ℕ) (t : AnswerState HandshakePhase Caps) (ps : List Packet) → MayEnd t → MayEnd (outcome handshake_step room t ps)
runs_may room t [] h = h
runs_may room (On p) (x ∷ ps) h = elim (cases_lt room (size x)) [
  | inl less ↦ rw (lt-ltb room (size x) less) (runs_may room (Broken cause.TooLong) ps refl)
  | inr more ↦ rw (le-ltb room (size x) more) (runs_may (room - size x) (handshake_step p x) ps (step_may p x))
]
runs_may room (Done g) (x ∷ ps) h = tt
runs_may room (Broken c) (x ∷ ps) h = tt
runs_may room Late (x ∷ ps) h = tt

open_may : (p : HandshakePhase) (old new : Wire) (why : BreakCause) → Stops {G = Caps} (On p) old new (Broke why) → is_path_break why ≡ true
open_may p old new cause.BadPacket h = refl
open_may p old new cause.Ended h = refl
open_may p old new cause.LinkFault h = refl
open_may p old new cause.BadHandshake h = absurd h
open_may p old new cause.UnknownStatus h = absurd h
open_may p old new cause.StrangeDelay h = absurd h
open_may p old new cause.TooLong h = absurd h
open_may p old new cause.StrangePath h = absurd h
open_may p old new cause.ListRefused h = absurd h

broke_is : (a b : BreakCause) (x y : Ends Caps) → x ≡ Broke a → y ≡ Broke b → x ≡ y → a ≡ b
broke_is a b x y e f i = cc

stops_may : (t : AnswerState HandshakePhase Caps) (old new : Wire) (why : BreakCause) → MayEnd t → Stops t old new (Broke why) → is_path_break why ≡ true
stops_may (On p) old new why h s = open_may p old new why s
stops_may (Done g) old new why h s = absurd (cc (s.0))
stops_may (Broken c) old new why h s = subst (λ (w : BreakCause). is_path_break w ≡ true) (sym (broke_is why c _ _ refl refl s.0)) h
stops_may Late old new why h s = absurd s

heard_may : (old new : Wire) (why : BreakCause) (extra : List Packet → Type 0) → IsHeard handshake_step handshake_start old new (Broke why) extra → is_path_break why ≡ true
heard_may old new why extra h = stops_may (outcome handshake_step limit handshake_start h.packets) old new why (runs_may limit handshake_start h.packets tt) h.stops

unsent_may : (old new : Wire) (why : BreakCause) → Unsent {G = Caps} old new (Broke why) → is_path_break why ≡ true
unsent_may old new cause.LinkFault h = refl
unsent_may old new cause.BadPacket h = absurd h
unsent_may old new cause.Ended h = absurd h
unsent_may old new cause.BadHandshake h = absurd h
unsent_may old new cause.UnknownStatus h = absurd h
unsent_may old new cause.StrangeDelay h = absurd h
unsent_may old new cause.TooLong h = absurd h
unsent_may old new cause.StrangePath h = absurd h
unsent_may old new cause.ListRefused h = absurd h

pub opening_may : (old new : Wire) (why : BreakCause) → IsOpening old new (Broke why) → is_path_break why ≡ true
opening_may old new why (inl u) = unsent_may old new why u.why
opening_may old new why (inr (inl r)) = heard_may old new why _ r.heard
opening_may old new why (inr (inr (inl u))) = unsent_may u.mid new why u.unsent.why
opening_may old new why (inr (inr (inr o))) = heard_may old new why _ o.heard

pub opening_caps : (a b : Wire) (k l : Caps) → k ≡ l → IsOpening a b (Good l) → IsOpening a b (Good k)
opening_caps a b k l e h = subst (λ (c : Caps). IsOpening a b (Good c)) (sym e) h

pub ended_from : (a b : StarterSeen) (w : Wire) (z : Standing) (new : LineView) → a ≡ b → IsEnded a w z new → IsEnded b w z new
ended_from a b w z new e h = subst (λ (x : StarterSeen). IsEnded x w z new) e h

fresh_link : (link : LinkSeen) → IsNewLink link → IsFresh (wire_of [] link)
fresh_link link h = record { sent = h.sent; taken = h.taken; unread = refl; faults = h.unfailed; ends = h.unended; stage = h.unshut }

opened_line : (old : LineView) (end : Ends Caps) (from mid : StarterSeen) (link : LinkSeen) (last : Wire) → old.session ≡ None → from ≡ old.starter → IsStarted link from mid → IsOpening (wire_of [] link) last end → IsOpenedLine old end (wire_of [] link) last
opened_line old end from mid link last none same s o = record {
  closed = none;
  fresh = fresh_link link s.fresh;
  opening = o;
  next = subst (λ (x : StarterSeen). NextGives x.ahead link.left) same s.next;
}

started_is : (from mid : StarterSeen) (link : LinkSeen) (old : StarterSeen) → from ≡ old → IsStarted link from mid → mid ≡ started old
started_is from mid link old same s = s.kept ∙ ap started same

pub live_says : (paths : Paths) (p : ℕ) (old : LineView) (from mid : StarterSeen) (link : LinkSeen) (s : SessionSeen) (caps : Caps) → old.session ≡ None → from ≡ old.starter → IsStarted link from mid
    → caps ≡ s.caps → IsOpening (wire_of [] link) s.wire (Good s.caps) → s.standing ≡ standing.Live → Says paths old (Opening p (Good caps)) (record { starter = mid; session = Some s })
live_says paths p old from mid link s caps none same st is o live = (
  s,
  wire_of [] link,
  opened_line old (Good caps) from mid link s.wire none same st (opening_caps _ _ caps s.caps is o),
  sym is,
  live,
  ap (λ (x : StarterSeen). record { starter = x; session = Some s }) (started_is from mid link old.starter same st),
)

pub failed_says : (old : LineView) (from mid last : StarterSeen) (link back : LinkSeen) (unread : List ℕ) (o : Option SessionSeen) (end : Ends Caps) → old.session ≡ None → o ≡ None → from ≡ old.starter → IsStarted link from mid
    → IsOpening (wire_of [] link) (wire_of unread back) end → last.out + 1 ≡ mid.out → last ≡ record mid { had = mid.had ++ session_had back ∷ []; out = last.out }
    → (start : Wire) × (done : Wire) × IsOpenedLine old end start done × IsEnded (started old.starter) done standing.Over (record { starter = last; session = o })
failed_says old from mid last link back unread o end none gone same st open_ out kept =
    let is = started_is from mid link old.starter same st in (
      wire_of [] link,
      wire_of unread back,
      opened_line old end from mid link (wire_of unread back) none same st open_,
      record {
        seen = record { sent = back.sent; taken = back.taken; replies = replies_in back.left; faults = back.faults; ends = back.ends; shut = is_shut back.stage };
        none = gone;
        kept = kept ∙ ap (λ (x : StarterSeen). record x { had = x.had ++ session_had back ∷ []; out = last.out }) is;
        out = out ∙ ap (λ (x : StarterSeen). x.out) is;
        sent = refl;
        taken = refl;
        ends = refl;
        replies = refl;
        input = Ok tt;
        end = Ok tt;
        faults = (refl, refl, refl);
        shut = refl;
      },
    )

pub no_room_says : (old : LineView) (from last : StarterSeen) (o : Option SessionSeen) → old.session ≡ None → o ≡ None → from ≡ old.starter → last ≡ record from { had = from.had ++ StartOutOfMemory ∷ [] }
    → (old.session ≡ None) × (o ≡ None) × (last ≡ record old.starter { had = old.starter.had ++ StartOutOfMemory ∷ [] })
no_room_says old from last o none gone same kept = (none, gone, kept ∙ ap (λ (x : StarterSeen). record x { had = x.had ++ StartOutOfMemory ∷ [] }) same)
