-- A reply and a handshake break with causes of their own.
use Rattle.std.proofs.Common.{◌≡◌, inl, inr, Bool, true, List, Option, None, sym, subst}
use Rattle.pkt_line.specs.Packets.{Packet}
use Rattle.filter_words.specs.Outcomes.{outcome, limit}
use Rattle.filter_words.specs.Grammar.{IsOwnCause}
use Rattle.filter_words.specs.SmudgeReply.{reply_step, reply_start}
use Rattle.filter_words.specs.ReplyGrammar.{BreaksFirst, BreaksLast, BreaksReply, IsReply}
use Rattle.filter_words.specs.Handshake.{handshake_step, handshake_start}
use Rattle.filter_words.specs.HandshakeGrammar.{IsHandshake, BreaksHandshake}
use Rattle.filter_words.specs.declared.words.Status.{Status}
use Rattle.filter_words.specs.declared.reply.BreakCause.{BreakCause}
use Rattle.filter_words.specs.declared.reply.BreakCause.TheVariants as cause
use Rattle.filter_words.specs.declared.smudge_reply.GoodReply.TheVariants as good
use Rattle.filter_words.specs.declared.smudge_reply.ReplyPhase.TheVariants.{KeyList}
use Rattle.filter_words.specs.declared.handshake.HandshakePhase.TheVariants.{Server}
use Rattle.filter_words.specs.declared.answer_state.AnswerState.TheVariants.{Done, Broken}
use Rattle.filter_words.proofs.GrammarLaws.{ends_well, broken_reading}
use Rattle.filter_words.proofs.ReplyRuns.{reads_reply}
use Rattle.filter_words.proofs.HandshakeRuns.{reads_handshake}
use Rattle.filter_words.proofs.Breaks.{breaks_reply, breaks_handshake}

first_own : (d : Bool) (s : Option Status) (why : BreakCause) → BreaksFirst d s why → IsOwnCause why
first_own d s cause.StrangePath h = h
first_own d s cause.ListRefused h = h
first_own d s cause.Ended h = tt
first_own d s cause.LinkFault h = tt
first_own d s cause.BadPacket h = tt
first_own d s cause.BadHandshake h = tt
first_own d s cause.UnknownStatus h = tt
first_own d s cause.StrangeDelay h = tt
first_own d s cause.TooLong h = tt

last_own : (s : Option Status) (why : BreakCause) → BreaksLast s why → IsOwnCause why
last_own s cause.StrangePath h = h
last_own s cause.ListRefused h = h
last_own s cause.Ended h = tt
last_own s cause.LinkFault h = tt
last_own s cause.BadPacket h = tt
last_own s cause.BadHandshake h = tt
last_own s cause.UnknownStatus h = tt
last_own s cause.StrangeDelay h = tt
last_own s cause.TooLong h = tt

breaks_own : (d : Bool) (ps : List Packet) (why : BreakCause) → BreaksReply d ps why → IsOwnCause why
breaks_own d ps why (inl h) = first_own d _ why h.breaks
breaks_own d ps why (inr h) = last_own _ why h.breaks

pub reply_own : (d : Bool) (ps : List Packet) (why : BreakCause) → outcome (reply_step d) limit reply_start ps
    ≡ Broken why → IsOwnCause why
reply_own d ps why e =
    elim (broken_reading (reply_step d) (KeyList None) (IsReply d) (BreaksReply d) (reads_reply d) (breaks_reply d) ps
    why e).cause_is [
      | inl l ↦ subst IsOwnCause (sym l.0) tt
      | inr x ↦ breaks_own d ps why x.1
    ]

pub handshake_own : (ps : List Packet) (why : BreakCause) → outcome handshake_step limit handshake_start ps ≡ Broken why
    → IsOwnCause why
handshake_own ps why e =
    elim (broken_reading handshake_step Server IsHandshake BreaksHandshake reads_handshake breaks_handshake ps why
    e).cause_is [
      | inl l ↦ subst IsOwnCause (sym l.0) tt
      | inr x ↦ subst IsOwnCause (sym x.1.0) tt
    ]

pub reply_delayed : (d : Bool) (ps : List Packet) → outcome (reply_step d) limit reply_start ps ≡ Done good.Delayed
    → d ≡ true
reply_delayed d ps e = go (ends_well (reply_step d) (KeyList None) (IsReply d) (reads_reply d) ps good.Delayed e).0
  where
    go : IsReply d ps good.Delayed → d ≡ true
    go (inl s) = s.ends.1
    go (inr l) = absurd l.ends
