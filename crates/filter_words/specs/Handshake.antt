-- The two answers of a driver to a handshake, packet by packet.
use Rattle.std.specs.Prelude.{◌≡◌, ℕ, Bool, false, ◌||◌, if◌then◌else◌, List, codes}
use Rattle.std.specs.Str.{bytes_eq}
use Rattle.pkt_line.specs.Packets.{Packet, Payload, Flush}
use Rattle.filter_words.specs.Outcomes.{outcome, limit}
use Rattle.filter_words.specs.Words.{without_lf}
use Rattle.filter_words.specs.declared.reply.BreakCause.TheVariants as cause
use Rattle.filter_words.specs.declared.reply.Caps.{Caps}
use Rattle.filter_words.specs.declared.handshake.HandshakePhase.{HandshakePhase}
use Rattle.filter_words.specs.declared.handshake.HandshakePhase.TheVariants.{Server, Version, EndOfHello, Capabilities}
use Rattle.filter_words.specs.declared.answer_state.AnswerState.{AnswerState}
use Rattle.filter_words.specs.declared.answer_state.AnswerState.TheVariants.{On, Done, Broken}

-- no other line than this one
abbrev pub wanted_line : List ℕ → List ℕ → HandshakePhase → AnswerState HandshakePhase Caps
wanted_line line text next = if bytes_eq (without_lf line) text then On next else Broken cause.BadHandshake

-- two capabilities count, and every other line is ignored
abbrev pub with_capability : Caps → List ℕ → Caps
with_capability caps line = record {
  smudge = caps.smudge || bytes_eq (without_lf line) (codes "capability=smudge");
  delay = caps.delay || bytes_eq (without_lf line) (codes "capability=delay");
}

abbrev pub no_caps : Caps
no_caps = record { smudge = false; delay = false }

-- the first answer is three packets, and the second is lines of capabilities up to a flush
abbrev pub handshake_step : HandshakePhase → Packet → AnswerState HandshakePhase Caps
handshake_step Server (Payload line) = wanted_line line (codes "git-filter-server") Version
handshake_step Server Flush = Broken cause.BadHandshake
handshake_step Version (Payload line) = wanted_line line (codes "version=2") EndOfHello
handshake_step Version Flush = Broken cause.BadHandshake
handshake_step EndOfHello (Payload line) = Broken cause.BadHandshake
handshake_step EndOfHello Flush = On (Capabilities no_caps)
handshake_step (Capabilities caps) (Payload line) = On (Capabilities (with_capability caps line))
handshake_step (Capabilities caps) Flush = Done caps

abbrev pub handshake_start : AnswerState HandshakePhase Caps
handshake_start = On Server

-- the packets are a right first answer: what follows them are capabilities
abbrev pub IsHello : List Packet → Type 0
IsHello packets = outcome handshake_step limit handshake_start packets ≡ On (Capabilities no_caps)

-- a line of capabilities that says that the driver cleans contents too
abbrev pub announces_clean : List ℕ → Bool
announces_clean line = bytes_eq (without_lf line) (codes "capability=clean")
