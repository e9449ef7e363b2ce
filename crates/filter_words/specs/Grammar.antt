-- Answers as a whole, by their grammar, beside their reading packet by packet.
use Rattle.std.specs.Prelude.{◌≡◌, ℕ, ◌<◌, ◌≤◌, ◌⊎◌, List, [], ◌∷◌, ◌++◌, map}
use Rattle.pkt_line.specs.Packets.{Packet, Payload, Flush, total}
use Rattle.filter_words.specs.Outcomes.{limit}
use Rattle.filter_words.specs.declared.reply.BreakCause.{BreakCause}
use Rattle.filter_words.specs.declared.reply.BreakCause.TheVariants as cause

-- payloads up to a flush packet
abbrev pub block : List (List ℕ) → List Packet
block lines = map Payload lines ++ Flush ∷ []

-- some continuation is a good answer
abbrev pub IsOpen : (G : Type 0) → (List Packet → G → Type 0) → List Packet → Type 0
IsOpen G good ps = (more : List Packet) × (g : G) × good (ps ++ more) g

-- The last packet broke the answer: without it some continuation was good, and with it the limit is passed, or else the
-- grammar gives the cause and no continuation is good.
pub record IsBroken (G : Type 0) (good : List Packet → G → Type 0) (breaks : List Packet → BreakCause → Type 0)
    (ps : List Packet) (why : BreakCause) : Type 0 where
  pub before : List Packet
  pub last : Packet
  pub whole : ps ≡ before ++ last ∷ []
  pub was_open : IsOpen G good before
  pub fitted : total before ≤ limit
  pub cause_is : ((why ≡ cause.TooLong) × (limit < total ps))
      ⊎ ((total ps ≤ limit) × breaks ps why × ((more : List Packet) (g : G) → good (ps ++ more) g → ⊥))

-- a cause that an answer for one path, or a handshake, may have: the two others come from a list alone
abbrev pub IsOwnCause : BreakCause → Type 0
IsOwnCause cause.StrangePath = ⊥
IsOwnCause cause.ListRefused = ⊥
IsOwnCause why = Unit {0}
