-- A reader of packets as its callers see it, and whole runs of one.
use Rattle.std.specs.Prelude.{◌≡◌, ℕ, ◌+◌, ◌-◌, ◌^◌, List, [], ◌∷◌, ◌++◌, length, drop, min}
use Rattle.pkt_line.specs.Packets.{Packet, Stands, SpellAll, size}

pub record Reading : Type 0 where
  pub unread : List ℕ  -- the bytes that it took and hasn't given
  pub place : ℕ  -- how many bytes it has given, counted up to 2^64 - 1

-- the reader took these bytes
abbrev pub with_bytes : List ℕ → Reading → Reading
with_bytes piece r = record { unread = r.unread ++ piece; place = r.place }

-- the reader gave this many bytes
abbrev pub without : ℕ → Reading → Reading
without count r = record { unread = drop count r.unread; place = min (r.place + count) (2 ^ 64 - 1) }

-- what a call did: it took a piece, or gave a packet
pub data Move : Type 0 where
  Took : List ℕ → Move
  Gave : Packet → Move

abbrev pub Moves : Reading → Move → Reading → Type 0
Moves r (Took piece) s = s ≡ with_bytes piece r
Moves r (Gave p) s = Stands p r.unread × (s ≡ without (size p) r)

-- the calls, one after another
abbrev pub MovesAll : Reading → List Move → Reading → Type 0
MovesAll r [] t = r ≡ t
MovesAll r (m ∷ ms) t = (s : Reading) × Moves r m s × MovesAll s ms t

-- all that it took
abbrev pub bytes_taken : List Move → List ℕ
bytes_taken [] = []
bytes_taken (Took piece ∷ ms) = piece ++ bytes_taken ms
bytes_taken (Gave p ∷ ms) = bytes_taken ms

-- the packets that it gave
abbrev pub packets_given : List Move → List Packet
packets_given [] = []
packets_given (Took piece ∷ ms) = packets_given ms
packets_given (Gave p ∷ ms) = p ∷ packets_given ms

-- The packets given are those whose spelling is the bytes read so far.
pub record IsRead (took : List ℕ) (gave : List Packet) (left : Reading) : Type 0 where
  pub read : List ℕ
  pub spelled : SpellAll gave read
  pub whole : took ≡ read ++ left.unread
  pub counted : left.place ≡ min (length read) (2 ^ 64 - 1)
