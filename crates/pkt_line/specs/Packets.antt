-- Packets and the bytes that spell them, as gitprotocol-common(5) defines them under "pkt-line Format".
use Rattle.std.specs.Prelude.{◌≡◌, ℕ, ◌+◌, ◌*◌, ◌<◌, ◌≤◌, ◌⊎◌, Option, Some, None, List, [], ◌∷◌, ◌++◌, length, take}
use Rattle.std.specs.Prelude.{drop, slice_index}
use Rattle.hex.specs.Hex.{hex_digit_value}

pub data Packet : Type 0 where
  Payload : List ℕ → Packet
  Flush : Packet

-- the number that the four digits give: the whole length of a packet with a payload, and 0 for a flush packet
abbrev pub pkt_len : Packet → ℕ
pkt_len (Payload bytes) = 4 + length bytes
pkt_len Flush = 0

-- how many bytes the packet takes
abbrev pub size : Packet → ℕ
size (Payload bytes) = 4 + length bytes
size Flush = 4

abbrev pub payload_of : Packet → List ℕ
payload_of (Payload bytes) = bytes
payload_of Flush = []

-- one more digit after a number, if both are there
abbrev pub with_digit : Option ℕ → Option ℕ → Option ℕ
with_digit (Some number) (Some digit) = Some (number * 16 + digit)
with_digit None digit = None
with_digit (Some number) None = None

-- the number that the first four bytes give as hexadecimal digits of either case
unfoldable pub number_at : List ℕ → Option ℕ
number_at bytes =
    with_digit
    (with_digit
    (with_digit (hex_digit_value (slice_index bytes 0)) (hex_digit_value (slice_index bytes 1)))
    (hex_digit_value (slice_index bytes 2)))
    (hex_digit_value (slice_index bytes 3))

-- the bytes spell the packet: four digits, and then its payload
pub record Spells (p : Packet) (bytes : List ℕ) : Type 0 where
  pub number : number_at bytes ≡ Some (pkt_len p)
  pub limit : pkt_len p ≤ 65520
  pub sized : length bytes ≡ size p
  pub payload : drop 4 bytes ≡ payload_of p

-- the bytes are the packets' spellings, joined
abbrev pub SpellAll : List Packet → List ℕ → Type 0
SpellAll [] bytes = bytes ≡ []
SpellAll (p ∷ ps) bytes = (head rest : List ℕ) × Spells p head × SpellAll ps rest × (bytes ≡ head ++ rest)

-- how many bytes the packets take
abbrev pub total : List Packet → ℕ
total [] = 0
total (p ∷ ps) = size p + total ps

-- the packet stands at the front of the bytes
abbrev pub Stands : Packet → List ℕ → Type 0
Stands p bytes = Spells p (take (size p) bytes)

-- a packet of this many bytes is at the front
abbrev pub HasPacketOf : ℕ → List ℕ → Type 0
HasPacketOf count bytes = (p : Packet) × Stands p bytes × (count ≡ size p)

-- no packet has this length
abbrev pub IsBadLength : ℕ → Type 0
IsBadLength n = ((0 < n) × (n < 4)) ⊎ (65520 < n)

-- there are four bytes at the front, and one of them is no digit
abbrev pub HasBadDigits : List ℕ → Type 0
HasBadDigits bytes = (4 ≤ length bytes) × (number_at bytes ≡ None)

-- there are four digits at the front, which give this length, and no packet has it
abbrev pub HasBadLength : List ℕ → ℕ → Type 0
HasBadLength bytes n = (4 ≤ length bytes) × (number_at bytes ≡ Some n) × IsBadLength n

-- this many bytes are fewer than this length, which a packet has
abbrev pub IsShortOf : Option ℕ → ℕ → Type 0
IsShortOf None count = ⊥
IsShortOf (Some n) count = (4 ≤ n) × (n ≤ 65520) × (count < n)

-- the bytes end inside a packet, or there are none
abbrev pub IsPartial : List ℕ → Type 0
IsPartial bytes = (length bytes < 4) ⊎ IsShortOf (number_at bytes) (length bytes)

-- no packet begins at the front, whatever follows
abbrev pub HasFault : List ℕ → Type 0
HasFault bytes = HasBadDigits bytes ⊎ ((n : ℕ) × HasBadLength bytes n)

-- no packet is at the front
abbrev pub HasNoPacket : List ℕ → Type 0
HasNoPacket bytes = IsPartial bytes ⊎ HasFault bytes
