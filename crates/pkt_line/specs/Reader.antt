-- What a reader returns.
use Rattle.std.specs.Prelude.{◌≡◌, ◌≤◌, ℕ, List, length, Some, Result, Ok, Err}
use Rattle.pkt_line.specs.Packets.{Packet, Payload, Flush, Stands, IsPartial, HasBadDigits, HasBadLength, number_at}
use Rattle.pkt_line.specs.Packets.{size}
use Rattle.pkt_line.specs.Reading.{Reading}
use Rattle.pkt_line.specs.declared.reader.Next.{Next}
use Rattle.pkt_line.specs.declared.reader.Next.TheVariants as next
use Rattle.pkt_line.specs.declared.reader.PktFault.{PktFault}
use Rattle.pkt_line.specs.declared.reader.PktFault.TheVariants as fault
use Rattle.pkt_line.specs.declared.reader.Front.{Front}
use Rattle.pkt_line.specs.declared.reader.Front.TheVariants as front

-- what is at the front of the bytes
abbrev pub Lends : Next → List ℕ → Type 0
Lends (next.Payload piece) bytes = Stands (Payload piece.now) bytes
Lends next.Flush bytes = Stands Flush bytes
Lends next.NeedMore bytes = IsPartial bytes

-- four bytes that begin no packet, and their place
abbrev pub IsFaultOf : PktFault → Reading → Type 0
IsFaultOf (fault.BadDigits place) r = HasBadDigits r.unread × (place ≡ r.place)
IsFaultOf (fault.BadLength place n) r = HasBadLength r.unread n × (place ≡ r.place)

-- what is at the front of the unread bytes, or why no packet ever will be
abbrev pub Peeks : Result Next PktFault → Reading → Type 0
Peeks (Ok n) r = Lends n r.unread
Peeks (Err fault) r = IsFaultOf fault r

-- what an answer says
pub data Answer : Type 0 where
  Gives : Packet → Answer
  Wants : Answer
  Refuses : PktFault → Answer

abbrev pub answer_of : Result Next PktFault → Answer
answer_of (Ok (next.Payload piece)) = Gives (Payload piece.now)
answer_of (Ok next.Flush) = Gives Flush
answer_of (Ok next.NeedMore) = Wants
answer_of (Err fault) = Refuses fault

-- how many bytes leave the reader with the packet that it lends
abbrev pub lent_size : Next → ℕ
lent_size (next.Payload piece) = size (Payload piece.now)
lent_size next.Flush = size Flush
lent_size next.NeedMore = 0

abbrev pub size_taken : Result Next PktFault → ℕ
size_taken (Ok n) = lent_size n
size_taken (Err fault) = 0

-- the same, but a payload is given by the size of its packet
abbrev pub IsFront : Front → List ℕ → Type 0
IsFront (front.Payload n) bytes = (number_at bytes ≡ Some n) × (4 ≤ n) × (n ≤ 65520) × (n ≤ length bytes)
IsFront front.Flush bytes = Stands Flush bytes
IsFront front.NeedMore bytes = IsPartial bytes

abbrev pub Fronts : Result Front PktFault → Reading → Type 0
Fronts (Ok f) r = IsFront f r.unread
Fronts (Err fault) r = IsFaultOf fault r

abbrev pub front_size : Front → ℕ
front_size (front.Payload n) = n
front_size front.Flush = 4
front_size front.NeedMore = 0
