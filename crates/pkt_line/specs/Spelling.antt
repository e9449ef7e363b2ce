-- What the writers append: the spelling with lower case digits.
use Rattle.std.specs.Prelude.{ℕ, zero, suc, ◌+◌, ◌/◌, List, [], ◌∷◌, ◌++◌, length, map, take, drop}
use Rattle.std.specs.Int.{w16, to_be_bytes}
use Rattle.hex.specs.Hex.{encode_lower}
use Rattle.pkt_line.specs.Packets.{Packet, Payload, pkt_len, payload_of}

-- a number below 65,536 as four lower case digits: its two bytes, the high one first
abbrev pub four_digits : ℕ → List ℕ
four_digits n = encode_lower (to_be_bytes w16 n)

abbrev pub spelling : Packet → List ℕ
spelling p = four_digits (pkt_len p) ++ payload_of p

abbrev pub spelling_all : List Packet → List ℕ
spelling_all [] = []
spelling_all (p ∷ ps) = spelling p ++ spelling_all ps

-- a text cut into this many pieces of 65,516 bytes, of which the last has the rest
abbrev pub pieces_of : ℕ → List ℕ → List (List ℕ)
pieces_of zero content = []
pieces_of (suc count) content = take 65516 content ∷ pieces_of count (drop 65516 content)

-- how many such pieces a text takes: none if it has no bytes
abbrev pub piece_count : ℕ → ℕ
piece_count len = (len + 65515) / 65516

-- a content as packets: each of 65,516 bytes, and the last with the rest
abbrev pub content_packets : List ℕ → List Packet
content_packets content = map Payload (pieces_of (piece_count (length content)) content)
