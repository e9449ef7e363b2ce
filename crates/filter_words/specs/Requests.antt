-- What a client sends: gitattributes(5), "Long Running Filter Process".
use Rattle.std.specs.Prelude.{ℕ, Bool, false, if◌then◌else◌, List, [], ◌∷◌, ◌++◌, codes}
use Rattle.pkt_line.specs.Packets.{Packet, Payload, Flush}
use Rattle.pkt_line.specs.Spelling.{spelling_all, content_packets}
use Rattle.hex.specs.Hex.{encode_lower}

-- a text and LF
abbrev pub line : List ℕ → Packet
line text = Payload (text ++ 10 ∷ [])

abbrev pub hello_packets : List Packet
hello_packets = line (codes "git-filter-client") ∷ line (codes "version=2") ∷ Flush ∷ []

abbrev pub caps_packets : List Packet
caps_packets = line (codes "capability=clean") ∷ line (codes "capability=smudge") ∷ line (codes "capability=delay")
    ∷ Flush ∷ []

abbrev pub list_packets : List Packet
list_packets = line (codes "command=list_available_blobs") ∷ Flush ∷ []

abbrev pub can_delay_line : Bool → List Packet
can_delay_line can_delay = if can_delay then line (codes "can-delay=1") ∷ [] else []

-- the key list of a request for a path, with the name of the path's blob
abbrev pub smudge_keys : List ℕ → List ℕ → Bool → List Packet
smudge_keys path name can_delay =
    line (codes "command=smudge") ∷ line (codes "pathname=" ++ path) ∷ line (codes "blob=" ++ encode_lower name)
    ∷ can_delay_line can_delay ++ Flush ∷ []

abbrev pub smudge_packets : List ℕ → List ℕ → Bool → List ℕ → List Packet
smudge_packets path name can_delay content = smudge_keys path name can_delay ++ content_packets content ++ Flush ∷ []

-- the key list of a request to clean the content of a path
abbrev pub clean_keys : List ℕ → List Packet
clean_keys path = line (codes "command=clean") ∷ line (codes "pathname=" ++ path) ∷ Flush ∷ []

abbrev pub clean_packets : List ℕ → List ℕ → List Packet
clean_packets path content = clean_keys path ++ content_packets content ++ Flush ∷ []

unfoldable pub hello_text : List ℕ
hello_text = spelling_all hello_packets

unfoldable pub caps_text : List ℕ
caps_text = spelling_all caps_packets

unfoldable pub list_text : List ℕ
list_text = spelling_all list_packets

-- the key list of a request, which the content follows
unfoldable pub keys_text : List ℕ → List ℕ → Bool → List ℕ
keys_text path name can_delay = spelling_all (smudge_keys path name can_delay)

-- the packets of a content, and the flush packet after them
unfoldable pub content_text : List ℕ → List ℕ
content_text content = spelling_all (content_packets content ++ Flush ∷ [])

-- the first request for a path
unfoldable pub first_text : List ℕ → List ℕ → Bool → List ℕ → List ℕ
first_text path name can_delay content = spelling_all (smudge_packets path name can_delay content)

-- the request for a path that was delayed and then listed
unfoldable pub second_text : List ℕ → List ℕ → List ℕ
second_text path name = first_text path name false []

-- the key list of a request to clean, which the content follows
unfoldable pub clean_keys_text : List ℕ → List ℕ
clean_keys_text path = spelling_all (clean_keys path)

-- the request to clean the content of a path
unfoldable pub clean_text : List ℕ → List ℕ → List ℕ
clean_text path content = spelling_all (clean_packets path content)
