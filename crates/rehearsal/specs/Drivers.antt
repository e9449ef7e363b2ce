-- What the drivers of a rehearsal answer: gitattributes(5), "Long Running Filter Process".
use Rattle.std.specs.Prelude.{ℕ, ◌%◌, ◌==◌, Bool, true, ◌&&◌, not, if◌then◌else◌, List, [], ◌∷◌, ◌++◌, map, codes, None}
use Rattle.std.specs.List.{flat_map, list_any}
use Rattle.pkt_line.specs.Packets.{Packet, Flush}
use Rattle.pkt_line.specs.Spelling.{spelling_all, content_packets}
use Rattle.filter_words.specs.Requests.{line}
use Rattle.edge_kit.specs.declared.script.DriverScript.{DriverScript}
use Rattle.rehearsal.specs.Paths.{kind, name, content, line_of}

-- the answer to the first lines of a client
abbrev pub hello : List Packet
hello = line (codes "git-filter-server") ∷ line (codes "version=2") ∷ Flush ∷ []

abbrev pub status : List ℕ → List Packet
status word = line (codes "status=" ++ word) ∷ Flush ∷ []

-- a good answer with this content
abbrev pub good : List ℕ → List Packet
good text = status (codes "success") ++ content_packets text ++ Flush ∷ Flush ∷ []

-- a driver puts a line with its own name before a content
abbrev pub filtered : List ℕ → ℕ → ℕ → List ℕ
filtered driver seed i = spelling_all (good (line_of driver ++ content seed i))

abbrev pub is_delayed : ℕ → ℕ → Bool
is_delayed seed i = kind seed i == 5

-- the driver `alpha` delays kind 5, and gives it later if its number isn't a multiple of 5
abbrev pub is_given : ℕ → ℕ → Bool
is_given seed i = is_delayed seed i && not (i % 5 == 0)

abbrev pub alpha_first : ℕ → ℕ → List ℕ
alpha_first seed i =
    if kind seed i == 4 then filtered (codes "alpha") seed i
    else if is_delayed seed i then spelling_all (status (codes "delayed")) else []

-- those of the numbers that are given later, the last first
abbrev pub given : ℕ → List ℕ → List ℕ
given seed [] = []
given seed (i ∷ is) = given seed is ++ (if is_given seed i then i ∷ [] else [])

abbrev pub pathname : ℕ → ℕ → Packet
pathname seed i = line (codes "pathname=" ++ name seed i)

-- an answer to a request for a list
abbrev pub list_text : ℕ → List ℕ → List ℕ
list_text seed is = spelling_all (map (pathname seed) is ++ Flush ∷ status (codes "success"))

-- the list of what is given later, if that is anything, and each of it
abbrev pub given_text : ℕ → List ℕ → List ℕ
given_text seed [] = []
given_text seed (i ∷ is) = list_text seed (i ∷ is) ++ flat_map (filtered (codes "alpha") seed) (i ∷ is)

-- the lists: the last one is empty, and there is none if no path was delayed
abbrev pub alpha_lists : ℕ → List ℕ → List ℕ
alpha_lists seed is =
    if list_any (is_delayed seed) is then given_text seed (given seed is) ++ list_text seed [] else []

-- all that the driver `alpha` writes, for these numbers in the order of their paths
abbrev pub alpha_text : ℕ → List ℕ → List ℕ
alpha_text seed is =
    spelling_all (hello ++ line (codes "capability=smudge") ∷ line (codes "capability=delay") ∷ Flush ∷ [])
    ++ flat_map (alpha_first seed) is ++ alpha_lists seed is

abbrev pub beta_first : ℕ → ℕ → List ℕ
beta_first seed i =
    if kind seed i == 6 then filtered (codes "beta") seed i
    else if kind seed i == 7 then spelling_all (status (codes "error")) else []

-- all that the driver `beta` writes
abbrev pub beta_text : ℕ → List ℕ → List ℕ
beta_text seed is =
    spelling_all (hello ++ line (codes "capability=smudge") ∷ Flush ∷ []) ++ flat_map (beta_first seed) is

-- a driver with one session, whose output comes in pieces of 1,000 bytes
abbrev pub script : List ℕ → List ℕ → DriverScript
script command output = record {
  command = command;
  sessions = record { starts = true; output = output; piece = 1000; fail_send = None; fail_read = None } ∷ [];
}

abbrev pub scripts : ℕ → List ℕ → List DriverScript
scripts seed is = script (codes "alpha") (alpha_text seed is) ∷ script (codes "beta") (beta_text seed is) ∷ []
