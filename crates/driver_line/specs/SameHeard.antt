-- Two talks with a driver that writes the same: what they have in common.
use Rattle.std.specs.Prelude.{◌≡◌, ◌==◌, ℕ, Bool, true, false, cond, Option, Some, None, List, [], ◌∷◌, map}
use Rattle.edge_kit.specs.Starters.{Had, Session, StartFailed, StartOutOfMemory, Starts, StartsListed, StartTold}
use Rattle.filter_words.specs.declared.reply.Caps.{Caps}
use Rattle.filter_words.specs.declared.reply.Reply.TheVariants as reply
use Rattle.filter_words.specs.declared.reply.ListReply.TheVariants as list
use Rattle.delay_table.specs.Table.{contains, AreApart}
use Rattle.filter_proto.specs.Exchanges.{OutOfMemory}
use Rattle.checkout_core.specs.declared.path.Heard.TheVariants as heard
use Rattle.checkout_core.specs.Fates.{Fate, Untold, Known, fate_of}
use Rattle.driver_line.specs.Conversations.{Exchange, NoRoom, Opening, First, Listing, Second, notes_in}
use Rattle.driver_line.specs.Lines.{Paths}
use Rattle.driver_line.specs.ToldStarts.{Fills, GoBy}
use Rattle.driver_line.specs.Transcripts.{IsTalk, request_of}

-- no session's link ever failed
abbrev pub NoneFailed : List Had → Type 0
NoneFailed [] = Unit {0}
NoneFailed (Session seen ∷ hs) = (seen.faults ≡ 0) × NoneFailed hs
NoneFailed (StartFailed ∷ hs) = NoneFailed hs
NoneFailed (StartOutOfMemory ∷ hs) = NoneFailed hs

-- what the exchanges tell of a path, and the content that the driver gave for it
abbrev pub fate_in : ℕ → ℕ → List Exchange → Fate
fate_in d p es = fate_of p Untold (notes_in d es)

abbrev pub content_of : ℕ → List Exchange → Option (List ℕ)
content_of p [] = None
content_of p (First q reply.Content c ∷ es) = cond (p == q) (Some c) (content_of p es)
content_of p (Second q reply.Content c ∷ es) = cond (p == q) (Some c) (content_of p es)
content_of p (e ∷ es) = content_of p es

-- an exchange or a start that ended because memory ran out
abbrev pub is_wanting : Exchange → Bool
is_wanting (NoRoom p) = true
is_wanting (Opening p OutOfMemory) = true
is_wanting (First p reply.NoMemory c) = true
is_wanting (Listing late names list.NoMemory) = true
is_wanting (Second p reply.NoMemory c) = true
is_wanting e = false

abbrev pub NoneWanting : List Exchange → Type 0
NoneWanting [] = Unit {0}
NoneWanting (e ∷ es) = (is_wanting e ≡ false) × NoneWanting es

-- A talk over these paths with a driver whose starts are told. What its sessions took, told or not, goes by these
-- starts. No link failed, and memory ran out for no path.
pub record IsToldTalk (d : ℕ) (paths : Paths) (asked : List ℕ) (told : List StartTold)
    (items : List Had) (exchanges : List Exchange) : Type 0 where
  pub full : List Had
  pub fills : Fills items full
  pub talk : IsTalk d paths asked full exchanges
  pub left : Starts
  pub goes : GoBy (StartsListed told) full left
  pub fine : NoneFailed items
  pub memory : (p : ℕ) → contains p asked ≡ true
      → fate_in d p exchanges ≡ Known heard.OutOfMemory → ⊥

-- the paths have different texts
abbrev pub HaveTexts : Paths → List ℕ → Type 0
HaveTexts paths asked = (p q : ℕ) → contains p asked ≡ true → contains q asked ≡ true
    → paths.text p ≡ paths.text q → p ≡ q

-- the two know each of these paths by the same text
abbrev pub HaveSameTexts : Paths → Paths → List ℕ → Type 0
HaveSameTexts a b asked = (p : ℕ) → contains p asked ≡ true → a.text p ≡ b.text p

-- the two have besides the same name of its object and the same prepared bytes for each
abbrev pub HaveSamePaths : Paths → Paths → List ℕ → Type 0
HaveSamePaths a b asked = (p : ℕ) → contains p asked ≡ true
    → (a.text p ≡ b.text p) × (a.name p ≡ b.name p) × (a.content p ≡ b.content p)

-- Two such talks tell the same of each path, and its driver gave the same content for it. If besides
-- memory ran out in none of their exchanges, they have the same: the same requests too, where the
-- paths have the same object names and prepared bytes.
abbrev pub SameHeard : Type 0
SameHeard = (d : ℕ) (a b : Paths) (asked : List ℕ) (told : List StartTold) (i j : List Had)
    (es fs : List Exchange) → AreApart asked → HaveTexts a asked → HaveSameTexts a b asked
    → IsToldTalk d a asked told i es → IsToldTalk d b asked told j fs
    → ((p : ℕ) → contains p asked ≡ true
    → (fate_in d p es ≡ fate_in d p fs) × (content_of p es ≡ content_of p fs))
    × (NoneWanting es → NoneWanting fs → es ≡ fs)
    × (HaveSamePaths a b asked → (caps : Caps)
    → map (request_of a caps) es ≡ map (request_of b caps) es)
