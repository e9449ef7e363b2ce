-- What the steps of the scan say of a pattern and a path.
use Rattle.std.specs.Prelude.{◌≡◌, ◌⊎◌, ℕ, ◌+◌, ◌<◌, ◌≤◌, Bool, true, false, List, [], ◌∷◌, length, drop, position}
use Rattle.std.specs.Prelude.{slice_index, Option, Some, None, if◌then◌else◌}
use Rattle.std.specs.List.{position_or_len}
use Rattle.wild_match.specs.Members.{is_close}
use Rattle.wild_match.specs.declared.part.MatchStep.{MatchStep}
use Rattle.wild_match.specs.declared.part.MatchStep.TheVariants.{Star, Byte, Behind, Matched, Stuck}
use Rattle.wild_match.specs.declared.part.Remaining.{Remaining}
use Rattle.wild_match.specs.declared.part.PartEnd.{PartEnd}
use Rattle.wild_match.specs.declared.part.PartEnd.TheVariants.{Folders as OpenFolders, Behind as PartBehind}
use Rattle.wild_match.specs.declared.part.PartEnd.TheVariants.{Matched as PartMatched, Stuck as PartStuck}
use Rattle.wild_match.specs.Pieces.{Piece, Slash, One, Run, Folders, Rest, Never, plain_front, pieces}
use Rattle.wild_match.specs.Fits.{is_slash, fits}

-- how long a piece is that stands for one byte, if this byte passes it
abbrev pub one_length_of : ℕ → ℕ → Piece → Option ℕ
one_length_of b n (One passes) = if passes b then Some n else None
one_length_of b n piece = None

abbrev pub one_of : ℕ → Piece × ℕ → Option ℕ
one_of b first = one_length_of b first.1 first.0

-- how long a piece is that stands for one byte
abbrev pub single_of : Piece × ℕ → Option ℕ
single_of (One passes, n) = Some n
single_of (Slash, n) = None
single_of (Run, n) = None
single_of (Folders, n) = None
single_of (Rest, n) = None
single_of (Never, n) = None

-- a piece of n bytes stands in front of a pattern, for one byte
pub record IsSingle (pattern : List ℕ) (n : ℕ) : Type 0 where
  pub first : (slice_index pattern 0 ≡ 63) ⊎ (slice_index pattern 0 ≡ 91)
  pub reads : single_of (plain_front pattern) ≡ Some n

-- how long a `/` is
abbrev pub slash_length_of : ℕ → Piece → Option ℕ
slash_length_of n Slash = Some n
slash_length_of n piece = None

abbrev pub slash_of : Piece × ℕ → Option ℕ
slash_of first = slash_length_of first.1 first.0

-- a place that is known for the first `]` from another on, unless it is before that one
abbrev pub IsClose : List ℕ → ℕ → ℕ → Type 0
IsClose text start known = start ≤ known → known ≡ start + position_or_len is_close (drop start text)

-- a piece of n bytes that a text's first byte passes
pub record PassesByte (pattern text : List ℕ) (n : ℕ) : Type 0 where
  pub passes : ℕ → Bool
  pub reads : pieces false pattern ≡ One passes ∷ pieces false (drop n pattern)
  pub some : 0 < n
  pub within : n ≤ length pattern
  pub there : 0 < length text
  pub other : is_slash (slice_index text 0) ≡ false
  pub passed : passes (slice_index text 0) ≡ true

-- a `/` of n bytes, and a `/` in front of the text
pub record PassesSlash (pattern text : List ℕ) (n : ℕ) : Type 0 where
  pub reads : pieces false pattern ≡ Slash ∷ pieces true (drop n pattern)
  pub some : 0 < n
  pub within : n ≤ length pattern
  pub there : 0 < length text
  pub slash : slice_index text 0 ≡ 47

-- a star of n bytes
pub record PassesStar (pattern : List ℕ) (n : ℕ) : Type 0 where
  pub reads : pieces false pattern ≡ Run ∷ pieces false (drop n pattern)
  pub some : 0 < n
  pub within : n ≤ length pattern

abbrev pub IsStep : List ℕ → List ℕ → MatchStep → Type 0
IsStep pattern text (Star n) = PassesStar pattern n
IsStep pattern text (Byte n) = PassesByte pattern text n
IsStep pattern text (Behind n) = PassesSlash pattern text n
IsStep pattern text Matched = (pieces false pattern ≡ []) × (length text ≡ 0)
IsStep pattern text Stuck = fits (pieces false pattern) text ≡ false

-- the pieces from the end of a part of the pattern on
abbrev pub from_stop : List Piece → List Piece
from_stop [] = []
from_stop (One passes ∷ later) = from_stop later
from_stop (Run ∷ later) = from_stop later
from_stop (Never ∷ later) = from_stop later
from_stop (Slash ∷ later) = Slash ∷ later
from_stop (Folders ∷ later) = Folders ∷ later
from_stop (Rest ∷ later) = Rest ∷ later

-- the text from its first `/` on
abbrev pub from_slash : List ℕ → List ℕ
from_slash [] = []
from_slash (b ∷ text) = if is_slash b then b ∷ text else from_slash text

-- both parts end in a `/`, and fit where what follows them does
pub record BehindPart (first : List Piece) (pattern text later rest : List ℕ) : Type 0 where
  pub same : fits first text ≡ fits (pieces true later) rest
  pub stop : from_stop first ≡ Slash ∷ pieces true later
  pub slash : from_slash text ≡ 47 ∷ rest
  pub shorter : length later < length pattern

-- `**/` in front
pub record OpensFolders (first : List Piece) (pattern text later rest : List ℕ) : Type 0 where
  pub reads : first ≡ Folders ∷ pieces true later
  pub same : rest ≡ text
  pub shorter : length later < length pattern

abbrev pub IsPart : List Piece → List ℕ → List ℕ → PartEnd → Type 0
IsPart first pattern text (OpenFolders at) = OpensFolders first pattern text at.pattern.now at.path.now
IsPart first pattern text (PartBehind at) = BehindPart first pattern text at.pattern.now at.path.now
IsPart first pattern text PartMatched = fits first text ≡ true
IsPart first pattern text PartStuck = fits first text ≡ false

-- a place, as texts
abbrev pub texts_of : Remaining → List ℕ × List ℕ
texts_of at = (at.pattern.now, at.path.now)

abbrev pub seen_back : Option Remaining → Option (List ℕ × List ℕ)
seen_back None = None
seen_back (Some at) = Some (texts_of at)

-- where what follows a star is tried next, by where it was tried
abbrev pub next_byte : List ℕ → List ℕ → Option (List ℕ × List ℕ)
next_byte pattern [] = None
next_byte pattern (b ∷ text) = if is_slash b then None else Some (pattern, text)

abbrev pub next_split : Option (List ℕ × List ℕ) → Option (List ℕ × List ℕ)
next_split None = None
next_split (Some tried) = next_byte tried.0 tried.1

-- where what follows `**/` is tried next
abbrev pub behind_slash : List ℕ → List ℕ → Option ℕ → Option (List ℕ × List ℕ)
behind_slash pattern text None = None
behind_slash pattern text (Some n) = Some (pattern, drop (n + 1) text)

abbrev pub next_part : List ℕ → List ℕ → Option (List ℕ × List ℕ)
next_part pattern text = behind_slash pattern text (position is_slash text)

abbrev pub next_folder : Option (List ℕ × List ℕ) → Option (List ℕ × List ℕ)
next_folder None = None
next_folder (Some tried) = next_part tried.0 tried.1
