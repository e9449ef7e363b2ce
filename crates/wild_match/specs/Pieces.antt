-- A pattern as the pieces that it is read to.
use Rattle.std.specs.Prelude.{ℕ, zero, suc, ◌+◌, ◌-◌, Bool, true, false, ◌&&◌, ◌||◌, not, ◌==◌, nat_eq}
use Rattle.std.specs.Prelude.{nat_le, List, [], ◌∷◌, length, drop, codes, slice_index, Option, Some, None}
use Rattle.std.specs.Prelude.{if◌then◌else◌}
use Rattle.std.specs.List.{starts_with}
use Rattle.std.specs.Str.{bytes_eq}
use Rattle.wild_match.specs.declared.sets.Member.{Member}
use Rattle.wild_match.specs.Members.{set_members, is_member}
use Rattle.byte_path.specs.Characters.{bang, star, slash, question_mark, open_bracket, backslash, caret}

pub data Piece : Type 0 where
  -- a `/`
  Slash : Piece
  -- one byte other than `/` that passes
  One : (passes : ℕ → Bool) → Piece
  -- bytes other than `/`
  Run : Piece
  -- nothing, or bytes that end in `/`
  Folders : Piece
  -- one or more bytes
  Rest : Piece
  -- no text, not even the empty one
  Never : Piece

abbrev pub any_byte : ℕ → Bool
any_byte b = true

-- a member, or in a negated set none
abbrev pub is_in_set : Bool → List Member → ℕ → Bool
is_in_set true members b = not (is_member members b)
is_in_set false members b = is_member members b

-- a set after n bytes
abbrev pub set_piece : Bool → ℕ → Option (List Member × ℕ) → Piece × ℕ
set_piece negated n None = (Never, n)
set_piece negated n (Some set) = (One (is_in_set negated set.0), n + set.1)

-- whether `!` or `^` stands in front
abbrev pub is_negated : List ℕ → Bool
is_negated text = nat_le 1 (length text) && ((slice_index text 0 == bang) || (slice_index text 0 == caret))

-- `[` and what follows it
unfoldable pub set_front : List ℕ → Piece × ℕ
set_front text =
    if is_negated text then set_piece true 2 (set_members (drop 1 text)) else set_piece false 1 (set_members text)

-- `\` and the byte that it takes the meaning from
unfoldable pub escape_front : List ℕ → Piece × ℕ
escape_front text =
    if length text == 0 then (Never, 1)
    else if slice_index text 0 == slash then (Slash, 2)
    else (One (nat_eq (slice_index text 0)), 2)

-- the piece in front of a pattern that is not empty, and how many bytes it takes, away from the start of a part
unfoldable pub plain_front : List ℕ → Piece × ℕ
plain_front text =
    if slice_index text 0 == star then (Run, 1)
    else if slice_index text 0 == slash then (Slash, 1)
    else if slice_index text 0 == question_mark then (One any_byte, 1)
    else if slice_index text 0 == open_bracket then set_front (drop 1 text)
    else if slice_index text 0 == backslash then escape_front (drop 1 text)
    else (One (nat_eq (slice_index text 0)), 1)

-- `**/`
abbrev pub is_folders : List ℕ → Bool
is_folders text = starts_with nat_eq text (codes "**/")

-- `**` at the end
abbrev pub is_rest : List ℕ → Bool
is_rest text = bytes_eq text (codes "**")

-- the piece in front: at the start of a part `**/`, and `**` at the end, cross `/`. Each other star of a run splits by
-- itself, which has the same effect.
unfoldable pub front : Bool → List ℕ → Piece × ℕ
front fresh text =
    if fresh && is_folders text then (Folders, 3)
    else if fresh && is_rest text then (Rest, 2)
    else plain_front text

-- whether a part starts after a piece
abbrev pub is_fresh_behind : Piece → Bool
is_fresh_behind Slash = true
is_fresh_behind Folders = true
is_fresh_behind piece = false

-- a piece, and those after it
abbrev pub onto : Piece × ℕ → (ℕ → Bool → List Piece) → List Piece
onto first later = first.0 ∷ later (first.1 - 1) (is_fresh_behind first.0)

-- the pieces of a pattern, after `skip` bytes of a piece that was read; `fresh`: at the start of a part
abbrev pub pieces_behind : ℕ → Bool → List ℕ → List Piece
pieces_behind skip fresh [] = []
pieces_behind (suc skip) fresh (b ∷ text) = pieces_behind skip fresh text
pieces_behind zero fresh (b ∷ text) = onto (front fresh (b ∷ text)) (λ skip fresh. pieces_behind skip fresh text)

abbrev pub pieces : Bool → List ℕ → List Piece
pieces fresh text = pieces_behind 0 fresh text
