-- How a configuration is spelled, and what it says (git-config(1), "Syntax").
use Rattle.std.specs.Prelude.{◌≡◌, ℕ, ◌≤◌, Bool, true, false, ◌&&◌, ◌||◌, ◌==◌, not, nat_lt, List, []}
use Rattle.std.specs.Prelude.{◌∷◌, ◌++◌, length, map, Option, Some, None, Ok, if◌then◌else◌}
use Rattle.std.specs.List.{flat_map, list_all}
use Rattle.std.specs.Char.{is_ascii_alphabetic}
use Rattle.byte_path.specs.Characters.{backspace, tab, line_feed, quote, open_bracket, backslash, close_bracket}
use Rattle.byte_path.specs.Characters.{letter_b, letter_n, letter_t, equals}
use Rattle.byte_path.specs.Front.{begins, unmarked}
use Rattle.git_config.specs.declared.setting.Head.{Head}
use Rattle.git_config.specs.declared.setting.Setting.{Setting}
use Rattle.git_config.specs.Text.{is_blank, is_line_end, is_comment_mark, is_key_byte, is_name_byte, without_cr}
use Rattle.git_config.specs.Header.{plain_head, lowered}
use Rattle.git_config.specs.Reading.{setting_of, config_at}

-- `\"`, `\\`, `\n`, `\t` and `\b`
pub data Escape : Type 0 where
  OfQuote : Escape
  OfBackslash : Escape
  OfLineFeed : Escape
  OfTab : Escape
  OfBackspace : Escape

-- what stands after the backslash
abbrev pub letter : Escape → ℕ
letter OfQuote = quote
letter OfBackslash = backslash
letter OfLineFeed = letter_n
letter OfTab = letter_t
letter OfBackspace = letter_b

-- the byte that is meant
abbrev pub meant : Escape → ℕ
meant OfQuote = quote
meant OfBackslash = backslash
meant OfLineFeed = line_feed
meant OfTab = tab
meant OfBackspace = backspace

-- a byte that stands for itself, an escape, or a backslash at the end of a line, which goes on in the next one
pub data Sign : Type 0 where
  Plain : ℕ → Sign
  Escaped : Escape → Sign
  Continued : Sign

abbrev pub spelled_sign : Sign → List ℕ
spelled_sign (Plain b) = b ∷ []
spelled_sign (Escaped e) = backslash ∷ letter e ∷ []
spelled_sign Continued = backslash ∷ line_feed ∷ []

-- which bytes stand for themselves in quotes, and outside them
abbrev pub is_quoted_byte : ℕ → Bool
is_quoted_byte b = not (b == line_feed || b == quote || b == backslash)

abbrev pub is_bare_byte : ℕ → Bool
is_bare_byte b = is_quoted_byte b && not (is_comment_mark b)

abbrev pub is_sign : (ℕ → Bool) → Sign → Bool
is_sign test (Plain b) = test b
is_sign test (Escaped e) = true
is_sign test Continued = true

-- a stretch of a value: one sign outside quotes, or signs in quotes
pub data Stretch : Type 0 where
  Outside : Sign → Stretch
  InQuotes : List Sign → Stretch

abbrev pub spelled_stretch : Stretch → List ℕ
spelled_stretch (Outside s) = spelled_sign s
spelled_stretch (InQuotes ss) = quote ∷ (flat_map spelled_sign ss ++ quote ∷ [])

abbrev pub is_stretch : Stretch → Bool
is_stretch (Outside s) = is_sign is_bare_byte s
is_stretch (InQuotes ss) = list_all (is_sign is_quoted_byte) ss

-- a part of a value: a bare byte, a byte in quotes or of an escape, or nothing
pub data Part : Type 0 where
  Bare : ℕ → Part
  Quoted : ℕ → Part
  Nothing : Part

abbrev pub bare_part : Sign → Part
bare_part (Plain b) = Bare b
bare_part (Escaped e) = Quoted (meant e)
bare_part Continued = Nothing

abbrev pub quoted_part : Sign → Part
quoted_part (Plain b) = Quoted b
quoted_part (Escaped e) = Quoted (meant e)
quoted_part Continued = Nothing

-- a quote itself stands for nothing
abbrev pub parts_of : Stretch → List Part
parts_of (Outside s) = bare_part s ∷ []
parts_of (InQuotes ss) = Nothing ∷ (map quoted_part ss ++ Nothing ∷ [])

abbrev pub is_bare_blank : Part → Bool
is_bare_blank (Bare b) = is_blank b
is_bare_blank (Quoted b) = false
is_bare_blank Nothing = false

-- the bytes of a part
abbrev pub bytes_of : Part → List ℕ
bytes_of (Bare b) = b ∷ []
bytes_of (Quoted b) = b ∷ []
bytes_of Nothing = []

-- without the bare blanks at the end
abbrev pub without_last_blanks : List Part → List Part
without_last_blanks [] = []
without_last_blanks (p ∷ ps) = if list_all is_bare_blank (p ∷ ps) then [] else p ∷ without_last_blanks ps

-- the bytes of parts, without the bare blanks in front of the first other byte
abbrev pub bytes_from_first : List Part → List ℕ
bytes_from_first [] = []
bytes_from_first (Bare b ∷ ps) = if is_blank b then bytes_from_first ps else b ∷ flat_map bytes_of ps
bytes_from_first (Quoted b ∷ ps) = b ∷ flat_map bytes_of ps
bytes_from_first (Nothing ∷ ps) = bytes_from_first ps

-- the text of a value: its parts without the bare blanks in front and at the end
abbrev pub text_of : List Part → List ℕ
text_of ps = bytes_from_first (without_last_blanks ps)

-- What ends a value: the end of its line, a comment, or a backslash with which the file ends. That one continues the
-- value on an empty line.
pub data Ending : Type 0 where
  AtLineEnd : Ending
  AtComment : (mark : ℕ) → (comment : List ℕ) → Ending
  AtCut : Ending

abbrev pub spelled_ending : Ending → List ℕ
spelled_ending AtLineEnd = []
spelled_ending (AtComment mark comment) = mark ∷ comment
spelled_ending AtCut = backslash ∷ []

abbrev pub ending_parts : Ending → List Part
ending_parts AtLineEnd = []
ending_parts (AtComment mark comment) = []
ending_parts AtCut = Nothing ∷ []

-- a comment runs to the end of its line
abbrev pub is_comment : ℕ → List ℕ → Bool
is_comment mark comment = is_comment_mark mark && list_all (λ b. not (is_line_end b)) comment

abbrev pub is_ending : Ending → Bool
is_ending AtLineEnd = true
is_ending (AtComment mark comment) = is_comment mark comment
is_ending AtCut = true

-- a byte of a subsection: as it is, or after a backslash
pub data SubByte : Type 0 where
  AsItIs : ℕ → SubByte
  BehindBackslash : ℕ → SubByte

abbrev pub spelled_sub_byte : SubByte → List ℕ
spelled_sub_byte (AsItIs b) = b ∷ []
spelled_sub_byte (BehindBackslash b) = backslash ∷ b ∷ []

abbrev pub sub_byte : SubByte → ℕ
sub_byte (AsItIs b) = b
sub_byte (BehindBackslash b) = b

abbrev pub is_sub_byte : SubByte → Bool
is_sub_byte (AsItIs b) = not (b == line_feed || b == quote || b == backslash)
is_sub_byte (BehindBackslash b) = not (b == line_feed)

-- an item of a file
pub data Item : Type 0 where
  -- a blank, or the end of a line
  Space : ℕ → Item
  Comment : (mark : ℕ) → (comment : List ℕ) → Item
  -- `[name]`
  Header : (name : List ℕ) → Item
  -- `[name "sub"]`
  SubHeader : (name : List ℕ) → (blanks : List ℕ) → (sub : List SubByte) → Item
  -- a key, with what stands after it on its line
  Key : (key : List ℕ) → (blanks : List ℕ) → Item
  KeyValue : (key : List ℕ) → (blanks : List ℕ) → (value : List Stretch) → (ending : Ending) → Item

abbrev pub spelled_item : Item → List ℕ
spelled_item (Space b) = b ∷ []
spelled_item (Comment mark comment) = mark ∷ comment
spelled_item (Header name) = open_bracket ∷ (name ++ close_bracket ∷ [])
spelled_item (SubHeader name blanks sub) =
    open_bracket ∷ (name ++ (blanks ++ quote ∷ (flat_map spelled_sub_byte sub ++ quote ∷ close_bracket ∷ [])))
spelled_item (Key key blanks) = key ++ blanks
spelled_item (KeyValue key blanks value ending) =
    key ++ (blanks ++ equals ∷ (flat_map spelled_stretch value ++ spelled_ending ending))

-- a name has at least one byte, and a key begins with a letter
abbrev pub is_name : List ℕ → Bool
is_name name = nat_lt 0 (length name) && list_all is_name_byte name

abbrev pub is_key : List ℕ → Bool
is_key key = begins is_ascii_alphabetic key && list_all is_key_byte key

abbrev pub is_item : Item → Bool
is_item (Space b) = is_blank b || is_line_end b
is_item (Comment mark comment) = is_comment mark comment
is_item (Header name) = is_name name
is_item (SubHeader name blanks sub) =
    is_name name && (nat_lt 0 (length blanks) && (list_all is_blank blanks && list_all is_sub_byte sub))
is_item (Key key blanks) = is_key key && list_all is_blank blanks
is_item (KeyValue key blanks value ending) =
    is_key key && (list_all is_blank blanks && (list_all is_stretch value && is_ending ending))

-- whether a text is empty or begins with a byte that passes a test
abbrev pub ends_or_begins : (ℕ → Bool) → List ℕ → Bool
ends_or_begins test [] = true
ends_or_begins test (b ∷ text) = test b

abbrev pub is_at_end : List ℕ → Bool
is_at_end text = ends_or_begins is_line_end text

abbrev pub is_empty : List ℕ → Bool
is_empty text = ends_or_begins (λ b. false) text

abbrev pub is_ended_by : Ending → List ℕ → Bool
is_ended_by AtLineEnd behind = is_at_end behind
is_ended_by (AtComment mark comment) behind = is_at_end behind
is_ended_by AtCut behind = is_empty behind

-- what may stand after an item: after a comment and a key the line ends
abbrev pub may_stand_before : Item → List ℕ → Bool
may_stand_before (Space b) behind = true
may_stand_before (Comment mark comment) behind = is_at_end behind
may_stand_before (Header name) behind = true
may_stand_before (SubHeader name blanks sub) behind = true
may_stand_before (Key key blanks) behind = is_at_end behind
may_stand_before (KeyValue key blanks value ending) behind = is_ended_by ending behind

-- the section after an item
abbrev pub head_behind : Option Head → Item → Option Head
head_behind head (Space b) = head
head_behind head (Comment mark comment) = head
head_behind head (Header name) = Some (plain_head name)
head_behind head (SubHeader name blanks sub) = Some (record { section = lowered name; sub = Some (map sub_byte sub) })
head_behind head (Key key blanks) = head
head_behind head (KeyValue key blanks value ending) = head

-- what an item says in a section, which it has to stand in if it is a key
abbrev pub Says : Option Head → Item → List Setting → Type 0
Says head (Space b) said = said ≡ []
Says head (Comment mark comment) said = said ≡ []
Says head (Header name) said = said ≡ []
Says head (SubHeader name blanks sub) said = said ≡ []
Says None (Key key blanks) said = ⊥
Says (Some head) (Key key blanks) said = said ≡ setting_of head key None ∷ []
Says None (KeyValue key blanks value ending) said = ⊥
Says (Some head) (KeyValue key blanks value ending) said =
    said ≡ setting_of head key (Some (text_of (flat_map parts_of value ++ ending_parts ending))) ∷ []

-- what items say, one after the other
abbrev pub Say : Option Head → List Item → List Setting → Type 0
Say head [] settings = settings ≡ []
Say head (i ∷ is) settings =
    (said others : List Setting) × (is_item i ≡ true) × (may_stand_before i (flat_map spelled_item is) ≡ true)
    × Says head i said × Say (head_behind head i) is others × (settings ≡ said ++ others)

-- The bytes are a configuration with these settings. A byte order mark at the start is ignored, and so is each CR
-- right before LF.
pub record IsConfig (bytes : List ℕ) (settings : List Setting) : Type 0 where
  pub items : List Item
  pub spelled_so : without_cr (unmarked bytes) ≡ flat_map spelled_item items
  pub say : Say None items settings
  pub small : length bytes ≤ 1048576

-- What is spelled is read, and what is read is spelled.
abbrev pub SpelledIsRead : Type 0
SpelledIsRead = (bytes : List ℕ) (settings : List Setting) → IsConfig bytes settings → config_at bytes ≡ Ok settings

abbrev pub ReadIsSpelled : Type 0
ReadIsSpelled = (bytes : List ℕ) (settings : List Setting) → config_at bytes ≡ Ok settings → IsConfig bytes settings
