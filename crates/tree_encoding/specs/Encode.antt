-- A content in an encoding other than UTF-8.
use Rattle.std.specs.Prelude.{ℕ, ◌+◌, ◌-◌, ◌/◌, ◌%◌, Bool, true, false, ◌&&◌, nat_lt, length, List, [], ◌∷◌}
use Rattle.std.specs.Prelude.{◌++◌, ◌≡◌, Option, Some, None, if◌then◌else◌}
use Rattle.std.specs.List.{flat_map}
use Rattle.std.specs.Str.{chars, is_utf8}
use Rattle.tree_encoding.specs.declared.encoding.Encoding.{Encoding}
use Rattle.tree_encoding.specs.declared.encoding.Encoding.TheVariants.{Utf16, Utf16Le, Utf16Be, Utf16LeBom}
use Rattle.tree_encoding.specs.declared.encoding.Encoding.TheVariants.{Utf32, Utf32Le, Utf32Be}
use Rattle.tree_encoding.specs.declared.prepared.Prepared.{Prepared}

-- the units of a character in UTF-16 (RFC 2781, 2.1): itself up to FFFF, and else a high and a low surrogate
abbrev pub units16 : ℕ → List ℕ
units16 c =
    if nat_lt c 0x1_0000 then c ∷ []
    else (0xD800 + (c - 0x1_0000) / 0x400) ∷ (0xDC00 + (c - 0x1_0000) % 0x400) ∷ []

-- the bytes of a unit, the lowest or the highest first
abbrev pub little16 : ℕ → List ℕ
little16 unit = unit % 256 ∷ unit / 256 % 256 ∷ []

abbrev pub big16 : ℕ → List ℕ
big16 unit = unit / 256 % 256 ∷ unit % 256 ∷ []

abbrev pub little32 : ℕ → List ℕ
little32 unit = unit % 256 ∷ unit / 256 % 256 ∷ unit / 0x1_0000 % 256 ∷ unit / 0x100_0000 % 256 ∷ []

abbrev pub big32 : ℕ → List ℕ
big32 unit = unit / 0x100_0000 % 256 ∷ unit / 0x1_0000 % 256 ∷ unit / 256 % 256 ∷ unit % 256 ∷ []

-- the bytes of a character
abbrev pub little16_of : ℕ → List ℕ
little16_of c = flat_map little16 (units16 c)

abbrev pub big16_of : ℕ → List ℕ
big16_of c = flat_map big16 (units16 c)

abbrev pub bytes_of : Encoding → ℕ → List ℕ
bytes_of Utf16 = little16_of
bytes_of Utf16Le = little16_of
bytes_of Utf16LeBom = little16_of
bytes_of Utf16Be = big16_of
bytes_of Utf32 = little32
bytes_of Utf32Le = little32
bytes_of Utf32Be = big32

-- U+FEFF at the front
abbrev pub mark_of : Encoding → List ℕ
mark_of Utf16 = 0xFF ∷ 0xFE ∷ []
mark_of Utf16LeBom = 0xFF ∷ 0xFE ∷ []
mark_of Utf32 = 0xFF ∷ 0xFE ∷ 0 ∷ 0 ∷ []
mark_of Utf16Le = []
mark_of Utf16Be = []
mark_of Utf32Le = []
mark_of Utf32Be = []

-- a text: its characters after the mark, and an empty one without a mark
abbrev pub text_in : Encoding → List ℕ → List ℕ
text_in encoding [] = []
text_in encoding (b ∷ text) = mark_of encoding ++ flat_map (bytes_of encoding) (chars (b ∷ text))

-- whether an encoding makes another content of it: it is UTF-8 and not empty
abbrev pub is_encodable : List ℕ → Bool
is_encodable content = is_utf8 content && nat_lt 0 (length content)

-- what stays: it isn't UTF-8, or there is nothing to encode
abbrev pub kept : List ℕ → Prepared
kept content = record { bytes = content; unencoded = nat_lt 0 (length content) }

-- a content: what isn't UTF-8 stays, and the flag says so
abbrev pub encoded_if : Bool → List ℕ → Encoding → Prepared
encoded_if true content encoding = record { bytes = text_in encoding content; unencoded = false }
encoded_if false content encoding = record { bytes = content; unencoded = true }

unfoldable pub encoded : List ℕ → Encoding → Prepared
encoded content encoding = encoded_if (is_utf8 content) content encoding

-- a content in one of the eight encodings: UTF-8, which is none of the seven others, changes nothing
abbrev pub in_encoding : Option Encoding → List ℕ → Prepared
in_encoding None content = record { bytes = content; unencoded = false }
in_encoding (Some encoding) content = encoded content encoding

-- An encoding's text is that of one content: two contents that are encoded to equal bytes are equal.
abbrev pub OneContent : Type 0
OneContent = (encoding : Option Encoding) (s t : List ℕ) → (in_encoding encoding s).unencoded ≡ false
    → (in_encoding encoding t).unencoded ≡ false → (in_encoding encoding s).bytes ≡ (in_encoding encoding t).bytes
    → s ≡ t
