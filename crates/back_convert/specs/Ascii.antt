-- Bytes that begin with characters of ASCII.
use Rattle.std.specs.Prelude.{◌≡◌, ◌<◌, ℕ, List, ◌++◌, length, Option}
use Rattle.std.specs.Str.{IsAscii}
use Rattle.back_convert.specs.Encoding.{text_of, behind_text}

-- whatever follows it, a block is read as these characters of ASCII
pub record IsAsciiBlock (chars : List ℕ → Option (List ℕ)) (block ascii : List ℕ) : Type 0 where
  pub all : IsAscii ascii
  pub read : (behind : List ℕ) → chars (block ++ behind) ≡ behind_text ascii (chars behind)

-- the text of bytes begins with this, and goes on with the text of what follows
pub record BeginsWithText (chars : List ℕ → Option (List ℕ)) (bytes text behind : List ℕ) : Type 0 where
  pub read : text_of (chars bytes) ≡ behind_text text (text_of (chars behind))
  pub shorter : length behind < length bytes

-- what was made, and then the text of the bytes, is what is made now, and then the text of fewer bytes
pub record GoesOn (chars : List ℕ → Option (List ℕ)) (old bytes new behind : List ℕ) : Type 0 where
  pub same : behind_text new (text_of (chars behind)) ≡ behind_text old (text_of (chars bytes))
  pub shorter : length behind < length bytes
