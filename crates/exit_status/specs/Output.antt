-- How much of a text is written.
use Rattle.std.specs.Prelude.{◌≡◌, ◌⊎◌, ℕ, ◌≤◌, List, [], ◌∷◌, ◌++◌, length, take}
use Rattle.edge_kit.specs.Files.{grown}
use Rattle.edge_kit.specs.Seen.{SinkSeen}

-- the sink with this text after what was written before
abbrev pub with_text : List ℕ → SinkSeen → SinkSeen
with_text text sink = record sink { written = grown sink.written text }

-- the last byte is an LF
abbrev pub EndsLine : List ℕ → Type 0
EndsLine bytes = (front : List ℕ) × (bytes ≡ front ++ 10 ∷ [])

-- whole lines, or no bytes
abbrev pub AreLines : List ℕ → Type 0
AreLines bytes = (bytes ≡ []) ⊎ EndsLine bytes

-- the written bytes grew by the first lines of the text, or by none, and the sink didn't fail
pub record IsLineCut (text : List ℕ) (old new : SinkSeen) : Type 0 where
  pub taken : ℕ
  pub within : taken ≤ length text
  pub lines : AreLines (take taken text)
  pub part : new ≡ with_text (take taken text) old
