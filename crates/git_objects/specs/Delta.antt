-- What a delta makes of its base (gitformat-pack(5)).
use Rattle.std.specs.Prelude.{◌≡◌, ℕ, zero, suc, ◌+◌, ◌*◌, ◌/◌, ◌%◌, ◌≤◌, ◌<◌, ◌==◌, if◌then◌else◌}
use Rattle.std.specs.Prelude.{List, [], ◌∷◌, ◌++◌, length, take, drop}
use Rattle.git_objects.specs.Numbers.{HasNumber}

-- a byte of a number, which stands there if its bit is set, and else is zero
abbrev pub HasByte : ℕ → List ℕ → ℕ → List ℕ → Type 0
HasByte zero bytes byte rest = (byte ≡ 0) × (bytes ≡ rest)
HasByte (suc _) bytes byte rest = bytes ≡ byte ∷ rest

-- where a copy begins: up to four bytes, the least significant first, by the bits of a mask
abbrev pub HasOffset : ℕ → List ℕ → ℕ → List ℕ → Type 0
HasOffset mask bytes offset rest =
    (a b c d : ℕ) × (after_a after_b after_c : List ℕ)
    × HasByte (mask % 2) bytes a after_a × HasByte (mask / 2 % 2) after_a b after_b
    × HasByte (mask / 4 % 2) after_b c after_c × HasByte (mask / 8 % 2) after_c d rest
    × (offset ≡ (a + 256 * b) + (65536 * c + 16777216 * d))

-- how many bytes a copy has: up to three bytes in the same way, and 65536 in place of zero
abbrev pub HasLength : ℕ → List ℕ → ℕ → List ℕ → Type 0
HasLength mask bytes size rest =
    (a b c : ℕ) × (after_a after_b : List ℕ)
    × HasByte (mask % 2) bytes a after_a × HasByte (mask / 2 % 2) after_a b after_b
    × HasByte (mask / 4 % 2) after_b c rest
    × (size ≡ if a + 256 * b + 65536 * c == 0 then 65536 else a + 256 * b + 65536 * c)

-- an instruction: insert these bytes, or copy so many bytes of the base from a place on
pub data Instruction : Type 0 where
  Insert : List ℕ → Instruction
  Copy : ℕ → ℕ → Instruction

-- an insert: a byte from 1 to 127 that counts the bytes behind it
abbrev pub HasInsert : List ℕ → List ℕ → List ℕ → Type 0
HasInsert piece bytes rest = (bytes ≡ length piece ∷ piece ++ rest) × (0 < length piece) × (length piece < 128)

-- a copy: a byte from 128 on, whose bits say which bytes of the place and of the length follow
pub record HasCopy (offset size : ℕ) (bytes rest : List ℕ) : Type 0 where
  pub code : ℕ
  pub behind : List ℕ
  pub mid : List ℕ
  pub begins : bytes ≡ code ∷ behind
  pub copies : 128 ≤ code
  pub placed : HasOffset (code % 16) behind offset mid
  pub sized : HasLength (code / 16 % 8) mid size rest

abbrev pub HasInstruction : Instruction → List ℕ → List ℕ → Type 0
HasInstruction (Insert piece) bytes rest = HasInsert piece bytes rest
HasInstruction (Copy offset size) bytes rest = HasCopy offset size bytes rest

-- what an instruction adds
abbrev pub Adds : Instruction → List ℕ → List ℕ → Type 0
Adds (Insert inserted) base piece = piece ≡ inserted
Adds (Copy offset size) base piece = (offset + size ≤ length base) × (piece ≡ take size (drop offset base))

-- so many instructions, and nothing behind them, make one content of another
abbrev pub Makes : List ℕ → ℕ → List ℕ → List ℕ → List ℕ → Type 0
Makes base zero bytes before after = (bytes ≡ []) × (after ≡ before)
Makes base (suc n) bytes before after =
    (i : Instruction) × (mid : List ℕ) × (piece : List ℕ)
    × HasInstruction i bytes mid × Adds i base piece × Makes base n mid (before ++ piece) after

-- a delta: the lengths of its base and of its content, and the instructions that make the content of the base
pub record IsDelta (base delta content : List ℕ) : Type 0 where
  pub mid : List ℕ
  pub rest : List ℕ
  pub count : ℕ
  pub from : HasNumber delta (length base) mid
  pub sized : HasNumber mid (length content) rest
  pub made : Makes base count rest [] content
