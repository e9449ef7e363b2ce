-- Numbers of several bytes, as packs have them (gitformat-pack(5)). Each byte but the last is 128 or more.
use Rattle.std.specs.Prelude.{◌≡◌, ℕ, zero, suc, ◌+◌, ◌*◌, ◌-◌, ◌<◌, ◌≤◌, List, ◌∷◌}

-- so many bytes and a last one make a number, seven bits a byte, the least significant first
abbrev pub HasBytes : ℕ → List ℕ → ℕ → List ℕ → Type 0
HasBytes zero bytes number rest = (number < 128) × (bytes ≡ number ∷ rest)
HasBytes (suc n) bytes number rest =
    (byte : ℕ) × (behind : List ℕ) × (higher : ℕ)
    × (128 ≤ byte) × (bytes ≡ byte ∷ behind) × HasBytes n behind higher rest
    × (number ≡ higher * 128 + (byte - 128))

-- a number at the front, and what is behind it
abbrev pub HasNumber : List ℕ → ℕ → List ℕ → Type 0
HasNumber bytes number rest = (n : ℕ) × HasBytes n bytes number rest

-- so many bytes and a last one make a distance behind bytes that came to a number: seven bits a byte, the most
-- significant first, where each byte that isn't the last counts one more
abbrev pub HasSteps : ℕ → ℕ → List ℕ → ℕ → List ℕ → Type 0
HasSteps before zero bytes distance rest =
    (byte : ℕ) × (byte < 128) × (bytes ≡ byte ∷ rest) × (distance ≡ before * 128 + byte)
HasSteps before (suc n) bytes distance rest =
    (byte : ℕ) × (behind : List ℕ)
    × (128 ≤ byte) × (bytes ≡ byte ∷ behind) × HasSteps (before * 128 + (byte - 127)) n behind distance rest

-- a distance at the front, and what is behind it
abbrev pub HasDistance : ℕ → List ℕ → ℕ → List ℕ → Type 0
HasDistance before bytes distance rest = (n : ℕ) × HasSteps before n bytes distance rest
