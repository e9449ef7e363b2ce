-- Blocks of characters of ASCII.
use Rattle.std.proofs.Common.{◌≡◌, ℕ, zero, suc, ◌+◌, ◌*◌, ◌%◌, ◌^◌, ◌<◌, ◌≤◌, Bool, true, false, cond, ltb, List, [], ◌∷◌, ◌++◌, map, length, Option, Some, None, refl, sym, ◌∙◌, ap, ap₂, subst, take, drop, arith}
use Rattle.std.proofs.lemmas.Grind.{common_steps}
use Rattle.std.proofs.lemmas.Simd.{pick_l_whole, mask_l-mod, length-zip2, tops_compared}
use Rattle.std.proofs.lemmas.Str.{encodes-append, encodes-IsAscii}
use Rattle.std.proofs.lemmas.List.{take-append-drop}
use Rattle.std.specs.List.{range_with_len}
use Rattle.std.specs.Str.{IsAscii}
use Rattle.std.specs.Simd.Lanes.{pick_l, mask_l, top, zip2}
use lib.Utf8.{scalar, encodes}
use Rattle.back_convert.specs.Encoding.{little16, big16, little32, big32, little16_chars, big16_chars, little32_chars, big32_chars, more, twos, fours, chars16, chars32, text_of, behind_text}
use Rattle.back_convert.specs.Ascii.{IsAsciiBlock, BeginsWithText}
use mir.Syntax.{w8}
use Rattle.back_convert.proofs.Units.{char_found, char32_found}

-- one character more in front of a text
more_text : (c : ℕ) (text : List ℕ) (rest : Option (List ℕ)) → more c (behind_text text rest) ≡ behind_text (c ∷ text) rest
more_text c text None = refl
more_text c text (Some chars) = refl

nothing : (rest : Option (List ℕ)) → rest ≡ behind_text [] rest
nothing None = refl
nothing (Some chars) = refl

is_scalar : (c : ℕ) → c < 128 → scalar c ≡ true
is_scalar c low = grind (arith, common_steps)

none_ascii : IsAscii []
none_ascii i = omega arith

all_more : (c : ℕ) (text : List ℕ) → c < 128 → IsAscii text → IsAscii (c ∷ text)
all_more c text low all zero = low
all_more c text low all (suc i) = all i

-- no flag is set
unset : (t : Bool) (m : ℕ) → cond t 1 0 + 2 * m ≡ 0 → (t ≡ false) × (m ≡ 0)
unset true m none = absurd (omega arith)
unset false m none = (refl, omega arith)

within : (limit b : ℕ) → ltb limit b ≡ false → b ≤ limit
within limit b is = grind (arith, common_steps)

-- ---- units of two bytes

abbrev limits2 : ℕ → ℕ → ℕ → List ℕ
limits2 la lb zero = []
limits2 la lb (suc n) = la ∷ lb ∷ limits2 la lb n

abbrev lows2 : (ℕ → ℕ → ℕ) → List ℕ → List ℕ
lows2 low [] = []
lows2 low (a ∷ []) = []
lows2 low (a ∷ b ∷ bytes) = low a b ∷ lows2 low bytes

-- Within the limits a unit is a character of ASCII, which is this one of its bytes.
read2 : (unit low : ℕ → ℕ → ℕ) (la lb : ℕ) → ((a b : ℕ) → a ≤ la → b ≤ lb → (low a b < 128) × (unit a b ≡ low a b))
    → (n : ℕ) (bytes : List ℕ) → length bytes ≡ 2 * n → mask_l (zip2 ltb (limits2 la lb n) bytes) ≡ 0 → IsAsciiBlock (λ xs. chars16 (twos unit xs)) bytes (lows2 low bytes)
read2 unit low la lb is zero [] long none = record { all = none_ascii; read = λ behind. nothing (chars16 (twos unit behind)) }
read2 unit low la lb is zero (a ∷ bytes) long none = absurd (omega (arith, long))
read2 unit low la lb is (suc n) [] long none = absurd (omega (arith, long))
read2 unit low la lb is (suc n) (a ∷ []) long none = absurd (omega (arith, long))
read2 unit low la lb is (suc n) (a ∷ b ∷ bytes) long none =
    let first = unset (ltb la a) (cond (ltb lb b) 1 0 + 2 * mask_l (zip2 ltb (limits2 la lb n) bytes)) none in
    let second = unset (ltb lb b) (mask_l (zip2 ltb (limits2 la lb n) bytes)) first.1 in
    let one = is a b (within la a first.0) (within lb b second.0) in
    let c : ℕ = low a b in
    let others = read2 unit low la lb is n bytes (omega (arith, long)) second.1 in record {
      all = all_more c (lows2 low bytes) one.0 others.all;
      read = λ behind.
          char_found unit (a ∷ b ∷ (bytes ++ behind)) (bytes ++ behind) c (ap (λ (u : ℕ). more u (twos unit (bytes ++ behind))) one.1) (is_scalar c one.0)
          ∙ ap (more c) (others.read behind) ∙ more_text c (lows2 low bytes) (chars16 (twos unit behind));
    }

-- ---- units of four bytes

abbrev limits4 : ℕ → ℕ → ℕ → List ℕ
limits4 la ld zero = []
limits4 la ld (suc n) = la ∷ 0 ∷ 0 ∷ ld ∷ limits4 la ld n

abbrev lows4 : (ℕ → ℕ → ℕ) → List ℕ → List ℕ
lows4 low [] = []
lows4 low (a ∷ []) = []
lows4 low (a ∷ b ∷ []) = []
lows4 low (a ∷ b ∷ c ∷ []) = []
lows4 low (a ∷ b ∷ c ∷ d ∷ bytes) = low a d ∷ lows4 low bytes

read4 : (unit : ℕ → ℕ → ℕ → ℕ → ℕ) (low : ℕ → ℕ → ℕ) (la ld : ℕ) → ((a b c d : ℕ) → a ≤ la → b ≤ 0 → c ≤ 0 → d ≤ ld → (low a d < 128) × (unit a b c d ≡ low a d))
    → (n : ℕ) (bytes : List ℕ) → length bytes ≡ 4 * n → mask_l (zip2 ltb (limits4 la ld n) bytes) ≡ 0 → IsAsciiBlock (λ xs. chars32 (fours unit xs)) bytes (lows4 low bytes)
read4 unit low la ld is zero [] long none = record { all = none_ascii; read = λ behind. nothing (chars32 (fours unit behind)) }
read4 unit low la ld is zero (a ∷ bytes) long none = absurd (omega (arith, long))
read4 unit low la ld is (suc n) [] long none = absurd (omega (arith, long))
read4 unit low la ld is (suc n) (a ∷ []) long none = absurd (omega (arith, long))
read4 unit low la ld is (suc n) (a ∷ b ∷ []) long none = absurd (omega (arith, long))
read4 unit low la ld is (suc n) (a ∷ b ∷ c ∷ []) long none = absurd (omega (arith, long))
read4 unit low la ld is (suc n) (a ∷ b ∷ c ∷ d ∷ bytes) long none =
    let rest : ℕ = mask_l (zip2 ltb (limits4 la ld n) bytes) in
    let fourth : ℕ = cond (ltb ld d) 1 0 + 2 * rest in
    let third : ℕ = cond (ltb 0 c) 1 0 + 2 * fourth in
    let p = unset (ltb la a) (cond (ltb 0 b) 1 0 + 2 * third) none in
    let q = unset (ltb 0 b) third p.1 in
    let r = unset (ltb 0 c) fourth q.1 in
    let s = unset (ltb ld d) rest r.1 in
    let one = is a b c d (within la a p.0) (within 0 b q.0) (within 0 c r.0) (within ld d s.0) in
    let found : ℕ = low a d in
    let others = read4 unit low la ld is n bytes (omega (arith, long)) s.1 in record {
      all = all_more found (lows4 low bytes) one.0 others.all;
      read = λ behind.
          char32_found unit (a ∷ b ∷ c ∷ d ∷ (bytes ++ behind)) (bytes ++ behind) found (ap (λ (u : ℕ). more u (fours unit (bytes ++ behind))) one.1) (is_scalar found one.0)
          ∙ ap (more found) (others.read behind) ∙ more_text found (lows4 low bytes) (chars32 (fours unit behind));
    }

little16_within : (a b : ℕ) → a ≤ 127 → b ≤ 0 → (a < 128) × (little16 a b ≡ a)
little16_within a b la lb = (omega arith, omega arith)

big16_within : (a b : ℕ) → a ≤ 0 → b ≤ 127 → (b < 128) × (big16 a b ≡ b)
big16_within a b la lb = (omega arith, omega arith)

little32_within : (a b c d : ℕ) → a ≤ 127 → b ≤ 0 → c ≤ 0 → d ≤ 0 → (a < 128) × (little32 a b c d ≡ a)
little32_within a b c d la lb lc ld = (omega arith, omega arith)

big32_within : (a b c d : ℕ) → a ≤ 0 → b ≤ 0 → c ≤ 0 → d ≤ 127 → (d < 128) × (big32 a b c d ≡ d)
big32_within a b c d la lb lc ld = (omega arith, omega arith)

-- ---- a block

-- the flags of the lanes that are larger than their limits
abbrev flags : List ℕ → List ℕ → ℕ
flags limits bytes = mask_l (map (top 7) (zip2 (λ a b. cond (ltb a b) 255 0) limits bytes)) % 2 ^ 64

no_flag : (limits bytes : List ℕ) → length bytes ≡ length limits → length limits ≤ 64 → flags limits bytes ≡ 0 → mask_l (zip2 ltb limits bytes) ≡ 0
no_flag limits bytes long fits none =
    let few : length (zip2 ltb limits bytes) ≤ 64 = omega (arith, length-zip2 ltb limits bytes (sym long), fits) in
    sym (mask_l-mod (zip2 ltb limits bytes) 64 few) ∙ ap (λ (ms : List Bool). mask_l ms % 2 ^ 64) (sym (tops_compared w8 ltb limits bytes)) ∙ none

-- the bytes at these places are those that the whole block has there
picked : (low : List ℕ → List ℕ) (n : ℕ) (places bytes : List ℕ)
    → ((ys : List ℕ) → pick_l 0 (pick_l 0 ys (range_with_len 0 n) ++ pick_l 0 ys (range_with_len 0 n)) places ≡ low (pick_l 0 ys (range_with_len 0 n)))
    → length bytes ≡ n → low bytes ≡ pick_l 0 (bytes ++ bytes) places
picked low n places bytes picks long =
    let whole = pick_l_whole 0 bytes n long in
    ap low (sym whole) ∙ sym (picks bytes) ∙ ap (λ (ys : List ℕ). pick_l 0 (ys ++ ys) places) whole

abbrev little16_places : List ℕ
little16_places = 0 ∷ 2 ∷ 4 ∷ 6 ∷ 8 ∷ 10 ∷ 12 ∷ 14 ∷ 16 ∷ 18 ∷ 20 ∷ 22 ∷ 24 ∷ 26 ∷ 28 ∷ 30 ∷ []

pub little16_block : (bytes : List ℕ) → length bytes ≡ 32 → flags (limits2 127 0 16) bytes ≡ 0
    → IsAsciiBlock little16_chars bytes (pick_l 0 (bytes ++ bytes) little16_places)
little16_block bytes long none =
    subst (IsAsciiBlock little16_chars bytes) (picked (lows2 (λ a b. a)) 32 little16_places bytes (λ ys. refl) long)
    (read2 little16 (λ a b. a) 127 0 little16_within 16 bytes long (no_flag (limits2 127 0 16) bytes long (omega arith) none))

abbrev big16_places : List ℕ
big16_places = 1 ∷ 3 ∷ 5 ∷ 7 ∷ 9 ∷ 11 ∷ 13 ∷ 15 ∷ 17 ∷ 19 ∷ 21 ∷ 23 ∷ 25 ∷ 27 ∷ 29 ∷ 31 ∷ []

pub big16_block : (bytes : List ℕ) → length bytes ≡ 32 → flags (limits2 0 127 16) bytes ≡ 0
    → IsAsciiBlock big16_chars bytes (pick_l 0 (bytes ++ bytes) big16_places)
big16_block bytes long none =
    subst (IsAsciiBlock big16_chars bytes) (picked (lows2 (λ a b. b)) 32 big16_places bytes (λ ys. refl) long)
    (read2 big16 (λ a b. b) 0 127 big16_within 16 bytes long (no_flag (limits2 0 127 16) bytes long (omega arith) none))

abbrev little32_places : List ℕ
little32_places = 0 ∷ 4 ∷ 8 ∷ 12 ∷ 16 ∷ 20 ∷ 24 ∷ 28 ∷ 32 ∷ 36 ∷ 40 ∷ 44 ∷ 48 ∷ 52 ∷ 56 ∷ 60 ∷ []

pub little32_block : (bytes : List ℕ) → length bytes ≡ 64 → flags (limits4 127 0 16) bytes ≡ 0
    → IsAsciiBlock little32_chars bytes (pick_l 0 (bytes ++ bytes) little32_places)
little32_block bytes long none =
    subst (IsAsciiBlock little32_chars bytes) (picked (lows4 (λ a d. a)) 64 little32_places bytes (λ ys. refl) long)
    (read4 little32 (λ a d. a) 127 0 little32_within 16 bytes long (no_flag (limits4 127 0 16) bytes long (omega arith) none))

abbrev big32_places : List ℕ
big32_places = 3 ∷ 7 ∷ 11 ∷ 15 ∷ 19 ∷ 23 ∷ 27 ∷ 31 ∷ 35 ∷ 39 ∷ 43 ∷ 47 ∷ 51 ∷ 55 ∷ 59 ∷ 63 ∷ []

pub big32_block : (bytes : List ℕ) → length bytes ≡ 64 → flags (limits4 0 127 16) bytes ≡ 0
    → IsAsciiBlock big32_chars bytes (pick_l 0 (bytes ++ bytes) big32_places)
big32_block bytes long none =
    subst (IsAsciiBlock big32_chars bytes) (picked (lows4 (λ a d. d)) 64 big32_places bytes (λ ys. refl) long)
    (read4 big32 (λ a d. d) 0 127 big32_within 16 bytes long (no_flag (limits4 0 127 16) bytes long (omega arith) none))

-- ---- the text

ascii_text : (text : List ℕ) (rest : Option (List ℕ)) → IsAscii text → text_of (behind_text text rest) ≡ behind_text text (text_of rest)
ascii_text text None all = refl
ascii_text text (Some chars) all = ap (λ (xs : List ℕ). Some xs) (encodes-append text chars ∙ ap (λ (xs : List ℕ). xs ++ encodes chars) (encodes-IsAscii text all))

pub block_begins : (chars : List ℕ → Option (List ℕ)) (n : ℕ) (bytes block ascii behind : List ℕ) → 0 < n → IsAsciiBlock chars block ascii
    → (block ≡ take n bytes) × (behind ≡ drop n bytes) × (length behind + n ≡ length bytes) → BeginsWithText chars bytes ascii behind
block_begins chars n bytes block ascii behind some is parts =
    let whole : block ++ behind ≡ bytes = ap₂ ◌++◌ parts.0 parts.1 ∙ take-append-drop n bytes in record {
      read = ap text_of (ap chars (sym whole) ∙ is.read behind) ∙ ascii_text ascii (chars behind) is.all;
      shorter = omega (arith, some, parts.2);
    }
