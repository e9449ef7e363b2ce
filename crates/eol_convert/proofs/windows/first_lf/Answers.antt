use Rattle.std.proofs.Common.{◌≡◌, ◌<◌, ◌≤◌, ◌^◌, ℕ, zero, suc, [], Bool, true, false, ltb, ltb-true, ltb-false, refl, not, map, length, count_by, count_ones, ap, sym, ◌∙◌, inl, inr, w32, arith}
use Rattle.std.proofs.lemmas.List.{length-map}
use Rattle.std.proofs.lemmas.Bool.{cases_lt}
use Rattle.std.specs.Bool.{OnTrue, OnFalse}
use Rattle.std.proofs.lemmas.Nat.{trailing_le}
use Rattle.std.proofs.lemmas.Nat.Bits.{bit_at-trailing_zeros}
use Rattle.std.proofs.lemmas.Simd.{leading_from_mask_l, mask_l-lt, ones-mask_l, trailing_mask_l}
use Rattle.std.specs.Int.Count.{count_trailing_zeros}
use Rattle.std.specs.List.{prefix_len}
use Rattle.std.specs.Simd.Lanes.{mask_l}
use Rattle.memchr.specs.Find.{is_byte}
use Rattle.eol_convert.proofs.windows.first_lf.Goals as goal

-- the marks of 32 bytes
fits : (c : goal.After-line_feeds-marks) → c.line_feeds-marks.result < 4294967296
fits c =
    let long : length (map (is_byte 10) c.args.window) ≡ 32 = length-map c.args.window (is_byte 10) ∙ c.requires in
    omega (arith, c.line_feeds-marks.ensures, mask_l-lt (map (is_byte 10) c.args.window), ap (λ (n : ℕ). 2 ^ n) long)

some_bit : (marks : ℕ) → 0 < count_ones marks → 0 < marks
some_bit zero some =
    let none : count_ones 0 ≡ 0 = ones-mask_l (is_byte 10) [] in absurd (omega (arith, some, none))
some_bit (suc marks) some = omega arith

-- the first of them, or their number
first : (c : goal.After-line_feeds-marks) → count_trailing_zeros 32 c.line_feeds-marks.result ≡ prefix_len (λ b. not (is_byte 10 b)) c.args.window
unfolding count_trailing_zeros
first c =
    let window = c.args.window in
    let marks = mask_l (map (is_byte 10) window) in
    let same : c.line_feeds-marks.result ≡ marks = c.line_feeds-marks.ensures in
    elim (cases_lt 0 marks) [
      | inl some ↦ ap (count_trailing_zeros 32) same ∙ trailing_mask_l (is_byte 10) 32 window (omega (arith, c.requires)) some
      | inr none ↦
          let zero_is : marks ≡ 0 = omega (arith, none) in
          ap (count_trailing_zeros 32) (same ∙ zero_is) ∙ sym c.requires ∙ sym (leading_from_mask_l (is_byte 10) window zero_is)
    ]

pub overflow_cast-result : goal.overflow_cast-result
overflow_cast-result c = record { fits = fits c }

pub returns-clause-before : goal.returns-clause-before
returns-clause-before c = first c

few_of : (b : Bool) (n m : ℕ) → ltb 1 n ≡ b → n ≡ m → OnFalse b (m ≤ 1)
few_of true n m is same = tt
few_of false n m is same = omega (arith, ltb-false 1 n is, same)

some_of : (b : Bool) (n first : ℕ) → ltb 1 n ≡ b → (0 < n → first < 32) → OnTrue b (first < 32)
some_of true n before is some = some (omega (arith, ltb-true 1 n is))
some_of false n before is some = tt

pub returns-clause-others : goal.returns-clause-others
returns-clause-others c =
    let marks = c.line_feeds-marks.result in
    few_of (ltb 1 (count_ones marks)) (count_ones marks) (count_by (is_byte 10) c.args.window) refl (ap count_ones c.line_feeds-marks.ensures ∙ ones-mask_l (is_byte 10) c.args.window)

pub returns-clause-some : goal.returns-clause-some
returns-clause-some c =
    let marks = c.line_feeds-marks.result in
    some_of (ltb 1 (count_ones marks)) (count_ones marks) (count_trailing_zeros 32 marks) refl
    (λ some. (bit_at-trailing_zeros w32 marks (some_bit marks some) (fits c)).0)

pub returns-clause-within : goal.returns-clause-within
returns-clause-within c = trailing_le 32 c.line_feeds-marks.result
