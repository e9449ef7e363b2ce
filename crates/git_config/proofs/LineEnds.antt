-- Where a text has a CR, and where it has none.
use Rattle.std.proofs.Common.{◌≡◌, ℕ, zero, suc, ◌+◌, ◌<◌, ◌≤◌, true, false, eqb, List, [], ◌∷◌, ◌++◌, length, get_or, take, drop, Option, Some, None, refl, sym, ◌∙◌, ap, append_assoc, arith}
use Rattle.std.proofs.Math.Seq.{drop-cons, take-suc}
use Rattle.std.proofs.lemmas.Grind.{common_steps}
use Rattle.std.proofs.lemmas.List.{append-nil, drop_all, take_all}
use Rattle.std.proofs.lemmas.List.Sums.{position_or_len_is}
use Rattle.std.specs.List.{position_or_len}
use Rattle.std.specs.Option.{unwrap_or}
use Rattle.memchr.specs.Find.{is_byte, IsFirstByte}
use Rattle.byte_path.specs.Front.{begins}
use Rattle.git_config.specs.Text.{is_line_end, without_cr}

not_cr : (b : ℕ) → (is_byte 13 b ≡ true → ⊥) → eqb b 13 ≡ false
not_cr b none = grind (arith, common_steps)

-- what comes before the first CR stays
plain : (text : List ℕ) (k : ℕ) → k ≤ length text → ((j : ℕ) → 0 ≤ j → j < k → is_byte 13 (get_or text j 0) ≡ true → ⊥) → without_cr text ≡ take k text ++ without_cr (drop k text)
plain text zero le none = refl
plain [] (suc k) le none = absurd (omega arith)
plain (b ∷ text) (suc k) le none =
    let later : without_cr text ≡ take k text ++ without_cr (drop k text) = plain text k (omega arith) (λ j low high. none (suc j) (omega arith) (omega arith)) in
    rw (not_cr b (none 0 (omega arith) (omega arith))) (ap (λ (rest : List ℕ). b ∷ rest) later)

pub no_cr : (text : List ℕ) → ((j : ℕ) → 0 ≤ j → j < length text → is_byte 13 (get_or text j 0) ≡ true → ⊥) → without_cr text ≡ text
no_cr text none =
    let rest : drop (length text) text ≡ [] = drop_all (length text) text (omega arith) in
    let front : take (length text) text ≡ text = take_all (length text) text (omega arith) in
    plain text (length text) (omega arith) none ∙ ap (λ (xs : List ℕ). take (length text) text ++ without_cr xs) rest ∙ append-nil (take (length text) text) ∙ front

at_cr : (text : List ℕ) (k : ℕ) → k < length text → get_or text k 0 ≡ 13 → drop k text ≡ 13 ∷ drop (k + 1) text
at_cr text k lt is =
    let next : suc k ≡ k + 1 = omega arith in
    drop-cons text k 0 lt ∙ ap (λ (b : ℕ). b ∷ drop (suc k) text) is ∙ ap (λ (n : ℕ). 13 ∷ drop n text) next

cr_of : (b : ℕ) → is_byte 13 b ≡ true → b ≡ 13
cr_of b is = grind (arith, common_steps)

-- a CR before LF goes
pub cr_dropped : (text : List ℕ) (k : ℕ) → IsFirstByte (is_byte 13) text (Some k) → begins is_line_end (drop (k + 1) text) ≡ true → without_cr text ≡ take k text ++ without_cr (drop (k + 1) text)
cr_dropped text k first before =
    let here : drop k text ≡ 13 ∷ drop (k + 1) text = at_cr text k first.0.high (cr_of (get_or text k 0) first.1) in
    plain text k (omega (arith, first.0.high)) first.0.before ∙ ap (λ (xs : List ℕ). take k text ++ without_cr xs) here ∙ rw before refl

-- any other stays
pub cr_kept : (text : List ℕ) (k : ℕ) → IsFirstByte (is_byte 13) text (Some k) → begins is_line_end (drop (k + 1) text) ≡ false → without_cr text ≡ take (k + 1) text ++ without_cr (drop (k + 1) text)
cr_kept text k first before =
    let is : get_or text k 0 ≡ 13 = cr_of (get_or text k 0) first.1 in
    let here : drop k text ≡ 13 ∷ drop (k + 1) text = at_cr text k first.0.high is in
    let next : suc k ≡ k + 1 = omega arith in
    let front : take (k + 1) text ≡ take k text ++ 13 ∷ [] = ap (λ (n : ℕ). take n text) (sym next) ∙ take-suc text k 0 first.0.high ∙ ap (λ (b : ℕ). take k text ++ b ∷ []) is in
    plain text k (omega (arith, first.0.high)) first.0.before
    ∙ ap (λ (xs : List ℕ). take k text ++ without_cr xs) here
    ∙ rw before (sym (append_assoc (take k text) (13 ∷ []) (without_cr (drop (k + 1) text))))
    ∙ ap (λ (xs : List ℕ). xs ++ without_cr (drop (k + 1) text)) (sym front)

not_end : (b : ℕ) → (is_byte 10 b ≡ true → ⊥) → is_line_end b ≡ false
not_end b none = grind (arith, common_steps)

-- where the first end of a line is, or how long the text is if there is none
pub line_end_is : (text : List ℕ) (o : Option ℕ) → IsFirstByte (is_byte 10) text o → unwrap_or o (length text) ≡ position_or_len is_line_end text
line_end_is text (Some k) first =
    sym (position_or_len_is is_line_end text k 0 (omega (arith, first.0.high)) (λ j less. not_end (get_or text j 0) (first.0.before j (omega arith) less)) (λ less. first.1))
line_end_is text None none =
    sym (position_or_len_is is_line_end text (length text) 0 (omega arith) (λ j less. not_end (get_or text j 0) (none j (omega arith) less)) (λ less. absurd (omega arith)))

pub line_end-within : (text : List ℕ) (o : Option ℕ) → IsFirstByte (is_byte 10) text o → unwrap_or o (length text) ≤ length text
line_end-within text (Some k) first = omega (arith, first.0.high)
line_end-within text None none = omega arith
