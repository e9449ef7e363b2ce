-- The first part of a text, and the others.
use Rattle.std.proofs.Common.{◌≡◌, ℕ, ◌+◌, ◌<◌, true, false, eqb, List, [], ◌∷◌, ◌++◌, length, get_or, take, drop, Some, None, sym, ◌∙◌, ap, arith}
use Rattle.std.proofs.lemmas.Grind.{common_steps}
use Rattle.std.proofs.lemmas.List.{take-append-drop, drop_more, get_or-take, length-take-le}
use Rattle.std.proofs.lemmas.List.Elements.{All-from_get_or}
use Rattle.std.proofs.lemmas.List.Splits.{slice_split_none, slice_split_at, length-slice_split}
use Rattle.memchr.specs.Find.{is_byte, IsFirstByte}
use Rattle.journal_audit.specs.Reading.{parts}

pub not_byte : (c b : ℕ) → (is_byte c b ≡ true → ⊥) → eqb b c ≡ false
not_byte c b none = grind (arith, common_steps)

pub cut_none : (c : ℕ) (text : List ℕ) → IsFirstByte (is_byte c) text None → parts c text ≡ text ∷ []
cut_none c text none =
    slice_split_none (λ b. eqb b c) text
    (All-from_get_or (λ b. eqb b c ≡ false) text 0 (λ i lt. not_byte c (get_or text i 0) (none i (omega arith) lt)))

pub cut_some : (c : ℕ) (text : List ℕ) (k : ℕ) → IsFirstByte (is_byte c) text (Some k) → parts c text ≡ take k text ∷ parts c (drop (k + 1) text)
cut_some c text k first =
    let front = take k text in
    let clean = All-from_get_or (λ b. eqb b c ≡ false) front 0 (λ i lt.
    let low : i < k = omega (arith, lt, length-take-le k text (omega (arith, first.0.high))) in
    not_byte c (get_or front i 0) (rw (get_or-take k text i 0 low) (first.0.before i (omega arith) low))) in
    let whole : text ≡ front ++ get_or text k 0 ∷ drop (k + 1) text =
    sym (take-append-drop k text) ∙ ap (λ (xs : List ℕ). front ++ xs) (drop_more text k 0 first.0.high) in
    ap (λ (xs : List ℕ). parts c xs) whole
    ∙ slice_split_at (λ b. eqb b c) front (get_or text k 0) (drop (k + 1) text) clean first.1

pub some_parts : (c : ℕ) (text : List ℕ) → 0 < length (parts c text)
some_parts c text = omega (arith, length-slice_split (λ b. eqb b c) text)

pub five : (a b c d : List ℕ) (ws : List (List ℕ)) → 0 < length ws → 4 < length (a ∷ b ∷ c ∷ d ∷ ws)
five a b c d ws some = omega arith

pub one_more : (a : List ℕ) (ps qs : List (List ℕ)) → ps ≡ a ∷ qs → length ps ≡ length qs + 1
one_more a ps qs is = rw is (omega arith)
