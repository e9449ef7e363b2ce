-- A line is cut at its first `=`.
use Rattle.std.proofs.Common.{◌≡◌, ℕ, zero, suc, ◌+◌, ◌<◌, ◌≤◌, Bool, true, false, ◌==◌, cond, ltb, List, [], ◌∷◌, length, get_or, position, Option, Some, None, refl, sym, ap, ◌∙◌, arith}
use Rattle.std.specs.Borrow.{Bor}
use Rattle.std.specs.List.{position_or_len}
use Rattle.std.specs.Option.{option_map}
use Rattle.bstr.specs.Text.{SplitsOnce}
use Rattle.std.proofs.lemmas.Grind.{common_steps}
use Rattle.std.proofs.lemmas.List.Quantifiers.{position-Some}
use Rattle.std.proofs.lemmas.List.Sums.{fails_before_first}
use Rattle.memchr.specs.Find.{FindsNeedle, OccursAt, first_of, matches}
use Rattle.memchr.proofs.lemmas.ValueLemmas.{FindsNeedle-value}
use Rattle.filter_words.specs.Words.{without_lf, key_and_value, cut_at}

equals_here : (b : ℕ) → (b == 61) ≡ true → b ≡ 61
equals_here b is = grind (arith, common_steps)

not_here : (b : ℕ) → (b == 61) ≡ false → b ≡ 61 → ⊥
not_here b is same = grind (arith, common_steps)

only_place : (text : List ℕ) (k : ℕ) → get_or text k 0 ≡ 61 → (j : ℕ) → j < 1 → get_or text (k + j) 0 ≡ get_or (61 ∷ []) j 0
only_place text k is zero lt = let e : k + 0 ≡ k = omega arith in rw e is
only_place text k is (suc j) lt = absurd (omega arith)

byte_of : (text : List ℕ) (k : ℕ) → OccursAt text (61 ∷ []) k → get_or text k 0 ≡ 61
byte_of text k occurs = let e : k + 0 ≡ k = omega arith in ap (λ (n : ℕ). get_or text n 0) (sym e) ∙ occurs.reads 0 (omega arith)

none_before : (text : List ℕ) → position (λ b. b == 61) text ≡ None → length text ≤ position_or_len (λ b. b == 61) text
none_before text none = at (ltb (position_or_len (λ b. b == 61) text) (length text)) refl none
  where
    at : (t : Bool) → ltb (position_or_len (λ b. b == 61) text) (length text) ≡ t → cond t (Some (position_or_len (λ b. b == 61) text)) None ≡ None → length text ≤ position_or_len (λ b. b == 61) text
    at true is none = absurd cc
    at false is none = grind (arith, common_steps)

finds : (text : List ℕ) (o : Option ℕ) → position (λ b. b == 61) text ≡ o → FindsNeedle text (61 ∷ []) 0 o
finds text (Some k) e =
    let p = position-Some (λ b. b == 61) text k 0 e in (
      record { low = omega arith; high = omega (arith, p.0); before = λ j low less occurs. not_here (get_or text j 0) (p.2 j less) (byte_of text j occurs) },
      record { fits = omega (arith, p.0); reads = only_place text k (equals_here (get_or text k 0) p.1) },
    )
finds text None e = λ k low high occurs.
    not_here (get_or text k 0) (fails_before_first (λ b. b == 61) text k 0 (omega (arith, none_before text e, occurs.fits))) (byte_of text k occurs)

equals_first : (text : List ℕ) → position (λ b. b == 61) text ≡ first_of (matches text (61 ∷ []) 0)
equals_first text = FindsNeedle-value text (61 ∷ []) (position (λ b. b == 61) text) (finds text (position (λ b. b == 61) text) refl)

pub cuts : (line text : List ℕ) (out : Option (Bor (List ℕ) × Bor (List ℕ))) → text ≡ without_lf line → SplitsOnce text (61 ∷ []) (first_of (matches text (61 ∷ []) 0)) out
    → option_map (λ pair. (pair.0.now, pair.1.now)) out ≡ key_and_value line
cuts line text out same split = at out split
  where
    whole : key_and_value line ≡ cut_at (first_of (matches text (61 ∷ []) 0)) text
    whole = ap (λ (z : List ℕ). cut_at (position (λ b. b == 61) z) z) (sym same) ∙ ap (λ (o : Option ℕ). cut_at o text) (equals_first text)

    at : (o : Option (Bor (List ℕ) × Bor (List ℕ))) → SplitsOnce text (61 ∷ []) (first_of (matches text (61 ∷ []) 0)) o → option_map (λ pair. (pair.0.now, pair.1.now)) o ≡ key_and_value line
    at None none = sym (whole ∙ ap (λ (o : Option ℕ). cut_at o text) none)
    at (Some pair) found = rw (found.2, found.3) (sym (whole ∙ ap (λ (o : Option ℕ). cut_at o text) found.1))
