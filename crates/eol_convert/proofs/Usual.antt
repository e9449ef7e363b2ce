-- A content without an unusual byte looks like a text.
use Rattle.std.proofs.Common.{◌≡◌, ℕ, ◌+◌, ◌-◌, Bool, true, false, cond, List, [], ◌∷◌, count_by, refl, sym, ◌∙◌, ap, rules, arith}
use Rattle.std.proofs.lemmas.Bool.{or_from}
use Rattle.std.proofs.lemmas.List.Sums.{sum_by-cons}
use Rattle.std.proofs.lemmas.Grind.{common_steps}
use Rattle.std.specs.List.{list_any}
use Rattle.eol_convert.specs.Looks.{is_unusual}
use Rattle.eol_convert.specs.Content.{is_non_printing, forbids_change, non_printing, is_lf_text}

-- CR and NUL are unusual
usual_stays : (b : ℕ) → is_unusual b ≡ false → forbids_change b ≡ false
usual_stays b usual = grind (arith, common_steps)

-- and so is each byte that isn't printing, except LF
usual_prints : (b : ℕ) → is_unusual b ≡ false → is_non_printing b ≡ false
usual_prints b usual = grind (arith, common_steps)

-- what a byte counts
abbrev one_if : Bool → ℕ
one_if t = cond t 1 0

no_first : (t : Bool) (n : ℕ) → one_if t + n ≡ 0 → (t ≡ false) × (n ≡ 0)
no_first true n none = absurd (omega arith)
no_first false n none = (refl, omega arith)

-- the first byte is usual, and so are those after it
usual_first : (b : ℕ) (content : List ℕ) → count_by is_unusual (b ∷ content) ≡ 0
    → (is_unusual b ≡ false) × (count_by is_unusual content ≡ 0)
usual_first b content none =
    no_first (is_unusual b) (count_by is_unusual content) (sym (sum_by-cons (λ (x : ℕ). one_if (is_unusual x)) b content) ∙ none)

none_forbids : (content : List ℕ) → count_by is_unusual content ≡ 0 → list_any forbids_change content ≡ false
none_forbids [] none = refl
none_forbids (b ∷ content) none =
    let usual = usual_first b content none in
    or_from (forbids_change b) (list_any forbids_change content) (usual_stays b usual.0) (none_forbids content usual.1)

all_print : (content : List ℕ) → count_by is_unusual content ≡ 0 → count_by is_non_printing content ≡ 0
all_print [] none = refl
all_print (b ∷ content) none =
    let usual = usual_first b content none in
    let first : one_if (is_non_printing b) ≡ 0 = ap one_if (usual_prints b usual.0) in
    let rest : count_by is_non_printing content ≡ 0 = all_print content usual.1 in
    omega (arith, first, rest, sum_by-cons (λ (x : ℕ). one_if (is_non_printing x)) b content)

nothing_left : (n m : ℕ) → n ≡ 0 → n - m ≡ 0
nothing_left n m is = omega (arith, is)

pub is_lf_text-usual : (content : List ℕ) → count_by is_unusual content ≡ 0 → is_lf_text content ≡ true
unfolding is_lf_text
is_lf_text-usual content none =
    let few : non_printing content ≡ 0 = nothing_left _ _ (all_print content none) in
    rw (none_forbids content none, few) (search rules)
