-- A path by what it changes in the one before.
use Rattle.std.proofs.Common.{◌≡◌, ◌≢◌, ℕ, ◌+◌, ◌-◌, ◌^◌, ◌<◌, ◌≤◌, min, List, ◌++◌, length, take, drop, Some, Ok, Err, refl, sym, ap, ◌∙◌, arith}
use Rattle.std.specs.Prelude.{position}
use Rattle.std.proofs.lemmas.Bool.{le-leb, eq-eqb, ne_eqb}
use Rattle.std.proofs.lemmas.List.{length-take, drop-drop}
use Rattle.git_index.specs.declared.fault.EntryKind.TheVariants.{Name}
use Rattle.git_index.specs.declared.fault.IndexFault.TheVariants.{Entry as BadEntry}
use Rattle.git_index.specs.Spelling.{is_nul}
use Rattle.git_index.specs.Reading.{added_at, changed_at}

changes : (k told cut len : ℕ) (last tail : List ℕ) → cut ≤ length last → position is_nul tail ≡ Some len → changed_at k told last (cut, tail) ≡ added_at k told (take (length last - cut) last) len tail
unfolding changed_at
changes k told cut len last tail le nul = rw (le-leb cut (length last) le, nul) refl

-- a number that isn't the largest is exact
exact : (cut n size : ℕ) → cut ≡ min n (2 ^ 64 - 1) → cut ≤ size → size < 2 ^ 64 - 1 → n ≡ cut
exact cut n size capped le small = omega arith

kept_length : (last : List ℕ) (cut : ℕ) → length (take (length last - cut) last) ≡ length last - cut
kept_length last cut = omega (arith, length-take (length last - cut) last)

wrong_name : (k told len : ℕ) (kept tail : List ℕ) → told ≢ min (length kept + len) 4095 → added_at k told kept len tail ≡ Err (BadEntry k Name)
unfolding added_at
wrong_name k told len kept tail other = rw (ne_eqb told _ other) refl

right_name : (k told len : ℕ) (kept tail : List ℕ) → told ≡ min (length kept + len) 4095 → added_at k told kept len tail ≡ Ok (kept ++ take len tail, drop (len + 1) tail)
unfolding added_at
right_name k told len kept tail same = rw (eq-eqb told _ same) refl

pub refused : (k told cut n len : ℕ) (last tail : List ℕ) → cut ≡ min n (2 ^ 64 - 1) → cut ≤ length last → length last < 2 ^ 64 - 1 → Some len ≡ position is_nul tail → told ≢ min (length last - cut + len) 4095 → Err (BadEntry k Name) ≡ changed_at k told last (n, tail)
refused k told cut n len last tail capped le small nul other =
    let kept : List ℕ = take (length last - cut) last in
    let other' : told ≢ min (length kept + len) 4095 = λ e. other (e ∙ ap (λ (m : ℕ). min (m + len) 4095) (kept_length last cut)) in
    sym (ap (λ (m : ℕ). changed_at k told last (m, tail)) (exact cut n (length last) capped le small) ∙ changes k told cut len last tail le (sym nul) ∙ wrong_name k told len kept tail other')

pub made : (k told cut n len : ℕ) (last tail added back rest : List ℕ) → cut ≡ min n (2 ^ 64 - 1) → cut ≤ length last → length last < 2 ^ 64 - 1 → Some len ≡ position is_nul tail → told ≡ min (length last - cut + len) 4095 → added ≡ take len tail → back ≡ drop len tail → rest ≡ drop 1 back
    → Ok (take (length last - cut) last ++ added, rest) ≡ changed_at k told last (n, tail)
made k told cut n len last tail added back rest capped le small nul same front behind after =
    let kept : List ℕ = take (length last - cut) last in
    let same' : told ≡ min (length kept + len) 4095 = same ∙ ap (λ (m : ℕ). min (m + len) 4095) (sym (kept_length last cut)) in
    let rest_is : rest ≡ drop (len + 1) tail = after ∙ ap (drop 1) behind ∙ drop-drop 1 len tail in
    (λ i. Ok (kept ++ front i, rest_is i)) ∙ sym (ap (λ (m : ℕ). changed_at k told last (m, tail)) (exact cut n (length last) capped le small) ∙ changes k told cut len last tail le (sym nul) ∙ right_name k told len kept tail same')
