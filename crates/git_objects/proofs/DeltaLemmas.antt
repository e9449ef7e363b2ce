-- What a delta makes behind a header.
use Rattle.std.proofs.Common.{◌≡◌, ℕ, zero, suc, ◌+◌, List, [], ◌++◌, length, refl, ap, sym, subst, arith}
use Rattle.std.proofs.Common.{append_assoc, append-nil}
use Rattle.std.proofs.lemmas.List.{length-append}
use Rattle.git_objects.specs.Numbers.{HasNumber}
use Rattle.git_objects.specs.Delta.{Makes, IsDelta}

-- what instructions make behind a header, they make alone
makes_behind :
    (base : List ℕ) (n : ℕ) (bytes header before after : List ℕ) → Makes base n bytes (header ++ before) after
    → (content : List ℕ) × (after ≡ header ++ content) × Makes base n bytes before content
makes_behind base zero bytes header before after (e, f) = (before, f, (e, refl))
makes_behind base (suc n) bytes header before after (i, mid, piece, has, adds, more) =
    let here = subst (λ (x : List ℕ). Makes base n mid x after) (append_assoc header before piece) more in
    let made = makes_behind base n mid header (before ++ piece) after here in
    (made.0, made.1, (i, mid, piece, has, adds, made.2))

pub delta_alone :
    (base delta mid rest content : List ℕ) (size n : ℕ) → HasNumber delta (length base) mid → HasNumber mid size rest
    → Makes base n rest [] content → length content ≡ size → IsDelta base delta content
delta_alone base delta mid rest content size n from sized made counted = record {
  mid = mid;
  rest = rest;
  count = n;
  from = from;
  sized = subst (λ (k : ℕ). HasNumber mid k rest) (sym counted) sized;
  made = made;
}

pub delta_behind :
    (base delta mid rest header stored : List ℕ) (size n : ℕ) → HasNumber delta (length base) mid
    → HasNumber mid size rest → Makes base n rest header stored → length stored ≡ length header + size
    → (content : List ℕ) × (stored ≡ header ++ content) × IsDelta base delta content
delta_behind base delta mid rest header stored size n from sized made counted =
    let whole = subst (λ (x : List ℕ). Makes base n rest x stored) (sym (append-nil header)) made in
    let behind = makes_behind base n rest header [] stored whole in
    let size_of : length behind.0 ≡ size = omega (arith, counted, ap length behind.1, length-append header behind.0) in
    (behind.0, behind.1, delta_alone base delta mid rest behind.0 size n from sized behind.2 size_of)
