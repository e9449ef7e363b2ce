-- The first rows of a report.
use Rattle.std.proofs.Common.{◌≡◌, ℕ, zero, suc, ◌≤◌, List, [], ◌∷◌, ◌++◌, length, take, refl, sym, ap, ◌∙◌, append_assoc, arith}
use Rattle.std.proofs.lemmas.List.{length-append}
use Rattle.std.proofs.Math.Seq.{take-append_seam}
use Rattle.reports.specs.Written.{joined}

rest_of : (rows : List (List ℕ)) (n : ℕ) → (rest : List ℕ) × (joined rows ≡ joined (take n rows) ++ rest)
rest_of rows zero = (joined rows, refl)
rest_of [] (suc n) = ([], refl)
rest_of (r ∷ rows) (suc n) =
    let rest = rest_of rows n in
    (rest.0, ap (λ (text : List ℕ). r ++ text) rest.1 ∙ sym (append_assoc r (joined (take n rows)) rest.0))

pub within : (rows : List (List ℕ)) (n : ℕ) → length (joined (take n rows)) ≤ length (joined rows)
within rows n =
    let rest = rest_of rows n in
    let long = ap length rest.1 ∙ length-append (joined (take n rows)) rest.0 in
    omega (arith, long)

pub part : (rows : List (List ℕ)) (n : ℕ) → joined (take n rows) ≡ take (length (joined (take n rows))) (joined rows)
part rows n =
    let rest = rest_of rows n in
    sym (ap (take (length (joined (take n rows)))) rest.1 ∙ take-append_seam (joined (take n rows)) rest.0)
