-- Names as slices and as lists.
use Rattle.std.proofs.Common.{◌≡◌, ℕ, Bool, ◌&&◌, not, true, false, List, [], ◌∷◌, map, refl, sym, ap, ◌∙◌}
use Rattle.std.specs.Borrow.{Bor}
use Rattle.std.specs.Prelude.{◌||◌}
use Rattle.std.specs.List.{list_any}
use Rattle.std.specs.Str.{bytes_eq}
use Rattle.filter_words.specs.Listing.{name_in}
use Rattle.filter_words.specs.ListStates.{bytes_of}

pub name_in_slices : (names : List (Bor (List ℕ))) (name : List ℕ) → list_any (λ known. bytes_eq known.now name) names
    ≡ name_in (map bytes_of names) name
name_in_slices [] name = refl
name_in_slices (n ∷ ns) name = ap (λ (b : Bool). bytes_eq n.now name || b) (name_in_slices ns name)

abbrev slices_have : List (Bor (List ℕ)) → List ℕ → Bool
slices_have names name = list_any (λ known. bytes_eq known.now name) names

pub expected_then : (delayed listed : List (Bor (List ℕ))) (name : List ℕ) (first second : Bool)
    → first ≡ slices_have delayed name → second ≡ slices_have listed name
    → first ≡ true → not second ≡ (name_in (map bytes_of delayed) name && not (name_in (map bytes_of listed) name))
expected_then delayed listed name first second f s t =
    let a : name_in (map bytes_of delayed) name ≡ true = sym (name_in_slices delayed name) ∙ (sym f ∙ t) in
    let b : name_in (map bytes_of listed) name ≡ second = sym (name_in_slices listed name) ∙ sym s in
    rw (a, b) refl

pub expected_else : (delayed listed : List (Bor (List ℕ))) (name : List ℕ) (first : Bool)
    → first ≡ slices_have delayed name
    → first ≡ false → first ≡ (name_in (map bytes_of delayed) name && not (name_in (map bytes_of listed) name))
expected_else delayed listed name first f t =
    let a : name_in (map bytes_of delayed) name ≡ false = sym (name_in_slices delayed name) ∙ (sym f ∙ t) in
    rw (a, t) refl
