-- One place of a table changes.
use Rattle.std.proofs.Common.{◌≡◌, ℕ, zero, suc, ◌+◌, ◌<◌, List, [], ◌∷◌, length, get_or, Some, true, refl, sym, ap}
use Rattle.std.proofs.Common.{◌∙◌, arith}
use Rattle.std.specs.Prelude.{slice_get, slice_set, nat_lt}
use Rattle.std.proofs.lemmas.Bool.Decides.{nat_tests}
use Rattle.delay_table.specs.declared.place.Place.{Place}
use Rattle.delay_table.specs.Fields.{one_left, left_to_list}

pub get_same : (ps : List Place) (p : ℕ) (x : Place) → p < length ps → slice_get (slice_set ps p x) p ≡ Some x
get_same [] p x lt = absurd (omega arith)
get_same (y ∷ ps) zero x lt = refl
get_same (y ∷ ps) (suc p) x lt = get_same ps p x (omega arith)

pub get_other : (ps : List Place) (p q : ℕ) (x : Place) → (q ≡ p → ⊥) → slice_get (slice_set ps p x) q ≡ slice_get ps q
get_other [] p q x apart = refl
get_other (y ∷ ps) zero zero x apart = absurd (apart refl)
get_other (y ∷ ps) zero (suc q) x apart = refl
get_other (y ∷ ps) (suc p) zero x apart = refl
get_other (y ∷ ps) (suc p) (suc q) x apart = get_other ps p q x (λ same. apart (ap (λ n. suc n) same))

pub in_range : (ps : List Place) (p : ℕ) (x : Place) → slice_get ps p ≡ Some x → p < length ps
in_range [] p x at = absurd (cc (at))
in_range (y ∷ ps) zero x at = omega arith
in_range (y ∷ ps) (suc p) x at = let lt = in_range ps p x at in omega arith

pub same_length : (ps : List Place) (p : ℕ) (x : Place) → length (slice_set ps p x) ≡ length ps
same_length [] p x = refl
same_length (y ∷ ps) zero x = refl
same_length (y ∷ ps) (suc p) x = ap (λ n. suc n) (same_length ps p x)

pub left_set : (ps : List Place) (p : ℕ) (x y : Place) → slice_get ps p ≡ Some y
    → left_to_list (slice_set ps p x) + one_left y ≡ left_to_list ps + one_left x
left_set [] p x y at = absurd (cc (at))
left_set (z ∷ ps) zero x y at = let same : z ≡ y = cc (at) in let e : one_left z ≡ one_left y = ap one_left same in
    omega arith
left_set (z ∷ ps) (suc p) x y at = let e = left_set ps p x y at in omega arith

-- what was read at a place is there
pub read_at : (ps : List Place) (p : ℕ) (x y : Place) → p < length ps → x ≡ get_or ps p x → x ≡ y
    → slice_get ps p ≡ Some y
read_at [] p x y lt is same = absurd (omega arith)
read_at (z ∷ ps) zero x y lt is same = ap (λ w. Some w) (sym is ∙ same)
read_at (z ∷ ps) (suc p) x y lt is same = read_at ps p x y (omega arith) is same

pub not_at : (ps : List Place) (p : ℕ) (x y : Place) → x ≡ get_or ps p x → (x ≡ y → ⊥) → slice_get ps p ≡ Some y → ⊥
not_at [] p x y is apart at = cc (at)
not_at (z ∷ ps) zero x y is apart at = let same : z ≡ y = cc (at) in apart (is ∙ same)
not_at (z ∷ ps) (suc p) x y is apart at = not_at ps p x y is apart at

pub in_places : (p : ℕ) (ps qs : List Place) → qs ≡ ps → true ≡ nat_lt p (length qs) → p < length ps
in_places p ps qs same lt = let within : p < length qs = grind (arith, nat_tests, lt) in let e = ap length same in
    omega (arith, within, e)
