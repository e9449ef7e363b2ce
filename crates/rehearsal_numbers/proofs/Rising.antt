-- Lists of numbers that rise.
use Rattle.std.proofs.Common.{◌≡◌, ◌==◌, ◌⊎◌, ◌<◌, ℕ, zero, suc, Bool, true, false, cond, List, [], ◌∷◌, Some, refl, sym, ap, ◌∙◌, inl, inr, arith}
use Rattle.std.specs.Prelude.{slice_get}
use Rattle.std.proofs.lemmas.Bool.{eqb-true, eq-eqb}
use Rattle.delay_table.specs.Table.{contains, AreApart}

abbrev pub IsRising : List ℕ → Type 0
IsRising xs = (i j m n : ℕ) → i < j → slice_get xs i ≡ Some m → slice_get xs j ≡ Some n → m < n

contains_here : (x : ℕ) (xs : List ℕ) → contains x (x ∷ xs) ≡ true
contains_here x xs = ap (λ (b : Bool). cond b true (contains x xs)) (eq-eqb x x refl)

contains_either : (p q : ℕ) (qs : List ℕ) → contains p (q ∷ qs) ≡ true → (p ≡ q) ⊎ (contains p qs ≡ true)
contains_either p q qs is = by (p == q) refl is
  where
    by : (b : Bool) → (p == q) ≡ b → cond b true (contains p qs) ≡ true → (p ≡ q) ⊎ (contains p qs ≡ true)
    by true e is = inl (eqb-true p q e)
    by false e is = inr is

contains_behind : (p q : ℕ) (qs : List ℕ) → (p ≡ q → ⊥) → contains p (q ∷ qs) ≡ contains p qs
contains_behind p q qs other = by (p == q) refl
  where
    by : (b : Bool) → (p == q) ≡ b → cond b true (contains p qs) ≡ contains p qs
    by true e = absurd (other (eqb-true p q e))
    by false e = refl

contains_at : (p : ℕ) (xs : List ℕ) → contains p xs ≡ true → (i : ℕ) × (slice_get xs i ≡ Some p)
contains_at p [] is = absurd cc
contains_at p (q ∷ qs) is = by (contains_either p q qs is) (contains_at p qs)
  where
    by : (p ≡ q) ⊎ (contains p qs ≡ true) → (contains p qs ≡ true → (i : ℕ) × (slice_get qs i ≡ Some p)) → (i : ℕ) × (slice_get (q ∷ qs) i ≡ Some p)
    by (inl same) behind = (zero, ap Some (sym same))
    by (inr more) behind = let r = behind more in (suc r.0, r.1)

rising_behind : (x : ℕ) (xs : List ℕ) → IsRising (x ∷ xs) → IsRising xs
rising_behind x xs rise = λ i j m n less a b. rise (suc i) (suc j) m n (omega (arith, less)) a b

above : (x p : ℕ) (xs : List ℕ) → IsRising (x ∷ xs) → contains p xs ≡ true → x < p
above x p xs rise is = let at = contains_at p xs is in rise zero (suc at.0) x p (omega arith) refl at.1

not_behind : (x : ℕ) (xs : List ℕ) → IsRising (x ∷ xs) → contains x xs ≡ false
not_behind x xs rise = by (contains x xs) refl
  where
    by : (b : Bool) → contains x xs ≡ b → b ≡ false
    by true e = let no : x < x = above x x xs rise e in absurd (omega (arith, no))
    by false e = refl

-- numbers that rise differ
pub apart : (xs : List ℕ) → IsRising xs → AreApart xs
apart [] rise = tt
apart (x ∷ xs) rise = (not_behind x xs rise, apart xs (rising_behind x xs rise))

first_is : (x y : ℕ) (xs ys : List ℕ) → IsRising (x ∷ xs) → IsRising (y ∷ ys) → (x ≡ y) ⊎ (contains x ys ≡ true) → (y ≡ x) ⊎ (contains y xs ≡ true) → x ≡ y
first_is x y xs ys a b (inl same) there = same
first_is x y xs ys a b (inr here) (inl same) = sym same
first_is x y xs ys a b (inr here) (inr there) =
    let less : x < y = above x y xs a there in
    let more : y < x = above y x ys b here in
    absurd (omega (arith, less, more))

-- rising lists of the same numbers are the same
pub same_rising : (xs ys : List ℕ) → IsRising xs → IsRising ys → ((n : ℕ) → contains n xs ≡ contains n ys) → xs ≡ ys
same_rising [] [] a b same = refl
same_rising [] (y ∷ ys) a b same = let no : false ≡ true = same y ∙ contains_here y ys in absurd cc
same_rising (x ∷ xs) [] a b same = let no : true ≡ false = sym (contains_here x xs) ∙ same x in absurd cc
same_rising (x ∷ xs) (y ∷ ys) a b same =
    let first : x ≡ y = first_is x y xs ys a b (contains_either x y ys (sym (same x) ∙ contains_here x xs)) (contains_either y x xs (same y ∙ contains_here y ys)) in
    let rest : xs ≡ ys = same_rising xs ys (rising_behind x xs a) (rising_behind y ys b) (λ n. behind n first) in
    rw (first, rest) refl
  where
    behind : (n : ℕ) → x ≡ y → contains n xs ≡ contains n ys
    behind n first = by (n == x) refl
      where
        by : (c : Bool) → (n == x) ≡ c → contains n xs ≡ contains n ys
        by true e =
            let here : n ≡ x = eqb-true n x e in
            let left : contains n xs ≡ false = ap (λ (m : ℕ). contains m xs) here ∙ not_behind x xs a in
            let right : contains n ys ≡ false = ap (λ (m : ℕ). contains m ys) (here ∙ first) ∙ not_behind y ys b in
            left ∙ sym right
        by false e =
            let other : n ≡ x → ⊥ = λ is. (let no : true ≡ false = sym (eq-eqb n x is) ∙ e in absurd cc) in
            sym (contains_behind n x xs other) ∙ same n ∙ contains_behind n y ys (λ is. other (is ∙ sym first))
