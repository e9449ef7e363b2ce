-- Places of lists, and numbers that are equal or not.
use Rattle.std.proofs.Common.{◌≡◌, ◌==◌, ℕ, zero, suc, ◌+◌, ◌-◌, ◌<◌, ◌≤◌, ◌⊎◌, inl, inr, ⊎_elim, true, false, List, [], ◌∷◌, ◌++◌, set, length, map, Option, Some, None, refl, ap, ◌∙◌, eq-eqb, ne_eqb, arith}
use Rattle.std.specs.Prelude.{slice_get}
use mathlib.Core.Logic.{dite}
use native.Mathlib.Decide.{ℕ_discrete}

pub some_is : {A : Type 0} (a b : A) → Some a ≡ Some b → a ≡ b
some_is a b e = cc (e)

pub same_or : (p q : ℕ) → ((p ≡ q) × ((p == q) ≡ true)) ⊎ (((p ≡ q) → ⊥) × ((p == q) ≡ false))
same_or p q = dite (ℕ_discrete p q) (λ same. inl (same, eq-eqb p q same)) (λ other. inr (other, ne_eqb p q other))

pub same_number : (p q : ℕ) → (p == q) ≡ true → p ≡ q
same_number p q e = ⊎_elim (λ (h : (p ≡ q) × ((p == q) ≡ true)). h.0)
    (λ (h : ((p ≡ q) → ⊥) × ((p == q) ≡ false)). absurd (let t = h.1 in cc (t, e))) (same_or p q)

pub eqb_self : (p : ℕ) → (p == p) ≡ true
eqb_self p = eq-eqb p p refl

module _ {A : Type 0} where
  pub get_set_same : (xs : List A) (i : ℕ) (y z : A) → slice_get xs i ≡ Some z → slice_get (set xs i y) i ≡ Some y
  get_set_same [] i y z e = absurd (cc (e))
  get_set_same (x ∷ xs) zero y z e = refl
  get_set_same (x ∷ xs) (suc i) y z e = get_set_same xs i y z e

  pub get_set_other : (xs : List A) (i j : ℕ) (y : A) → (j ≡ i → ⊥) → slice_get (set xs i y) j ≡ slice_get xs j
  get_set_other [] i j y n = refl
  get_set_other (x ∷ xs) zero zero y n = absurd (n refl)
  get_set_other (x ∷ xs) zero (suc j) y n = refl
  get_set_other (x ∷ xs) (suc i) zero y n = refl
  get_set_other (x ∷ xs) (suc i) (suc j) y n = get_set_other xs i j y (λ e. n (ap suc e))

  -- a place of a list with one more is one of the list, or the last
  pub get_more : (xs : List A) (y : A) (i : ℕ) (z : A) → slice_get (xs ++ y ∷ []) i ≡ Some z
      → (slice_get xs i ≡ Some z) ⊎ ((y ≡ z) × (i ≡ length xs))
  get_more [] y zero z e = inr (cc (e), refl)
  get_more [] y (suc i) z e = absurd (cc (e))
  get_more (x ∷ xs) y zero z e = inl e
  get_more (x ∷ xs) y (suc i) z e = ⊎_elim
      (λ (h : slice_get xs i ≡ Some z). inl h)
      (λ (h : (y ≡ z) × (i ≡ length xs)). inr (h.0, ap suc h.1))
      (get_more xs y i z e)

  pub get_front : (xs ys : List A) (i : ℕ) (z : A) → slice_get xs i ≡ Some z → slice_get (xs ++ ys) i ≡ Some z
  get_front [] ys i z e = absurd (cc (e))
  get_front (x ∷ xs) ys zero z e = e
  get_front (x ∷ xs) ys (suc i) z e = get_front xs ys i z e

  pub get_last : (xs : List A) (y : A) → slice_get (xs ++ y ∷ []) (length xs) ≡ Some y
  get_last [] y = refl
  get_last (x ∷ xs) y = get_last xs y

  pub get_past : (xs : List A) (i : ℕ) → length xs ≤ i → slice_get xs i ≡ None
  get_past [] i h = refl
  get_past (x ∷ xs) zero h = absurd (omega arith)
  get_past (x ∷ xs) (suc i) h = get_past xs i (omega arith)

  pub there_or_past : (xs : List A) (i : ℕ) → ((x : A) × (slice_get xs i ≡ Some x)) ⊎ (length xs ≤ i)
  there_or_past [] i = inr (omega arith)
  there_or_past (x ∷ xs) zero = inl (x, refl)
  there_or_past (x ∷ xs) (suc i) = ⊎_elim
      (λ (h : (y : A) × (slice_get xs i ≡ Some y)). inl h)
      (λ (h : length xs ≤ i). inr (omega arith))
      (there_or_past xs i)

  pub place_is : (xs : List A) (i : ℕ) (x : A) → slice_get xs i ≡ Some x → i < length xs
  place_is [] i x e = absurd (cc (e))
  place_is (y ∷ xs) zero x e = omega arith
  place_is (y ∷ xs) (suc i) x e = let h = place_is xs i x e in omega arith

pub get_map : {A C : Type 0} (f : A → C) (xs : List A) (i : ℕ) (x : A) → slice_get xs i ≡ Some x
    → slice_get (map f xs) i ≡ Some (f x)
get_map f [] i x e = absurd (cc (e))
get_map f (y ∷ xs) zero x e = ap (λ (o : Option _). Rattle.std.specs.Option.option_map f o) e
get_map f (y ∷ xs) (suc i) x e = get_map f xs i x e

pub get_map_back : {A C : Type 0} (f : A → C) (xs : List A) (i : ℕ) (y : C) → slice_get (map f xs) i ≡ Some y
    → (x : A) × (slice_get xs i ≡ Some x) × (f x ≡ y)
get_map_back f [] i y e = absurd (cc (e))
get_map_back f (x ∷ xs) zero y e = (x, refl, some_is (f x) y e)
get_map_back f (x ∷ xs) (suc i) y e = get_map_back f xs i y e

module _ {A : Type 0} where
  -- a place of two lists is one of the first or of the second
  pub get_either : (xs ys : List A) (i : ℕ) (z : A) → slice_get (xs ++ ys) i ≡ Some z
      → (slice_get xs i ≡ Some z) ⊎ ((j : ℕ) × (slice_get ys j ≡ Some z))
  get_either [] ys i z e = inr (i, e)
  get_either (x ∷ xs) ys zero z e = inl e
  get_either (x ∷ xs) ys (suc i) z e = get_either xs ys i z e

  pub get_within : (xs ys : List A) (i : ℕ) → i < length xs → slice_get (xs ++ ys) i ≡ slice_get xs i
  get_within [] ys i h = absurd (omega arith)
  get_within (x ∷ xs) ys zero h = refl
  get_within (x ∷ xs) ys (suc i) h = get_within xs ys i (omega arith)

module _ {A : Type 0} where
  -- a place behind the first list is one of the second
  pub get_behind : (xs ys : List A) (i : ℕ) → length xs ≤ i → slice_get (xs ++ ys) i ≡ slice_get ys (i - length xs)
  get_behind [] ys i le = ap (slice_get ys) (omega arith)
  get_behind (x ∷ xs) ys zero le = absurd (omega (arith, le))
  get_behind (x ∷ xs) ys (suc i) le =
      get_behind xs ys i (omega (arith, le)) ∙ ap (slice_get ys) (omega arith)

pub get_second : {A : Type 0} (xs ys : List A) (i : ℕ) → slice_get (xs ++ ys) (length xs + i) ≡ slice_get ys i
get_second [] ys i = ap (slice_get ys) (omega arith)
get_second (x ∷ xs) ys i =
    let n : suc (length xs) + i ≡ suc (length xs + i) = omega arith in
    ap (slice_get (x ∷ (xs ++ ys))) n ∙ get_second xs ys i

pub less_or : (p n : ℕ) → (p ≡ n → ⊥) → p < n + 1 → p < n
less_or p n other lt = omega arith

le_or : (m n : ℕ) → (m < n) ⊎ (n ≤ m)
le_or m zero = inr (omega arith)
le_or zero (suc n) = inl (omega arith)
le_or (suc m) (suc n) = ⊎_elim (λ (h : m < n). inl (omega arith)) (λ (h : n ≤ m). inr (omega arith)) (le_or m n)

pub split : {P : Type 0} (m n : ℕ) → (m < n → P) → (n ≤ m → P) → P
split m n a b = ⊎_elim a b (le_or m n)
