-- Places of lists.
use Rattle.std.proofs.Common.{◌≡◌, ◌⊎◌, ◌+◌, zero, suc, ℕ, List, [], ◌∷◌, ◌++◌, length, map, Some, refl, ap, ◌∙◌, ⊎_elim, inl, inr, arith}
use Rattle.std.proofs.lemmas.Option.{same_Some}
use Rattle.std.specs.Prelude.{slice_get}

module _ {A : Type 0} where
  pub get_front : (xs ys : List A) (i : ℕ) (z : A) → slice_get xs i ≡ Some z → slice_get (xs ++ ys) i ≡ Some z
  get_front [] ys i z e = absurd cc
  get_front (x ∷ xs) ys zero z e = e
  get_front (x ∷ xs) ys (suc i) z e = get_front xs ys i z e

  pub get_last : (xs : List A) (y : A) → slice_get (xs ++ y ∷ []) (length xs) ≡ Some y
  get_last [] y = refl
  get_last (x ∷ xs) y = get_last xs y

  pub get_middle : (xs : List A) (y : A) (ys : List A) → slice_get (xs ++ y ∷ ys) (length xs) ≡ Some y
  get_middle [] y ys = refl
  get_middle (x ∷ xs) y ys = get_middle xs y ys

  pub get_behind : (xs ys : List A) (k : ℕ) → slice_get (xs ++ ys) (length xs + k) ≡ slice_get ys k
  get_behind [] ys k = let same : ◌≡◌ {A = ℕ} (length {A = A} [] + k) k = omega arith in ap (slice_get ys) same
  get_behind (x ∷ xs) ys k = let next : ◌≡◌ {A = ℕ} (length (x ∷ xs) + k) (suc (length xs + k)) = omega arith in
      ap (slice_get (x ∷ (xs ++ ys))) next ∙ get_behind xs ys k

  -- a place of a list with one more is one of the list, or the last
  pub get_pushed : (xs : List A) (x y : A) (i : ℕ) → slice_get (xs ++ x ∷ []) i ≡ Some y → (slice_get xs i ≡ Some y) ⊎ ((i ≡ length xs) × (x ≡ y))
  get_pushed [] x y zero e = inr (refl, same_Some x y e)
  get_pushed [] x y (suc i) e = absurd cc
  get_pushed (z ∷ xs) x y zero e = inl e
  get_pushed (z ∷ xs) x y (suc i) e = ⊎_elim
      (λ (h : slice_get xs i ≡ Some y). inl h)
      (λ (h : (i ≡ length xs) × (x ≡ y)). inr (ap suc h.0, h.1))
      (get_pushed xs x y i e)

  -- a place of two lists is one of the first or of the second
  pub get_either : (xs ys : List A) (i : ℕ) (z : A) → slice_get (xs ++ ys) i ≡ Some z → (slice_get xs i ≡ Some z) ⊎ ((j : ℕ) × (slice_get ys j ≡ Some z))
  get_either [] ys i z e = inr (i, e)
  get_either (x ∷ xs) ys zero z e = inl e
  get_either (x ∷ xs) ys (suc i) z e = get_either xs ys i z e

module _ {A C : Type 0} (f : A → C) where
  pub get_map : (xs : List A) (i : ℕ) (x : A) → slice_get xs i ≡ Some x → slice_get (map f xs) i ≡ Some (f x)
  get_map [] i x e = absurd cc
  get_map (y ∷ xs) zero x e = ap (λ (z : A). Some (f z)) (same_Some y x e)
  get_map (y ∷ xs) (suc i) x e = get_map xs i x e

  pub get_map_back : (xs : List A) (i : ℕ) (y : C) → slice_get (map f xs) i ≡ Some y → (x : A) × (slice_get xs i ≡ Some x) × (f x ≡ y)
  get_map_back [] i y e = absurd cc
  get_map_back (x ∷ xs) zero y e = (x, refl, same_Some (f x) y e)
  get_map_back (x ∷ xs) (suc i) y e = get_map_back xs i y e
