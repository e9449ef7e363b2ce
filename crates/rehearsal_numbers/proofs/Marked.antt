-- The paths of a driver, by their places in the plan and their numbers.
use Rattle.std.proofs.Common.{◌≡◌, ℕ, ◌<◌, inl, inr, ◌⊎◌, ⊎_elim, Bool, true, false, cond, List, [], ◌∷◌, map, refl, sym, ap, ◌∙◌, subst, arith, eq-eqb, ne_eqb}
use Rattle.std.specs.Prelude.{◌==◌}
use Rattle.std.specs.List.{AllByRecursion}
use Rattle.std.proofs.lemmas.Bool.{true≢false}
use Rattle.delay_table.specs.Table.{contains}
use Rattle.rehearsal_numbers.proofs.Apart.{is_equal}

pub record Mark : Type 0 where
  pub place : ℕ
  pub number : ℕ

abbrev pub places : List Mark → List ℕ
places ms = map (λ m. m.place) ms

abbrev pub numbers : List Mark → List ℕ
numbers ms = map (λ m. m.number) ms

abbrev pub Among : Mark → List Mark → Type 0
Among m [] = ⊥
Among m (x ∷ xs) = (m ≡ x) ⊎ Among m xs

abbrev pub Rises : List Mark → Type 0
Rises [] = Unit {0}
Rises (m ∷ ms) = AllByRecursion (λ x. m.place < x.place) ms × Rises ms

pub all_at : (P : Mark → Type 0) (ms : List Mark) → AllByRecursion P ms → (m : Mark) → Among m ms → P m
all_at P [] h m is = absurd is
all_at P (x ∷ xs) h m is =
    ⊎_elim (λ (e : m ≡ x). subst P (sym e) h.0) (λ (k : Among m xs). all_at P xs h.1 m k) is

pub all_from : (P : Mark → Type 0) (ms : List Mark) → ((m : Mark) → Among m ms → P m) → AllByRecursion P ms
all_from P [] f = tt
all_from P (x ∷ xs) f = (f x (inl refl), all_from P xs (λ m k. f m (inr k)))

pub self : (n : ℕ) → (n == n) ≡ true
self n = eq-eqb n n refl

pub other_place : (m n : ℕ) → m < n → (n == m) ≡ false
other_place m n lt = ne_eqb n m (λ e. omega (arith, lt, e))

pub found : (p : ℕ) (ms : List Mark) → contains p (places ms) ≡ true → (m : Mark) × Among m ms × (p ≡ m.place)
found p [] h = absurd (true≢false (sym h))
found p (x ∷ xs) h = go (found p xs) (p == x.place) refl
  where
    go : (contains p (places xs) ≡ true → (m : Mark) × Among m xs × (p ≡ m.place)) → (t : Bool) → (p == x.place) ≡ t
        → (m : Mark) × Among m (x ∷ xs) × (p ≡ m.place)
    go more true e = (x, inl refl, is_equal p x.place e)
    go more false e =
        let rest = more (ap (λ (t : Bool). cond t true (contains p (places xs))) (sym e) ∙ h) in
        (rest.0, inr rest.1, rest.2)

pub holds : (m : Mark) (ms : List Mark) → Among m ms → contains m.place (places ms) ≡ true
holds m [] is = absurd is
holds m (x ∷ xs) is = ⊎_elim
    (λ (e : m ≡ x). rw (eq-eqb m.place x.place (ap (λ (y : Mark). y.place) e)) refl)
    (λ (k : Among m xs). by (m.place == x.place) (holds m xs k))
    is
  where
    by : (t : Bool) → contains m.place (places xs) ≡ true → cond t true (contains m.place (places xs)) ≡ true
    by true h = refl
    by false h = h
