-- Which slots have a card that waits.
use Rattle.std.proofs.Common.{◌≡◌, ℕ, zero, suc, true, List, [], ◌∷◌, set, map, length, Some}
use Rattle.std.proofs.Common.{refl, sym, ap}
use Rattle.std.specs.Prelude.{slice_get}
use Rattle.convert_plan.specs.declared.card.Card.{Card}
use Rattle.checkout_book.specs.declared.shelf.Slot.{Slot}
use Rattle.checkout_book.specs.declared.shelf.Slot.TheVariants.{Away, Waits, Ended}
use Rattle.checkout_book.specs.Shelves.{waits}

pub set_same : {A : Type 0} (xs : List A) (p : ℕ) (x : A) → slice_get xs p ≡ Some x → set xs p x ≡ xs
set_same [] p x e = refl
set_same (y ∷ xs) zero x e = let is : y ≡ x = cc (e) in ap (λ z. z ∷ xs) (sym is)
set_same (y ∷ xs) (suc p) x e = ap (λ l. y ∷ l) (set_same xs p x e)

module _ {B L : Type 0} where
  pub flags_set : (slots : List (Slot B L)) (p : ℕ) (y : Slot B L)
      → map (λ s. waits s) (set slots p y) ≡ set (map (λ s. waits s) slots) p (waits y)
  flags_set [] p y = refl
  flags_set (x ∷ xs) zero y = refl
  flags_set (x ∷ xs) (suc p) y = ap (λ l. waits x ∷ l) (flags_set xs p y)

  pub flag_at : (slots : List (Slot B L)) (p : ℕ) (x : Slot B L) → slice_get slots p ≡ Some x
      → slice_get (map (λ s. waits s) slots) p ≡ Some (waits x)
  flag_at [] p x e = absurd (cc (e))
  flag_at (y ∷ xs) zero x e = let is : y ≡ x = cc (e) in ap (λ z. Some (waits z)) is
  flag_at (y ∷ xs) (suc p) x e = flag_at xs p x e

  pub flags_length : (slots : List (Slot B L)) → length (map (λ s. waits s) slots) ≡ length slots
  flags_length [] = refl
  flags_length (x ∷ xs) = ap suc (flags_length xs)

  -- where a flag is set, a card waits
  pub record Found (slots : List (Slot B L)) (p : ℕ) : Type 0 where
    pub card : Card B L
    pub at : slice_get slots p ≡ Some (Waits card)

  pub found : (slots : List (Slot B L)) (p : ℕ) → slice_get (map (λ s. waits s) slots) p ≡ Some true → Found slots p
  found [] p e = absurd (cc (e))
  found (Waits c ∷ xs) zero e = record { card = c; at = refl }
  found (Away ∷ xs) zero e = absurd (cc (e))
  found (Ended b l ∷ xs) zero e = absurd (cc (e))
  found (x ∷ xs) (suc p) e = let f = found xs p e in record { card = f.card; at = f.at }
