-- Cards that stay the same, while more of them is taken or known.
use Rattle.std.proofs.Common.{◌≡◌, ℕ, zero, suc, List, [], ◌∷◌, ◌++◌, map, flat_map, option_to_list, slice_index_or, slice_set, Option, refl, ap, ◌∙◌}
use Rattle.checkout_book.specs.Sights.{Sight}
use Rattle.card_worker.specs.declared.held.Held.{Held}
use Rattle.card_worker.specs.Holding.{SameHeld, AreSame, AreSameSlots}

-- what a function says of each slot, where one holds something else of which it says the same
pub said_of_slots : {X Y : Type 0} (f : X → Y) (xs : List X) (i : ℕ) (z d : X) → f z ≡ f (slice_index_or xs i d)
    → map f (slice_set xs i z) ≡ map f xs
said_of_slots f [] i z d same = refl
said_of_slots f (x ∷ xs) zero z d same = ap (λ y. y ∷ map f xs) same
said_of_slots f (x ∷ xs) (suc i) z d same = ap (λ l. f x ∷ l) (said_of_slots f xs i z d same)

module _ {B L : Type 0} (see : Sight B L) where
  pub same_more : (xs ys us vs : List (Held B L)) → AreSame see xs ys → AreSame see us vs
      → AreSame see (xs ++ us) (ys ++ vs)
  same_more [] [] us vs h k = k
  same_more (x ∷ xs) (y ∷ ys) us vs h k = (h.0, same_more xs ys us vs h.1 k)
  same_more [] (y ∷ ys) us vs h k = absurd h
  same_more (x ∷ xs) [] us vs h k = absurd h

  pub same_all : (hs : List (Held B L)) → AreSame see hs hs
  same_all [] = tt
  same_all (h ∷ hs) = ((refl, λ claimed holds. holds), same_all hs)

  held_trans : (h k l : Held B L) → SameHeld see h k → SameHeld see k l → SameHeld see h l
  held_trans h k l a b = (b.0 ∙ a.0, λ claimed holds. b.1 claimed (a.1 claimed holds))

  same_trans : (xs ys zs : List (Held B L)) → AreSame see xs ys → AreSame see ys zs → AreSame see xs zs
  same_trans [] [] zs a b = b
  same_trans (x ∷ xs) (y ∷ ys) (z ∷ zs) a b = (held_trans x y z a.0 b.0, same_trans xs ys zs a.1 b.1)
  same_trans (x ∷ xs) (y ∷ ys) [] a b = absurd b
  same_trans [] (y ∷ ys) zs a b = absurd a
  same_trans (x ∷ xs) [] zs a b = absurd a

  -- each is the same as itself
  pub slots_all : (xs : List (Option (Held B L))) → AreSameSlots see xs xs
  slots_all [] = tt
  slots_all (x ∷ xs) = (same_all (option_to_list x), slots_all xs)

  -- one slot more was changed
  pub slots_set : (xs ys : List (Option (Held B L))) (i : ℕ) (z d : Option (Held B L)) → AreSameSlots see xs ys
      → AreSame see (option_to_list (slice_index_or ys i d)) (option_to_list z)
      → AreSameSlots see xs (slice_set ys i z)
  slots_set [] [] i z d a same = tt
  slots_set (x ∷ xs) (y ∷ ys) zero z d a same =
      (same_trans (option_to_list x) (option_to_list y) (option_to_list z) a.0 same, a.1)
  slots_set (x ∷ xs) (y ∷ ys) (suc i) z d a same = (a.0, slots_set xs ys i z d a.1 same)
  slots_set [] (y ∷ ys) i z d a same = absurd a
  slots_set (x ∷ xs) [] i z d a same = absurd a

  -- and so the cards that these slots hold
  pub same_items : (xs ys : List (Option (Held B L))) → AreSameSlots see xs ys
      → AreSame see (flat_map option_to_list xs) (flat_map option_to_list ys)
  same_items [] [] a = tt
  same_items (x ∷ xs) (y ∷ ys) a =
      same_more (option_to_list x) (option_to_list y) (flat_map option_to_list xs) (flat_map option_to_list ys) a.0
      (same_items xs ys a.1)
  same_items [] (y ∷ ys) a = absurd a
  same_items (x ∷ xs) [] a = absurd a
