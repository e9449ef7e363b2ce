-- Up to 32 values.
use Rattle.std.proofs.Common.{◌≡◌, ℕ, ◌+◌, ◌<◌, ◌≤◌, List, [], ◌∷◌, ◌++◌, Option, Some, None, length, drop, flat_map, option_to_list, slice_index_or, slice_set, refl, sym, ap, ◌∙◌, subst, arith}
use Rattle.std.proofs.lemmas.List.{append-nil, drop_all, drop_more, drop-set-lt, length-append}
use Rattle.card_worker.specs.declared.few.Few.{Few}
use Rattle.card_worker.specs.Fews.{HasRoom, items, items_from}

module _ {T : Type 0} where
  -- what is left from a place on once its value was taken
  pub taken_out : (slots : List (Option T)) (place : ℕ) → place < length slots
      → flat_map option_to_list (drop place slots)
      ≡ option_to_list (slice_index_or slots place None)
      ++ flat_map option_to_list (drop (place + 1) (slice_set slots place None))
  taken_out slots place within =
      ap (flat_map option_to_list) (drop_more slots place None within)
      ∙ ap (λ (l : List (Option T)). option_to_list (slice_index_or slots place None) ++ flat_map option_to_list l)
      (sym (drop-set-lt (place + 1) slots place None (omega arith)))

  pub none_left : (v : Few T) (n : ℕ) → length v.slots.items ≤ n → items_from n v ≡ []
  none_left v n all = ap (flat_map option_to_list) (drop_all n v.slots.items all)

  few_items : (slots : List (Option T)) → length (flat_map option_to_list slots) ≤ length slots
  few_items [] = omega arith
  few_items (None ∷ xs) = let z = few_items xs in omega (arith, z)
  few_items (Some x ∷ xs) = let z = few_items xs in omega (arith, z)

  -- with room among the first ones, and none after them, there are fewer than 64
  pub few_alone : (v w : Few T) → HasRoom v → items w ≡ [] → length (items v ++ items w) < 64
  few_alone v w room none = subst (λ (l : List T). length (items v ++ l) < 64) (sym none)
      (let a = few_items v.slots.items in
      let less = room.0 in
      omega (arith, a, less, length-append (items v) []))

  -- and so with room after the first ones
  pub few_after : (v w : Few T) → length v.slots.items ≤ 32 → HasRoom w → length (items v ++ items w) < 64
  few_after v w most room =
      let a = few_items v.slots.items in
      let b = few_items w.slots.items in
      let less = room.0 in
      omega (arith, a, b, most, less, length-append (items v) (items w))

  pub both_none : (v w : Few T) → items v ≡ [] → items w ≡ [] → items v ++ items w ≡ []
  both_none v w none other = ap (λ (l : List T). l ++ items w) none ∙ other

  -- what is put behind the first of two lists is behind both where the second is empty
  pub behind_first : (xs ns hs : List T) → ns ≡ [] → (xs ++ ns) ++ hs ≡ (xs ++ hs) ++ ns
  behind_first xs ns hs none = subst (λ (l : List T). (xs ++ l) ++ hs ≡ (xs ++ hs) ++ l) (sym none)
      (ap (λ (l : List T). l ++ hs) (append-nil xs) ∙ sym (append-nil (xs ++ hs)))

pub none_of : {A : Type 0} (o : Option A) → ((x : A) → o ≡ Some x → ⊥) → o ≡ None
none_of None other = refl
none_of (Some x) other = absurd (other x refl)
