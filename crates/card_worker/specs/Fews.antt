-- Up to 32 values.
use Rattle.std.specs.Prelude.{ℕ, ◌<◌, List, option_to_list, flat_map, drop, length, vec_len, vec_capacity}
use Rattle.card_worker.specs.declared.few.Few.{Few}

-- the values from a place on
abbrev pub items_from : {T : Type 0} → ℕ → Few T → List T
items_from place v = flat_map option_to_list (drop place v.slots.items)

-- all values, from the first on
abbrev pub items : {T : Type 0} → Few T → List T
items v = flat_map option_to_list v.slots.items

-- there is room for one more
abbrev pub HasRoom : {T : Type 0} → Few T → Type 0
HasRoom v = (length v.slots.items < 32) × (vec_len v.slots < vec_capacity v.slots)
