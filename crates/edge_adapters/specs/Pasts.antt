-- What a list that contracts alone read holds.
use Rattle.std.specs.Prelude.{List, [], ◌∷◌, ◌++◌}
use Rattle.edge_adapters.specs.declared.past.Past.{Past, fold-Past}
use Rattle.edge_adapters.specs.declared.past.Past.TheOpen.{Past-F}

-- those before the last, and the last
abbrev pub items_step : {T : Type 0} → Past-F T (List T) → List T
items_step Past-F.Nothing = []
items_step (Past-F.Then before last) = before.value ++ last.value ∷ []

abbrev pub items : {T : Type 0} → Past T → List T
items {T} = fold-Past T (List T) items_step
