-- The names of a table of delayed paths, in the order of their bytes.
use Rattle.std.specs.Prelude.{ℕ, List, [], ◌∷◌, codes}

abbrev pub six_names : List (List ℕ)
six_names = codes "a" ∷ codes "b" ∷ codes "big.psd" ∷ codes "p1" ∷ codes "p2" ∷ codes "p3" ∷ []
