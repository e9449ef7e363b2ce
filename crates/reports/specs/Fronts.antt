-- The words of a line, one by one.
use Rattle.std.specs.Prelude.{◌≡◌, ℕ, List, ◌∷◌, ◌++◌}
use Rattle.byte_path.specs.Characters.{space}
use Rattle.reports.specs.Fields.{Field}
use Rattle.reports.specs.Lines.{word_of, front_of}

-- One field more says its word and a space before what follows.
abbrev pub FrontsGrow : Type 0
FrontsGrow = (f : Field) (fs : List Field) (w rest rest' : List ℕ) → word_of f.shows ≡ w
    → front_of fs ++ rest ≡ rest' → front_of (f ∷ fs) ++ rest ≡ w ++ space ∷ rest'
