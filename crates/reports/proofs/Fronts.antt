-- The words of a line, one by one.
use Rattle.std.proofs.Common.{◌≡◌, ℕ, List, [], ◌∷◌, ◌++◌, ap, ◌∙◌, append_assoc}
use Rattle.byte_path.specs.Characters.{space}
use Rattle.reports.specs.Fronts.{FrontsGrow}
use Rattle.reports.specs.Lines.{word_of, front_of}

pub grow : FrontsGrow
grow f fs w rest rest' is then =
    append_assoc (word_of f.shows ++ space ∷ []) (front_of fs) rest
    ∙ append_assoc (word_of f.shows) (space ∷ []) (front_of fs ++ rest)
    ∙ ap (λ (x : List ℕ). x ++ space ∷ (front_of fs ++ rest)) is ∙ ap (λ (x : List ℕ). w ++ space ∷ x) then
