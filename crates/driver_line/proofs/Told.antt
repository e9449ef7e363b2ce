-- What is told grows piece by piece.
use Rattle.std.proofs.Common.{◌≡◌, ℕ, List, [], ◌++◌, Option, Some, None, refl, ap, append_assoc}
use Rattle.std.proofs.lemmas.List.{append-nil}
use Rattle.edge_kit.specs.Files.{grown}

pub grown_nothing : (t : Option (List ℕ)) → grown t [] ≡ t
grown_nothing None = refl
grown_nothing (Some t) = ap Some (append-nil t)

pub grown_both : (t : Option (List ℕ)) (a b : List ℕ) → grown (grown t a) b ≡ grown t (a ++ b)
grown_both None a b = refl
grown_both (Some t) a b = ap Some (append_assoc t a b)
