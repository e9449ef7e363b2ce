use Rattle.std.proofs.Common.{◌≡◌, ℕ, ◌<◌, List, [], ◌∷◌, length, map, string_bytes, None, refl, arith}
use Rattle.std.proofs.lemmas.List.{length-map}
use Rattle.checkout_words.specs.Words.{command_of}
use Rattle.checkout_words.proofs.read_words.Goals as goal

too_few : (words : List (List ℕ)) → length words < 3 → command_of words ≡ None
too_few [] few = refl
too_few (repo ∷ []) few = refl
too_few (repo ∷ tree ∷ []) few = refl
too_few (repo ∷ tree ∷ name ∷ tail) few = absurd (omega arith)

pub returns-in_default : goal.returns-in_default
returns-in_default c = record {
  reads = too_few (map string_bytes c.args.words.now) (omega (arith, length-map c.args.words.now string_bytes, c.in_default.len_below));
  unnamed = λ none. refl;
}
