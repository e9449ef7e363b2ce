-- The digests of texts that are had in two ways.
use Rattle.std.proofs.Common.{◌≡◌, ℕ, ◌<◌, List, [], ◌++◌, length, take, map, slice_index_or, sym, ap, ◌∙◌, arith}
use Rattle.std.proofs.lemmas.List.{get_or-take, get_or-map, length-map, take_at}
use Rattle.std.proofs.lemmas.Simd.{map-map}
use Rattle.sha1.specs.Sha1.{sha1}

-- digests of messages are those of what was stored, if the messages are
pub digests_are : {X Y : Type 0} (now : X → List ℕ) (stored : Y → List ℕ) (ms : List X) (ys : List Y)
    (out rest : List (List ℕ)) (many : ℕ) → length ys ≡ many → map now ms ≡ map stored ys
    → out ≡ map (λ m. sha1 (now m)) ms → take many (out ++ rest) ≡ map (λ y. sha1 (stored y)) ys
digests_are now stored ms ys out rest many long same is =
    let n : length out ≡ many = omega (
      arith,
      long,
      ap length is,
      length-map ms (λ m. sha1 (now m)),
      ap length same,
      length-map ms now,
      length-map ys stored,
    ) in
    take_at out rest many n ∙ is ∙ sym (map-map sha1 now ms) ∙ ap (map sha1) same ∙ map-map sha1 stored ys

-- one of them, where what was stored is still the same
pub digest_here : {X : Type 0} (stored : X → List ℕ) (olds nows : List X) (found : List (List ℕ)) (many i : ℕ) (d : X)
    → i < many → i < length nows → take many found ≡ map (λ x. sha1 (stored x)) olds
    → map stored nows ≡ map stored olds → slice_index_or found i [] ≡ sha1 (stored (slice_index_or nows i d))
digest_here stored olds nows found many i d first within is same =
    let long : length nows ≡ length olds = omega (arith, length-map nows stored, ap length same, length-map olds stored) in
    let here : stored (slice_index_or nows i d) ≡ stored (slice_index_or olds i d) =
    sym (get_or-map stored nows i d [] within)
    ∙ ap (λ (l : List (List ℕ)). slice_index_or l i []) same
    ∙ get_or-map stored olds i d [] (omega (arith, within, long)) in
    sym (get_or-take many found i [] first)
    ∙ ap (λ (l : List (List ℕ)). slice_index_or l i []) is
    ∙ get_or-map (λ x. sha1 (stored x)) olds i d [] (omega (arith, within, long))
    ∙ sym (ap sha1 here)
