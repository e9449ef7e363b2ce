-- What a text begins with: sixteen characters of ASCII, or one character.
use Rattle.std.proofs.Common.{◌≡◌, ℕ, zero, suc, ◌<◌, ◌≤◌, true, List, [], ◌∷◌, ◌++◌, length, get_or, take, sym, ap, ◌∙◌, append_assoc, lit<, arith}
use Rattle.std.proofs.lemmas.Grind.{common_steps}
use Rattle.std.proofs.lemmas.List.{append-nil, get_or-take, length-append, nil_from_length}
use Rattle.std.proofs.lemmas.List.Concat.{flat_map-append}
use Rattle.std.proofs.lemmas.Str.{IsCharBoundary-after_ascii, IsUtf8-from_ascii, chars-append, chars-IsAscii, chars-nil, chars_past_char, length-encode, len_utf8_bounds}
use Rattle.std.specs.Char.{is_ascii, encode_utf8}
use Rattle.std.specs.List.{flat_map, list_all}
use Rattle.std.specs.Str.{chars, IsUtf8, IsAscii, IsCharBoundary}
use Rattle.tree_encoding.specs.Front.{BeginsWithSixteen}

pub all_below : (xs : List ℕ) → list_all is_ascii xs ≡ true → IsAscii xs
all_below [] all i = grind (arith, common_steps)
all_below (x ∷ xs) all zero = grind (arith, common_steps)
all_below (x ∷ xs) all (suc i) =
    let others : list_all is_ascii xs ≡ true = grind (arith, common_steps) in
    all_below xs others i

-- a text may be cut after sixteen characters of ASCII
pub may_cut : (text sixteen : List ℕ) → IsUtf8 text → 16 ≤ length text → sixteen ≡ take 16 text → list_all is_ascii sixteen ≡ true → IsCharBoundary text 16
may_cut text sixteen utf8 long is all =
    let last : get_or sixteen 15 0 < 128 = all_below sixteen all 15 in
    let same : get_or text 15 0 ≡ get_or sixteen 15 0 = sym (get_or-take 16 text 15 0 (lit< tt)) ∙ ap (λ (xs : List ℕ). get_or xs 15 0) (sym is) in
    IsCharBoundary-after_ascii text 15 utf8 (omega arith) (omega (arith, last, same))

-- what they and the characters after them become
pub sixteen_on : (f : ℕ → List ℕ) (done whole text sixteen behind : List ℕ) → BeginsWithSixteen text sixteen behind
    → done ++ flat_map f (chars text) ≡ whole → (done ++ flat_map f sixteen) ++ flat_map f (chars behind) ≡ whole
sixteen_on f done whole text sixteen behind front same =
    let ascii : IsAscii sixteen = all_below sixteen front.ascii in
    let parts : chars text ≡ sixteen ++ chars behind =
    ap chars front.parts ∙ chars-append sixteen behind (IsUtf8-from_ascii sixteen ascii)
    ∙ ap (λ (xs : List ℕ). xs ++ chars behind) (chars-IsAscii sixteen ascii) in
    append_assoc done (flat_map f sixteen) (flat_map f (chars behind))
    ∙ ap (λ (xs : List ℕ). done ++ xs) (sym (ap (flat_map f) parts ∙ flat_map-append f sixteen (chars behind))) ∙ same

-- what the first character and those after it become
pub first_on : (f : ℕ → List ℕ) (done whole text behind : List ℕ) (c : ℕ) → IsUtf8 text → text ≡ encode_utf8 c ++ behind
    → done ++ flat_map f (chars text) ≡ whole → (done ++ f c) ++ flat_map f (chars behind) ≡ whole
first_on f done whole text behind c utf8 parts same =
    append_assoc done (f c) (flat_map f (chars behind))
    ∙ ap (λ (xs : List ℕ). done ++ flat_map f xs) (sym (chars_past_char text behind c utf8 parts)) ∙ same

-- a character takes a byte at least
pub shorter_behind : (text behind : List ℕ) (c : ℕ) → text ≡ encode_utf8 c ++ behind → length behind < length text
shorter_behind text behind c parts =
    omega (arith, ap length parts, length-append (encode_utf8 c) behind, length-encode c, len_utf8_bounds c)

-- nothing is left
pub none_left : (f : ℕ → List ℕ) (done whole text : List ℕ) → length text ≡ 0 → done ++ flat_map f (chars text) ≡ whole → done ≡ whole
none_left f done whole text none same =
    let empty : chars text ≡ [] = ap chars (nil_from_length text none) ∙ chars-nil in
    sym (append-nil done) ∙ ap (λ (xs : List ℕ). done ++ flat_map f xs) (sym empty) ∙ same
