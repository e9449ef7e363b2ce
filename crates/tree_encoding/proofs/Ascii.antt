-- How characters of ASCII are written.
use Rattle.std.proofs.Common.{◌≡◌, ℕ, ◌+◌, ◌*◌, ◌%◌, ◌^◌, ◌<◌, ◌≤◌, Bool, true, false, cond, eqb, leb, ◌&&◌, List, [], ◌∷◌, ◌++◌, map, length, get_or, take, drop, replicate, refl, sym, ap, ◌∙◌, arith}
use Rattle.std.proofs.lemmas.Grind.{common_steps}
use Rattle.std.proofs.lemmas.List.{length-map, take-append-drop}
use Rattle.std.proofs.lemmas.Simd.{pick_l_whole, mask_l-mod, length-zip2, length-replicate}
use Rattle.std.proofs.lemmas.List.Folds.{list_all-append}
use Rattle.std.specs.Char.{is_ascii}
use Rattle.std.specs.Simd.Lanes.{pick_l, mask_l, top, zip2}
use Rattle.std.specs.List.{flat_map, list_all}
use Rattle.tree_encoding.specs.Encode.{little32, big32, little16_of, big16_of}

pub little16-ascii : (b : ℕ) → b < 128 → little16_of b ≡ b ∷ 0 ∷ []
little16-ascii b low = grind (arith, common_steps)

pub big16-ascii : (b : ℕ) → b < 128 → big16_of b ≡ 0 ∷ b ∷ []
big16-ascii b low = grind (arith, common_steps)

pub little32-ascii : (b : ℕ) → b < 128 → little32 b ≡ b ∷ 0 ∷ 0 ∷ 0 ∷ []
little32-ascii b low = grind (arith, common_steps)

pub big32-ascii : (b : ℕ) → b < 128 → big32 b ≡ 0 ∷ 0 ∷ 0 ∷ b ∷ []
big32-ascii b low = grind (arith, common_steps)

below : (b : ℕ) → is_ascii b ≡ true → b < 128
below b is = grind (arith, common_steps)

-- two ways to write agree on a text of ASCII where they do on each of its characters
same_on_ascii : (f g : ℕ → List ℕ) (xs : List ℕ) → ((b : ℕ) → b < 128 → f b ≡ g b) → list_all is_ascii xs ≡ true → flat_map f xs ≡ flat_map g xs
same_on_ascii f g [] same all = refl
same_on_ascii f g (x ∷ xs) same all =
    let first : is_ascii x ≡ true = grind (arith, common_steps) in
    let others : list_all is_ascii xs ≡ true = grind (arith, common_steps) in
    rw (same x (below x first), same_on_ascii f g xs same others)

-- sixteen bytes, one by one
abbrev pub listed : List ℕ → List ℕ
listed xs =
    get_or xs 0 0 ∷ get_or xs 1 0 ∷ get_or xs 2 0 ∷ get_or xs 3 0 ∷ get_or xs 4 0 ∷ get_or xs 5 0 ∷ get_or xs 6 0 ∷ get_or xs 7 0 ∷ get_or xs 8 0 ∷ get_or xs 9 0 ∷ get_or xs 10 0 ∷ get_or xs 11 0 ∷ get_or xs 12 0 ∷ get_or xs 13 0 ∷ get_or xs 14 0 ∷ get_or xs 15 0 ∷ []

-- bytes that are picked from sixteen characters of ASCII and as many zeros are what the characters become
pub picked_of : (f g : ℕ → List ℕ) (places xs : List ℕ) → ((b : ℕ) → b < 128 → f b ≡ g b) → ((ys : List ℕ) → pick_l 0 (listed ys ++ replicate 16 0) places ≡ flat_map g (listed ys))
    → length xs ≡ 16 → list_all is_ascii xs ≡ true → pick_l 0 (xs ++ replicate 16 0) places ≡ flat_map f xs
picked_of f g places xs same picks len all =
    ap (λ (ys : List ℕ). pick_l 0 (ys ++ replicate 16 0) places) (sym (pick_l_whole 0 xs 16 len)) ∙ picks xs
    ∙ ap (flat_map g) (pick_l_whole 0 xs 16 len) ∙ sym (same_on_ascii f g xs same all)

-- ---- the bits of the bytes that are no ASCII

abbrev pub at_least : ℕ → ℕ → ℕ
at_least a b = cond (leb a b) 255 0

-- the flags of bytes from 128 on
abbrev pub flags : ℕ → List ℕ → List Bool
flags n xs = map (top 7) (zip2 at_least (replicate n 128) xs)

abbrev pub high_bits : List ℕ → ℕ
high_bits xs = mask_l (flags (length xs) xs)

none_high : (xs : List ℕ) → eqb (high_bits xs) 0 ≡ list_all is_ascii xs
none_high [] = refl
none_high (x ∷ xs) = step (leb 128 x) refl (none_high xs)
  where
    step : (t : Bool) → leb 128 x ≡ t → eqb (high_bits xs) 0 ≡ list_all is_ascii xs
        → eqb (cond (top 7 (cond t 255 0)) 1 0 + 2 * high_bits xs) 0 ≡ (is_ascii x && list_all is_ascii xs)
    step true is rest =
        let no : is_ascii x ≡ false = grind (arith, common_steps) in
        let set : eqb (1 + 2 * high_bits xs) 0 ≡ false = grind (arith, common_steps) in
        set ∙ ap (λ (b : Bool). b && list_all is_ascii xs) (sym no)
    step false is rest =
        let yes_it_is : is_ascii x ≡ true = grind (arith, common_steps) in
        let same : eqb (0 + 2 * high_bits xs) 0 ≡ eqb (high_bits xs) 0 = grind (arith, common_steps) in
        same ∙ rest ∙ ap (λ (b : Bool). b && list_all is_ascii xs) (sym yes_it_is)

-- bytes are ASCII if no bit is set
pub none_set : (n : ℕ) (xs : List ℕ) → length xs ≡ n → n ≤ 64 → eqb (mask_l (flags n xs) % 2 ^ 64) 0 ≡ list_all is_ascii xs
none_set n xs long fits =
    let few : length (flags n xs) ≡ n = length-map (zip2 at_least (replicate n 128) xs) (top 7) ∙ length-zip2 at_least (replicate n 128) xs (length-replicate n 128 ∙ sym long) ∙ length-replicate n 128 in
    ap (λ (m : ℕ). eqb m 0) (mask_l-mod (flags n xs) 64 (omega (arith, few, fits)))
    ∙ ap (λ (k : ℕ). eqb (mask_l (flags k xs)) 0) (sym long) ∙ none_high xs

-- a list whose front isn't ASCII
pub front_is_not : (xs ys : List ℕ) (n : ℕ) → ys ≡ take n xs → list_all is_ascii ys ≡ false → list_all is_ascii xs ≡ false
front_is_not xs ys n is none =
    ap (list_all is_ascii) (sym (take-append-drop n xs)) ∙ list_all-append is_ascii (take n xs) (drop n xs)
    ∙ ap (λ (b : Bool). b && list_all is_ascii (drop n xs)) (ap (list_all is_ascii) (sym is) ∙ none)
