-- Lists, cut into chunks.
use Rattle.std.proofs.Common.{◌≡◌, ℕ, zero, suc, ◌*◌, ◌/◌, ◌≤◌, Bool, true, false, ◌&&◌, List, [], ◌++◌, length, get_or, take, drop, refl, sym, ap, ap₂, ◌∙◌, subst, append_assoc, arith}
use Rattle.std.proofs.lemmas.Grind.{common_steps}
use Rattle.std.proofs.lemmas.List.{nil_from_length, length-drop, take-append-drop}
use Rattle.std.proofs.lemmas.List.Concat.{flat_map-append}
use Rattle.std.proofs.lemmas.List.Folds.{list_all-append}
use Rattle.std.specs.List.{flat_map, list_all}
use Rattle.std.specs.Simd.{first_chunks}

left : (a b : Bool) → (a && b) ≡ true → a ≡ true
left true b both = refl
left false b both = both

right : (a b : Bool) → (a && b) ≡ true → b ≡ true
right true b both = both
right false b both = absurd (grind (arith, common_steps, both))

parted : (p : ℕ → Bool) (n : ℕ) (xs : List ℕ) → list_all p xs ≡ true → (list_all p (take n xs) && list_all p (drop n xs)) ≡ true
parted p n xs all = sym (list_all-append p (take n xs) (drop n xs)) ∙ ap (list_all p) (take-append-drop n xs) ∙ all

-- what all of a list are, all of its front and of what follows it are
pub all_taken : (p : ℕ → Bool) (n : ℕ) (xs : List ℕ) → list_all p xs ≡ true → list_all p (take n xs) ≡ true
all_taken p n xs all = left (list_all p (take n xs)) (list_all p (drop n xs)) (parted p n xs all)

pub all_dropped : (p : ℕ → Bool) (n : ℕ) (xs : List ℕ) → list_all p xs ≡ true → list_all p (drop n xs) ≡ true
all_dropped p n xs all = right (list_all p (take n xs)) (list_all p (drop n xs)) (parted p n xs all)

-- and all of each chunk
pub all_in_chunk : (p : ℕ → Bool) (n k j : ℕ) (xs : List ℕ) → list_all p xs ≡ true → list_all p (get_or (first_chunks n k xs) j []) ≡ true
all_in_chunk p n zero j xs all = refl
all_in_chunk p n (suc k) zero xs all = all_taken p n xs all
all_in_chunk p n (suc k) (suc j) xs all = all_in_chunk p n k j (drop n xs) (all_dropped p n xs all)

-- what the front and then what follows it become
pub front_on : (f : ℕ → List ℕ) (n : ℕ) (done whole rest front behind : List ℕ) → front ≡ take n rest → behind ≡ drop n rest
    → done ++ flat_map f rest ≡ whole → (done ++ flat_map f front) ++ flat_map f behind ≡ whole
front_on f n done whole rest front behind first last same =
    let parts : front ++ behind ≡ rest = ap₂ ◌++◌ first last ∙ take-append-drop n rest in
    append_assoc done (flat_map f front) (flat_map f behind)
    ∙ ap (λ (xs : List ℕ). done ++ xs) (sym (flat_map-append f front behind) ∙ ap (flat_map f) parts) ∙ same

-- chunks that hold a whole list become what the list becomes
pub all_chunks : (f : ℕ → List ℕ) (k : ℕ) (xs : List ℕ) → length xs ≤ k * 16 → flat_map (flat_map f) (first_chunks 16 k xs) ≡ flat_map f xs
all_chunks f zero xs few = ap (flat_map f) (sym (nil_from_length xs (omega (arith, few))))
all_chunks f (suc k) xs few =
    ap (λ (ys : List ℕ). flat_map f (take 16 xs) ++ ys) (all_chunks f k (drop 16 xs) (omega (arith, few, length-drop 16 xs)))
    ∙ sym (flat_map-append f (take 16 xs) (drop 16 xs)) ∙ ap (flat_map f) (take-append-drop 16 xs)

-- four chunks of sixteen
pub four_chunks : (f : ℕ → List ℕ) (xs : List ℕ) (cs : List (List ℕ)) → length xs ≡ 64 → cs ≡ first_chunks 16 (length xs / 16) xs
    → flat_map f (get_or cs 0 []) ++ (flat_map f (get_or cs 1 []) ++ (flat_map f (get_or cs 2 []) ++ (flat_map f (get_or cs 3 []) ++ []))) ≡ flat_map f xs
four_chunks f xs cs long are =
    let four : cs ≡ first_chunks 16 4 xs = are ∙ ap (λ (n : ℕ). first_chunks 16 (n / 16) xs) long in
    subst (λ (ds : List (List ℕ)). flat_map f (get_or ds 0 []) ++ (flat_map f (get_or ds 1 []) ++ (flat_map f (get_or ds 2 []) ++ (flat_map f (get_or ds 3 []) ++ []))) ≡ flat_map f xs)
    (sym four) (all_chunks f 4 xs (omega (arith, long)))
