-- Where the content begins.
use Rattle.std.proofs.Common.{◌≡◌, ℕ, ◌+◌, ◌-◌, ◌<◌, ◌≤◌, true, eqb, List, length, drop, Ok, refl, ap, arith}
use Rattle.std.proofs.lemmas.Grind.{common_steps}
use Rattle.std.proofs.lemmas.List.{length-drop, drop-drop}
use Rattle.std.specs.List.{position_or_len}
use Rattle.std.specs.Str.{bytes_eq}
use Rattle.std.specs.Str.Parse.{digits_value}
use Rattle.sha1.specs.Sha1.{sha1}
use Rattle.object_dir.specs.Object.{is_nul, has_header, size_text, content_of, stored_content}

-- a rest begins as far from the end as it is long
drop-from_end : (xs : List ℕ) (k : ℕ) → k ≤ length xs → drop (length xs - length (drop k xs)) xs ≡ drop k xs
drop-from_end xs k le = let same : length xs - length (drop k xs) ≡ k = omega (arith, length-drop k xs) in ap (λ (n : ℕ). drop n xs) same

-- there is a NUL after `blob `
nul-within : (stored : List ℕ) → has_header stored ≡ true → position_or_len is_nul (drop 5 stored) < length (drop 5 stored)
nul-within stored header = grind (arith, common_steps)

pub content_of-from_end : (stored : List ℕ) → has_header stored ≡ true → drop (length stored - length (content_of stored)) stored ≡ content_of stored
content_of-from_end stored header =
    let n : ℕ = position_or_len is_nul (drop 5 stored) + 1 in
    let within = nul-within stored header in
    let joined : drop n (drop 5 stored) ≡ drop (5 + n) stored = drop-drop n 5 stored in
    let fits : 5 + n ≤ length stored = omega (arith, within, length-drop 5 stored) in
    rw joined (drop-from_end stored (5 + n) fits)

-- what passes each test has this content
pub stored_content-right : (stored name size content : List ℕ) → has_header stored ≡ true → size ≡ size_text stored → content ≡ content_of stored
    → eqb (digits_value 10 size) (length content) ≡ true → bytes_eq (sha1 stored) name ≡ true
    → stored_content stored name ≡ Ok (drop (length stored - length content) stored)
unfolding stored_content
stored_content-right stored name size content header size-is content-is length-is named =
    rw (content-is, content_of-from_end stored header, header, ← size-is, ← content-is, length-is, named) refl
