-- The content of a spelling, and the spelling of a content.
use Rattle.std.proofs.Common.{◌≡◌, ℕ, ◌+◌, ◌^◌, ◌<◌, ◌≤◌, Bool, true, false, not, cond, eqb, nat_lt, List, ◌∷◌, ◌++◌, length, get_or, take, drop, codes, Ok, Err, refl, sym, ◌∙◌, ap, arith, rules, length-append}
use Rattle.std.proofs.Math.Seq.{take-append_seam, drop-append-add, get_or-append_seam}
use Rattle.std.proofs.lemmas.Bool.{ne_eqb}
use Rattle.std.proofs.lemmas.Fmt.{length-decimal-le}
use Rattle.std.proofs.lemmas.Grind.{common_steps}
use Rattle.std.proofs.lemmas.List.{get_or_append_left, length-drop, take-append-drop}
use Rattle.std.proofs.lemmas.List.Sums.{position_or_len_is, split_at_first, passes_at_first}
use Rattle.std.proofs.lemmas.Slice.Eq.{bytes_eq-Decides}
use Rattle.std.proofs.lemmas.Str.Parse.{not_in_digits, IsNumeralModel, numerals_by_value}
use Rattle.std.specs.Fmt.{decimal}
use Rattle.std.specs.Char.{is_ascii_digit}
use Rattle.std.specs.List.{list_all, position_or_len, before_first, after_first}
use Rattle.std.specs.Str.{bytes_eq}
use Rattle.std.specs.Str.Parse.{digits_value}
use Rattle.byte_path.specs.Decimal.{is_decimal, OneDecimal}
use Rattle.sha1.specs.Sha1.{sha1}
use Rattle.object_dir.proofs.Causes.{object_of-within}
use Rattle.object_dir.specs.Object.{is_nul, max_stored, has_header, size_text, content_of, stored_content, object_of}
use Rattle.object_dir.specs.Spelling.{spelled_blob}
use Rattle.object_dir.specs.declared.fault.ObjectFault.TheVariants.{TooLarge, Header, Size, WrongName}

-- digits and their number, as std's lemmas state them
digits_own : IsNumeralModel (λ ds. list_all is_ascii_digit ds ≡ true) (digits_value 10)
digits_own = numerals_by_value _ (search rules)

-- the text of a size, a NUL and a content
abbrev behind : List ℕ → List ℕ → List ℕ
behind size content = size ++ 0 ∷ content

stored_as : List ℕ → List ℕ → List ℕ
stored_as size content = codes "blob " ++ behind size content

-- the NUL is the first after the digits
nul_behind : OneDecimal → (size content : List ℕ) → is_decimal size ≡ true → position_or_len is_nul (behind size content) ≡ length size
nul_behind law size content right =
    position_or_len_is is_nul (behind size content) (length size) 0
    (omega (arith, length-append size (0 ∷ content)))
    (λ k lt. rw get_or_append_left (ne_nul k lt))
    (λ lt. rw get_or-append_seam refl)
  where
    ne_nul : (k : ℕ) → k < length size → is_nul (get_or size k 0) ≡ false
    ne_nul k lt = ne_eqb (get_or size k 0) 0 (not_in_digits digits_own size 0 (law.digits size right) (λ h. absurd (omega (arith, h))) k lt)

drop-front : (size content : List ℕ) → drop 5 (stored_as size content) ≡ behind size content
unfolding stored_as
drop-front size content = refl

take-front : (size content : List ℕ) → take 5 (stored_as size content) ≡ codes "blob "
unfolding stored_as
take-front size content = refl

size_text-stored_as : OneDecimal → (size content : List ℕ) → is_decimal size ≡ true → size_text (stored_as size content) ≡ size
size_text-stored_as law size content right = rw (drop-front size content, nul_behind law size content right) (take-append_seam size (0 ∷ content))

content_of-stored_as : OneDecimal → (size content : List ℕ) → is_decimal size ≡ true → content_of (stored_as size content) ≡ content
content_of-stored_as law size content right = rw (drop-front size content, nul_behind law size content right) (drop-append-add size (0 ∷ content) 1)

nul_found : (size content : List ℕ) → position_or_len is_nul (behind size content) ≡ length size → nat_lt (position_or_len is_nul (behind size content)) (length (behind size content)) ≡ true
nul_found size content at =
    let long = length-append size (0 ∷ content) in
    grind (arith, common_steps)

has_header-stored_as : OneDecimal → (size content : List ℕ) → is_decimal size ≡ true → has_header (stored_as size content) ≡ true
has_header-stored_as law size content right =
    rw (take-front size content, size_text-stored_as law size content right, drop-front size content, nul_found size content (nul_behind law size content right), right) refl

stored_content-stored_as : OneDecimal → (size content : List ℕ) → is_decimal size ≡ true → digits_value 10 size ≡ length content
    → stored_content (stored_as size content) (sha1 (stored_as size content)) ≡ Ok content
unfolding stored_content
stored_content-stored_as law size content right long =
    rw (
      has_header-stored_as law size content right,
      size_text-stored_as law size content right,
      content_of-stored_as law size content right,
      long,
      eqb_same (length content),
      (bytes_eq-Decides (sha1 (stored_as size content)) (sha1 (stored_as size content))).1 refl,
    ) refl
  where
    eqb_same : (n : ℕ) → eqb n n ≡ true
    eqb_same n = grind arith

spelled : (content : List ℕ) → spelled_blob content ≡ stored_as (decimal (length content)) content
unfolding stored_as
spelled content = refl

length-spelled : (content : List ℕ) → length content ≤ 268435456 → length (stored_as (decimal (length content)) content) ≤ max_stored
unfolding stored_as
length-spelled content few =
    let size : length (decimal (length content)) ≤ 9 = length-decimal-le 9 (length content) (omega arith) (omega arith) (omega arith) in
    omega (arith, length-append (decimal (length content)) (0 ∷ content))

pub object_of-spelled : OneDecimal → (content : List ℕ) → length content ≤ 268435456 → object_of (spelled_blob content) (sha1 (spelled_blob content)) ≡ Ok content
object_of-spelled law content few =
    let small : length content < 2 ^ 64 = omega arith in
    let stored : List ℕ = stored_as (decimal (length content)) content in
    ap (λ (xs : List ℕ). object_of xs (sha1 xs)) (spelled content)
    ∙ object_of-within stored (sha1 stored) (length-spelled content few)
    ∙ stored_content-stored_as law (decimal (length content)) content (law.right (length content) small) (law.number (length content) small)

-- the tests that a content has passed
ok_tests : (long header length_right name_right : Bool) (found there content : List ℕ)
    → cond long (Err TooLarge) (cond (not header) (Err Header) (cond (not length_right) (Err Size) (cond (not name_right) (Err (WrongName found)) (Ok there)))) ≡ Ok content
    → (long ≡ false) × (header ≡ true) × (length_right ≡ true) × (name_right ≡ true) × (there ≡ content)
ok_tests true b c d found there content is = cc
ok_tests false false c d found there content is = cc
ok_tests false true false d found there content is = cc
ok_tests false true true false found there content is = cc
ok_tests false true true true found there content is = (refl, refl, refl, refl, cc)

record HasPassed (stored name content : List ℕ) : Type 0 where
  few : nat_lt max_stored (length stored) ≡ false
  header : has_header stored ≡ true
  long : eqb (digits_value 10 (size_text stored)) (length (content_of stored)) ≡ true
  named : bytes_eq (sha1 stored) name ≡ true
  there : content_of stored ≡ content

passed : (stored name content : List ℕ) → object_of stored name ≡ Ok content → HasPassed stored name content
unfolding stored_content
passed stored name content is =
    let tests = ok_tests (nat_lt max_stored (length stored)) (has_header stored) (eqb (digits_value 10 (size_text stored)) (length (content_of stored)))
    (bytes_eq (sha1 stored) name) (sha1 stored) (content_of stored) content is in
    record { few = tests.0; header = tests.1; long = tests.2; named = tests.3; there = tests.4 }

record IsSplit (stored : List ℕ) : Type 0 where
  front : bytes_eq (take 5 stored) (codes "blob ") ≡ true
  nul : position_or_len is_nul (drop 5 stored) < length (drop 5 stored)
  size : is_decimal (size_text stored) ≡ true

split_of : (stored : List ℕ) → has_header stored ≡ true → IsSplit stored
split_of stored header = record { front = grind (arith, common_steps); nul = grind (arith, common_steps); size = grind (arith, common_steps) }

-- the bytes after `blob ` are the size, a NUL and the content
behind-is : (rest : List ℕ) → position_or_len is_nul rest < length rest → rest ≡ before_first is_nul rest ++ 0 ∷ after_first is_nul rest
behind-is rest nul =
    let zero_there : get_or rest (position_or_len is_nul rest) 0 ≡ 0 = eqb_is (get_or rest (position_or_len is_nul rest) 0) (passes_at_first is_nul rest 0 nul) in
    split_at_first is_nul rest 0 nul ∙ ap (λ (b : ℕ). before_first is_nul rest ++ b ∷ after_first is_nul rest) zero_there
  where
    eqb_is : (b : ℕ) → eqb b 0 ≡ true → b ≡ 0
    eqb_is b is = grind (arith, common_steps)

stored-is : (stored : List ℕ) → IsSplit stored → stored ≡ stored_as (size_text stored) (content_of stored)
unfolding stored_as
stored-is stored split =
    let front : take 5 stored ≡ codes "blob " = (bytes_eq-Decides (take 5 stored) (codes "blob ")).0 split.front in
    sym (take-append-drop 5 stored) ∙ ap (λ (xs : List ℕ). xs ++ drop 5 stored) front ∙ ap (λ (xs : List ℕ). codes "blob " ++ xs) (behind-is (drop 5 stored) split.nul)

eqb_is : (a b : ℕ) → eqb a b ≡ true → a ≡ b
eqb_is a b is = grind (arith, common_steps)

under : (n : ℕ) → nat_lt max_stored n ≡ false → n ≤ max_stored
under n few = grind (arith, common_steps)

pub spelled-object_of : OneDecimal → (stored name content : List ℕ) → object_of stored name ≡ Ok content → (stored ≡ spelled_blob content) × (sha1 stored ≡ name)
spelled-object_of law stored name content is =
    let tests = passed stored name content is in
    let split = split_of stored tests.header in
    let long : digits_value 10 (size_text stored) ≡ length (content_of stored) = eqb_is _ _ tests.long in
    let few : length stored ≤ max_stored = under (length stored) tests.few in
    let small : digits_value 10 (size_text stored) < 2 ^ 64 =
    omega (arith, long, few, length-drop 5 stored, length-drop (position_or_len is_nul (drop 5 stored) + 1) (drop 5 stored)) in
    let size : decimal (length (content_of stored)) ≡ size_text stored = ap decimal (sym long) ∙ law.only (size_text stored) split.size small in
    let as_it_is : stored ≡ stored_as (decimal (length (content_of stored))) (content_of stored) = stored-is stored split ∙ ap (λ (ds : List ℕ). stored_as ds (content_of stored)) (sym size) in
    let at_content : stored ≡ stored_as (decimal (length content)) content = as_it_is ∙ ap (λ (xs : List ℕ). stored_as (decimal (length xs)) xs) tests.there in
    (at_content ∙ sym (spelled content), (bytes_eq-Decides (sha1 stored) name).0 tests.named)
