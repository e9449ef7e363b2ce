-- The object of each path of a rehearsal is told, and right.
use Rattle.std.proofs.Common.{◌≡◌, ℕ, ◌<◌, ◌⊎◌, ⊎_elim, Bool, true, false, not, ◌&&◌, List, [], ◌∷◌, map, length, Ok, refl, sym, ap, ◌∙◌}
use Rattle.std.specs.Prelude.{◌==◌, if◌then◌else◌, nat_lt}
use Rattle.std.specs.Fmt.{digits}
use Rattle.std.specs.List.{range_with_len, list_all}
use Rattle.std.specs.Str.{bytes_eq}
use Rattle.std.specs.Str.Parse.{digits_value}
use Rattle.std.proofs.lemmas.Bool.{true≢false, and_parts}
use Rattle.std.proofs.lemmas.Slice.Eq.{bytes_eq-Decides}
use Rattle.sha1.specs.Sha1.{sha1}
use Rattle.edge_kit.specs.Told.{Raw}
use Rattle.object_dir.specs.Object.{object_of, stored_content, max_stored, has_header, size_text, content_of}
use Rattle.object_dir.specs.Spelling.{spelled_blob}
use Rattle.rehearsal.specs.Paths.{kind, line_count, content}
use Rattle.rehearsal.specs.Repository.{attributes, file, files, object_told}
use Rattle.rehearsal_numbers.specs.Contents.{name_of}
use Rattle.rehearsal_numbers.proofs.Apart.{text, passes, few_lines, contents_apart}

is_false : (t : Bool) → not t ≡ true → t ≡ false
is_false true h = absurd (true≢false (sym h))
is_false false h = refl

right_by : (stored name : List ℕ) → nat_lt max_stored (length stored) ≡ false → has_header stored ≡ true
    → (digits_value 10 (size_text stored) == length (content_of stored)) ≡ true → bytes_eq (sha1 stored) name ≡ true
    → object_of stored name ≡ Ok (content_of stored)
unfolding stored_content
right_by stored name a b c d = rw (a, b, c, d) refl

abbrev well : List ℕ → Bool
well t =
    not (nat_lt max_stored (length (spelled_blob t))) && (has_header (spelled_blob t)
    && ((digits_value 10 (size_text (spelled_blob t)) == length (content_of (spelled_blob t)))
    && bytes_eq (content_of (spelled_blob t)) t))

right : (t : List ℕ) → well t ≡ true → object_of (spelled_blob t) (name_of t) ≡ Ok t
right t h =
    let one = and_parts (not (nat_lt max_stored (length (spelled_blob t)))) _ h in
    let two = and_parts (has_header (spelled_blob t)) _ one.1 in
    let three = and_parts (digits_value 10 (size_text (spelled_blob t)) == length (content_of (spelled_blob t))) _ two.1 in
    right_by (spelled_blob t) (name_of t) (is_false _ one.0) two.0 three.0
    ((bytes_eq-Decides (sha1 (spelled_blob t)) (name_of t)).1 refl)
    ∙ ap Ok ((bytes_eq-Decides (content_of (spelled_blob t)) t).0 three.1)

well_plain : list_all (λ n. well (text false n)) (range_with_len 0 50) ≡ true
unfolding digits
well_plain = refl

well_keyword : list_all (λ n. well (text true n)) (range_with_len 0 50) ≡ true
unfolding digits
well_keyword = refl

right_text : (b : Bool) (n : ℕ) → n < 50 → object_of (spelled_blob (text b n)) (name_of (text b n)) ≡ Ok (text b n)
right_text false n lt = right (text false n) (passes (λ n. well (text false n)) 50 well_plain n lt)
right_text true n lt = right (text true n) (passes (λ n. well (text true n)) 50 well_keyword n lt)

pub content_right : (seed i : ℕ) → object_of (spelled_blob (content seed i)) (name_of (content seed i)) ≡ Ok (content seed i)
content_right seed i = right_text (kind seed i == 2) (line_count seed i) (few_lines seed i)

abbrev pub In : ℕ → List ℕ → Type 0
In i [] = ⊥
In i (j ∷ js) = (i ≡ j) ⊎ In i js

told_in : (seed i : ℕ) (is : List ℕ) → In i is
    → object_told (map (file seed) is) (name_of (content seed i)) ≡ Raw (spelled_blob (content seed i))
told_in seed i [] h = absurd h
told_in seed i (j ∷ js) h = by (bytes_eq (name_of (content seed j)) (name_of (content seed i))) refl h (told_in seed i js)
  where
    by : (t : Bool) → bytes_eq (name_of (content seed j)) (name_of (content seed i)) ≡ t → In i (j ∷ js)
        → (In i js → object_told (map (file seed) js) (name_of (content seed i)) ≡ Raw (spelled_blob (content seed i)))
        → (if t then Raw (spelled_blob (content seed j)) else object_told (map (file seed) js) (name_of (content seed i)))
        ≡ Raw (spelled_blob (content seed i))
    by true e h more =
        let name : name_of (content seed j) ≡ name_of (content seed i) =
        (bytes_eq-Decides (name_of (content seed j)) (name_of (content seed i))).0 e in
        ap (λ (c : List ℕ). Raw (spelled_blob c)) (contents_apart.files seed j i name)
    by false e h more = ⊎_elim
        (λ (k : i ≡ j). absurd (true≢false (sym ((bytes_eq-Decides (name_of (content seed j)) (name_of (content seed i))).1
        (ap (λ (x : ℕ). name_of (content seed x)) (sym k))) ∙ e)))
        (λ (k : In i js). more k)
        h

pub told_at : (seed i : ℕ) (is : List ℕ) → In i is
    → object_told (files seed is) (name_of (content seed i)) ≡ Raw (spelled_blob (content seed i))
told_at seed i is h = by (bytes_eq (name_of attributes) (name_of (content seed i))) refl
  where
    by : (t : Bool) → bytes_eq (name_of attributes) (name_of (content seed i)) ≡ t
        → (if t then Raw (spelled_blob attributes) else object_told (map (file seed) is) (name_of (content seed i)))
        ≡ Raw (spelled_blob (content seed i))
    by true e =
        let name : name_of attributes ≡ name_of (content seed i) =
        (bytes_eq-Decides (name_of attributes) (name_of (content seed i))).0 e in
        ap (λ (c : List ℕ). Raw (spelled_blob c)) (sym (contents_apart.attributes seed i (sym name)))
    by false e = told_in seed i is h
