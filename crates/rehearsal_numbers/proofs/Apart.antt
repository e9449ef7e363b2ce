-- No two contents of a rehearsal have one name.
use Rattle.std.proofs.Common.{◌≡◌, ℕ, zero, suc, ◌+◌, ◌*◌, ◌<◌, Bool, true, false, List, [], ◌∷◌, ◌++◌, refl, sym, ap, ◌∙◌, subst, arith}
use Rattle.std.specs.Prelude.{codes, slice_index, ◌==◌, if◌then◌else◌}
use Rattle.std.specs.Fmt.{digits}
use Rattle.std.specs.List.{range_with_len, list_all}
use Rattle.std.proofs.lemmas.Bool.{and_parts}
use Rattle.std.proofs.lemmas.Grind.{common_steps}
use Rattle.sha1.specs.Sha1.{sha1, first_words, schedule, rounds, compress, hash_after, digest_bytes}
use Rattle.rehearsal.specs.Paths.{kind, line_count, lines, line_of}
use Rattle.rehearsal.specs.Repository.{attributes}
use Rattle.rehearsal_numbers.specs.Contents.{name_of, ContentsAreApart}

-- what holds of each number below another by a test of all of them
passes_from : (test : ℕ → Bool) (a n : ℕ) → list_all test (range_with_len a n) ≡ true → (k : ℕ) → k < n
    → test (a + k) ≡ true
passes_from test a zero h k lt = absurd (omega (arith, lt))
passes_from test a (suc n) h zero lt =
    subst (λ (i : ℕ). test i ≡ true) (omega arith) (and_parts (test a) _ h).0
passes_from test a (suc n) h (suc k) lt =
    subst (λ (i : ℕ). test i ≡ true) (omega arith)
    (passes_from test (a + 1) n (and_parts (test a) _ h).1 k (omega (arith, lt)))

pub passes : (test : ℕ → Bool) (n : ℕ) → list_all test (range_with_len 0 n) ≡ true → (k : ℕ) → k < n → test k ≡ true
passes test n h k lt = subst (λ (i : ℕ). test i ≡ true) (omega arith) (passes_from test 0 n h k lt)

pub is_equal : (x y : ℕ) → (x == y) ≡ true → x ≡ y
is_equal x y h = grind (arith, common_steps)

-- the first three bytes of a name as a number
abbrev number_of : List ℕ → ℕ
number_of name = 65536 * slice_index name 0 + (256 * slice_index name 1 + slice_index name 2)

key : List ℕ → ℕ
key text = number_of (name_of text)

-- that number of each content, by its lines: without the keyword, with it, and of the attribute file
keys : List ℕ
keys =
    15113698 ∷ 11114912 ∷ 1303507 ∷ 15710259 ∷ 5022976 ∷ 1603954 ∷ 13562589 ∷ 10847895 ∷ 8607528 ∷ 10002877 ∷
    10064990 ∷ 12194227 ∷ 3349804 ∷ 16254077 ∷ 468494 ∷ 3850332 ∷ 7153633 ∷ 10349569 ∷ 8875587 ∷ 15406753 ∷
    9555320 ∷ 5105425 ∷ 862623 ∷ 12102791 ∷ 10755078 ∷ 5330083 ∷ 8401945 ∷ 1325472 ∷ 12699769 ∷ 2012197 ∷
    3238543 ∷ 13554007 ∷ 10647473 ∷ 13668586 ∷ 3509059 ∷ 3449499 ∷ 12302605 ∷ 8815300 ∷ 4841876 ∷ 789302 ∷
    3273367 ∷ 429414 ∷ 16302713 ∷ 9278281 ∷ 1608910 ∷ 2557353 ∷ 3738084 ∷ 7837932 ∷ 4662559 ∷ 4645101 ∷
    351367 ∷ 8582417 ∷ 12114025 ∷ 5173935 ∷ 1801664 ∷ 8945635 ∷ 6309032 ∷ 6615938 ∷ 10000657 ∷ 794599 ∷
    3320178 ∷ 1659315 ∷ 10576775 ∷ 12705728 ∷ 5629338 ∷ 11857702 ∷ 189936 ∷ 4783498 ∷ 10854636 ∷ 3954476 ∷
    10872279 ∷ 3691085 ∷ 4254098 ∷ 3923582 ∷ 7177155 ∷ 10044934 ∷ 1831266 ∷ 16371444 ∷ 6860878 ∷ 16276116 ∷
    99616 ∷ 1893468 ∷ 3325928 ∷ 12060546 ∷ 6657279 ∷ 11014388 ∷ 2664466 ∷ 7862709 ∷ 16277465 ∷ 10519641 ∷
    343340 ∷ 7754901 ∷ 15113163 ∷ 4868088 ∷ 16519324 ∷ 2280786 ∷ 476797 ∷ 4397697 ∷ 9385381 ∷ 5472730 ∷
    434329 ∷ []

place_in : ℕ → List ℕ → ℕ
place_in k [] = 0
place_in k (x ∷ xs) = if x == k then 0 else suc (place_in k xs)

place : ℕ → ℕ
place k = place_in k keys

abbrev pub text : Bool → ℕ → List ℕ
text b n = lines n ++ (if b then line_of (codes "$Id$") else [])

code : Bool → ℕ → ℕ
code false n = n
code true n = 50 + n

plain_keys : list_all (λ n. place (key (text false n)) == code false n) (range_with_len 0 50) ≡ true
unfolding code place place_in keys key digits sha1 first_words schedule rounds compress hash_after digest_bytes
plain_keys = refl

keyword_keys : list_all (λ n. place (key (text true n)) == code true n) (range_with_len 0 50) ≡ true
unfolding code place place_in keys key digits sha1 first_words schedule rounds compress hash_after digest_bytes
keyword_keys = refl

attributes_key : place (key attributes) ≡ 100
unfolding place place_in keys key digits sha1 first_words schedule rounds compress hash_after digest_bytes attributes
attributes_key = refl

placed : (b : Bool) (n : ℕ) → n < 50 → place (key (text b n)) ≡ code b n
placed false n lt = is_equal _ _ (passes (λ n. place (key (text false n)) == code false n) 50 plain_keys n lt)
placed true n lt = is_equal _ _ (passes (λ n. place (key (text true n)) == code true n) 50 keyword_keys n lt)

same_text : (a b : Bool) (m n : ℕ) → m < 50 → n < 50 → code a m ≡ code b n → text a m ≡ text b n
unfolding code
same_text false false m n x y e = ap (text false) e
same_text true true m n x y e = let same : m ≡ n = omega (arith, e) in ap (text true) same
same_text false true m n x y e = absurd (omega (arith, e, x))
same_text true false m n x y e = absurd (omega (arith, e, y))

code_small : (b : Bool) (n : ℕ) → n < 50 → code b n < 100
unfolding code
code_small false n lt = omega (arith, lt)
code_small true n lt = omega (arith, lt)

pub few_lines : (seed i : ℕ) → line_count seed i < 50
few_lines seed i = omega arith

same_key : (x y : List ℕ) → name_of x ≡ name_of y → key x ≡ key y
unfolding key
same_key x y e = ap number_of e

pub contents_apart : ContentsAreApart
contents_apart = record {
  files = λ seed i j e.
      let a = kind seed i == 2 in
      let b = kind seed j == 2 in
      let m = line_count seed i in
      let n = line_count seed j in
      same_text a b m n (few_lines seed i) (few_lines seed j)
      (sym (placed a m (few_lines seed i)) ∙ ap place (same_key (text a m) (text b n) e) ∙ placed b n (few_lines seed j));
  attributes = λ seed i e.
      let a = kind seed i == 2 in
      let m = line_count seed i in
      let at : code a m ≡ 100 = sym (placed a m (few_lines seed i)) ∙ ap place (same_key (text a m) attributes e) ∙ attributes_key in
      absurd (omega (arith, at, code_small a m (few_lines seed i)));
}
