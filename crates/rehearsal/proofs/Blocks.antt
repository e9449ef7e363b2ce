-- Any 200 paths that follow one another are alike.
use Rattle.std.proofs.Common.{◌≡◌, ℕ, zero, suc, ◌+◌, ◌*◌, ◌<◌, ◌/◌, ◌%◌, Bool, true, false, not, ◌&&◌, cond, []}
use Rattle.std.proofs.Common.{length, length-append, refl, ap, ◌∙◌, subst, arith}
use Rattle.std.specs.Prelude.{codes, count_by, sum_by, ◌==◌, ◌||◌, if◌then◌else◌}
use Rattle.std.specs.List.{range_with_len, list_all}
use Rattle.std.proofs.lemmas.Bool.{and_parts}
use Rattle.std.proofs.lemmas.Grind.{common_steps}
use Rattle.std.proofs.lemmas.List.Sums.{sum_by-cons}
use Rattle.rehearsal.specs.Paths.{kind, line_count, line_of, lines, ident_line, content}
use Rattle.rehearsal.specs.Blocks.{path_is_written, path_is_unfiltered, path_is_failed, sized, file_size, BlocksAreAlike}

-- the sum over n numbers from a on
abbrev total : (ℕ → ℕ) → ℕ → ℕ → ℕ
total f a n = sum_by f (range_with_len a n)

total_more : (f : ℕ → ℕ) (a n : ℕ) → total f a (suc n) ≡ f a + total f (a + 1) n
total_more f a n = sum_by-cons f a (range_with_len (a + 1) n)

-- a number less in front is a number more at the end
turned : (f : ℕ → ℕ) (a n : ℕ) → f a + total f (a + 1) n ≡ total f a n + f (a + n)
turned f a zero =
    let same : f (a + 0) ≡ f a = ap f (omega arith) in
    omega (arith, same)
turned f a (suc n) =
    let same : f (a + 1 + n) ≡ f (a + suc n) = ap f (omega arith) in
    omega (arith, same, total_more f a n, total_more f (a + 1) n, turned f (a + 1) n)

steady : (f : ℕ → ℕ) (n : ℕ) → ((i : ℕ) → f (i + n) ≡ f i) → (a : ℕ) → total f a n ≡ total f 0 n
steady f n again zero = refl
steady f n again (suc a) =
    let next : total f (suc a) n ≡ total f (a + 1) n = ap (λ (k : ℕ). total f k n) (omega arith) in
    omega (arith, next, turned f a n, again a, steady f n again a)

alike : (f g : ℕ → ℕ) → ((i : ℕ) → f i ≡ g i) → (a n : ℕ) → total f a n ≡ total g a n
alike f g same a zero = refl
alike f g same a (suc n) =
    omega (arith, total_more f a n, total_more g a n, same a, alike f g same (a + 1) n)

passes_from : (test : ℕ → Bool) (a n : ℕ) → list_all test (range_with_len a n) ≡ true → (k : ℕ) → k < n
    → test (a + k) ≡ true
passes_from test a zero h k lt = absurd (omega (arith, lt))
passes_from test a (suc n) h zero lt =
    subst (λ (i : ℕ). test i ≡ true) (omega arith) (and_parts (test a) _ h).0
passes_from test a (suc n) h (suc k) lt =
    subst (λ (i : ℕ). test i ≡ true) (omega arith)
    (passes_from test (a + 1) n (and_parts (test a) _ h).1 k (omega (arith, lt)))

passes : (test : ℕ → Bool) (n : ℕ) → list_all test (range_with_len 0 n) ≡ true → (k : ℕ) → k < n → test k ≡ true
passes test n h k lt = subst (λ (i : ℕ). test i ≡ true) (omega arith) (passes_from test 0 n h k lt)

is_equal : (x y : ℕ) → (x == y) ≡ true → x ≡ y
is_equal x y h = grind (arith, common_steps)

of_two : (f : ℕ → ℕ → ℕ) (k l m n : ℕ) → k ≡ l → m ≡ n → f k m ≡ f l n
of_two f k l m n a b = ap (λ (x : ℕ). f x m) a ∙ ap (f l) b

kind_again : (seed i : ℕ) → kind seed (i + 200) ≡ kind seed i
kind_again seed i = omega arith

rest_again : (i : ℕ) → (i + 200) % 5 ≡ i % 5
rest_again i = omega arith

small_kind : (seed i : ℕ) → kind seed i ≡ kind (seed % 8) i
small_kind seed i = omega arith

below_eight : (n : ℕ) → n % 8 < 8
below_eight n = omega arith

below_forty : (n : ℕ) → n % 40 < 40
below_forty n = omega arith

-- what depends on the kind and on whether the number is a multiple of 5
abbrev by_kind : (ℕ → ℕ → ℕ) → ℕ → ℕ → ℕ
by_kind f seed i = f (kind seed i) (i % 5)

counted : (f : ℕ → ℕ → ℕ) (wanted : ℕ) → list_all (λ s. total (by_kind f s) 0 200 == wanted) (range_with_len 0 8) ≡ true
    → (seed first : ℕ) → total (by_kind f seed) first 200 ≡ wanted
counted f wanted right seed first =
    let again : total (by_kind f seed) first 200 ≡ total (by_kind f seed) 0 200 =
    steady (by_kind f seed) 200
    (λ i. of_two f (kind seed (i + 200)) (kind seed i) ((i + 200) % 5) (i % 5) (kind_again seed i) (rest_again i)) first in
    let smaller : total (by_kind f seed) 0 200 ≡ total (by_kind f (seed % 8)) 0 200 =
    alike (by_kind f seed) (by_kind f (seed % 8)) (λ i. ap (λ (k : ℕ). f k (i % 5)) (small_kind seed i)) 0 200 in
    again ∙ smaller
    ∙ is_equal (total (by_kind f (seed % 8)) 0 200) wanted
    (passes (λ s. total (by_kind f s) 0 200 == wanted) 8 right (seed % 8) (below_eight seed))

written_counts : (seed first : ℕ) → count_by (path_is_written seed) (range_with_len first 200) ≡ 170
written_counts = counted (λ k rest. cond (not ((k == 7) || ((k == 5) && (rest == 0)))) 1 0) 170 refl

unfiltered_counts : (seed first : ℕ) → count_by (path_is_unfiltered seed) (range_with_len first 200) ≡ 25
unfiltered_counts = counted (λ k rest. cond (k == 7) 1 0) 25 refl

failed_counts : (seed first : ℕ) → count_by (path_is_failed seed) (range_with_len first 200) ≡ 5
failed_counts = counted (λ k rest. cond ((k == 5) && (rest == 0)) 1 0) 5 refl

-- the bytes of so many lines
line_bytes : (n : ℕ) → length (lines n) ≡ 5 * n
line_bytes zero = refl
line_bytes (suc n) = omega (arith, length-append (lines n) (line_of (codes "line")), line_bytes n)

-- the bytes of the ident keyword's line
abbrev ident_bytes : ℕ → ℕ
ident_bytes k = if k == 2 then 5 else 0

ident_length : (k : ℕ) → length (ident_line k) ≡ ident_bytes k
ident_length k = by (k == 2)
  where
    by : (b : Bool) → length (if b then line_of (codes "$Id$") else []) ≡ (if b then 5 else 0)
    by true = refl
    by false = refl

content_length : (seed i : ℕ) → length (content seed i) ≡ 5 * line_count seed i + ident_bytes (kind seed i)
content_length seed i =
    omega (arith, length-append (lines (line_count seed i)) (ident_line (kind seed i)), line_bytes (line_count seed i), ident_length (kind seed i))

-- the same as `file_size`, by the kind, the number of lines and whether the number is a multiple of 5
size_by : ℕ → ℕ → ℕ → ℕ
size_by k count rest = if (k == 5) && (rest == 0) then 0 else sized k count (5 * count + ident_bytes k)

size_of : ℕ → ℕ → ℕ
size_of seed i = size_by (kind seed i) (line_count seed i) (i % 5)

size_is : (seed i : ℕ) → file_size seed i ≡ size_of seed i
unfolding size_of size_by
size_is seed i =
    ap (λ (n : ℕ). if (kind seed i == 5) && (i % 5 == 0) then 0 else sized (kind seed i) (line_count seed i) n)
    (content_length seed i)

of_three : (k l m n p q : ℕ) → k ≡ l → m ≡ n → p ≡ q → size_by k m p ≡ size_by l n q
of_three k l m n p q a b c =
    ap (λ (x : ℕ). size_by x m p) a ∙ ap (λ (x : ℕ). size_by l x p) b ∙ ap (size_by l n) c

lines_again : (seed i : ℕ) → line_count seed (i + 200) ≡ line_count seed i
lines_again seed i = omega arith

size_again : (seed i : ℕ) → size_of seed (i + 200) ≡ size_of seed i
unfolding size_of
size_again seed i = of_three _ _ _ _ _ _ (kind_again seed i) (lines_again seed i) (rest_again i)

-- each seed is like one below 200
abbrev small_seed : ℕ → ℕ
small_seed seed = 5 * (seed / 5 % 40)

small_is : (seed i : ℕ) → seed % 5 ≡ 0 → size_of seed i ≡ size_of (small_seed seed) i
unfolding size_of
small_is seed i five = of_three _ _ _ _ (i % 5) (i % 5) (omega (arith, five)) (omega (arith, five)) refl

all_seeds : list_all (λ t. total (size_of (5 * t)) 0 200 == 29220) (range_with_len 0 40) ≡ true
unfolding size_of size_by
all_seeds = refl

byte_counts : (seed first : ℕ) → seed % 5 ≡ 0 → sum_by (file_size seed) (range_with_len first 200) ≡ 29220
byte_counts seed first five =
    let sizes : total (file_size seed) first 200 ≡ total (size_of seed) first 200 =
    alike (file_size seed) (size_of seed) (size_is seed) first 200 in
    let again : total (size_of seed) first 200 ≡ total (size_of seed) 0 200 =
    steady (size_of seed) 200 (size_again seed) first in
    let smaller : total (size_of seed) 0 200 ≡ total (size_of (small_seed seed)) 0 200 =
    alike (size_of seed) (size_of (small_seed seed)) (λ i. small_is seed i five) 0 200 in
    sizes ∙ again ∙ smaller
    ∙ is_equal (total (size_of (small_seed seed)) 0 200) 29220
    (passes (λ t. total (size_of (5 * t)) 0 200 == 29220) 40 all_seeds (seed / 5 % 40) (below_forty (seed / 5)))

pub blocks_alike : BlocksAreAlike
blocks_alike = record {
  counts = λ seed first. record {
    written = written_counts seed first;
    unfiltered = unfiltered_counts seed first;
    failed = failed_counts seed first;
  };
  bytes = byte_counts;
}
