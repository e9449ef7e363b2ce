-- The files of a rehearsal have an index.
use Rattle.std.proofs.Common.{◌≡◌, ℕ, suc, ◌+◌, ◌*◌, ◌<◌, true, List, [], ◌∷◌, ◌++◌, length, map, refl, sym, ap, subst, ◌∙◌, arith}
use Rattle.std.proofs.lemmas.List.{length-append, append-nil, length-map}
use Rattle.std.proofs.lemmas.Bool.{or_right}
use Rattle.std.proofs.lemmas.Slice.Eq.{bytes_eq-Decides}
use Rattle.std.specs.List.{flat_map, AllByRecursion}
use Rattle.sha1.specs.Sha1.{sha1, digest_bytes}
use Rattle.git_index.specs.declared.entry.Entry.{Entry}
use Rattle.git_index.specs.Spelling.{IsEntry, EntriesHaveAText, header, plain_spelled, plain_version, plain_body, plain_text}
use Rattle.rehearsal.specs.Paths.{in_order}
use Rattle.rehearsal.specs.Repository.{file, files, entry_of, FilesHaveAnIndex}
use Rattle.rehearsal.proofs.Sorted.{all_on, order_sorted, order_small, order_short}
use Rattle.rehearsal.proofs.Names.{name_good, name_no_nul, first_good}
use Rattle.rehearsal.proofs.Entries.{first, numbered, rising, all_alone, no_clash}

hash_length : (m : List ℕ) → length (sha1 m) ≡ 20
unfolding digest_bytes sha1
hash_length m = refl

numbered_are : (seed : ℕ) (is : List ℕ) → AllByRecursion IsEntry (numbered seed is)
numbered_are seed [] = tt
numbered_are seed (i ∷ is) = (
  record { name = hash_length _; stage = omega arith; path = name_good seed i; no_nul = name_no_nul seed i },
  numbered_are seed is,
)

are_entries : (seed : ℕ) (is : List ℕ) → AllByRecursion IsEntry (map entry_of (files seed is))
are_entries seed is = (
  record { name = hash_length _; stage = omega arith; path = first_good; no_nul = refl },
  numbered_are seed is,
)

file_size : (seed i : ℕ) → length (plain_spelled (entry_of (file seed i))) ≡ 80
unfolding digest_bytes sha1
file_size seed i = refl

first_size : length (plain_spelled (entry_of first)) ≡ 80
unfolding digest_bytes sha1
first_size = refl

numbered_size : (seed : ℕ) (is : List ℕ)
    → length (flat_map plain_spelled (numbered seed is)) ≡ 80 * length is
numbered_size seed [] = refl
numbered_size seed (i ∷ is) = omega (
  arith,
  length-append (plain_spelled (entry_of (file seed i))) (flat_map plain_spelled (numbered seed is)),
  file_size seed i,
  numbered_size seed is,
)

size : (seed : ℕ) (is : List ℕ) → length (plain_text (map entry_of (files seed is))) ≡ 112 + 80 * length is
size seed is =
    let es = map entry_of (files seed is) in
    let rest = flat_map plain_spelled (numbered seed is) in
    omega (
      arith,
      length-append (plain_body es) (sha1 (plain_body es)),
      length-append (header (plain_version es) (length es)) (flat_map plain_spelled es),
      length-append (plain_spelled (entry_of first)) rest,
      hash_length (plain_body es),
      first_size,
      numbered_size seed is,
    )

counted : (seed : ℕ) (is : List ℕ) → length (map entry_of (files seed is)) ≡ suc (length is)
counted seed is = length-map (files seed is) entry_of ∙ ap suc (length-map is (file seed))

-- The entries of files are an index by their text, whose size is known.
pub have_an_index : EntriesHaveAText → FilesHaveAnIndex
have_an_index have_a_text seed n few =
    let is = in_order n in
    let es = map entry_of (files seed is) in
    let short = order_short n in
    let small = all_on {P = λ i. i < n} {Q = λ i. i < 1000000} (λ i h. omega (arith, h, few)) is (order_small n) in
    record {
      text = have_a_text es (are_entries seed is) (omega (arith, counted seed is, short, few)) (rising seed is (order_sorted n) small)
          (all_alone seed is (order_sorted n) small) (no_clash seed is (order_sorted n) small);
      small = omega (arith, size seed is, short, few);
    }
