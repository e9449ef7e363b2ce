-- The entries of the files: in order, and none a folder of another.
use Rattle.std.proofs.Common.{◌≡◌, ℕ, ◌<◌, Bool, true, false, not, ◌&&◌, List, [], ◌∷◌, length, map, refl}
use Rattle.std.specs.Prelude.{codes, nat_eq, nat_lt, slice_index, ◌==◌}
use Rattle.std.specs.List.{AllByRecursion, list_all, starts_with}
use Rattle.byte_path.specs.Characters.{slash}
use Rattle.std.specs.Ordering.{ordering_then, is_lt}
use Rattle.std.specs.declared.cmp.Ordering.{Ordering}
use Rattle.std.specs.declared.cmp.Ordering.TheVariants.{Less, Equal, Greater}
use Rattle.std.proofs.lemmas.Bool.{and_from}
use Rattle.git_index.specs.declared.entry.Entry.{Entry}
use Rattle.git_index.specs.Spelling.{pairwise, is_below, is_alone, is_no_clash, is_before}
use Rattle.rehearsal.specs.Repository.{File, file, files, entry_of, attributes}
use Rattle.rehearsal.specs.Paths.{name}
use Rattle.rehearsal.proofs.Sorted.{Before, Sorted, both}
use Rattle.rehearsal.proofs.Names.{not_same, name_before, first_before}

abbrev pub first : File
first = record { path = codes ".gitattributes"; content = attributes }

abbrev pub numbered : ℕ → List ℕ → List Entry
numbered seed is = map entry_of (map (file seed) is)

passes_all : (test : Entry → Bool) (seed : ℕ) {P : ℕ → Type 0}
    → ((j : ℕ) → P j → test (entry_of (file seed j)) ≡ true) → (is : List ℕ) → AllByRecursion P is
    → list_all test (numbered seed is) ≡ true
passes_all test seed f [] a = refl
passes_all test seed f (i ∷ is) a =
    and_from (test (entry_of (file seed i))) (list_all test (numbered seed is)) (f i a.0)
    (passes_all test seed f is a.1)

abbrev Small : ℕ → Type 0
Small i = i < 1000000

passes_pairs : (test : Entry → Entry → Bool) (seed : ℕ)
    → ((i j : ℕ) → Small i → Small j → Before i j → test (entry_of (file seed i)) (entry_of (file seed j)) ≡ true)
    → (is : List ℕ) → Sorted is → AllByRecursion Small is → pairwise test (numbered seed is) ≡ true
passes_pairs test seed f [] s a = refl
passes_pairs test seed f (i ∷ is) s a =
    and_from (list_all (test (entry_of (file seed i))) (numbered seed is)) (pairwise test (numbered seed is))
    (passes_all (test (entry_of (file seed i))) seed {P = λ j. Before i j × Small j} (λ j h. f i j a.0 h.1 h.0) is
    (both (Before i) Small is s.0 a.1))
    (passes_pairs test seed f is s.1 a.1)

passes : (test : Entry → Entry → Bool) (seed : ℕ) → ((j : ℕ) → test (entry_of first) (entry_of (file seed j)) ≡ true)
    → ((i j : ℕ) → Small i → Small j → Before i j → test (entry_of (file seed i)) (entry_of (file seed j)) ≡ true)
    → (is : List ℕ) → Sorted is → AllByRecursion Small is → pairwise test (map entry_of (files seed is)) ≡ true
passes test seed head f is s a =
    and_from (list_all (test (entry_of first)) (numbered seed is)) (pairwise test (numbered seed is))
    (passes_all (test (entry_of first)) seed {P = Small} (λ j h. head j) is a)
    (passes_pairs test seed f is s a)

then_less : (o p : Ordering) → is_lt o ≡ true → is_lt (ordering_then o p) ≡ true
then_less Less p h = refl
then_less Equal p h = absurd cc
then_less Greater p h = absurd cc

lower : (f g : File) → is_before f.path g.path ≡ true → is_below (entry_of f) (entry_of g) ≡ true
lower f g h = then_less _ _ h

apart : (x : Bool) → x ≡ false → not (x && true) ≡ true
apart x h = rw h refl

alone : (f g : File) → is_before f.path g.path ≡ true → is_alone (entry_of f) (entry_of g) ≡ true
alone f g h = apart _ (not_same f.path g.path h)

no_folder : (a b c : Bool) → b ≡ false → not (a && b && c) ≡ true
no_folder true b c h = rw h refl
no_folder false b c h = refl

module _ (seed : ℕ) (is : List ℕ) (sorted : Sorted is) (small : AllByRecursion Small is) where
  pub rising : pairwise is_below (map entry_of (files seed is)) ≡ true
  rising = passes is_below seed (λ j. lower first (file seed j) (first_before seed j))
      (λ i j a b h. lower (file seed i) (file seed j) (name_before seed i j a b h)) is sorted small

  pub all_alone : pairwise is_alone (map entry_of (files seed is)) ≡ true
  all_alone = passes is_alone seed (λ j. alone first (file seed j) (first_before seed j))
      (λ i j a b h. alone (file seed i) (file seed j) (name_before seed i j a b h)) is sorted small

  pub no_clash : pairwise is_no_clash (map entry_of (files seed is)) ≡ true
  no_clash = passes is_no_clash seed
      (λ j. no_folder (starts_with nat_eq (name seed j) first.path) (nat_lt (length first.path) (length (name seed j)))
      (slice_index (name seed j) (length first.path) == slash) refl)
      (λ i j a b h. no_folder (starts_with nat_eq (name seed j) (name seed i))
      (nat_lt (length (name seed i)) (length (name seed j)))
      (slice_index (name seed j) (length (name seed i)) == slash) refl) is sorted small
