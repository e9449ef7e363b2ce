-- The numbers of a rehearsal's line.
use Rattle.std.proofs.Common.{◌≡◌, ℕ, zero, suc, ◌+◌, ◌*◌, Bool, true, false, cond, not, ◌&&◌, ◌||◌, List, [], ◌∷◌, ◌++◌, map, length, Some, None, refl, sym, ap, ◌∙◌, subst, arith, ne_eqb}
use Rattle.std.specs.Prelude.{codes, ◌==◌, if◌then◌else◌, slice_get, Option, count_by, sum_by}
use Rattle.std.specs.List.{AllByRecursion, list_any, list_all, range_with_len, filter_map}
use Rattle.std.specs.Str.{bytes_eq}
use Rattle.std.proofs.lemmas.Bool.{and_parts}
use Rattle.std.proofs.lemmas.List.Sums.{sum_by-cons, sum_by-append}
use Rattle.edge_kit.specs.MemoryDrivers.{starts_for}
use Rattle.edge_kit.specs.Seen.{TreeSeen}
use Rattle.edge_kit.specs.Told.{Told, RepoTold, Tells}
use Rattle.edge_kit.specs.declared.leaf_state.LeafState.{LeafState}
use Rattle.edge_kit.specs.declared.tree_file.TreeFile.{TreeFile}
use Rattle.object_dir.specs.Spelling.{spelled_blob}
use Rattle.git_index.specs.Spelling.{OneReading, pairwise, is_alone}
use Rattle.checkout_core.specs.declared.event.Event.{Event}
use Rattle.checkout_core.specs.declared.verdict.Verdict.{Verdict}
use Rattle.driver_line.specs.OneContent.{OneContent}
use Rattle.driver_line.specs.SameHeard.{SameHeard}
use Rattle.settings_view.specs.declared.view.Driver.{Driver}
use Rattle.checkout_report.specs.Report as report
use Rattle.checkout_plan.specs.declared.path_plan.PathPlan.{PathPlan}
use Rattle.checkout_engine.specs.Complete.{failed_leaves}
use Rattle.checkout_engine.specs.Ends.{verdicts_of, files_of}
use Rattle.checkout_paths.specs.Outcome.{Outcome, AreOutcomes}
use Rattle.checkout_paths.specs.Paths.{leaves_back}
use Rattle.checkout_engine.specs.Rehearsed.{summary, bytes_of, new_memory, first_words, last_words}
use Rattle.checkout_engine.specs.Report.{lacks_memory, status_of}
use Rattle.exit_status.specs.Status.{number_of}
use Rattle.checkout_paths.specs.Talks.{DriverTalk, AreDriverTalks}
use Rattle.exit_status.specs.declared.status.ExitStatus.TheVariants as status
use Rattle.rehearsal.specs.Paths.{name, in_order}
use Rattle.rehearsal.specs.Drivers.{scripts}
use Rattle.rehearsal.specs.Repository.{attributes, attributes_name, file, entry_of}
use Rattle.rehearsal.specs.Repository.{FilesHaveAnIndex, AttributesAreRight}
use Rattle.rehearsal.specs.Blocks.{path_is_written, path_is_unfiltered, path_is_failed, file_size, BlocksAreAlike}
use Rattle.rehearsal_numbers.specs.Plans.{paths_of, path_at, attributes_path, beta_number}
use Rattle.rehearsal_numbers.specs.Lines.{counted, status_with, bytes_with, line, LinesAreRight, block_line, BlockLinesAreRight}
use Rattle.rehearsal_numbers.proofs.Plans.{entries_at, apart}
use Rattle.rehearsal_numbers.proofs.Read.{have_plans}
use Rattle.rehearsal_numbers.proofs.Replies.{SpellingSpells}
use Rattle.rehearsal_numbers.proofs.Lists.{Differ}
use Rattle.rehearsal_numbers.proofs.PathEnds.{pool_ends}
use Rattle.rehearsal_numbers.proofs.Checkouts.{IsRehearsal, parts}
use Rattle.rehearsal_numbers.proofs.Ends.{file_bytes, EndsAs, EndsSo, path_ends}
use Rattle.rehearsal_numbers.proofs.Order.{in_any_order}

-- the sums over outcomes, one by one
count_more : {A : Type 0} (p : A → Bool) (x : A) (xs : List A) → count_by p (x ∷ xs) ≡ cond (p x) 1 0 + count_by p xs
count_more p x xs = sum_by-cons (λ y. cond (p y) 1 0) x xs

bytes_more : (o : Outcome) (os : List Outcome) → bytes_of (files_of (o ∷ os)) ≡ file_bytes o.file + bytes_of (files_of os)
bytes_more o os = by o.file
  where
    by : (f : Option TreeFile) → bytes_of (filter_map (λ (p : Outcome). p.file) (record o { file = f } ∷ os)) ≡ file_bytes f + bytes_of (files_of os)
    by None = omega arith
    by (Some f) = sum_by-cons (λ (x : TreeFile). length x.bytes) f (files_of os)

-- what the outcomes of some numbers add up to
pub record AddUp (seed : ℕ) (is : List ℕ) (os : List Outcome) : Type 0 where
  pub written : count_by report.is_written (verdicts_of os) ≡ count_by (path_is_written seed) is
  pub unfiltered : count_by report.is_unfiltered (verdicts_of os) ≡ count_by (path_is_unfiltered seed) is
  pub failed : count_by report.is_failed (verdicts_of os) ≡ count_by (path_is_failed seed) is
  pub bytes : bytes_of (files_of os) ≡ sum_by (file_size seed) is

one_more : {A B : Type 0} (p : A → Bool) (q : B → Bool) (x : A) (y : B) (xs : List A) (ys : List B) → p x ≡ q y
    → count_by p xs ≡ count_by q ys → count_by p (x ∷ xs) ≡ count_by q (y ∷ ys)
one_more p q x y xs ys e h =
    count_more p x xs ∙ (λ j. cond (e j) 1 0 + h j) ∙ sym (count_more q y ys)

adds_up : (seed : ℕ) (is : List ℕ) (os : List Outcome) → length os ≡ length is
    → ((k i : ℕ) (o : Outcome) → slice_get is k ≡ Some i → slice_get os k ≡ Some o → EndsSo seed i o) → AddUp seed is os
adds_up seed [] [] l each = record { written = refl; unfiltered = refl; failed = refl; bytes = refl }
adds_up seed [] (o ∷ os) l each = absurd (omega (arith, l))
adds_up seed (i ∷ is) [] l each = absurd (omega (arith, l))
adds_up seed (i ∷ is) (o ∷ os) l each =
    let rest = adds_up seed is os (omega (arith, l)) (λ k j x a b. each (suc k) j x a b) in
    let one = each zero i o refl refl in
    record {
      written = one_more report.is_written (path_is_written seed) o.verdict i (verdicts_of os) is one.written rest.written;
      unfiltered = one_more report.is_unfiltered (path_is_unfiltered seed) o.verdict i (verdicts_of os) is one.unfiltered rest.unfiltered;
      failed = one_more report.is_failed (path_is_failed seed) o.verdict i (verdicts_of os) is one.failed rest.failed;
      bytes = bytes_more o os ∙ (λ j. one.bytes j + rest.bytes j) ∙ sym (sum_by-cons (file_size seed) i is);
    }

same_length : (object : List ℕ → Told) (talks : List DriverTalk) (n : ℕ) (ps : List PathPlan) (os : List Outcome)
    → AreOutcomes object talks n ps os → length os ≡ length ps
same_length object talks n [] [] h = refl
same_length object talks n [] (o ∷ os) h = absurd h
same_length object talks n (p ∷ ps) [] h = absurd h
same_length object talks n (p ∷ ps) (o ∷ os) h = ap suc (same_length object talks (suc n) ps os h.1)

map_length : (b seed : ℕ) (is : List ℕ) → length (map (path_at b seed) is) ≡ length is
map_length b seed [] = refl
map_length b seed (i ∷ is) = ap suc (map_length b seed is)

-- the status
any_count : (vs : List Verdict) → number_of (if list_any report.is_failed vs then status.DoneWithFailures else status.Done)
    ≡ status_with (count_by report.is_failed vs)
any_count [] = refl
any_count (v ∷ vs) = by (report.is_failed v) (any_count vs) ∙ ap status_with (sym (count_more report.is_failed v vs))
  where
    by : (t : Bool) → number_of (if list_any report.is_failed vs then status.DoneWithFailures else status.Done)
        ≡ status_with (count_by report.is_failed vs)
        → number_of (if t || list_any report.is_failed vs then status.DoneWithFailures else status.Done)
        ≡ status_with (cond t 1 0 + count_by report.is_failed vs)
    by true h =
        let some : (1 + count_by report.is_failed vs == 0) ≡ false =
        ne_eqb (1 + count_by report.is_failed vs) 0 (λ e. omega (arith, e)) in
        sym (ap (λ (b : Bool). if b then 0 else 1) some)
    by false h =
        let same : ◌≡◌ {A = ℕ} (count_by report.is_failed vs) (0 + count_by report.is_failed vs) = omega arith in
        h ∙ ap status_with same

status_is : (vs : List Verdict) → lacks_memory vs ≡ false → number_of (status_of vs) ≡ status_with (count_by report.is_failed vs)
status_is vs memory =
    ap (λ (t : Bool). number_of (if t then status.OutOfMemory else if list_any report.is_failed vs then status.DoneWithFailures else status.Done)) memory
    ∙ any_count vs

attributes_size : length attributes ≡ 136
unfolding attributes
attributes_size = refl

-- no name stands there twice
differ : (seed : ℕ) (is : List ℕ) → pairwise is_alone (entries_at seed is) ≡ true → Differ seed is
differ seed [] h = tt
differ seed (i ∷ is) h =
    let two = and_parts (list_all (is_alone (entry_of (file seed i))) (entries_at seed is)) _ h in
    (each is two.0, differ seed is two.1)
  where
    each : (js : List ℕ) → list_all (is_alone (entry_of (file seed i))) (entries_at seed js) ≡ true
        → AllByRecursion (λ j. bytes_eq (name seed i) (name seed j) ≡ false) js
    each [] h = tt
    each (j ∷ js) h =
        let two = and_parts (not (bytes_eq (name seed i) (name seed j) && true)) _ h in
        (apart (bytes_eq (name seed i) (name seed j)) two.0, each js two.1)

files_length : (seed : ℕ) (is : List ℕ) → length (entries_at seed is) ≡ length is
files_length seed [] = refl
files_length seed (i ∷ is) = ap suc (files_length seed is)

module _ (right : AttributesAreRight) (spells : SpellingSpells) (law : SameHeard) (one : OneContent) (seed : ℕ) (is : List ℕ) (told : RepoTold)
    (talks : List DriverTalk) (history : List Event) where
  -- the attribute file is written as it is
  first_ends : (os : List Outcome) (x : Outcome) → IsRehearsal seed is told talks (x ∷ os) history → EndsAs true false false 136 x
  first_ends os x g =
      let mine = parts attributes_path (map (path_at (beta_number seed is) seed) is) x os g.memory g.leaves in
      let so = pool_ends (told.object attributes_name) attributes_path (spelled_blob attributes) attributes
      ((g.made).object attributes_name ∙ right.there seed is) right.right x mine.1 mine.0 (g.fits).0 in
      record {
        written = ap report.is_written so.1;
        unfiltered = ap report.is_unfiltered so.1;
        failed = ap report.is_failed so.1;
        bytes = ap file_bytes so.2 ∙ attributes_size;
      }

  -- the numbers of all outcomes
  pub record AllAddUp (os : List Outcome) : Type 0 where
    pub written : count_by report.is_written (verdicts_of os) ≡ 1 + count_by (path_is_written seed) is
    pub unfiltered : count_by report.is_unfiltered (verdicts_of os) ≡ count_by (path_is_unfiltered seed) is
    pub failed : count_by report.is_failed (verdicts_of os) ≡ count_by (path_is_failed seed) is
    pub bytes : bytes_of (files_of os) ≡ 136 + sum_by (file_size seed) is

  pub all_add_up : (os : List Outcome) → IsRehearsal seed is told talks os history → AllAddUp os
  all_add_up [] g = absurd g.fits
  all_add_up (x ∷ os) g =
      let head = first_ends os x g in
      let size : length os ≡ length is =
      same_length told.object talks 1 (map (path_at (beta_number seed is) seed) is) os (g.fits).1 ∙ map_length (beta_number seed is) seed is in
      let rest = adds_up seed is os size (λ k i o a b. path_ends spells law one seed is told talks (x ∷ os) history g k i a o b) in
      let zero_more : ◌≡◌ {A = ℕ} (0 + count_by (path_is_unfiltered seed) is) (count_by (path_is_unfiltered seed) is) = omega arith in
      let zero_failed : ◌≡◌ {A = ℕ} (0 + count_by (path_is_failed seed) is) (count_by (path_is_failed seed) is) = omega arith in
      record {
        written = count_more report.is_written x.verdict (verdicts_of os) ∙ (λ j. cond (head.written j) 1 0 + rest.written j);
        unfiltered = count_more report.is_unfiltered x.verdict (verdicts_of os) ∙ (λ j. cond (head.unfiltered j) 1 0 + rest.unfiltered j) ∙ zero_more;
        failed = count_more report.is_failed x.verdict (verdicts_of os) ∙ (λ j. cond (head.failed j) 1 0 + rest.failed j) ∙ zero_failed;
        bytes = bytes_more x os ∙ (λ j. head.bytes j + rest.bytes j);
      }

tells : (told : Option (List TreeFile)) (fs gs : List TreeFile) → told ≡ Some fs → Tells told gs → fs ≡ gs
tells told fs gs is has = subst (λ (t : Option (List TreeFile)). Tells t gs) is has

words : ℕ → ℕ → ℕ → ℕ → ℕ → ℕ → List ℕ
words paths s w u f b = first_words paths s w ++ last_words u f b

line_is : (seed paths : ℕ) → line seed paths
    ≡ words paths (status_with (counted (path_is_failed seed) paths)) (1 + counted (path_is_written seed) paths) (counted (path_is_unfiltered seed) paths)
    (counted (path_is_failed seed) paths) (bytes_with seed paths)
unfolding line words
line_is seed paths = refl

summary_is : (paths : ℕ) (vs : List Verdict) (fs : List TreeFile) → summary paths vs fs
    ≡ words paths (number_of (status_of vs)) (count_by report.is_written vs) (count_by report.is_unfiltered vs) (count_by report.is_failed vs) (bytes_of fs)
unfolding summary words
summary_is paths vs fs = refl

any_order : (test : ℕ → Bool) (n : ℕ) → count_by test (in_order n) ≡ counted test n
any_order test n = in_any_order (λ i. cond (test i) 1 0) n

pub lines_right : FilesHaveAnIndex → AttributesAreRight → OneReading → SpellingSpells → SameHeard → OneContent → LinesAreRight
lines_right indexed right reading spells law one seed paths text few x =
    let is = in_order paths in
    let told = (x.rehearsed).told in
    let made = (x.rehearsed).made in
    let well = (x.rehearsed).well in
    let c = (well.tried).checkout in
    let left = (well.tried).left in
    let index = indexed seed paths few in
    let plan = have_plans indexed right reading seed paths few told made c.plan c.planned in
    let alone = and_parts (list_all (is_alone (entry_of (record { path = codes ".gitattributes"; content = attributes }))) (entries_at seed is)) _ (index.text).alone in
    let grew : failed_leaves left.tree.returned ≡ failed_leaves (new_memory.tree).returned + failed_leaves (leaves_back c.plan.paths c.outcomes) =
    ap (λ (t : TreeSeen). failed_leaves t.returned) c.leaves
    ∙ sum_by-append (λ (l : List ℕ × LeafState × ℕ). l.2) (new_memory.tree).returned (leaves_back c.plan.paths c.outcomes) in
    let none : failed_leaves (leaves_back c.plan.paths c.outcomes) ≡ 0 = omega (arith, grew, (well.undisturbed).leaves) in
    let ahead = starts_for (scripts seed is) in
    let g : IsRehearsal seed is told c.talks c.outcomes left.history = record {
      few = omega (arith, (index.text).few, files_length seed is);
      differ = differ seed is alone.1;
      made = made;
      fits = subst (λ (ps : List PathPlan). AreOutcomes told.object c.talks 0 ps c.outcomes) plan.paths c.verdicts;
      conversations = subst (λ (ds : List Driver). AreDriverTalks ahead told.object (paths_of seed is) (verdicts_of c.outcomes) left.history 0 ds c.talks) plan.drivers
          (subst (λ (ps : List PathPlan). AreDriverTalks ahead told.object ps (verdicts_of c.outcomes) left.history 0 c.plan.drivers c.talks) plan.paths c.conversations);
      memory = (well.undisturbed).memory;
      leaves = subst (λ (ps : List PathPlan). failed_leaves (leaves_back ps c.outcomes) ≡ 0) plan.paths none;
      links = (well.undisturbed).links;
    } in
    let sums = all_add_up right spells law one seed is told c.talks left.history c.outcomes g in
    let vs = verdicts_of c.outcomes in
    let verdicts : (x.run).verdicts.items ≡ vs = (well.tried).own.verdicts_are in
    let trees : x.fs ≡ files_of c.outcomes =
    tells left.tree.files x.fs (files_of c.outcomes) (ap (λ (t : TreeSeen). t.files) (sym (well.tried).tree_is) ∙ x.has) c.files in
    let failed : count_by report.is_failed vs ≡ counted (path_is_failed seed) paths = sums.failed ∙ any_order (path_is_failed seed) paths in
    let state : number_of (status_of vs) ≡ status_with (counted (path_is_failed seed) paths) =
    status_is vs (well.undisturbed).memory ∙ ap status_with failed in
    let written : count_by report.is_written vs ≡ 1 + counted (path_is_written seed) paths =
    sums.written ∙ ap (λ (n : ℕ). 1 + n) (any_order (path_is_written seed) paths) in
    let unfiltered : count_by report.is_unfiltered vs ≡ counted (path_is_unfiltered seed) paths =
    sums.unfiltered ∙ any_order (path_is_unfiltered seed) paths in
    let bytes : bytes_of (files_of c.outcomes) ≡ bytes_with seed paths =
    sums.bytes ∙ ap (λ (n : ℕ). 136 + n) (in_any_order (file_size seed) paths) in
    x.is ∙ (λ j. summary paths (verdicts j) (trees j)) ∙ summary_is paths vs (files_of c.outcomes)
    ∙ (λ j. words paths (state j) (written j) (unfiltered j) (failed j) (bytes j)) ∙ sym (line_is seed paths)

one_block_more : (each blocks : ℕ) → each * suc blocks ≡ each * blocks + each
one_block_more each blocks = omega arith

-- a sum over numbers is that over the first of them and that over the rest
module _ (f : ℕ → ℕ) where
  in_two : (a m n : ℕ) → sum_by f (range_with_len a (m + n)) ≡ sum_by f (range_with_len a m) + sum_by f (range_with_len (a + m) n)
  in_two a zero n =
      let all : ◌≡◌ {A = ℕ} (zero + n) n = omega arith in
      let place : ◌≡◌ {A = ℕ} (a + zero) a = omega arith in
      let one : sum_by f (range_with_len a (zero + n)) ≡ sum_by f (range_with_len a n) = ap (λ (k : ℕ). sum_by f (range_with_len a k)) all in
      let two : sum_by f (range_with_len (a + zero) n) ≡ sum_by f (range_with_len a n) = ap (λ (k : ℕ). sum_by f (range_with_len k n)) place in
      omega (arith, one, two)
  in_two a (suc m) n =
      let all : ◌≡◌ {A = ℕ} (suc m + n) (suc (m + n)) = omega arith in
      let place : ◌≡◌ {A = ℕ} (a + 1 + m) (a + suc m) = omega arith in
      let one : sum_by f (range_with_len a (suc m + n)) ≡ sum_by f (range_with_len a (suc (m + n))) = ap (λ (k : ℕ). sum_by f (range_with_len a k)) all in
      let two : sum_by f (range_with_len (a + 1 + m) n) ≡ sum_by f (range_with_len (a + suc m) n) = ap (λ (k : ℕ). sum_by f (range_with_len k n)) place in
      omega (arith, one, two, sum_by-cons f a (range_with_len (a + 1) (m + n)), sum_by-cons f a (range_with_len (a + 1) m), in_two (a + 1) m n)

  -- where each 200 numbers have the same sum
  in_blocks : (each : ℕ) → ((first : ℕ) → sum_by f (range_with_len first 200) ≡ each) → (blocks : ℕ)
      → sum_by f (range_with_len 0 (200 * blocks)) ≡ each * blocks
  in_blocks each same zero = none
    where
      none : sum_by f (range_with_len 0 (200 * 0)) ≡ each * 0
      none = omega arith
  in_blocks each same (suc blocks) =
      let all : ◌≡◌ {A = ℕ} (200 * suc blocks) (200 * blocks + 200) = omega arith in
      let one : sum_by f (range_with_len 0 (200 * suc blocks)) ≡ sum_by f (range_with_len 0 (200 * blocks + 200)) =
      ap (λ (k : ℕ). sum_by f (range_with_len 0 k)) all in
      one ∙ in_two 0 (200 * blocks) 200 ∙ (λ j. in_blocks each same blocks j + same (0 + 200 * blocks) j) ∙ sym (one_block_more each blocks)

counts_of : BlocksAreAlike → (seed blocks bytes : ℕ)
    → words (200 * blocks) (status_with (counted (path_is_failed seed) (200 * blocks))) (1 + counted (path_is_written seed) (200 * blocks))
    (counted (path_is_unfiltered seed) (200 * blocks)) (counted (path_is_failed seed) (200 * blocks)) bytes ≡ block_line blocks bytes
unfolding words
counts_of alike seed blocks bytes =
    let failed : counted (path_is_failed seed) (200 * blocks) ≡ 5 * blocks =
    in_blocks (λ i. cond (path_is_failed seed i) 1 0) 5 (λ first. (alike.counts seed first).failed) blocks in
    let written : counted (path_is_written seed) (200 * blocks) ≡ 170 * blocks =
    in_blocks (λ i. cond (path_is_written seed i) 1 0) 170 (λ first. (alike.counts seed first).written) blocks in
    let unfiltered : counted (path_is_unfiltered seed) (200 * blocks) ≡ 25 * blocks =
    in_blocks (λ i. cond (path_is_unfiltered seed i) 1 0) 25 (λ first. (alike.counts seed first).unfiltered) blocks in
    λ j. first_words (200 * blocks) (status_with (failed j)) (1 + written j) ++ last_words (unfiltered j) (failed j) bytes

pub block_lines_right : LinesAreRight → BlocksAreAlike → BlockLinesAreRight
block_lines_right lines alike = record {
  counts = λ seed blocks text few x.
      lines seed (200 * blocks) text few x ∙ line_is seed (200 * blocks)
      ∙ counts_of alike seed blocks (bytes_with seed (200 * blocks));
  bytes = λ seed blocks text few five x.
      let bytes : sum_by (file_size seed) (range_with_len 0 (200 * blocks)) ≡ 29220 * blocks =
      in_blocks (file_size seed) 29220 (λ first. alike.bytes seed first five) blocks in
      lines seed (200 * blocks) text few x ∙ line_is seed (200 * blocks)
      ∙ counts_of alike seed blocks (bytes_with seed (200 * blocks))
      ∙ ap (λ (n : ℕ). block_line blocks (136 + n)) bytes;
}
