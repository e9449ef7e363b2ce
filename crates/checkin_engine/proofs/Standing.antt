-- The entries after a check-in can stand in an index.
use Rattle.std.proofs.Common.{◌≡◌, ℕ, ◌+◌, ◌≤◌, Bool, true, false, List, [], ◌∷◌, ◌++◌, length, refl, ◌∙◌, arith}
use Rattle.std.specs.Prelude.{◌&&◌, if◌then◌else◌}
use Rattle.std.specs.List.{list_all, AllByRecursion}
use Rattle.std.specs.Str.{bytes_eq}
use Rattle.git_index.specs.declared.entry.Entry.{Entry}
use Rattle.git_index.specs.Spelling.{IsEntry, CanStand, pairwise, is_below, is_alone, is_no_clash}
use Rattle.checkin_paths.specs.declared.fate.Fate.{Fate}
use Rattle.checkin_paths.specs.declared.fate.Fate.TheVariants.{Same, Changed, Gone, Kept, Failed}
use Rattle.checkin_engine.specs.Indexes.{with_name, entry_after}
use Rattle.checkin_engine.specs.InTurn.{next_fate, fates_behind, entries_after, entries_in_turn}
use Rattle.checkin_engine.specs.KeptIndex.{HasName, HaveNames}

both : (a b : Bool) → a ≡ true → b ≡ true → (a && b) ≡ true
both true b p q = q
both false b p q = absurd cc

first_of : (a b : Bool) → (a && b) ≡ true → a ≡ true
first_of true b p = refl
first_of false b p = absurd cc

second_of : (a b : Bool) → (a && b) ≡ true → b ≡ true
second_of true b p = p
second_of false b p = absurd cc

-- a test of entries that doesn't look at their names
abbrev NamesDontCount : (Entry → Bool) → Type 0
NamesDontCount test = (name : List ℕ) (e : Entry) → test (with_name name e) ≡ test e

next_has : (fates : List Fate) → HaveNames fates → HasName (next_fate fates) × HaveNames (fates_behind fates)
next_has [] have = (tt, tt)
next_has (fate ∷ fates) have = have

-- what all entries pass is passed by those after a check-in
one_passes : (test : Entry → Bool) → NamesDontCount test → (fate : Fate) (e : Entry) (rest : List Entry) → test e ≡ true → list_all test rest ≡ true → list_all test (entry_after fate e ++ rest) ≡ true
one_passes test blind (Changed name) e rest passes all = both (test (with_name name e)) (list_all test rest) (blind name e ∙ passes) all
one_passes test blind Gone e rest passes all = all
one_passes test blind Same e rest passes all = both (test e) (list_all test rest) passes all
one_passes test blind Kept e rest passes all = both (test e) (list_all test rest) passes all
one_passes test blind (Failed cause) e rest passes all = both (test e) (list_all test rest) passes all

all_pass : (test : Entry → Bool) → NamesDontCount test → (fate : Fate) (before : List ℕ) (es : List Entry) (fates : List Fate) → list_all test es ≡ true → list_all test (entries_after fate before es fates) ≡ true
all_pass test blind fate before [] fates all = refl
all_pass test blind fate before (e ∷ es) fates all =
    let here : test e ≡ true = first_of (test e) (list_all test es) all in
    let there : list_all test es ≡ true = second_of (test e) (list_all test es) all in
    elim (bytes_eq e.path before) as (λ t. list_all test (if t then entry_after fate e ++ entries_after fate before es fates else entry_after (next_fate fates) e ++ entries_after (next_fate fates) e.path es (fates_behind fates)) ≡ true) [
      | true ↦ one_passes test blind fate e (entries_after fate before es fates) here (all_pass test blind fate before es fates there)
      | false ↦ one_passes test blind (next_fate fates) e (entries_after (next_fate fates) e.path es (fates_behind fates)) here (all_pass test blind (next_fate fates) e.path es (fates_behind fates) there)
    ]

-- a test of two entries that doesn't look at their names
record IsBlind (test : Entry → Entry → Bool) : Type 0 where
  first : (name : List ℕ) (e f : Entry) → test (with_name name e) f ≡ test e f
  second : (name : List ℕ) (e f : Entry) → test e (with_name name f) ≡ test e f

one_pairs : (test : Entry → Entry → Bool) → IsBlind test → (fate : Fate) (e : Entry) (rest : List Entry) → list_all (test e) rest ≡ true → pairwise test rest ≡ true → pairwise test (entry_after fate e ++ rest) ≡ true
one_pairs test blind (Changed name) e rest all pairs = both (list_all (test (with_name name e)) rest) (pairwise test rest) (all_named rest all) pairs
  where
    all_named : (xs : List Entry) → list_all (test e) xs ≡ true → list_all (test (with_name name e)) xs ≡ true
    all_named [] all = refl
    all_named (x ∷ xs) all = both (test (with_name name e) x) (list_all (test (with_name name e)) xs) (blind.first name e x ∙ first_of (test e x) (list_all (test e) xs) all) (all_named xs (second_of (test e x) (list_all (test e) xs) all))
one_pairs test blind Gone e rest all pairs = pairs
one_pairs test blind Same e rest all pairs = both (list_all (test e) rest) (pairwise test rest) all pairs
one_pairs test blind Kept e rest all pairs = both (list_all (test e) rest) (pairwise test rest) all pairs
one_pairs test blind (Failed cause) e rest all pairs = both (list_all (test e) rest) (pairwise test rest) all pairs

all_pairs : (test : Entry → Entry → Bool) → IsBlind test → (fate : Fate) (before : List ℕ) (es : List Entry) (fates : List Fate) → pairwise test es ≡ true → pairwise test (entries_after fate before es fates) ≡ true
all_pairs test blind fate before [] fates pairs = refl
all_pairs test blind fate before (e ∷ es) fates pairs =
    let here : list_all (test e) es ≡ true = first_of (list_all (test e) es) (pairwise test es) pairs in
    let there : pairwise test es ≡ true = second_of (list_all (test e) es) (pairwise test es) pairs in
    let second : NamesDontCount (test e) = λ name f. blind.second name e f in
    elim (bytes_eq e.path before) as (λ t. pairwise test (if t then entry_after fate e ++ entries_after fate before es fates else entry_after (next_fate fates) e ++ entries_after (next_fate fates) e.path es (fates_behind fates)) ≡ true) [
      | true ↦ one_pairs test blind fate e (entries_after fate before es fates) (all_pass (test e) second fate before es fates here) (all_pairs test blind fate before es fates there)
      | false ↦ one_pairs test blind (next_fate fates) e (entries_after (next_fate fates) e.path es (fates_behind fates)) (all_pass (test e) second (next_fate fates) e.path es (fates_behind fates) here) (all_pairs test blind (next_fate fates) e.path es (fates_behind fates) there)
    ]

one_entry : (fate : Fate) (e : Entry) (rest : List Entry) → HasName fate → IsEntry e → AllByRecursion IsEntry rest → AllByRecursion IsEntry (entry_after fate e ++ rest)
one_entry (Changed name) e rest has is all = (record { name = has; stage = is.stage; path = is.path; no_nul = is.no_nul }, all)
one_entry Gone e rest has is all = all
one_entry Same e rest has is all = (is, all)
one_entry Kept e rest has is all = (is, all)
one_entry (Failed cause) e rest has is all = (is, all)

each_entry : (fate : Fate) (before : List ℕ) (es : List Entry) (fates : List Fate) → HasName fate → HaveNames fates → AllByRecursion IsEntry es → AllByRecursion IsEntry (entries_after fate before es fates)
each_entry fate before [] fates has have all = tt
each_entry fate before (e ∷ es) fates has have all =
    let next : HasName (next_fate fates) × HaveNames (fates_behind fates) = next_has fates have in
    elim (bytes_eq e.path before) as (λ t. AllByRecursion IsEntry (if t then entry_after fate e ++ entries_after fate before es fates else entry_after (next_fate fates) e ++ entries_after (next_fate fates) e.path es (fates_behind fates))) [
      | true ↦ one_entry fate e (entries_after fate before es fates) has all.0 (each_entry fate before es fates has have all.1)
      | false ↦ one_entry (next_fate fates) e (entries_after (next_fate fates) e.path es (fates_behind fates)) next.0 all.0 (each_entry (next_fate fates) e.path es (fates_behind fates) next.0 next.1 all.1)
    ]

one_more : (fate : Fate) (e : Entry) (rest : List Entry) → length (entry_after fate e ++ rest) ≤ length rest + 1
one_more (Changed name) e rest = omega arith
one_more Gone e rest = omega arith
one_more Same e rest = omega arith
one_more Kept e rest = omega arith
one_more (Failed cause) e rest = omega arith

no_more : (fate : Fate) (before : List ℕ) (es : List Entry) (fates : List Fate) → length (entries_after fate before es fates) ≤ length es
no_more fate before [] fates = omega arith
no_more fate before (e ∷ es) fates =
    elim (bytes_eq e.path before) as (λ t. length (if t then entry_after fate e ++ entries_after fate before es fates else entry_after (next_fate fates) e ++ entries_after (next_fate fates) e.path es (fates_behind fates)) ≤ length (e ∷ es)) [
      | true ↦ omega (arith, one_more fate e (entries_after fate before es fates), no_more fate before es fates)
      | false ↦ omega (arith, one_more (next_fate fates) e (entries_after (next_fate fates) e.path es (fates_behind fates)), no_more (next_fate fates) e.path es (fates_behind fates))
    ]

-- the entries after a check-in can stand in an index, if those before can
pub can_stand_after : (es : List Entry) (fates : List Fate) → CanStand es → HaveNames fates → CanStand (entries_in_turn es fates)
can_stand_after es fates can have =
    let few : length (entries_in_turn es fates) ≤ length es = no_more Kept [] es fates in record {
      each = each_entry Kept [] es fates tt have can.each;
      few = omega (arith, can.few, few);
      rising = all_pairs is_below (record { first = λ name e f. refl; second = λ name e f. refl }) Kept [] es fates can.rising;
      alone = all_pairs is_alone (record { first = λ name e f. refl; second = λ name e f. refl }) Kept [] es fates can.alone;
      apart = all_pairs is_no_clash (record { first = λ name e f. refl; second = λ name e f. refl }) Kept [] es fates can.apart;
    }
