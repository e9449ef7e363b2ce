-- The paths that were looked at, one more at a time.
use Rattle.std.proofs.Common.{◌≡◌, ℕ, zero, suc, ◌+◌, ◌<◌, Bool, true, false, List, [], ◌∷◌, ◌++◌, length, take, drop, get_or, Option, Some, None, refl, sym, ap, subst, inl, ◌∙◌, append_assoc, append-nil, add-one, arith}
use Rattle.std.specs.List.{AllByRecursion}
use Rattle.std.specs.Option.{option_map}
use Rattle.std.proofs.lemmas.List.{map-append, take-append-drop}
use Rattle.std.proofs.Math.Seq.{take-suc}
use Rattle.edge_kit.specs.Faults.{Rose}
use Rattle.edge_kit.specs.Seen.{RepoSeen}
use Rattle.edge_kit.specs.Told.{Told}
use Rattle.clean_drivers.specs.Drivers.{DriversSeen}
use Rattle.checkin_paths.specs.declared.path.CheckinPath.{CheckinPath}
use Rattle.checkin_paths.specs.declared.fate.Fate.{Fate}
use Rattle.checkin_paths.specs.declared.fate.Fate.TheVariants.{Same, Changed, Gone, Kept, Failed}
use Rattle.checkin_paths.specs.declared.fate.CheckinCause.TheVariants.{Encoding, NoProcess, Read, OtherKind, TooLarge, Filter, EncodingForm}
use Rattle.checkin_paths.specs.declared.path.Storing.{Storing}
use Rattle.checkin_paths.specs.declared.path.Way.{Way}
use Rattle.checkin_paths.specs.declared.path.Way.TheVariants as way
use Rattle.checkin_paths.specs.Outside.{FilesSeen, WorkSeen, KeepSeen, IsKeepFailed, with_objects, path_if}
use Rattle.checkin_paths.specs.CleanedFiles.{Cleaning}
use Rattle.checkin_paths.specs.Fates.{HasFate}
use Rattle.checkin_paths.specs.Outcomes.{Outcome, IsOutcome, HasCounts, HasStoredCounts, is_of_other_kind, other_kinds, AreOutcomes, IsLookedAt, AreInTurn, AreLookedAt, AreChecked, ArePathsChecked, AreObjectsCut, AreBrokenOff, IsLeftNext, object_of, objects_of, blob_back, blobs_back, failed_at, failed_paths, with_blob, with_blobs, FailsIf, HasCounted}
use Rattle.checkin_paths.specs.Looks.{SaysKind, IsPathLookedAt, IsOpen}
use Rattle.checkin_paths.specs.KeptPaths.{IsPathChecked, IsPathCut, IsPathLeft}

outcomes_more : (object told : List ℕ → Told) (ps : List CheckinPath) (os : List Outcome) (p : CheckinPath) (o : Outcome) → AreOutcomes object told ps os → IsOutcome object told p o → AreOutcomes object told (ps ++ p ∷ []) (os ++ o ∷ [])
outcomes_more object told [] [] p o are is = (is, tt)
outcomes_more object told [] (x ∷ os) p o are is = absurd are
outcomes_more object told (q ∷ ps) [] p o are is = absurd are
outcomes_more object told (q ∷ ps) (x ∷ os) p o are is = (are.0, outcomes_more object told ps os p o are.1 is)

blobs_more : (object told : List ℕ → Told) (ps : List CheckinPath) (os : List Outcome) (p : CheckinPath) (o : Outcome) → AreOutcomes object told ps os → blobs_back (ps ++ p ∷ []) (os ++ o ∷ []) ≡ blobs_back ps os ++ blob_back p o.blob
blobs_more object told [] [] p o are = append-nil (blob_back p o.blob)
blobs_more object told [] (x ∷ os) p o are = absurd are
blobs_more object told (q ∷ ps) [] p o are = absurd are
blobs_more object told (q ∷ ps) (x ∷ os) p o are =
    ap (λ (l : List (List ℕ × ℕ)). blob_back q x.blob ++ l) (blobs_more object told ps os p o are.1)
    ∙ sym (append_assoc (blob_back q x.blob) (blobs_back ps os) (blob_back p o.blob))

paths_more : (object told : List ℕ → Told) (ps : List CheckinPath) (os : List Outcome) (p : CheckinPath) (o : Outcome) → AreOutcomes object told ps os → failed_paths (ps ++ p ∷ []) (os ++ o ∷ []) ≡ failed_paths ps os ++ failed_at p o.failed
paths_more object told [] [] p o are = append-nil (failed_at p o.failed)
paths_more object told [] (x ∷ os) p o are = absurd are
paths_more object told (q ∷ ps) [] p o are = absurd are
paths_more object told (q ∷ ps) (x ∷ os) p o are =
    ap (λ (l : List (List ℕ)). failed_at q x.failed ++ l) (paths_more object told ps os p o are.1)
    ∙ sym (append_assoc (failed_at q x.failed) (failed_paths ps os) (failed_at p o.failed))

kinds_more : (object told : List ℕ → Told) (ps : List CheckinPath) (os : List Outcome) (p : CheckinPath) (o : Outcome) → AreOutcomes object told ps os → other_kinds (ps ++ p ∷ []) (os ++ o ∷ []) ≡ other_kinds ps os ++ path_if (is_of_other_kind o.fate) p.path
kinds_more object told [] [] p o are = append-nil (path_if (is_of_other_kind o.fate) p.path)
kinds_more object told [] (x ∷ os) p o are = absurd are
kinds_more object told (q ∷ ps) [] p o are = absurd are
kinds_more object told (q ∷ ps) (x ∷ os) p o are =
    ap (λ (l : List (List ℕ)). path_if (is_of_other_kind x.fate) q.path ++ l) (kinds_more object told ps os p o are.1)
    ∙ sym (append_assoc (path_if (is_of_other_kind x.fate) q.path) (other_kinds ps os) (path_if (is_of_other_kind o.fate) p.path))

objects_more : (os : List Outcome) (o : Outcome) → objects_of (os ++ o ∷ []) ≡ objects_of os ++ object_of o
objects_more [] o = append-nil (object_of o)
objects_more (x ∷ os) o =
    ap (λ (l : List (List ℕ × List ℕ)). object_of x ++ l) (objects_more os o) ∙ sym (append_assoc (object_of x) (objects_of os) (object_of o))

-- a blob is given back, or none
pub one_blob : (p : CheckinPath) (blob : Option ℕ) (repo : RepoSeen) → with_blob p.object blob repo ≡ with_blobs (blob_back p blob) repo
one_blob p None repo = ap (λ (l : List (List ℕ × ℕ)). record repo { returned = l }) (sym (append-nil repo.returned))
one_blob p (Some count) repo = refl

-- one turn more
turns_more : (object told : List ℕ → Told) (c : Cleaning) (ps : List CheckinPath) (os : List Outcome) (p : CheckinPath) (o : Outcome) (repo repo' repo'' : RepoSeen) (work work' work'' : WorkSeen) → AreOutcomes object told ps os
    → AreInTurn c ps os repo repo' work work' → IsLookedAt c p o repo' repo'' work' work'' → AreInTurn c (ps ++ p ∷ []) (os ++ o ∷ []) repo repo'' work work''
turns_more object told c [] [] p o repo repo' repo'' work work' work'' each (same, still) is =
    (repo'', work'', subst (λ (w : WorkSeen). IsLookedAt c p o repo repo'' w work'') still (subst (λ (r : RepoSeen). IsLookedAt c p o r repo'' work' work'') same is), (refl, refl))
turns_more object told c [] (x ∷ os) p o repo repo' repo'' work work' work'' each are is = absurd each
turns_more object told c (q ∷ ps) [] p o repo repo' repo'' work work' work'' each are is = absurd each
turns_more object told c (q ∷ ps) (x ∷ os) p o repo repo' repo'' work work' work'' each (mid, mid_work, first, rest) is =
    (mid, mid_work, first, turns_more object told c ps os p o mid repo' repo'' mid_work work' work'' each.1 rest is)

-- the files failed at a path, or they are as they were
fails_paths : (failed : Bool) (p : CheckinPath) (files files' : FilesSeen) → FailsIf failed p.path files files' → files'.failed ≡ files.failed ++ failed_at p failed
fails_paths true p files files' fails = fails.paths
fails_paths false p files files' fails = ap (λ (f : FilesSeen). f.failed) fails ∙ sym (append-nil files.failed)

-- a path that failed by the kind is one at which the files failed
stored_kind : (object file : Told) (storing : Storing) (o : Outcome) (fate : Fate) → HasStoredCounts object file storing o fate → is_of_other_kind fate ≡ true → o.failed ≡ true
stored_kind object file storing o Same counts is = absurd (cc is)
stored_kind object file storing o (Changed name) counts is = absurd (cc is)
stored_kind object file storing o Gone counts is = absurd (cc is)
stored_kind object file storing o Kept counts is = absurd (cc is)
stored_kind object file storing o (Failed Encoding) counts is = absurd (cc is)
stored_kind object file storing o (Failed NoProcess) counts is = absurd (cc is)
stored_kind object file storing o (Failed Read) counts is = absurd (cc is)
stored_kind object file storing o (Failed OtherKind) counts is = counts.1
stored_kind object file storing o (Failed TooLarge) counts is = absurd (cc is)
stored_kind object file storing o (Failed (Filter why)) counts is = absurd (cc is)
stored_kind object file storing o (Failed EncodingForm) counts is = absurd (cc is)

other_fate : (fate other : Fate) → fate ≡ other → is_of_other_kind other ≡ false → is_of_other_kind fate ≡ true → ⊥
other_fate fate other same never is = cc (sym (ap is_of_other_kind same ∙ never) ∙ is)

kind_fails : (object file : Told) (name : List ℕ) (w : Way) (o : Outcome) → HasFate object file name w o.asked o.content o.fate → HasCounts object file w o → is_of_other_kind o.fate ≡ true → o.failed ≡ true
kind_fails object file name (way.Stored storing) o has counts is = stored_kind object file storing o o.fate counts is
kind_fails object file name way.Kept o has counts is = absurd (other_fate o.fate Kept has.0 refl is)
kind_fails object file name way.UnknownEncoding o has counts is = absurd (other_fate o.fate (Failed Encoding) has.0 refl is)
kind_fails object file name way.NoProcess o has counts is = absurd (other_fate o.fate (Failed NoProcess) has.0 refl is)

-- the paths that failed by the kind go with those of which the files say so
adds_kind : (failed kind : Bool) (path : List ℕ) (files files' : FilesSeen) → FailsIf failed path files files' → SaysKind failed kind files' → (kind ≡ true → failed ≡ true) → files'.of_other_kind ≡ files.of_other_kind ++ path_if kind path
adds_kind true kind path files files' fails says needs = fails.kinds ∙ ap (λ (k : Bool). files.of_other_kind ++ path_if k path) (says refl)
adds_kind false false path files files' fails says needs = ap (λ (f : FilesSeen). f.of_other_kind) fails ∙ sym (append-nil files.of_other_kind)
adds_kind false true path files files' fails says needs = absurd (cc (needs refl))

rose_twice : (a b c : ℕ) → Rose a b → Rose b c → Rose a c
rose_twice a b c first second = record { kept = omega (arith, first.kept, second.kept); risen = λ below. let more : b < c = second.risen below in omega (arith, first.kept, more) }

-- the count of faults goes with the paths at which the files failed
counts_more : (paths : List (List ℕ)) (failed : Bool) (p : CheckinPath) (count : ℕ) (files files' : FilesSeen) → HasCounted paths count files.faults → FailsIf failed p.path files files' → HasCounted (paths ++ failed_at p failed) count files'.faults
counts_more [] true p count files files' counted fails = subst (λ (n : ℕ). Rose n files'.faults) counted fails.rose
counts_more [] false p count files files' counted fails = ap (λ (f : FilesSeen). f.faults) fails ∙ counted
counts_more (path ∷ paths) true p count files files' counted fails = rose_twice count files.faults files'.faults counted fails.rose
counts_more (path ∷ paths) false p count files files' counted fails = subst (λ (f : FilesSeen). Rose count f.faults) (sym fails) counted

-- one path more was looked at
looked_more : (object told : List ℕ → Told) (c : Cleaning) (ps : List CheckinPath) (os : List Outcome) (p : CheckinPath) (o : Outcome) (repo repo' repo'' : RepoSeen) (work work' work'' : WorkSeen) → AreOutcomes object told ps os
    → AreLookedAt c ps os repo repo' work work' → IsPathLookedAt object told c p repo' repo'' work' work'' o → AreLookedAt c (ps ++ p ∷ []) (os ++ o ∷ []) repo repo'' work work''
looked_more object told c ps os p o repo repo' repo'' work work' work'' each are is = record {
  blobs = is.looked.back ∙ one_blob p o.blob repo' ∙ ap (with_blobs (blob_back p o.blob)) are.blobs
      ∙ ap (λ (l : List (List ℕ × ℕ)). record repo { returned = l }) (append_assoc repo.returned (blobs_back ps os) (blob_back p o.blob)
      ∙ ap (λ (l : List (List ℕ × ℕ)). repo.returned ++ l) (sym (blobs_more object told ps os p o each)));
  failed = fails_paths o.failed p work'.files work''.files is.looked.fails ∙ ap (λ (l : List (List ℕ)). l ++ failed_at p o.failed) are.failed
      ∙ append_assoc work.files.failed (failed_paths ps os) (failed_at p o.failed)
      ∙ ap (λ (l : List (List ℕ)). work.files.failed ++ l) (sym (paths_more object told ps os p o each));
  kinds = adds_kind o.failed (is_of_other_kind o.fate) p.path work'.files work''.files is.looked.fails is.says (kind_fails (object p.object) (told p.path) p.object p.way o is.is.fate is.is.counts)
      ∙ ap (λ (l : List (List ℕ)). l ++ path_if (is_of_other_kind o.fate) p.path) are.kinds
      ∙ append_assoc work.files.of_other_kind (other_kinds ps os) (path_if (is_of_other_kind o.fate) p.path)
      ∙ ap (λ (l : List (List ℕ)). work.files.of_other_kind ++ l) (sym (kinds_more object told ps os p o each));
  counted = subst (λ (l : List (List ℕ)). HasCounted l work.files.faults work''.files.faults) (sym (paths_more object told ps os p o each))
      (counts_more (failed_paths ps os) o.failed p work.files.faults work'.files work''.files are.counted is.looked.fails);
  turns = turns_more object told c ps os p o repo repo' repo'' work work' work'' each are.turns is.looked;
}

objects_told : (kept : Option (List (List ℕ × List ℕ))) (a b : List (List ℕ × List ℕ)) → option_map (λ k. k ++ b) (option_map (λ k. k ++ a) kept) ≡ option_map (λ k. k ++ (a ++ b)) kept
objects_told None a b = refl
objects_told (Some kept) a b = ap (λ (l : List (List ℕ × List ℕ)). Some l) (append_assoc kept a b)

no_objects : (kept : Option (List (List ℕ × List ℕ))) → kept ≡ option_map (λ k. k ++ []) kept
no_objects None = refl
no_objects (Some kept) = ap (λ (l : List (List ℕ × List ℕ)). Some l) (sym (append-nil kept))

-- nothing more is kept
pub with_no_object : (keep : KeepSeen) → keep ≡ with_objects [] keep
with_no_object keep = ap (λ (o : Option (List (List ℕ × List ℕ))). record keep { objects = o }) (no_objects keep.objects)

-- before the first path
pub none_checked : (object told : List ℕ → Told) (c : Cleaning) (repo : RepoSeen) (work : WorkSeen) (keep : KeepSeen) → ArePathsChecked object told c [] repo repo work work keep keep []
none_checked object told c repo work keep = record {
  outcomes = [];
  same = refl;
  each = tt;
  checked = record {
    looked = record {
      blobs = ap (λ (l : List (List ℕ × ℕ)). record repo { returned = l }) (sym (append-nil repo.returned));
      failed = sym (append-nil work.files.failed);
      kinds = sym (append-nil work.files.of_other_kind);
      counted = refl;
      turns = (refl, refl);
    };
    objects = with_no_object keep;
  };
}

-- one path more
pub one_checked : (object told : List ℕ → Told) (c : Cleaning) (ps : List CheckinPath) (p : CheckinPath) (repo repo' repo'' : RepoSeen) (work work' work'' : WorkSeen) (keep keep' keep'' : KeepSeen) (fates : List Fate) (fate : Fate)
    → ArePathsChecked object told c ps repo repo' work work' keep keep' fates → IsPathChecked object told c p repo' repo'' work' work'' keep' keep'' fate
    → ArePathsChecked object told c (ps ++ p ∷ []) repo repo'' work work'' keep keep'' (fates ++ fate ∷ [])
one_checked object told c ps p repo repo' repo'' work work' work'' keep keep' keep'' fates fate are is =
    let os : List Outcome = are.outcomes in
    let o : Outcome = is.outcome in record {
      outcomes = os ++ o ∷ [];
      same = map-append (λ (x : Outcome). x.fate) os (o ∷ []) ∙ ap (λ (l : List Fate). l ++ o.fate ∷ []) are.same ∙ ap (λ (f : Fate). fates ++ f ∷ []) is.same;
      each = outcomes_more object told ps os p o are.each is.looked.is;
      checked = record {
        looked = looked_more object told c ps os p o repo repo' repo'' work work' work'' are.each are.checked.looked is.looked;
        objects = is.object_kept ∙ ap (with_objects (object_of o)) are.checked.objects
            ∙ ap (λ (x : Option (List (List ℕ × List ℕ))). record keep { objects = x }) (objects_told keep.objects (objects_of os) (object_of o))
            ∙ ap (λ (l : List (List ℕ × List ℕ)). with_objects l keep) (sym (objects_more os o));
      };
    }

-- the next path of a list
pub next_path : (ps : List CheckinPath) (i : ℕ) (p : CheckinPath) → i < length ps → p ≡ get_or ps i p → take (i + 1) ps ≡ take i ps ++ p ∷ []
next_path ps i p lt is = ap (λ (n : ℕ). take n ps) (add-one i) ∙ take-suc ps i p lt ∙ ap (λ (x : CheckinPath). take i ps ++ x ∷ []) (sym is)

parts_at : (ps : List CheckinPath) (i : ℕ) (p : CheckinPath) → i < length ps → p ≡ get_or ps i p → ps ≡ take i ps ++ p ∷ drop (i + 1) ps
parts_at ps i p lt is =
    sym (take-append-drop (i + 1) ps) ∙ ap (λ (l : List CheckinPath). l ++ drop (i + 1) ps) (next_path ps i p lt is) ∙ append_assoc (take i ps) (p ∷ []) (drop (i + 1) ps)

opens_at : (count : ℕ) (ps : List CheckinPath) → AllByRecursion (IsOpen count) ps → (i : ℕ) (d : CheckinPath) → i < length ps → IsOpen count (get_or ps i d)
opens_at count [] are i d lt = absurd (omega arith)
opens_at count (p ∷ ps) are zero d lt = are.0
opens_at count (p ∷ ps) are (suc i) d lt = opens_at count ps are.1 i d (omega arith)

-- each path is open
pub open_at : (count : ℕ) (ps : List CheckinPath) (i : ℕ) (p : CheckinPath) → AllByRecursion (IsOpen count) ps → i < length ps → p ≡ get_or ps i p → IsOpen count p
open_at count ps i p are lt is = subst (IsOpen count) (sym is) (opens_at count ps are i p lt)

-- nothing was done with the next path
none_left : (object told : List ℕ → Told) (c : Cleaning) (ps : List CheckinPath) (repo : RepoSeen) (drivers : DriversSeen) → IsLeftNext object told c ps repo repo drivers drivers
none_left object told c [] repo drivers = (refl, refl)
none_left object told c (p ∷ ps) repo drivers = inl (refl, inl refl)

module _ (object told : List ℕ → Told) (c : Cleaning) (ps : List CheckinPath) (repo repo' repo'' : RepoSeen) (work work' work'' : WorkSeen) (keep keep' keep'' : KeepSeen) (fates : List Fate) where
  -- the keeper failed at the next path
  pub cut_at : (i : ℕ) (p : CheckinPath) → i < length ps → p ≡ get_or ps i p → ArePathsChecked object told c (take i ps) repo repo' work work' keep keep' fates
      → IsPathCut object told c p repo' repo'' work' work'' keep' keep'' → AreObjectsCut object told c ps repo repo'' work work'' keep keep''
  cut_at i p lt is are cut = record {
    front = take i ps;
    path = p;
    after = drop (i + 1) ps;
    parts = parts_at ps i p lt is;
    outcomes = are.outcomes;
    outcome = cut.outcome;
    each = outcomes_more object told (take i ps) are.outcomes p cut.outcome are.each cut.looked.is;
    name = cut.name;
    changed = cut.changed;
    looked = looked_more object told c (take i ps) are.outcomes p cut.outcome repo repo' repo'' work work' work'' are.each are.checked.looked cut.looked;
    failed = subst (λ (k : KeepSeen). IsKeepFailed k keep'') are.checked.objects cut.failed;
  }

  -- memory ran out at the next path
  pub left_at : (i : ℕ) (p : CheckinPath) → i < length ps → p ≡ get_or ps i p → ArePathsChecked object told c (take i ps) repo repo' work work' keep keep' fates
      → IsPathLeft object told c p repo' repo'' work' work'' keep' keep'' → AreBrokenOff object told c ps repo repo'' work work'' keep keep''
  left_at i p lt is are left = record {
    front = take i ps;
    after = p ∷ drop (i + 1) ps;
    parts = parts_at ps i p lt is;
    outcomes = are.outcomes;
    each = are.each;
    mid = repo';
    mid_work = work';
    checked = subst (λ (k : KeepSeen). AreChecked c (take i ps) are.outcomes repo repo' work work' keep k) (sym left.keep_same) are.checked;
    next = left.left;
    files_same = left.files_same;
  }

  -- memory ran out behind these paths
  pub left_behind : (i : ℕ) → ArePathsChecked object told c (take i ps) repo repo' work work' keep keep' fates → AreBrokenOff object told c ps repo repo' work work' keep keep'
  left_behind i are = record {
    front = take i ps;
    after = drop i ps;
    parts = sym (take-append-drop i ps);
    outcomes = are.outcomes;
    each = are.each;
    mid = repo';
    mid_work = work';
    checked = are.checked;
    next = none_left object told c (drop i ps) repo' work'.drivers;
    files_same = refl;
  }

-- memory ran out before the first path
pub left_before : (object told : List ℕ → Told) (c : Cleaning) (ps : List CheckinPath) (repo : RepoSeen) (work : WorkSeen) (keep : KeepSeen) → AreBrokenOff object told c ps repo repo work work keep keep
left_before object told c ps repo work keep =
    let none : ArePathsChecked object told c [] repo repo work work keep keep [] = none_checked object told c repo work keep in record {
      front = [];
      after = ps;
      parts = refl;
      outcomes = none.outcomes;
      each = none.each;
      mid = repo;
      mid_work = work;
      checked = none.checked;
      next = none_left object told c ps repo work.drivers;
      files_same = refl;
    }
