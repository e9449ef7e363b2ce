-- How a check-in ends, from how its parts end.
use Rattle.std.proofs.Common.{Option, Some, None, ◌≡◌, ℕ, suc, Bool, true, false, List, [], ◌∷◌, ◌++◌, length, ◌⊎◌, Result, Ok, Err, refl, sym, ap, subst, ◌∙◌, inl, inr}
use Rattle.std.specs.Prelude.{if◌then◌else◌}
use Rattle.std.specs.Global.{Vec}
use Rattle.std.specs.List.{list_any}
use Rattle.edge_kit.specs.Seen.{RepoSeen, SinkSeen}
use Rattle.edge_kit.specs.Starters.{SpawnerSeen}
use Rattle.edge_kit.specs.Told.{Told, RepoTold}
use Rattle.edge_kit.specs.declared.faults.SendFault.{SendFault}
use Rattle.edge_kit.specs.declared.faults.SendFault.TheVariants as send
use Rattle.git_index.specs.declared.entry.Entry.{Entry}
use Rattle.git_index.specs.Spelling.{plain_text}
use Rattle.clean_drivers.specs.CleanTalks.{TurnsAreTalks}
use Rattle.clean_drivers.specs.Drivers.{DriversSeen}
use Rattle.attr_stack.specs.declared.files.AttrFiles.{AttrFiles}
use Rattle.checkout_plan.specs.AttributeFiles.{attribute_files}
use Rattle.checkout_sources.specs.declared.stop.Stop.{Stop}
use Rattle.checkout_sources.specs.declared.stop.Stop.TheVariants as stop
use Rattle.checkout_sources.specs.Causes.{IsReadCause, IsCutShort}
use Rattle.checkout_sources.specs.RefusalText.{refusal_line}
use Rattle.checkin_paths.specs.declared.path.CheckinPath.{CheckinPath}
use Rattle.checkin_paths.specs.declared.fate.Fate.{Fate}
use Rattle.checkin_paths.specs.declared.paths_read.PathsRead.{PathsRead}
use Rattle.exit_status.specs.declared.status.ExitStatus.{ExitStatus}
use Rattle.exit_status.specs.declared.status.ExitStatus.TheVariants as status
use Rattle.checkin_paths.specs.Outside.{FilesSeen, WorkSeen, KeepSeen, with_index}
use Rattle.checkin_paths.specs.Fates.{is_auto}
use Rattle.checkin_paths.specs.CleanedFiles.{Cleaning}
use Rattle.checkin_paths.specs.Paths.{checkin_paths}
use Rattle.checkin_engine.specs.Indexes.{new_entries}
use Rattle.checkin_engine.specs.InTurn.{entries_in_turn}
use Rattle.checkin_paths.specs.Outcomes.{Outcome, AreOutcomes, fates_of, ArePathsChecked, AreObjectsCut, AreBrokenOff, IsLeftNext, blob_by, with_blob}
use Rattle.checkin_engine.specs.Report.{report_of, is_failed}
use Rattle.checkin_paths.specs.KeptPaths.{ChecksAndLeaves}
use Rattle.checkin_engine.specs.KeptIndex.{KeepsAfter}
use Rattle.checkin_paths.specs.ReadPaths.{after_reading}
use Rattle.checkin_engine.specs.Ends.{Seen, seen, AllTold, cleaning_told, work_before, with_text, status_of, IsUntouched, IsRefusedWith, IsLookedThrough, IsCheckedIn, EndsCheckin}
use Rattle.checkin_paths.specs.ReadPaths.{ArePathsRead, ReadsPaths}
use Rattle.checkin_engine.specs.Ending.{WritesLine, EndsStopped, WritesReport}
use Rattle.checkin_engine.proofs.ByPath.{in_turn}
use Rattle.checkin_engine.proofs.Talks.{have_talks}

-- the status of a report that was written
pub reports : (ps : List CheckinPath) (fates : List Fate) (old new : SinkSeen) → new ≡ with_text (report_of ps fates) old → WritesReport ps fates old new (status_of fates)
reports ps fates old new written = at (list_any is_failed fates) refl
  where
    at : (t : Bool) → list_any is_failed fates ≡ t → WritesReport ps fates old new (if t then status.DoneWithFailures else status.Done)
    at true is = (ap (λ (b : Bool). if b then status.DoneWithFailures else status.Done) is, written)
    at false is = (ap (λ (b : Bool). if b then status.DoneWithFailures else status.Done) is, written)

untouched : (repo repo' : RepoSeen) (files : FilesSeen) (spawner : SpawnerSeen) (runs : ℕ) (keep : KeepSeen) (sink sink' : SinkSeen) → IsUntouched (seen repo files spawner runs keep sink) (seen repo' files spawner runs keep sink')
untouched repo repo' files spawner runs keep sink sink' = record { files = refl; spawner = refl; runs = refl; keep = refl }

module _ (told : AllTold) (old new : RepoSeen) (files : FilesSeen) (spawner : SpawnerSeen) (runs : ℕ) (keep : KeepSeen) (sink sink' : SinkSeen) where
  abbrev ends_so : ExitStatus → Type 0
  ends_so s = EndsCheckin told (seen old files spawner runs keep sink) (seen new files spawner runs keep sink') s

  left_alone : IsUntouched (seen old files spawner runs keep sink) (seen new files spawner runs keep sink')
  left_alone = untouched old new files spawner runs keep sink sink'

  -- a line was to be written
  line_ends : (line : List ℕ) (s : ExitStatus) → IsRefusedWith told.repo line old new → WritesLine line sink sink' s → ends_so s
  line_ends line status.Refused refused written = record { line = line; has = record { refused = refused; untouched = left_alone }; written = written }
  line_ends line status.OutputNotWritten refused cut = inl (record { line = line; has = record { refused = refused; untouched = left_alone }; cut = cut })
  line_ends line status.OutOfMemory refused left = inl (record { repo = inr (line, refused); untouched = left_alone; silent = left })
  line_ends line status.Done refused never = absurd never
  line_ends line status.DoneWithFailures refused never = absurd never
  line_ends line status.Usage refused never = absurd never
  line_ends line status.ReadFault refused never = absurd never
  line_ends line status.NotEmpty refused never = absurd never

  -- a check-in that stopped before a file was looked at
  pub stopped_ends : (x : Stop) (s : ExitStatus) → ReadsPaths told.repo old new (Err x) → EndsStopped x sink sink' s → ends_so s
  stopped_ends (stop.Refused r) s reads ends = line_ends (refusal_line r) s (r, reads, refl) ends
  stopped_ends stop.ReadFault s reads ends = subst ends_so (sym ends.0) (record { cause = reads; untouched = left_alone; silent = ends.1 })
  stopped_ends stop.NoMemory s reads ends = subst ends_so (sym ends.0) (inl (record { repo = inl reads; untouched = left_alone; silent = ends.1 }))

outcomes_length : (object files : List ℕ → Told) (ps : List CheckinPath) (os : List Outcome) → AreOutcomes object files ps os → length ps ≡ length (fates_of os)
outcomes_length object files [] [] are = refl
outcomes_length object files [] (o ∷ os) are = absurd are
outcomes_length object files (p ∷ ps) [] are = absurd are
outcomes_length object files (p ∷ ps) (o ∷ os) are = ap suc (outcomes_length object files ps os are.1)

-- there is a fate of each path
checked_length : (object tells : List ℕ → Told) (c : Cleaning) (ps : List CheckinPath) (repo repo' : RepoSeen) (work work' : WorkSeen) (keep keep' : KeepSeen) (fates : List Fate)
    → ArePathsChecked object tells c ps repo repo' work work' keep keep' fates → length ps ≡ length fates
checked_length object tells c ps repo repo' work work' keep keep' fates are = outcomes_length object tells ps are.outcomes are.each ∙ ap (λ (l : List Fate). length l) are.same

-- what was read, and what the look at the paths left
module _ (told : AllTold) (r : PathsRead) (old mid new : RepoSeen) (files files' : FilesSeen) (spawner spawner' : SpawnerSeen) (runs runs' : ℕ) (keep keep' : KeepSeen) (sink sink' : SinkSeen) (read : ArePathsRead told.repo r old mid) (law : TurnsAreTalks) where
  abbrev before : Seen
  before = seen old files spawner runs keep sink

  abbrev after : Seen
  after = seen new files' spawner' runs' keep' sink'

  -- once all was looked through, with this left of the keeper
  abbrev behind : KeepSeen → Seen
  behind kept = seen new files' spawner' runs' kept sink

  abbrev by : Cleaning
  by = cleaning_told told r.drivers

  abbrev first : WorkSeen
  first = work_before r.drivers before

  abbrev Leaves : KeepSeen → Result (Vec Fate) SendFault → Type 0
  Leaves = ChecksAndLeaves told.repo.object told.files by r.paths.items mid new files files' spawner spawner' runs runs' keep

  by_path : (kept : KeepSeen) (fates : Vec Fate) → Leaves kept (Ok fates) → entries_in_turn r.index fates.items ≡ new_entries r.paths.items fates.items r.index
  by_path kept fates leaves =
      let files : AttrFiles = attribute_files read.has.has.outer read.has.planned.index read.has.has.made.contents in
      in_turn files r.drivers read.has.has.settings r.index r.paths.items fates.items read.stand.each
      (subst (λ (es : List Entry). r.paths.items ≡ checkin_paths files r.drivers read.has.has.settings es) (sym read.has.entries) read.has.paths) read.apart
      (checked_length told.repo.object told.files by r.paths.items mid new first leaves.last keep kept fates.items leaves.checks)

  abbrev seen_so : (kept : KeepSeen) (fates : Vec Fate) (leaves : Leaves kept (Ok fates)) → ArePathsChecked told.repo.object told.files by r.paths.items (after_reading r.index old) new first leaves.last keep kept fates.items
  seen_so kept fates leaves = subst (λ (m : RepoSeen). ArePathsChecked told.repo.object told.files by r.paths.items m new first leaves.last keep kept fates.items) read.seen leaves.checks

  abbrev through : (kept : KeepSeen) (fates : Vec Fate) → Leaves kept (Ok fates) → IsLookedThrough told before (behind kept)
  through kept fates leaves = record {
    entries = r.index;
    paths = r.paths.items;
    drivers = r.drivers;
    has = read.has;
    fates = fates.items;
    last = leaves.last;
    checked = seen_so kept fates leaves;
    left = leaves.left;
    talks = have_talks law by r.paths.items (seen_so kept fates leaves).outcomes (after_reading r.index old) new files files' spawner spawner' runs runs' leaves.last (seen_so kept fates leaves).checked.looked leaves.left;
    silent = refl;
  }

  abbrev Kept : KeepSeen → Vec Fate → Type 0
  Kept kept fates = Leaves kept (Ok fates) × (keep' ≡ with_index (plain_text (entries_in_turn r.index fates.items)) kept)

  abbrev checked : (kept : KeepSeen) (fates : Vec Fate) → Kept kept fates → IsCheckedIn told before after
  checked kept fates (leaves, index) = record {
    mid = behind kept;
    done = through kept fates leaves;
    index = ap (λ (k : KeepSeen). seen new files' spawner' runs' k sink') (index ∙ ap (λ (es : List Entry). with_index (plain_text es) kept) (by_path kept fates leaves));
  }

  -- the index was kept, and the report was to be written
  report_ends : (kept : KeepSeen) (fates : Vec Fate) (s : ExitStatus) → Kept kept fates → WritesReport r.paths.items fates.items sink sink' s → EndsCheckin told before after s
  report_ends kept fates status.Done is (same, written) = record { checked = checked kept fates is; report = written; status = sym same }
  report_ends kept fates status.DoneWithFailures is (same, written) = record { checked = checked kept fates is; report = written; status = sym same }
  report_ends kept fates status.OutputNotWritten is cut = inr (inr (inr (record { checked = checked kept fates is; cut = cut })))
  report_ends kept fates status.OutOfMemory is silent = inr (inr (record { checked = checked kept fates is; silent = silent }))
  report_ends kept fates status.Usage is never = absurd never
  report_ends kept fates status.Refused is never = absurd never
  report_ends kept fates status.ReadFault is never = absurd never
  report_ends kept fates status.NotEmpty is never = absurd never

  -- the keeper failed
  cut_ends : KeepsAfter Leaves r.index keep' (Err send.Failed) → sink' ≡ sink → EndsCheckin told before after status.OutputNotWritten
  cut_ends (inl leaves) silent =
      let cut : AreObjectsCut told.repo.object told.files by r.paths.items (after_reading r.index old) new first leaves.last keep keep' =
      subst (λ (m : RepoSeen). AreObjectsCut told.repo.object told.files by r.paths.items m new first leaves.last keep keep') read.seen leaves.checks in
      inr (inl (record {
        entries = r.index;
        paths = r.paths.items;
        drivers = r.drivers;
        has = read.has;
        last = leaves.last;
        cut = cut;
        left = leaves.left;
        talks = have_talks law by (cut.front ++ cut.path ∷ []) (cut.outcomes ++ cut.outcome ∷ []) (after_reading r.index old) new files files' spawner spawner' runs runs' leaves.last cut.looked leaves.left;
        silent = silent;
      }))
  cut_ends (inr (kept, fates, leaves, failed)) silent = inr (inr (inl (record {
    mid = behind kept;
    done = through kept fates leaves;
    failed = failed;
    same = ap (λ (s : SinkSeen). seen new files' spawner' runs' keep' s) silent;
  })))

  -- memory ran out before the index was kept
  broken_ends : Leaves keep' (Err send.NoMemory) → sink' ≡ sink → EndsCheckin told before after status.OutOfMemory
  broken_ends leaves silent = inr (inl (record {
    entries = r.index;
    paths = r.paths.items;
    drivers = r.drivers;
    has = read.has;
    last = leaves.last;
    broken = subst (λ (m : RepoSeen). AreBrokenOff told.repo.object told.files by r.paths.items m new first leaves.last keep keep') read.seen leaves.checks;
    left = leaves.left;
    silent = silent;
  }))

  -- how the keeping ended, by what the repository tells before it
  abbrev Keeps : RepoTold → Result (Vec Fate) SendFault → Type 0
  Keeps told' x = KeepsAfter (ChecksAndLeaves told'.object told.files by r.paths.items mid new files files' spawner spawner' runs runs' keep) r.index keep' x

  told_so : (told' : RepoTold) → told' ≡ told.repo → (x : Result (Vec Fate) SendFault) → Keeps told' x → Keeps told.repo x
  told_so told' same x kept = subst (λ (t : RepoTold). Keeps t x) same kept

  pub reported : (told' : RepoTold) → told' ≡ told.repo → (ps : List CheckinPath) (fates : List Fate) (v : Vec Fate) (s : ExitStatus) → ps ≡ r.paths.items → fates ≡ v.items → Keeps told' (Ok v)
      → WritesReport ps fates sink sink' s → EndsCheckin told before after s
  reported told' same ps fates v s same_paths same_fates kept writes =
      let so : Keeps told.repo (Ok v) = told_so told' same (Ok v) kept in
      report_ends so.0 v s (so.1, so.2)
      (subst (λ (l : List Fate). WritesReport r.paths.items l sink sink' s) same_fates (subst (λ (l : List CheckinPath). WritesReport l fates sink sink' s) same_paths writes))

  keeps_so : (told' : RepoTold) → told' ≡ told.repo → (f f' : SendFault) → f ≡ f' → Keeps told' (Err f) → Keeps told.repo (Err f')
  keeps_so told' same f f' is kept = told_so told' same (Err f') (subst (λ (e : SendFault). Keeps told' (Err e)) is kept)

  pub keeper_failed : (told' : RepoTold) → told' ≡ told.repo → (f : SendFault) → f ≡ send.Failed → Keeps told' (Err f) → sink' ≡ sink → EndsCheckin told before after status.OutputNotWritten
  keeper_failed told' same f is kept silent = cut_ends (keeps_so told' same f send.Failed is kept) silent

  pub memory_ended : (told' : RepoTold) → told' ≡ told.repo → (f : SendFault) → f ≡ send.NoMemory → Keeps told' (Err f) → sink' ≡ sink → EndsCheckin told before after status.OutOfMemory
  memory_ended told' same f is kept silent = broken_ends (keeps_so told' same f send.NoMemory is kept) silent

-- each blob that was made is given back
refused_back : (told : RepoTold) (line : List ℕ) (old new : RepoSeen) → IsRefusedWith told line old new → new.out ≡ old.out
refused_back told line old new (refusal, is, same) = ap (λ (r : RepoSeen). r.out) is.seen

short_back : (told : RepoTold) (old new : RepoSeen) → IsCutShort told old new → new.out ≡ old.out
short_back told old new (inl same) = ap (λ (r : RepoSeen). r.out) same
short_back told old new (inr is) = ap (λ (r : RepoSeen). r.out) is.seen

blob_back : (name : List ℕ) (blob : Option ℕ) (old new : RepoSeen) → new ≡ with_blob name blob old → new.out ≡ old.out
blob_back name None old new is = ap (λ (r : RepoSeen). r.out) is
blob_back name (Some count) old new is = ap (λ (r : RepoSeen). r.out) is

next_back : (object tells : List ℕ → Told) (c : Cleaning) (ps : List CheckinPath) (old new : RepoSeen) (drivers drivers' : DriversSeen) → IsLeftNext object tells c ps old new drivers drivers' → new.out ≡ old.out
next_back object tells c [] old new drivers drivers' is = ap (λ (r : RepoSeen). r.out) is.1
next_back object tells c (p ∷ ps) old new drivers drivers' (inl (same, inl none)) = ap (λ (r : RepoSeen). r.out) none
next_back object tells c (p ∷ ps) old new drivers drivers' (inl (same, inr made)) = ap (λ (r : RepoSeen). r.out) made.1
next_back object tells c (p ∷ ps) old new drivers drivers' (inr asked) = blob_back p.object (blob_by (is_auto asked.storing.action)) old new asked.back

module _ (told : AllTold) (old new : Seen) where
  through_back : (mid : Seen) → IsLookedThrough told old mid → mid.repo.out ≡ old.repo.out
  through_back mid done = ap (λ (r : RepoSeen). r.out) done.checked.checked.looked.blobs

  checked_back : IsCheckedIn told old new → new.repo.out ≡ old.repo.out
  checked_back is = ap (λ (s : Seen). s.repo.out) is.index ∙ through_back is.mid is.done

  pub all_back : (s : ExitStatus) → EndsCheckin told old new s → new.repo.out ≡ old.repo.out
  all_back status.Done ends = checked_back ends.checked
  all_back status.DoneWithFailures ends = checked_back ends.checked
  all_back status.Usage ends = absurd ends
  all_back status.NotEmpty ends = absurd ends
  all_back status.Refused ends = refused_back told.repo ends.line old.repo new.repo ends.has.refused
  all_back status.OutputNotWritten (inl cut) = refused_back told.repo cut.line old.repo new.repo cut.has.refused
  all_back status.OutputNotWritten (inr (inl cut)) = ap (λ (r : RepoSeen). r.out) cut.cut.looked.blobs
  all_back status.OutputNotWritten (inr (inr (inl cut))) = ap (λ (s : Seen). s.repo.out) cut.same ∙ through_back cut.mid cut.done
  all_back status.OutputNotWritten (inr (inr (inr cut))) = checked_back cut.checked
  all_back status.OutOfMemory (inl is) = stopped_back is.repo
    where
      stopped_back : IsCutShort told.repo old.repo new.repo ⊎ ((line : List ℕ) × IsRefusedWith told.repo line old.repo new.repo) → new.repo.out ≡ old.repo.out
      stopped_back (inl short) = short_back told.repo old.repo new.repo short
      stopped_back (inr (line, refused)) = refused_back told.repo line old.repo new.repo refused
  all_back status.OutOfMemory (inr (inl is)) =
      next_back told.repo.object told.files (cleaning_told told is.drivers) is.broken.after is.broken.mid new.repo is.broken.mid_work.drivers is.last.drivers is.broken.next ∙ ap (λ (r : RepoSeen). r.out) is.broken.checked.looked.blobs
  all_back status.OutOfMemory (inr (inr is)) = checked_back is.checked
  all_back status.ReadFault ends = fault_back ends.cause
    where
      fault_back : IsReadCause told.repo old.repo new.repo → new.repo.out ≡ old.repo.out
      fault_back (inl source) = ap (λ (r : RepoSeen). r.out) source.seen
      fault_back (inr file) = ap (λ (r : RepoSeen). r.out) file.seen
