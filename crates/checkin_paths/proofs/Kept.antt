-- How the look at the paths and the keeping of objects end, from how their calls end.
use Rattle.std.proofs.Common.{◌≡◌, ℕ, zero, suc, ◌+◌, ◌<◌, List, [], ◌∷◌, ◌++◌, length, replicate, take, get_or, Option, None, Result, Ok, Err, refl, sym, ap, subst, ◌∙◌, arith}
use Rattle.std.specs.Global.{Vec}
use Rattle.edge_kit.specs.Seen.{RepoSeen}
use Rattle.edge_kit.specs.Starters.{Starts, SpawnerSeen}
use Rattle.one_shot.specs.Onces.{RunsTold}
use Rattle.settings_view.specs.declared.view.Driver.{Driver}
use Rattle.clean_drivers.specs.CleanLines.{CleanLineView}
use Rattle.clean_drivers.specs.Drivers.{drivers_seen, GivesBack, lines_out}
use Rattle.edge_kit.specs.Told.{Told, RepoTold}
use Rattle.edge_kit.specs.declared.faults.SendFault.{SendFault}
use Rattle.edge_kit.specs.declared.faults.SendFault.TheVariants as send
use Rattle.object_dir.specs.Spelling.{spelled_blob}
use Rattle.checkin_paths.specs.declared.path.CheckinPath.{CheckinPath}
use Rattle.checkin_paths.specs.declared.fate.Fate.{Fate}
use Rattle.checkin_paths.specs.declared.fate.Fate.TheVariants.{Same, Changed, Gone, Kept, Failed}
use Rattle.checkin_paths.specs.Outside.{FilesSeen, WorkSeen, work_seen, KeepSeen, KeepsObject, with_objects}
use Rattle.checkin_paths.specs.CleanedFiles.{Cleaning, cleaning}
use Rattle.checkin_paths.specs.Outcomes.{object_by, ArePathsChecked}
use Rattle.checkin_paths.specs.Looks.{Looks}
use Rattle.checkin_paths.specs.KeptPaths.{KeepsStored, ChecksPath, ChecksPaths, first_work, ChecksAndLeaves}
use Rattle.checkin_paths.proofs.Checked.{with_no_object, one_checked, next_path, cut_at, left_at, left_before, left_behind}
use Rattle.checkin_paths.proofs.Looked.{path_cut, path_left}

-- nothing is kept of a path that hasn't changed
pub unchanged_keeps : (fate : Fate) (content : List ℕ) (keep : KeepSeen) → ((name : List ℕ) → fate ≡ Changed name → ⊥) → keep ≡ with_objects (object_by fate content) keep
unchanged_keeps Same content keep other = with_no_object keep
unchanged_keeps (Changed name) content keep other = absurd (other name refl)
unchanged_keeps Gone content keep other = with_no_object keep
unchanged_keeps Kept content keep other = with_no_object keep
unchanged_keeps (Failed cause) content keep other = with_no_object keep

-- the object of one that has changed was to be kept
pub changed_keeps : (T : Type 0) (fate : Fate) (content name raw : List ℕ) (old new : KeepSeen) (r : Result T SendFault) → fate ≡ Changed name → raw ≡ spelled_blob content → KeepsObject name raw old new r → KeepsStored fate content old new r
changed_keeps T fate content name raw old new (Ok x) is spelled keeps =
    keeps ∙ ap (λ (stored : List ℕ). with_objects ((name, stored) ∷ []) old) spelled ∙ ap (λ (f : Fate). with_objects (object_by f content) old) (sym is)
changed_keeps T fate content name raw old new (Err send.Failed) is spelled keeps = ((name, is), keeps)
changed_keeps T fate content name raw old new (Err send.NoMemory) is spelled keeps = ((name, is), keeps)

-- a path whose object wasn't kept
pub path_fails : (T : Type 0) (object told : List ℕ → Told) (c : Cleaning) (p : CheckinPath) (repo repo' : RepoSeen) (work work' : WorkSeen) (keep keep' : KeepSeen) (content : List ℕ) (fate : Fate) (f : SendFault)
    → Looks object told c p repo repo' work work' content fate → KeepsStored {T = T} fate content keep keep' (Err f) → ChecksPath object told c p repo repo' work work' keep keep' (Err f)
path_fails T object told c p repo repo' work work' keep keep' content fate send.Failed looks kept = path_cut object told c p repo repo' work work' keep keep' content fate looks kept.0.0 kept.0.1 kept.1
path_fails T object told c p repo repo' work work' keep keep' content fate send.NoMemory looks kept = path_left object told c p repo repo' work work' keep keep' content fate looks kept.0.0 kept.0.1 kept.1

-- the same is told of the drivers
pub told_cleaning : (ds ds' : List Driver) (s s' : List ℕ → Starts) (r r' : RunsTold) → ds' ≡ ds → s' ≡ s → r' ≡ r → cleaning ds' s' r' ≡ cleaning ds s r
told_cleaning ds ds' s s' r r' same_drivers same_starts same_runs =
    ap (λ (x : List Driver). cleaning x s' r') same_drivers ∙ ap (λ (x : List ℕ → Starts). cleaning ds x r') same_starts ∙ ap (cleaning ds s) same_runs

-- one path more, by what is told before and after the paths before it
module _ (told told' : RepoTold) (tells tells' : List ℕ → Told) (same_told : told' ≡ told) (same_tells : tells' ≡ tells) (c c' : Cleaning) (same_cleaning : c' ≡ c) (ps : List CheckinPath) (i : ℕ) (p : CheckinPath) (lt : i < length ps) (is : p ≡ get_or ps i p)
    (repo repo' repo'' : RepoSeen) (work work' work'' : WorkSeen) (keep keep' keep'' : KeepSeen) (fates : List Fate) (are : ArePathsChecked told.object tells c (take i ps) repo repo' work work' keep keep' fates) where
  told_so : (r : Result Fate SendFault) → ChecksPath told'.object tells' c' p repo' repo'' work' work'' keep' keep'' r → ChecksPath told.object tells c p repo' repo'' work' work'' keep' keep'' r
  told_so r checks = subst (λ (t : RepoTold). ChecksPath t.object tells c p repo' repo'' work' work'' keep' keep'' r) same_told
      (subst (λ (f : List ℕ → Told). ChecksPath told'.object f c p repo' repo'' work' work'' keep' keep'' r) same_tells
      (subst (λ (d : Cleaning). ChecksPath told'.object tells' d p repo' repo'' work' work'' keep' keep'' r) same_cleaning checks))

  pub goes_on : (fates' : List Fate) (fate : Fate) → ChecksPath told'.object tells' c' p repo' repo'' work' work'' keep' keep'' (Ok fate) → fates' ≡ fates ++ fate ∷ []
      → ArePathsChecked told.object tells c (take (i + 1) ps) repo repo'' work work'' keep keep'' fates'
  goes_on fates' fate checks more = subst (λ (l : List CheckinPath). ArePathsChecked told.object tells c l repo repo'' work work'' keep keep'' fates') (sym (next_path ps i p lt is))
      (subst (λ (l : List Fate). ArePathsChecked told.object tells c (take i ps ++ p ∷ []) repo repo'' work work'' keep keep'' l) (sym more)
      (one_checked told.object tells c (take i ps) p repo repo' repo'' work work' work'' keep keep' keep'' fates fate are (told_so (Ok fate) checks)))

  pub paths_fail : (f : SendFault) → ChecksPath told'.object tells' c' p repo' repo'' work' work'' keep' keep'' (Err f) → ChecksPaths told.object tells c ps repo repo'' work work'' keep keep'' (Err f)
  paths_fail send.Failed cut = cut_at told.object tells c ps repo repo' repo'' work work' work'' keep keep' keep'' fates i p lt is are (told_so (Err send.Failed) cut)
  paths_fail send.NoMemory left = left_at told.object tells c ps repo repo' repo'' work work' work'' keep keep' keep'' fates i p lt is are (told_so (Err send.NoMemory) left)

  -- memory ran out once it was looked at
  pub breaks_behind : (fate : Fate) → ChecksPath told'.object tells' c' p repo' repo'' work' work'' keep' keep'' (Ok fate) → ChecksPaths told.object tells c ps repo repo'' work work'' keep keep'' (Err send.NoMemory)
  breaks_behind fate checks =
      left_behind told.object tells c ps repo repo'' repo'' work work'' work'' keep keep'' keep'' (fates ++ fate ∷ []) (i + 1) (goes_on (fates ++ fate ∷ []) fate checks refl)

-- no line, and so no starter to give back
none_given : (n : ℕ) (spawner : SpawnerSeen) → GivesBack (replicate n None) spawner spawner
none_given zero spawner = refl
none_given (suc n) spawner = (spawner, refl, none_given n spawner)

none_out : (n : ℕ) → lines_out (replicate n None) ≡ 0
none_out zero = refl
none_out (suc n) = let rest : lines_out (replicate n None) ≡ 0 = none_out n in omega (arith, rest)

as_many : (n : ℕ) → length (replicate {A = Option CleanLineView} n None) ≡ n
as_many zero = refl
as_many (suc n) = ap suc (as_many n)

-- no driver has a line
pub no_lines_out : (lines : List (Option CleanLineView)) (n : ℕ) → lines ≡ replicate n None → lines_out lines ≡ 0
no_lines_out lines n is = ap lines_out is ∙ none_out n

pub many_lines : (lines : List (Option CleanLineView)) (ds ds' : List Driver) → lines ≡ replicate (length ds') None → ds' ≡ ds → length lines ≡ length ds
many_lines lines ds ds' is same = ap (λ (l : List (Option CleanLineView)). length l) is ∙ as_many (length ds') ∙ ap (λ (l : List Driver). length l) same

-- there was no memory for the lines
pub leaves_none : (object told : List ℕ → Told) (c : Cleaning) (ps : List CheckinPath) (repo : RepoSeen) (files : FilesSeen) (spawner : SpawnerSeen) (runs : ℕ) (keep : KeepSeen)
    → ChecksAndLeaves object told c ps repo repo files files spawner spawner runs runs keep keep (Err send.NoMemory)
leaves_none object told c ps repo files spawner runs keep = record {
  last = first_work c.drivers files spawner runs;
  checks = left_before object told c ps repo (first_work c.drivers files spawner runs) keep;
  left = record { files_same = refl; back = none_given (length c.drivers) spawner; faults = refl };
}

-- the starters were given back once all paths were looked at, by the paths and the drivers that the call was given
pub checks_leave : (object told : List ℕ → Told) (c c' : Cleaning) → c' ≡ c → (ps ps' : List CheckinPath) → ps' ≡ ps → (repo repo' : RepoSeen) (files files' : FilesSeen) (spawner mid spawner' : SpawnerSeen) (runs runs' : ℕ) (keep keep' : KeepSeen)
    (lines lines' : List (Option CleanLineView)) (r : Result (Vec Fate) SendFault) → lines ≡ replicate (length c.drivers) None
    → ChecksPaths object told c' ps' repo repo' (work_seen files (drivers_seen lines spawner runs)) (work_seen files' (drivers_seen lines' mid runs')) keep keep' r → GivesBack lines' mid spawner'
    → ChecksAndLeaves object told c ps repo repo' files files' spawner spawner' runs runs' keep keep' r
checks_leave object told c c' same_cleaning ps ps' same_paths repo repo' files files' spawner mid spawner' runs runs' keep keep' lines lines' r is checks back = record {
  last = work_seen files' (drivers_seen lines' mid runs');
  checks = subst (λ (l : List (Option CleanLineView)). ChecksPaths object told c ps repo repo' (work_seen files (drivers_seen l spawner runs)) (work_seen files' (drivers_seen lines' mid runs')) keep keep' r) is
      (subst (λ (d : Cleaning). ChecksPaths object told d ps repo repo' (work_seen files (drivers_seen lines spawner runs)) (work_seen files' (drivers_seen lines' mid runs')) keep keep' r) same_cleaning
      (subst (λ (l : List CheckinPath). ChecksPaths object told c' l repo repo' (work_seen files (drivers_seen lines spawner runs)) (work_seen files' (drivers_seen lines' mid runs')) keep keep' r) same_paths checks));
  left = record { files_same = refl; back = back; faults = refl };
}
