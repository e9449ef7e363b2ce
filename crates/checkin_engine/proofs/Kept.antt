-- How the keeping of the index ends, from how its calls end.
use Rattle.std.proofs.Common.{append-nil, ◌≡◌, ℕ, List, [], Result, Ok, Err, refl, sym, ap, subst, inl, inr, ◌∙◌}
use Rattle.std.specs.Global.{Vec}
use Rattle.edge_kit.specs.Seen.{RepoSeen}
use Rattle.edge_kit.specs.Starters.{SpawnerSeen}
use Rattle.edge_kit.specs.Told.{Told}
use Rattle.edge_kit.specs.declared.faults.SendFault.{SendFault}
use Rattle.edge_kit.specs.declared.faults.SendFault.TheVariants as send
use Rattle.git_index.specs.declared.entry.Entry.{Entry}
use Rattle.git_index.specs.Spelling.{plain_text}
use Rattle.checkin_paths.specs.declared.path.CheckinPath.{CheckinPath}
use Rattle.checkin_paths.specs.declared.fate.Fate.{Fate}
use Rattle.checkin_paths.specs.Outside.{FilesSeen, WorkSeen, KeepSeen, KeepsIndex}
use Rattle.checkin_paths.specs.CleanedFiles.{Cleaning}
use Rattle.checkin_engine.specs.InTurn.{entries_in_turn}
use Rattle.checkin_paths.specs.Outcomes.{ArePathsChecked, AreBrokenOff}
use Rattle.checkin_paths.specs.KeptPaths.{first_work, ChecksAndLeaves}
use Rattle.checkin_engine.specs.KeptIndex.{KeepsAfter, HaveNames}
use Rattle.checkin_engine.proofs.Names.{fates_have_names}

-- the text of the new index was to be kept
pub index_keeps : (T : Type 0) (text : List ℕ) (es : List Entry) (fates : List Fate) (kept : List Entry) (old new : KeepSeen) (r : Result T SendFault) → kept ≡ entries_in_turn es fates → text ≡ plain_text kept → KeepsIndex text old new r
    → KeepsIndex (plain_text (entries_in_turn es fates)) old new r
index_keeps T text es fates kept old new r are is keeps = subst (λ (t : List ℕ). KeepsIndex {T = T} t old new r) (is ∙ ap plain_text are) keeps

-- the names of the changed objects are such as an entry has
pub checked_names : (object told : List ℕ → Told) (c : Cleaning) (ps : List CheckinPath) (repo repo' : RepoSeen) (work work' : WorkSeen) (keep keep' : KeepSeen) (fates fates' : List Fate) → fates' ≡ fates
    → ArePathsChecked object told c ps repo repo' work work' keep keep' fates → HaveNames fates'
checked_names object told c ps repo repo' work work' keep keep' fates fates' same are = subst HaveNames (are.same ∙ sym same) (fates_have_names object told ps are.outcomes are.each)

-- the look at the paths ended before the index
pub ends_before : (object told : List ℕ → Told) (c : Cleaning) (es : List Entry) (ps : List CheckinPath) (repo repo' : RepoSeen) (files files' : FilesSeen) (spawner spawner' : SpawnerSeen) (runs runs' : ℕ) (keep keep' : KeepSeen) (f : SendFault)
    → ChecksAndLeaves object told c ps repo repo' files files' spawner spawner' runs runs' keep keep' (Err f)
    → KeepsAfter (ChecksAndLeaves object told c ps repo repo' files files' spawner spawner' runs runs' keep) es keep' (Err f)
ends_before object told c es ps repo repo' files files' spawner spawner' runs runs' keep keep' send.Failed is = inl is
ends_before object told c es ps repo repo' files files' spawner spawner' runs runs' keep keep' send.NoMemory is = is

-- memory ran out behind all paths
left_behind_all : (object told : List ℕ → Told) (c : Cleaning) (ps : List CheckinPath) (repo repo' : RepoSeen) (work work' : WorkSeen) (keep keep' : KeepSeen) (fates : List Fate) → ArePathsChecked object told c ps repo repo' work work' keep keep' fates → AreBrokenOff object told c ps repo repo' work work' keep keep'
left_behind_all object told c ps repo repo' work work' keep keep' fates are = record {
  front = ps;
  after = [];
  parts = sym (append-nil ps);
  outcomes = are.outcomes;
  each = are.each;
  mid = repo';
  mid_work = work';
  checked = are.checked;
  next = (refl, refl);
  files_same = refl;
}

-- once all paths were looked at, by the entries and the fates that the call was given
module _ (object told : List ℕ → Told) (c : Cleaning) (es es' : List Entry) (same_entries : es' ≡ es) (ps : List CheckinPath) (repo repo' : RepoSeen) (files files' : FilesSeen) (spawner spawner' : SpawnerSeen) (runs runs' : ℕ) (keep mid : KeepSeen)
    (fates : Vec Fate) (fates' : List Fate) (same_fates : fates' ≡ fates.items) (are : ChecksAndLeaves object told c ps repo repo' files files' spawner spawner' runs runs' keep mid (Ok fates)) where
  abbrev Leaves : KeepSeen → Result (Vec Fate) SendFault → Type 0
  Leaves = ChecksAndLeaves object told c ps repo repo' files files' spawner spawner' runs runs' keep

  index_so : (T : Type 0) (keep' : KeepSeen) (r : Result T SendFault) → KeepsIndex {T = T} (plain_text (entries_in_turn es' fates')) mid keep' r → KeepsIndex {T = T} (plain_text (entries_in_turn es fates.items)) mid keep' r
  index_so T keep' r index = subst (λ (l : List Entry). KeepsIndex {T = T} (plain_text (entries_in_turn l fates.items)) mid keep' r) same_entries
      (subst (λ (l : List Fate). KeepsIndex {T = T} (plain_text (entries_in_turn es' l)) mid keep' r) same_fates index)

  -- the index was kept
  pub all_kept : (T : Type 0) (keep' : KeepSeen) (x : T) → KeepsIndex {T = T} (plain_text (entries_in_turn es' fates')) mid keep' (Ok x) → KeepsAfter Leaves es keep' (Ok fates)
  all_kept T keep' x index = (mid, are, index_so T keep' (Ok x) index)

  -- it wasn't
  pub index_fails : (T : Type 0) (keep' : KeepSeen) (f : SendFault) → KeepsIndex {T = T} (plain_text (entries_in_turn es' fates')) mid keep' (Err f) → KeepsAfter Leaves es keep' (Err f)
  index_fails T keep' send.Failed index = inr (mid, fates, are, index)
  index_fails T keep' send.NoMemory index = record {
    last = are.last;
    checks = subst (λ (k : KeepSeen). AreBrokenOff object told c ps repo repo' (first_work c.drivers files spawner runs) are.last keep k) (sym index)
        (left_behind_all object told c ps repo repo' (first_work c.drivers files spawner runs) are.last keep mid fates.items are.checks);
    left = are.left;
  }
