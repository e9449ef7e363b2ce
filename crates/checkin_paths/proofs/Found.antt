-- What is found of a path's file.
use Rattle.std.proofs.Common.{◌≡◌, ℕ, ◌≤◌, Bool, true, false, List, [], ◌∷◌, ◌++◌, length, Option, Some, None, refl, sym, ap, subst, inl, inr, ◌∙◌}
use Rattle.std.specs.Prelude.{Result, Ok, Err, IfOk, OnErr}
use Rattle.std.specs.Global.{Vec}
use Rattle.edge_kit.specs.Seen.{RepoSeen}
use Rattle.edge_kit.specs.Told.{Told, Raw, Absent, Failing, Untold, TellsBytes, TellsLong, MayFail, Takes}
use Rattle.edge_kit.specs.declared.faults.TakeFault.{TakeFault}
use Rattle.edge_kit.specs.declared.faults.TakeFault.TheVariants as take
use Rattle.object_dir.specs.Object.{IsObject}
use Rattle.object_dir.specs.declared.fault.ObjectFault.{ObjectFault}
use Rattle.object_dir.specs.declared.fault.ObjectFault.TheVariants as fault
use Rattle.back_convert.specs.Ends.{has_crlf}
use Rattle.eol_convert.specs.declared.action.Action.{Action}
use Rattle.checkout_plan.specs.Seen.{ReturnsObject}
use Rattle.checkin_paths.specs.declared.path.CheckinPath.{CheckinPath}
use Rattle.checkin_paths.specs.declared.found_file.Found.{Found}
use Rattle.checkin_paths.specs.Outside.{LeavesFiles, AreFailedAt, FilesSeen}
use Rattle.checkin_paths.specs.Fates.{max_file, is_auto, IsWrong, IsThere}
use Rattle.checkin_paths.specs.Outcomes.{blob_by, with_blob, with_blobs, MakesBlob}
use Rattle.checkin_paths.specs.Looks.{AnswersCrlf, LooksOld, FindsThere, FindsTaken, IsUnfailedTake, Finds, SaysKind, found_failed}

-- a blob was given back, and nothing else has changed
given_back : (name : List ℕ) (count : ℕ) (old new : RepoSeen) → new ≡ record old { returned = new.returned } → new.returned ≡ old.returned ++ (name, count) ∷ [] → new ≡ with_blobs ((name, count) ∷ []) old
given_back name count old new kept back = kept ∙ ap (λ (l : List (List ℕ × ℕ)). record old { returned = l }) back

pub blob_made : (name : List ℕ) (auto : Bool) (repo repo' : RepoSeen) → repo' ≡ with_blob name (blob_by auto) repo → MakesBlob auto name repo repo'
blob_made name true repo repo' is = inr (refl, is)
blob_made name false repo repo' is = inl is

-- what is found of an object's content, and what memory ran out after
abbrev FindsOld : {E : Type 0} → Told → List ℕ → RepoSeen → RepoSeen → Result (Option Bool) E → Type 0
FindsOld object name old new answer = IfOk answer (LooksOld true object name old new) × OnErr answer (MakesBlob true name old new)

module _ (E : Type 0) (object : Told) (name : List ℕ) (old new : RepoSeen) (kept : new ≡ record old { returned = new.returned }) where
  finds_so : (answer : Result (Option Bool) E) (so : Result (Option Bool) E) → answer ≡ so → FindsOld object name old new so → FindsOld object name old new answer
  finds_so answer so is finds = subst (λ (a : Result (Option Bool) E). FindsOld object name old new a) (sym is) finds

  no_old : (f : ObjectFault) (answer : Result (Option Bool) E) → IsWrong f → IsObject object name (Err f) → new.returned ≡ old.returned ++ (name, 0) ∷ [] → answer ≡ Ok (Some false) → FindsOld object name old new answer
  no_old f answer wrong is back so = finds_so answer (Ok (Some false)) so ((inr (f, wrong, is, refl), given_back name 0 old new kept back), tt)

  -- a look at an object's content, by how its reading ended
  pub old_looks : (content : Result (Vec ℕ) ObjectFault) (answer : Result (Option Bool) E) → IsObject object name content → ReturnsObject name old.returned new.returned content → AnswersCrlf content answer → FindsOld object name old new answer
  old_looks (Ok content) answer is back so = finds_so answer (Ok (Some (has_crlf content.items))) so ((inl (content.items, is, refl), given_back name 0 old new kept back), tt)
  old_looks (Err fault.ReadFailed) answer is (count, risen, back) so = finds_so answer (Ok None) so ((refl, (is, (count, risen, given_back name count old new kept back))), tt)
  old_looks (Err fault.NoMemory) (Ok found) is back never = absurd never
  old_looks (Err fault.NoMemory) (Err e) is (inl same) never = (tt, inl (kept ∙ ap (λ (l : List (List ℕ × ℕ)). record old { returned = l }) same))
  old_looks (Err fault.NoMemory) (Err e) is (inr back) never = (tt, inr (refl, given_back name 0 old new kept back))
  old_looks (Err fault.Absent) answer is back so = no_old fault.Absent answer tt is back so
  old_looks (Err fault.TooLarge) answer is back so = no_old fault.TooLarge answer tt is back so
  old_looks (Err fault.Header) answer is back so = no_old fault.Header answer tt is back so
  old_looks (Err fault.Size) answer is back so = no_old fault.Size answer tt is back so
  old_looks (Err (fault.WrongName found)) answer is back so = no_old (fault.WrongName found) answer tt is back so

-- what a file that was taken tells: its bytes within the limit, or that it has more
abbrev IsTaken : Told → Option (Vec ℕ) → Type 0
IsTaken file None = TellsLong file max_file
IsTaken file (Some bytes) = TellsBytes file bytes.items × (length bytes.items ≤ max_file)

there_long : (file : Told) → TellsLong file max_file → IsThere file
there_long (Raw told) long = (told, refl)
there_long Absent long = absurd long
there_long Failing long = absurd long
there_long Untold long = ([], tt)

there_by : (file : Told) (bytes : Option (Vec ℕ)) → IsTaken file bytes → IsThere file
there_by file None is = there_long file is
there_by file (Some bytes) is = (bytes.items, is.0)

-- where the files didn't fail, nothing is said of a kind
pub no_kind : (kind : Bool) (files : FilesSeen) → SaysKind false kind files
no_kind kind files never = absurd (cc never)

module _ (object told : List ℕ → Told) (p : CheckinPath) (action : Action) (repo repo' : RepoSeen) (files files' : FilesSeen) where
  abbrev finds : Found → Type 0
  finds = Finds object told p action repo repo' files files'

  -- a file that is there
  there_finds : (bytes : Option (Vec ℕ)) (f : Found) → IsTaken (told p.path) bytes → FindsThere (object p.object) p.object action bytes repo repo' f → files' ≡ files → finds f
  there_finds bytes f is (None, (auto, (may, (n, risen, back))), unread) still =
      subst finds (sym unread) (record { failed = false; blob = Some n; is = inr (there_by (told p.path) bytes is, auto, may, refl, (n, risen, refl)); back = back; fails = still; says = no_kind _ files' })
  there_finds None f is (Some old, (has_old, back), so) still =
      subst finds (sym so) (record { failed = false; blob = blob_by (is_auto action); is = (is, (old, has_old), refl, refl); back = back; fails = still; says = no_kind _ files' })
  there_finds (Some bytes) f is (Some old, (has_old, back), so) still =
      subst finds (sym so) (record { failed = false; blob = blob_by (is_auto action); is = (is.0, is.1, has_old, refl, refl); back = back; fails = still; says = no_kind _ files' })

  -- a file that couldn't be taken, by whether that was for its kind
  failed_finds : (kind : Bool) (f : Found) → MayFail (told p.path) → AreFailedAt p.path files files' → kind ≡ files'.by_kind → f ≡ found_failed kind → repo' ≡ repo → finds f
  failed_finds true f may failed by is same =
      subst finds (sym is) (record { failed = true; blob = None; is = (may, refl, refl); back = same; fails = failed; says = λ did. sym by })
  failed_finds false f may failed by is same =
      subst finds (sym is) (record { failed = true; blob = None; is = inl (may, refl, refl); back = same; fails = failed; says = λ did. sym by })

  -- a file that was to be taken, by the answer
  taken_finds : (kind : Bool) (taken : Result (Option (Vec ℕ)) TakeFault) (f : Found) → Takes (told p.path) max_file taken → LeavesFiles p.path files files' taken → kind ≡ files'.by_kind → FindsTaken (object p.object) p.object action taken kind repo repo' f → finds f
  taken_finds kind (Ok (Some bytes)) f takes still by is = there_finds (Some bytes) f takes is still
  taken_finds kind (Ok None) f none still by (gone, same) = subst finds (sym gone) (record { failed = false; blob = None; is = (none, refl, refl); back = same; fails = still; says = no_kind _ files' })
  taken_finds kind (Err take.TooLong) f long still by is = there_finds None f long is still
  taken_finds kind (Err take.Failed) f may failed by (is, same) = failed_finds kind f may failed by is same
  taken_finds kind (Err take.NoMemory) f takes still by is = absurd is

  pub file_finds : (E : Type 0) (path : List ℕ) (kind : Bool) (taken : Result (Option (Vec ℕ)) TakeFault) (r : Result Found E) → path ≡ p.path → Takes (told path) max_file taken → LeavesFiles path files files' taken
      → kind ≡ files'.by_kind → IfOk r (FindsTaken (object p.object) p.object action taken kind repo repo') → IfOk r finds
  file_finds E path kind taken (Ok f) same takes leaves by is = taken_finds kind taken f (subst (λ (q : List ℕ). Takes (told q) max_file taken) same takes) (subst (λ (q : List ℕ). LeavesFiles q files files' taken) same leaves) by is
  file_finds E path kind taken (Err e) same takes leaves by is = tt

-- what holds anyway holds if there is an error
pub on_err : (T E P : Type 0) (r : Result T E) → P → OnErr r P
on_err T E P (Ok x) p = tt
on_err T E P (Err e) p = p

-- where taking didn't fail, the files are as they were
unfailed_take : (path : List ℕ) (files files' : FilesSeen) (taken : Result (Option (Vec ℕ)) TakeFault) → LeavesFiles path files files' taken → IsUnfailedTake taken → files' ≡ files
unfailed_take path files files' (Ok bytes) leaves unfailed = leaves
unfailed_take path files files' (Err take.TooLong) leaves unfailed = leaves
unfailed_take path files files' (Err take.Failed) leaves unfailed = absurd unfailed
unfailed_take path files files' (Err take.NoMemory) leaves unfailed = leaves

-- a file with more bytes than the limit didn't fail
pub unfailed_long : (taken : Result (Option (Vec ℕ)) TakeFault) (f : TakeFault) → taken ≡ Err f → f ≡ take.TooLong → IsUnfailedTake taken
unfailed_long taken f is long = subst IsUnfailedTake (sym (is ∙ ap (λ (e : TakeFault). Err e) long)) tt

pub files_stay : (E : Type 0) (path : List ℕ) (files files' : FilesSeen) (taken : Result (Option (Vec ℕ)) TakeFault) (r : Result Found E) → LeavesFiles path files files' taken → OnErr r (IsUnfailedTake taken) → OnErr r (files' ≡ files)
files_stay E path files files' taken (Ok l) leaves unfailed = tt
files_stay E path files files' taken (Err e) leaves unfailed = unfailed_take path files files' taken leaves unfailed
