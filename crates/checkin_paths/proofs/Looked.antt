-- What becomes of a path that was looked at, and what is left of it.
use Rattle.std.proofs.Common.{◌≡◌, ◌≢◌, ◌⊎◌, ℕ, Bool, true, false, List, Option, Some, None, refl, sym, ap, subst, inl, inr, ◌∙◌}
use Rattle.std.specs.Prelude.{Result, Ok, Err, IfOk, OnErr, if◌then◌else◌}
use Rattle.std.specs.Global.{Vec}
use Rattle.std.specs.Str.{bytes_eq}
use Rattle.std.proofs.lemmas.Slice.Eq.{bytes_eq-Decides}
use Rattle.edge_kit.specs.Seen.{RepoSeen}
use Rattle.edge_kit.specs.Told.{Told}
use Rattle.back_convert.specs.Encoding.{Explains}
use Rattle.back_convert.specs.declared.encoding.BackFault.{BackFault}
use Rattle.back_convert.specs.declared.encoding.BackFault.TheVariants.{Form}
use Rattle.eol_convert.specs.declared.action.Action.{Action}
use Rattle.back_convert.specs.Laws.{back_encoded_if, back_stored, stored}
use Rattle.clean_drivers.specs.declared.cause.CleanCause.{CleanCause}
use Rattle.clean_drivers.specs.declared.cause.CleanFault.{CleanFault}
use Rattle.clean_drivers.specs.declared.cause.CleanFault.TheVariants as clean
use Rattle.clean_drivers.specs.Drivers.{DriversSeen, Asks}
use Rattle.checkin_paths.specs.declared.path.PathDriver.{PathDriver}
use Rattle.checkin_paths.specs.declared.path.Storing.{Storing}
use Rattle.checkin_paths.specs.declared.path.Way.{Way}
use Rattle.checkin_paths.specs.declared.path.Way.TheVariants as way
use Rattle.checkin_paths.specs.declared.path.CheckinPath.{CheckinPath}
use Rattle.checkin_paths.specs.declared.fate.Fate.{Fate}
use Rattle.checkin_paths.specs.declared.fate.Fate.TheVariants.{Same, Changed, Gone, Kept, Failed}
use Rattle.checkin_paths.specs.declared.fate.CheckinCause.{CheckinCause}
use Rattle.checkin_paths.specs.declared.fate.CheckinCause.TheVariants.{Encoding, NoProcess, Read, OtherKind, TooLarge, Filter, EncodingForm}
use Rattle.checkin_paths.specs.declared.found_file.Found.{Found}
use Rattle.checkin_paths.specs.declared.found_file.Found.TheVariants as find
use Rattle.checkin_paths.specs.declared.look.Looked.{Looked}
use Rattle.checkin_paths.specs.CleanedFiles.{Asked, Cleaning, cleaned_by, IsCleaned, text_at, as_answer, AsksFor, AsksOne, AsksInVain}
use Rattle.checkin_paths.specs.Outside.{WorkSeen, work_seen, FilesSeen, KeepSeen, IsKeepFailed, with_objects}
use Rattle.checkin_paths.specs.Fates.{is_auto, HasFile, IsClean, name_of, HasStoredFate, HasFate, driver_of}
use Rattle.checkin_paths.specs.Outcomes.{Outcome, IsUnfailed, HasStoredCounts, HasCounts, is_of_other_kind, blob_by, with_blob, FailsIf, object_by, looks_at_old, MakesBlob, IsLeftAt}
use Rattle.checkin_paths.specs.Looks.{fate_by, IsFound, Finds, is_other_found, IsStoredSo, IsCleanedFate, ComesTo, Becomes, BecomesNothing, AnswersFor, CleansFile, Looks}
use Rattle.checkin_paths.specs.KeptPaths.{IsPathChecked, IsPathCut, IsPathLeft}
use Rattle.checkin_paths.proofs.Found.{blob_made, no_kind}

-- the fate of a content is that it is the same or changed, by its name
same_by : (name content : List ℕ) (t : Bool) → bytes_eq (name_of content) name ≡ t → Same ≡ (if t then Same else Changed (name_of content)) → name_of content ≡ name
same_by name content true is same = (bytes_eq-Decides (name_of content) name).0 is
same_by name content false is same = absurd cc

changed_name : (name content : List ℕ) (new : List ℕ) (t : Bool) → Changed new ≡ (if t then Same else Changed (name_of content)) → name_of content ≡ new
changed_name name content new true is = absurd cc
changed_name name content new false is = cc

changed_other : (name content new : List ℕ) (t : Bool) → bytes_eq (name_of content) name ≡ t → Changed new ≡ (if t then Same else Changed (name_of content)) → new ≢ name
changed_other name content new true is changed = absurd cc
changed_other name content new false is changed = λ same.
    let named : name_of content ≡ name = changed_name name content new false changed ∙ same in
    let yes : true ≡ false = sym ((bytes_eq-Decides (name_of content) name).1 named) ∙ is in
    cc

no_gone : (content : List ℕ) (t : Bool) → Gone ≡ (if t then Same else Changed (name_of content)) → ⊥
no_gone content true is = cc
no_gone content false is = cc

no_kept : (content : List ℕ) (t : Bool) → Kept ≡ (if t then Same else Changed (name_of content)) → ⊥
no_kept content true is = cc
no_kept content false is = cc

no_failure : (cause : CheckinCause) (content : List ℕ) (t : Bool) → Failed cause ≡ (if t then Same else Changed (name_of content)) → ⊥
no_failure cause content true is = cc
no_failure cause content false is = cc

-- a content that a file is stored as, by the fate that it has
pub stored_is : (name : List ℕ) (storing : Storing) (old : Bool) (bytes content : List ℕ) (fate : Fate) → fate ≡ fate_by name content → stored storing.ident storing.action storing.encoding old bytes ≡ Some content
    → IsStoredSo name storing old bytes content fate
stored_is name storing old bytes content Same fated is = (is, fated)
stored_is name storing old bytes content (Changed new) fated is = (is, fated)
stored_is name storing old bytes content Gone fated is = (is, fated)
stored_is name storing old bytes content Kept fated is = (is, fated)
stored_is name storing old bytes content (Failed Encoding) fated is = (is, fated)
stored_is name storing old bytes content (Failed NoProcess) fated is = (is, fated)
stored_is name storing old bytes content (Failed Read) fated is = (is, fated)
stored_is name storing old bytes content (Failed OtherKind) fated is = (is, fated)
stored_is name storing old bytes content (Failed TooLarge) fated is = (is, fated)
stored_is name storing old bytes content (Failed (Filter why)) fated is = (is, fated)
stored_is name storing old bytes content (Failed EncodingForm) fated is = absurd (no_failure EncodingForm content (bytes_eq (name_of content) name) fated)

none_stored : (ident : Bool) (action : Action) (old : Bool) (text : Option (List ℕ)) → back_stored ident action old text ≡ None → text ≡ None
none_stored ident action old None is = refl
none_stored ident action old (Some text) is = absurd cc

-- a file that isn't in its encoding
pub unstored_is : (name : List ℕ) (storing : Storing) (old : Bool) (bytes content : List ℕ) (fate : Fate) → fate ≡ Failed EncodingForm → stored storing.ident storing.action storing.encoding old bytes ≡ None
    → IsStoredSo name storing old bytes content fate
unstored_is name storing old bytes content fate fated is =
    subst (λ (f : Fate). IsStoredSo name storing old bytes content f) (sym fated) (none_stored storing.ident storing.action old (back_encoded_if storing.encoding bytes) is)

-- a fault that says that the form is wrong
pub no_form : (f : BackFault) (text : Option (List ℕ)) → f ≡ Form → Explains f text → text ≡ None
no_form f text is says = subst (λ (e : BackFault). Explains e text) is says

module _ (object file : Told) (name : List ℕ) (storing : Storing) (asked : Option Asked) where
  -- the fate of a file that is there, by what its bytes were cleaned to
  stored_fate : (content : List ℕ) (fate : Fate) → (clean : IsClean object file name storing asked) → IsStoredSo name storing clean.has.old clean.cleaned content fate → HasStoredFate object file name storing asked content fate
  stored_fate content Same clean (is, fated) = (record { clean = clean; is = is }, same_by name content (bytes_eq (name_of content) name) refl fated)
  stored_fate content (Changed new) clean (is, fated) = (
    record { clean = clean; is = is },
    changed_name name content new (bytes_eq (name_of content) name) fated,
    changed_other name content new (bytes_eq (name_of content) name) refl fated,
  )
  stored_fate content Gone clean (is, fated) = absurd (no_gone content (bytes_eq (name_of content) name) fated)
  stored_fate content Kept clean (is, fated) = absurd (no_kept content (bytes_eq (name_of content) name) fated)
  stored_fate content (Failed Encoding) clean (is, fated) = absurd (no_failure Encoding content (bytes_eq (name_of content) name) fated)
  stored_fate content (Failed NoProcess) clean (is, fated) = absurd (no_failure NoProcess content (bytes_eq (name_of content) name) fated)
  stored_fate content (Failed Read) clean (is, fated) = absurd (no_failure Read content (bytes_eq (name_of content) name) fated)
  stored_fate content (Failed OtherKind) clean (is, fated) = absurd (no_failure OtherKind content (bytes_eq (name_of content) name) fated)
  stored_fate content (Failed TooLarge) clean (is, fated) = absurd (no_failure TooLarge content (bytes_eq (name_of content) name) fated)
  stored_fate content (Failed (Filter why)) clean (is, fated) = absurd (no_failure (Filter why) content (bytes_eq (name_of content) name) fated)
  stored_fate content (Failed EncodingForm) clean is = (clean, is)

  -- its counts then
  stored_counts : (o : Outcome) (old : Bool) (bytes content : List ℕ) (fate : Fate) → IsStoredSo name storing old bytes content fate → IsUnfailed o (blob_by (is_auto storing.action)) → HasStoredCounts object file storing o fate
  stored_counts o old bytes content Same so unfailed = unfailed
  stored_counts o old bytes content (Changed new) so unfailed = unfailed
  stored_counts o old bytes content Gone (is, fated) unfailed = absurd (no_gone content (bytes_eq (name_of content) name) fated)
  stored_counts o old bytes content Kept (is, fated) unfailed = absurd (no_kept content (bytes_eq (name_of content) name) fated)
  stored_counts o old bytes content (Failed Encoding) so unfailed = unfailed
  stored_counts o old bytes content (Failed NoProcess) so unfailed = unfailed
  stored_counts o old bytes content (Failed Read) (is, fated) unfailed = absurd (no_failure Read content (bytes_eq (name_of content) name) fated)
  stored_counts o old bytes content (Failed OtherKind) (is, fated) unfailed = absurd (no_failure OtherKind content (bytes_eq (name_of content) name) fated)
  stored_counts o old bytes content (Failed TooLarge) so unfailed = unfailed
  stored_counts o old bytes content (Failed (Filter why)) so unfailed = unfailed
  stored_counts o old bytes content (Failed EncodingForm) so unfailed = unfailed

  -- a file that was found so has the fate that it comes to
  abbrev Has : Outcome → List ℕ → Fate → Type 0
  Has o content fate = HasStoredFate object file name storing asked content fate × HasStoredCounts object file storing o fate

  found_has : (f : Found) (o : Outcome) (content : List ℕ) (fate : Fate) → IsFound object file name storing.action f o.failed o.blob → ComesTo name storing f asked content fate → Has o content fate
  found_has find.Gone o content fate is (gone, none) = subst (Has o content) (sym gone) ((is.0, none), (is.1, is.2))
  found_has find.Unread o content fate is (unread, none) = subst (Has o content) (sym unread) (none, is)
  found_has find.OtherKind o content fate is (kind, none) = subst (Has o content) (sym kind) (none, is)
  found_has find.TooLarge o content fate is (large, none) = subst (Has o content) (sym large) ((is.0, is.1, none), (is.2, is.3))
  found_has (find.There bytes old) o content fate is (Ok cleaned, is_cleaned, so) = (
    stored_fate content fate (record { has = record { bytes = bytes.items; tells = is.0; within = is.1; old = old; has_old = is.2 }; cleaned = cleaned; is_cleaned = is_cleaned }) so,
    stored_counts o old cleaned content fate so (is.3, is.4),
  )
  found_has (find.There bytes old) o content fate is (Err why, is_cleaned, refused) = subst (Has o content) (sym refused) (
    (record { bytes = bytes.items; tells = is.0; within = is.1; old = old; has_old = is.2 }, is_cleaned),
    (is.3, is.4),
  )

  -- where the files failed, the fate is by the kind just where what was found is
  kind_comes : (f : Found) (failed : Bool) (blob : Option ℕ) (content : List ℕ) (fate : Fate) → IsFound object file name storing.action f failed blob → ComesTo name storing f asked content fate → failed ≡ true → is_other_found f ≡ is_of_other_kind fate
  kind_comes find.Gone failed blob content fate is (gone, none) did = ap is_of_other_kind (sym gone)
  kind_comes find.Unread failed blob content fate is (unread, none) did = ap is_of_other_kind (sym unread)
  kind_comes find.OtherKind failed blob content fate is (kind, none) did = ap is_of_other_kind (sym kind)
  kind_comes find.TooLarge failed blob content fate is (large, none) did = ap is_of_other_kind (sym large)
  kind_comes (find.There bytes old) failed blob content fate is comes did = absurd (cc (sym is.3 ∙ did))

module _ (object told : List ℕ → Told) (c : Cleaning) (p : CheckinPath) (storing : Storing) (by : p.way ≡ way.Stored storing) (repo repo' : RepoSeen) (files files' : FilesSeen) (before after : DriversSeen) where
  -- a path whose file was found, and came to a fate
  pub found_looks : (f : Found) (content : List ℕ) (fate : Fate) → Finds object told p storing.action repo repo' files files' f → Becomes c p storing f before after content fate
      → Looks object told c p repo repo' (work_seen files before) (work_seen files' after) content fate
  found_looks f content fate finds (asked, comes, asks) =
      let o : Outcome = record { fate = fate; asked = asked; content = content; failed = finds.failed; blob = finds.blob } in
      let has = found_has (object p.object) (told p.path) p.object storing asked f o content fate finds.is comes in record {
        outcome = o;
        fated = refl;
        filled = refl;
        looked = record {
          is = record {
            fate = subst (λ (w : Way). HasFate (object p.object) (told p.path) p.object w asked content fate) (sym by) has.0;
            counts = subst (λ (w : Way). HasCounts (object p.object) (told p.path) w o) (sym by) has.1;
          };
          looked = record { back = finds.back; fails = finds.fails; asks = subst (λ (w : Way). AsksOne c p.path (driver_of w) asked before after) (sym by) asks };
          says = λ did. finds.says did ∙ kind_comes (object p.object) (told p.path) p.object storing asked f finds.failed finds.blob content fate finds.is comes did;
        };
      }

-- a driver that was asked, or wasn't, by what the bytes were cleaned to
vain_by : (c : Cleaning) (path : List ℕ) (d : Option PathDriver) (asked : Option Asked) (bytes : List ℕ) (cleaned : Result (List ℕ) CleanCause) (old new : DriversSeen) → IsCleaned d asked bytes cleaned → AsksOne c path d asked old new
    → (new ≡ old) ⊎ AsksInVain c path d bytes old new
vain_by c path None None bytes cleaned old new is asks = inl asks
vain_by c path None (Some a) bytes cleaned old new is asks = absurd is
vain_by c path (Some d) None bytes cleaned old new is asks = absurd is
vain_by c path (Some d) (Some a) bytes cleaned old new is asks = inr (as_answer a.answer, subst (λ (b : List ℕ). AsksFor c path d b old new (as_answer a.answer)) is.0 asks)

module _ (c : Cleaning) (old new : DriversSeen) where
  by_required : (path : List ℕ) (d : PathDriver) (bytes : List ℕ) (required : Bool) (answer : Result (List ℕ) CleanFault) (r : Result (Vec ℕ) CleanFault) → d.required ≡ required → AsksFor c path d bytes old new answer
      → AnswersFor required bytes answer r → CleansFile c path (Some d) bytes old new r
  by_required path d bytes required answer (Err clean.NoMemory) is asks answers = (answer, asks)
  by_required path d bytes required (Ok cleaned) (Ok given) is asks answers =
      record { asked = Some (record { bytes = bytes; answer = Ok cleaned }); is = (refl, ap (λ (l : List ℕ). Ok l) answers); asks = asks }
  by_required path d bytes false (Ok cleaned) (Err (clean.Refused why)) is asks answers = absurd answers
  by_required path d bytes true (Ok cleaned) (Err (clean.Refused why)) is asks answers = absurd answers
  by_required path d bytes false (Err (clean.Refused why)) (Ok given) is asks answers = record {
    asked = Some (record { bytes = bytes; answer = Err why });
    is = (refl, ap (λ (l : List ℕ). Ok l) answers ∙ sym (ap (λ (b : Bool). cleaned_by b bytes (Err why)) is));
    asks = asks;
  }
  by_required path d bytes true (Err (clean.Refused why)) (Ok given) is asks answers = absurd answers
  by_required path d bytes false (Err (clean.Refused why)) (Err (clean.Refused other)) is asks answers = absurd answers
  by_required path d bytes true (Err (clean.Refused why)) (Err (clean.Refused other)) is asks answers = record {
    asked = Some (record { bytes = bytes; answer = Err why });
    is = (refl, ap (λ (w : CleanCause). Err w) answers ∙ sym (ap (λ (b : Bool). cleaned_by b bytes (Err why)) is));
    asks = asks;
  }
  by_required path d bytes false (Err clean.NoMemory) (Ok given) is asks answers = absurd answers
  by_required path d bytes true (Err clean.NoMemory) (Ok given) is asks answers = absurd answers
  by_required path d bytes false (Err clean.NoMemory) (Err (clean.Refused why)) is asks answers = absurd answers
  by_required path d bytes true (Err clean.NoMemory) (Err (clean.Refused why)) is asks answers = absurd answers

  -- what a driver's answer comes to
  pub answer_cleans : (path : List ℕ) (d : PathDriver) (bytes : List ℕ) (answer : Result (List ℕ) CleanFault) (r : Result (Vec ℕ) CleanFault) → AsksFor c path d bytes old new answer → AnswersFor d.required bytes answer r → CleansFile c path (Some d) bytes old new r
  answer_cleans path d bytes answer r asks answers = by_required path d bytes d.required answer r refl asks answers

  -- the same for a call that asked it
  pub asked_cleans : (path : List ℕ) (driver : Option PathDriver) (d : PathDriver) → driver ≡ Some d → (text name content bytes : List ℕ) (answer : Result (List ℕ) CleanFault) (r : Result (Vec ℕ) CleanFault)
      → text ≡ text_at c.drivers d.place → name ≡ path → content ≡ bytes → Asks c.starts c.runs d.place text name content old new answer → AnswersFor d.required bytes answer r → CleansFile c path driver bytes old new r
  asked_cleans path driver d is text name content bytes answer r same_text same_name same_content asks answers =
      subst (λ (x : Option PathDriver). CleansFile c path x bytes old new r) (sym is) (answer_cleans path d bytes answer r
      (subst (λ (t : List ℕ). Asks c.starts c.runs d.place t path bytes old new answer) same_text
      (subst (λ (n : List ℕ). Asks c.starts c.runs d.place text n bytes old new answer) same_name
      (subst (λ (b : List ℕ). Asks c.starts c.runs d.place text name b old new answer) same_content asks))) answers)

  -- what becomes of a file whose bytes were cleaned
  cleaned_becomes : (p : CheckinPath) (storing : Storing) (bytes : Vec ℕ) (o : Bool) (r : Result (Vec ℕ) CleanFault) (content : List ℕ) (fate : Fate) → CleansFile c p.path storing.driver bytes.items old new r
      → IsCleanedFate p.object storing o r content fate → Becomes c p storing (find.There bytes o) old new content fate
  cleaned_becomes p storing bytes o (Ok given) content fate is so = (is.asked, (Ok given.items, is.is, so), is.asks)
  cleaned_becomes p storing bytes o (Err (clean.Refused why)) content fate is so = (is.asked, (Err why, is.is, so), is.asks)
  cleaned_becomes p storing bytes o (Err clean.NoMemory) content fate is so = absurd so

  cleaned_nothing : (p : CheckinPath) (storing : Storing) (bytes : Vec ℕ) (o : Bool) (r : Result (Vec ℕ) CleanFault) → CleansFile c p.path storing.driver bytes.items old new r → BecomesNothing c p storing (find.There bytes o) old new
  cleaned_nothing p storing bytes o (Ok given) is = vain_by c p.path storing.driver is.asked bytes.items (Ok given.items) old new is.is is.asks
  cleaned_nothing p storing bytes o (Err (clean.Refused why)) is = vain_by c p.path storing.driver is.asked bytes.items (Err why) old new is.is is.asks
  cleaned_nothing p storing bytes o (Err clean.NoMemory) is = inr is

  fate_becomes : (E : Type 0) (p : CheckinPath) (storing : Storing) (bytes : Vec ℕ) (o : Bool) (r : Result (Vec ℕ) CleanFault) (x : Result Looked E) → CleansFile c p.path storing.driver bytes.items old new r
      → IfOk x (λ l. IsCleanedFate p.object storing o r l.content.items l.fate) → IfOk x (λ l. Becomes c p storing (find.There bytes o) old new l.content.items l.fate)
  fate_becomes E p storing bytes o r (Ok l) is so = cleaned_becomes p storing bytes o r l.content.items l.fate is so
  fate_becomes E p storing bytes o r (Err e) is so = tt

  fate_nothing : (E : Type 0) (p : CheckinPath) (storing : Storing) (bytes : Vec ℕ) (o : Bool) (r : Result (Vec ℕ) CleanFault) (x : Result Looked E) → CleansFile c p.path storing.driver bytes.items old new r
      → OnErr x (BecomesNothing c p storing (find.There bytes o) old new)
  fate_nothing E p storing bytes o r (Ok l) is = tt
  fate_nothing E p storing bytes o r (Err e) is = cleaned_nothing p storing bytes o r is

  pub there_becomes : (E : Type 0) (p : CheckinPath) (storing : Storing) (f : Found) (bytes : Vec ℕ) (o : Bool) → f ≡ find.There bytes o → (r : Result (Vec ℕ) CleanFault) (x : Result Looked E) → CleansFile c p.path storing.driver bytes.items old new r
      → IfOk x (λ l. IsCleanedFate p.object storing o r l.content.items l.fate) → IfOk x (λ l. Becomes c p storing f old new l.content.items l.fate)
  there_becomes E p storing f bytes o is r x cleans so = subst (λ (y : Found). IfOk x (λ l. Becomes c p storing y old new l.content.items l.fate)) (sym is) (fate_becomes E p storing bytes o r x cleans so)

  pub there_nothing : (E : Type 0) (p : CheckinPath) (storing : Storing) (f : Found) (bytes : Vec ℕ) (o : Bool) → f ≡ find.There bytes o → (r : Result (Vec ℕ) CleanFault) (x : Result Looked E) → CleansFile c p.path storing.driver bytes.items old new r
      → OnErr x (BecomesNothing c p storing f old new)
  there_nothing E p storing f bytes o is r x cleans = subst (λ (y : Found). OnErr x (BecomesNothing c p storing y old new)) (sym is) (fate_nothing E p storing bytes o r x cleans)

-- the files are as they were where they didn't fail
still_by : (failed : Bool) (path : List ℕ) (files files' : FilesSeen) → FailsIf failed path files files' → failed ≡ false → files' ≡ files
still_by true path files files' fails unfailed = absurd cc
still_by false path files files' fails unfailed = fails

-- memory ran out before a driver was asked for a file that is stored
pub left_unasked : (object told : List ℕ → Told) (c : Cleaning) (p : CheckinPath) (storing : Storing) → p.way ≡ way.Stored storing → (repo repo' : RepoSeen) (old : DriversSeen) → MakesBlob (is_auto storing.action) p.object repo repo'
    → IsLeftAt object told c p repo repo' old old
left_unasked object told c p storing by repo repo' old blob = inl (refl, subst (λ (w : Way). MakesBlob (looks_at_old w) p.object repo repo') (sym by) blob)

-- the same for a call that may have ended so
pub unfound_left : (E : Type 0) (object told : List ℕ → Told) (c : Cleaning) (p : CheckinPath) (storing : Storing) → p.way ≡ way.Stored storing → (repo repo' : RepoSeen) (old new : DriversSeen) → new ≡ old → MakesBlob (is_auto storing.action) p.object repo repo'
    → IsLeftAt object told c p repo repo' old new
unfound_left E object told c p storing by repo repo' old new same blob = subst (λ (d : DriversSeen). IsLeftAt object told c p repo repo' old d) (sym same) (left_unasked object told c p storing by repo repo' old blob)

-- memory ran out at a file that is there, once its blob was given back
left_stored : (object told : List ℕ → Told) (c : Cleaning) (p : CheckinPath) (storing : Storing) → p.way ≡ way.Stored storing → (repo repo' : RepoSeen) (old new : DriversSeen)
    → (has : HasFile (object p.object) (told p.path) p.object storing.action) → repo' ≡ with_blob p.object (blob_by (is_auto storing.action)) repo → (new ≡ old) ⊎ AsksInVain c p.path storing.driver has.bytes old new
    → IsLeftAt object told c p repo repo' old new
left_stored object told c p storing by repo repo' old new has back (inl same) =
    subst (λ (d : DriversSeen). IsLeftAt object told c p repo repo' old d) (sym same) (left_unasked object told c p storing by repo repo' old (blob_made p.object (is_auto storing.action) repo repo' back))
left_stored object told c p storing by repo repo' old new has back (inr asks) = inr (record { storing = storing; stores = by; has = has; back = back; asks = asks })

-- where memory ran out behind a file that was found
module _ (object told : List ℕ → Told) (c : Cleaning) (p : CheckinPath) (storing : Storing) (by : p.way ≡ way.Stored storing) (repo repo' : RepoSeen) (files files' : FilesSeen) (before after : DriversSeen) where
  found_still : (f : Found) → Finds object told p storing.action repo repo' files files' f → BecomesNothing c p storing f before after → files' ≡ files
  found_still (find.There bytes old) finds nothing = still_by finds.failed p.path files files' finds.fails finds.is.3
  found_still find.Gone finds nothing = absurd nothing
  found_still find.Unread finds nothing = absurd nothing
  found_still find.OtherKind finds nothing = absurd nothing
  found_still find.TooLarge finds nothing = absurd nothing

  found_left : (f : Found) → Finds object told p storing.action repo repo' files files' f → BecomesNothing c p storing f before after → IsLeftAt object told c p repo repo' before after
  found_left (find.There bytes old) finds nothing =
      left_stored object told c p storing by repo repo' before after
      (record { bytes = bytes.items; tells = finds.is.0; within = finds.is.1; old = old; has_old = finds.is.2 })
      (finds.back ∙ ap (λ (b : Option ℕ). with_blob p.object b repo) finds.is.4) nothing
  found_left find.Gone finds nothing = absurd nothing
  found_left find.Unread finds nothing = absurd nothing
  found_left find.OtherKind finds nothing = absurd nothing
  found_left find.TooLarge finds nothing = absurd nothing

  pub found_leaves : (E : Type 0) (f : Found) (x : Result Looked E) → Finds object told p storing.action repo repo' files files' f → OnErr x (BecomesNothing c p storing f before after)
      → OnErr x (files' ≡ files) × OnErr x (IsLeftAt object told c p repo repo' before after)
  found_leaves E f (Ok l) finds nothing = (tt, tt)
  found_leaves E f (Err e) finds nothing = (found_still f finds nothing, found_left f finds nothing)

  pub found_comes : (E : Type 0) (f : Found) (x : Result Looked E) → Finds object told p storing.action repo repo' files files' f → IfOk x (λ l. Becomes c p storing f before after l.content.items l.fate)
      → IfOk x (λ l. Looks object told c p repo repo' (work_seen files before) (work_seen files' after) l.content.items l.fate)
  found_comes E f (Ok l) finds becomes = found_looks object told c p storing by repo repo' files files' before after f l.content.items l.fate finds becomes
  found_comes E f (Err e) finds becomes = tt

-- a path whose file isn't taken
pub untaken_looks : (object told : List ℕ → Told) (c : Cleaning) (p : CheckinPath) (w : Way) (repo : RepoSeen) (work : WorkSeen) (content : List ℕ) (fate : Fate) → p.way ≡ w → HasFate (object p.object) (told p.path) p.object w None content fate
    → ((o : Outcome) → IsUnfailed o None → HasCounts (object p.object) (told p.path) w o) → Looks object told c p repo repo work work content fate
untaken_looks object told c p w repo work content fate by has counts =
    let o : Outcome = record { fate = fate; asked = None; content = content; failed = false; blob = None } in record {
      outcome = o;
      fated = refl;
      filled = refl;
      looked = record {
        is = record {
          fate = subst (λ (v : Way). HasFate (object p.object) (told p.path) p.object v None content fate) (sym by) has;
          counts = subst (λ (v : Way). HasCounts (object p.object) (told p.path) v o) (sym by) (counts o (refl, refl));
        };
        looked = record { back = refl; fails = refl; asks = refl };
        says = no_kind (is_of_other_kind fate) work.files;
      };
    }

-- the counts of a path that has changed
changed_counts : (object file : Told) (w : Way) (o : Outcome) (name : List ℕ) → HasCounts object file w o → o.fate ≡ Changed name → (auto : Bool) × IsUnfailed o (blob_by auto)
changed_counts object file (way.Stored storing) o name counts is = (is_auto storing.action, subst (λ (f : Fate). HasStoredCounts object file storing o f) is counts)
changed_counts object file way.Kept o name counts is = (false, counts)
changed_counts object file way.UnknownEncoding o name counts is = (false, counts)
changed_counts object file way.NoProcess o name counts is = (false, counts)

-- where memory ran out behind a path that has changed
changed_left : (object told : List ℕ → Told) (c : Cleaning) (p : CheckinPath) (w : Way) (o : Outcome) (name : List ℕ) (repo repo' : RepoSeen) (old new : DriversSeen) → p.way ≡ w
    → HasFate (object p.object) (told p.path) p.object w o.asked o.content (Changed name) → HasCounts (object p.object) (told p.path) w o → o.fate ≡ Changed name → repo' ≡ with_blob p.object o.blob repo
    → AsksOne c p.path (driver_of w) o.asked old new → IsLeftAt object told c p repo repo' old new
changed_left object told c p way.Kept o name repo repo' old new by has counts is back asks = absurd cc
changed_left object told c p way.UnknownEncoding o name repo repo' old new by has counts is back asks = absurd cc
changed_left object told c p way.NoProcess o name repo repo' old new by has counts is back asks = absurd cc
changed_left object told c p (way.Stored storing) o name repo repo' old new by has counts is back asks =
    let unfailed : IsUnfailed o (blob_by (is_auto storing.action)) = subst (λ (f : Fate). HasStoredCounts (object p.object) (told p.path) storing o f) is counts in
    left_stored object told c p storing by repo repo' old new has.0.clean.has (back ∙ ap (λ (b : Option ℕ). with_blob p.object b repo) unfailed.1)
    (vain_by c p.path storing.driver o.asked has.0.clean.has.bytes (Ok has.0.clean.cleaned) old new has.0.clean.is_cleaned asks)

module _ (object told : List ℕ → Told) (c : Cleaning) (p : CheckinPath) (repo repo' : RepoSeen) (work work' : WorkSeen) (keep keep' : KeepSeen) (content : List ℕ) (fate : Fate) (looks : Looks object told c p repo repo' work work' content fate) where
  -- a path that was looked at, and whose object was kept if it has changed
  pub path_checked : keep' ≡ with_objects (object_by fate content) keep → IsPathChecked object told c p repo repo' work work' keep keep' fate
  path_checked kept = record {
    outcome = looks.outcome;
    same = looks.fated;
    looked = looks.looked;
    object_kept = kept ∙ ap (λ (f : Fate). with_objects (object_by f content) keep) (sym looks.fated) ∙ ap (λ (c : List ℕ). with_objects (object_by looks.outcome.fate c) keep) (sym looks.filled);
  }

  -- the keeper failed at it
  pub path_cut : (name : List ℕ) → fate ≡ Changed name → IsKeepFailed keep keep' → IsPathCut object told c p repo repo' work work' keep keep'
  path_cut name is failed = record { outcome = looks.outcome; name = name; changed = looks.fated ∙ is; looked = looks.looked; failed = failed }

  -- memory ran out at it
  pub path_left : (name : List ℕ) → fate ≡ Changed name → keep' ≡ keep → IsPathLeft object told c p repo repo' work work' keep keep'
  path_left name is same =
      let counts = changed_counts (object p.object) (told p.path) p.way looks.outcome name looks.looked.is.counts (looks.fated ∙ is) in record {
        left = changed_left object told c p p.way looks.outcome name repo repo' work.drivers work'.drivers refl
            (subst (λ (f : Fate). HasFate (object p.object) (told p.path) p.object p.way looks.outcome.asked looks.outcome.content f) (looks.fated ∙ is) looks.looked.is.fate) looks.looked.is.counts (looks.fated ∙ is)
            looks.looked.looked.back looks.looked.looked.asks;
        files_same = still_by looks.outcome.failed p.path work.files work'.files looks.looked.looked.fails counts.1.0;
        keep_same = same;
      }
