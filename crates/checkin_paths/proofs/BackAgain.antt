-- A path whose file is as a checkout made it comes back.
use Rattle.std.proofs.Common.{◌≡◌, ℕ, ◌≤◌, ◌<◌, Bool, true, false, List, length, codes, Option, Some, None, Result, Ok, Err, refl, sym, ap, subst, inl, inr, ◌∙◌, arith}
use Rattle.std.specs.Prelude.{◌||◌, ◌==◌, not, nat_lt, if◌then◌else◌}
use Rattle.std.specs.Str.{is_utf8}
use Rattle.edge_kit.specs.Told.{Told, Raw}
use Rattle.sha1.specs.Sha1.{sha1}
use Rattle.git_index.specs.declared.entry.Entry.{Entry}
use Rattle.git_index.specs.declared.entry.Mode.{Mode}
use Rattle.git_index.specs.declared.entry.Mode.TheVariants as mode
use Rattle.attr_stack.specs.declared.files.AttrFiles.{AttrFiles}
use Rattle.settings_view.specs.declared.view.Driver.{Driver}
use Rattle.settings_view.specs.declared.view.Settings.{Settings}
use Rattle.eol_convert.specs.declared.action.Action.{Action}
use Rattle.eol_convert.specs.declared.action.Action.TheVariants.{Binary, TextLf, TextCrlf, AutoLf, AutoCrlf}
use Rattle.tree_encoding.specs.declared.encoding.Encoding.{Encoding}
use Rattle.tree_encoding.specs.declared.encoding.UnknownEncoding.{UnknownEncoding}
use Rattle.convert_plan.specs.declared.conversion.Conversion.{Conversion}
use Rattle.convert_plan.specs.Conversion.{is_set, with_encoding}
use Rattle.tree_encoding.specs.Named.{encoding_of}
use Rattle.eol_convert.specs.Action.{action_of}
use Rattle.convert_plan.specs.Prepared.{prepared}
use Rattle.object_dir.specs.Object.{object_of, stored_content, max_stored, Gives, IsObject}
use Rattle.object_dir.specs.Spelling.{spelled_blob}
use Rattle.object_dir.specs.declared.fault.ObjectFault.{ObjectFault}
use Rattle.object_dir.specs.declared.fault.ObjectFault.TheVariants as object
use Rattle.back_convert.specs.Ends.{has_crlf}
use Rattle.back_convert.specs.Laws.{stored, back_stored, back_encoded_if}
use Rattle.checkout_core.specs.declared.path.Start.{Start}
use Rattle.checkout_core.specs.declared.path.Start.TheVariants as start
use Rattle.checkout_core.specs.declared.verdict.Verdict.TheVariants as verdict
use Rattle.checkout_core.specs.declared.verdict.SkipCause.TheVariants as skip
use Rattle.checkout_plan.specs.declared.path_plan.PathPlan.{PathPlan}
use Rattle.checkout_plan.specs.Paths.{closed, filter_start, converted, file_path, text_path, link_path, path_of_mode, asked_path}
use Rattle.clean_drivers.specs.declared.cause.CleanCause.{CleanCause}
use Rattle.checkin_paths.specs.CleanedFiles.{Asked, cleaned_by, IsCleaned}
use Rattle.checkin_paths.specs.declared.path.PathDriver.{PathDriver}
use Rattle.checkin_paths.specs.declared.path.Storing.{Storing}
use Rattle.checkin_paths.specs.declared.path.Way.{Way}
use Rattle.checkin_paths.specs.declared.path.Way.TheVariants.{Kept, Stored}
use Rattle.checkin_paths.specs.declared.fate.Fate.{Fate}
use Rattle.checkin_paths.specs.declared.fate.Fate.TheVariants.{Same, Changed, Gone, Kept as KeptFate, Failed}
use Rattle.checkin_paths.specs.declared.fate.CheckinCause.TheVariants as cause
use Rattle.checkin_paths.specs.Fates.{max_file, IsWrong, ReadsOld, HasOld, HasFile, IsClean, IsBlobOf, name_of, HasStoredFate, HasFate}
use Rattle.checkin_paths.specs.Paths.{is_kept, state_at, encoded_way, file_way, as_it_is, way_of_mode, way_of}
use Rattle.checkin_paths.proofs.KeptPaths.{is_gitlink, kept_is_left_out}
use Rattle.checkin_paths.specs.Outcomes.{Outcome, HasStoredCounts, HasCounts}
use Rattle.checkin_paths.specs.BackAgain.{tree_file, conversion_of, IsFileOf, ComesBack}

-- what is told of an object has one reading
one_gift : (raw name content other : List ℕ) → object_of raw name ≡ Ok content → Gives (Raw raw) name (Ok other) → other ≡ content
one_gift raw name content other gives (bytes, tells, is) =
    let same : Ok other ≡ Ok content = sym is ∙ ap (λ (b : List ℕ). object_of b name) tells ∙ gives in
    cc

no_fault : (raw name content : List ℕ) (f : ObjectFault) → IsWrong f → object_of raw name ≡ Ok content → IsObject (Raw raw) name (Err f) → ⊥
no_fault raw name content object.Absent wrong gives is = is
no_fault raw name content object.TooLarge wrong gives is = too_long (nat_lt max_stored (length raw)) refl is gives
  where
    too_long : (t : Bool) → nat_lt max_stored (length raw) ≡ t → max_stored < length raw → (if t then Err object.TooLarge else stored_content raw name) ≡ Ok content → ⊥
    too_long true is lt gives = cc
    too_long false is lt gives = grind arith
no_fault raw name content object.Header wrong gives (bytes, tells, is) =
    let same : Err object.Header ≡ Ok content = sym is ∙ ap (λ (b : List ℕ). object_of b name) tells ∙ gives in
    cc
no_fault raw name content object.Size wrong gives (bytes, tells, is) =
    let same : Err object.Size ≡ Ok content = sym is ∙ ap (λ (b : List ℕ). object_of b name) tells ∙ gives in
    cc
no_fault raw name content (object.WrongName found) wrong gives (bytes, tells, is) =
    let same : Err (object.WrongName found) ≡ Ok content = sym is ∙ ap (λ (b : List ℕ). object_of b name) tells ∙ gives in
    cc
no_fault raw name content object.ReadFailed wrong gives is = absurd wrong
no_fault raw name content object.NoMemory wrong gives is = absurd wrong

reads_one : (raw name content : List ℕ) (old : Bool) → object_of raw name ≡ Ok content → ReadsOld (Raw raw) name old → old ≡ has_crlf content
reads_one raw name content old gives (inl (other, is, so)) = so ∙ ap has_crlf (one_gift raw name content other gives is)
reads_one raw name content old gives (inr (f, wrong, is, so)) = absurd (no_fault raw name content f wrong gives is)

-- what the index's content says counts for the two automatic actions alone
stored_so : (ident : Bool) (action : Action) (encoding : Option Encoding) (raw name content bytes : List ℕ) (old : Bool) → object_of raw name ≡ Ok content → HasOld action (Raw raw) name old
    → stored ident action encoding old bytes ≡ stored ident action encoding (has_crlf content) bytes
stored_so ident AutoLf encoding raw name content bytes old gives has = ap (λ (b : Bool). stored ident AutoLf encoding b bytes) (reads_one raw name content old gives has)
stored_so ident AutoCrlf encoding raw name content bytes old gives has = ap (λ (b : Bool). stored ident AutoCrlf encoding b bytes) (reads_one raw name content old gives has)
stored_so ident Binary encoding raw name content bytes old gives has = any (back_encoded_if encoding bytes)
  where
    any : (x : Option (List ℕ)) → back_stored ident Binary old x ≡ back_stored ident Binary (has_crlf content) x
    any None = refl
    any (Some y) = refl
stored_so ident TextLf encoding raw name content bytes old gives has = any (back_encoded_if encoding bytes)
  where
    any : (x : Option (List ℕ)) → back_stored ident TextLf old x ≡ back_stored ident TextLf (has_crlf content) x
    any None = refl
    any (Some y) = refl
stored_so ident TextCrlf encoding raw name content bytes old gives has = any (back_encoded_if encoding bytes)
  where
    any : (x : Option (List ℕ)) → back_stored ident TextCrlf old x ≡ back_stored ident TextCrlf (has_crlf content) x
    any None = refl
    any (Some y) = refl

-- what a file's bytes are cleaned to
clean_is : (d : Option PathDriver) (asked : Option Asked) (made ready bytes taken : List ℕ) (cleaned : Result (List ℕ) CleanCause) → IsFileOf d asked made ready bytes → (d ≡ None → made ≡ ready) → IsCleaned d asked taken cleaned → taken ≡ bytes
    → cleaned ≡ Ok ready
clean_is None None made ready bytes taken cleaned is same clean at = clean ∙ ap (λ (l : List ℕ). Ok l) (at ∙ is ∙ same refl)
clean_is None (Some a) made ready bytes taken cleaned is same clean at = absurd clean
clean_is (Some d) None made ready bytes taken cleaned is same clean at = absurd clean
clean_is (Some d) (Some a) made ready bytes taken cleaned is same clean at = clean.1 ∙ ap (cleaned_by d.required taken) (is a refl)

module _ (name : List ℕ) (storing : Storing) (raw content ready bytes made : List ℕ) (asked : Option Asked) (gives : object_of raw name ≡ Ok content) (within : length bytes ≤ max_file) (is_file : IsFileOf storing.driver asked made ready bytes)
    (same_made : storing.driver ≡ None → made ≡ ready) (back : stored storing.ident storing.action storing.encoding (has_crlf content) ready ≡ Some content) (named : name_of content ≡ name) where
  abbrev clean_now : Type 0
  clean_now = IsClean (Raw raw) (Raw bytes) name storing asked

  cleaned_is : (clean : clean_now) → clean.cleaned ≡ ready
  cleaned_is clean =
      let so : Ok clean.cleaned ≡ Ok ready = clean_is storing.driver asked made ready bytes clean.has.bytes (Ok clean.cleaned) is_file same_made clean.is_cleaned clean.has.tells in
      cc

  no_refusal : (why : CleanCause) (has : HasFile (Raw raw) (Raw bytes) name storing.action) → IsCleaned storing.driver asked has.bytes (Err why) → ⊥
  no_refusal why has clean =
      let so : Err why ≡ Ok ready = clean_is storing.driver asked made ready bytes has.bytes (Err why) is_file same_made clean has.tells in
      cc

  no_form : back_encoded_if storing.encoding ready ≡ None → ⊥
  no_form none =
      let lost : None ≡ Some content = sym (ap (back_stored storing.ident storing.action (has_crlf content)) none) ∙ back in
      cc

  same_content : (other : List ℕ) → IsBlobOf (Raw raw) (Raw bytes) name storing asked other → other ≡ content
  same_content other blob =
      let so : stored storing.ident storing.action storing.encoding blob.clean.has.old blob.clean.cleaned ≡ Some content =
      stored_so storing.ident storing.action storing.encoding raw name content blob.clean.cleaned blob.clean.has.old gives blob.clean.has.has_old
      ∙ ap (stored storing.ident storing.action storing.encoding (has_crlf content)) (cleaned_is blob.clean) ∙ back in
      let same : Some other ≡ Some content = sym blob.is ∙ so in
      cc

  one_fate : (o : Outcome) (other : List ℕ) (fate : Fate) → HasStoredFate (Raw raw) (Raw bytes) name storing asked other fate → HasStoredCounts (Raw raw) (Raw bytes) storing o fate → (fate ≡ Same) × (other ≡ content)
  one_fate o other Same has counts = (refl, same_content other has.0)
  one_fate o other (Changed new) (blob, is, differs) counts = absurd (differs (sym is ∙ ap name_of (same_content other blob) ∙ named))
  one_fate o other Gone has counts = absurd has.0
  one_fate o other KeptFate has counts = absurd has
  one_fate o other (Failed cause.Encoding) has counts = absurd has
  one_fate o other (Failed cause.NoProcess) has counts = absurd has
  one_fate o other (Failed cause.Read) has (inl (may, failed, none)) = absurd may
  one_fate o other (Failed cause.Read) has (inr (there, auto, may, still, blob)) = absurd may
  one_fate o other (Failed cause.OtherKind) has (may, failed, none) = absurd may
  one_fate o other (Failed cause.TooLarge) (long, old, none) counts = absurd (omega (arith, within, long))
  one_fate o other (Failed (cause.Filter why)) (has, clean) counts = absurd (no_refusal why has clean)
  one_fate o other (Failed cause.EncodingForm) (clean, none) counts = absurd (no_form (ap (back_encoded_if storing.encoding) (sym (cleaned_is clean)) ∙ none))

-- what a checkout does with a file that is stored so
file_by : (e : Entry) (begin back : Start) (ident : Bool) (action : Action) (r : Result (Option Encoding) UnknownEncoding) (storing : Storing)
    → encoded_way r back (λ encoding. record { driver = None; ident = ident; action = action; encoding = encoding }) ≡ Stored storing → (converted e begin (with_encoding ident action r)).conversion ≡ conversion_of storing
file_by e begin back ident action (Err u) storing is = cc
file_by e begin (start.Done v) ident action (Ok encoding) storing is = cc
file_by e begin start.Pool ident action (Ok encoding) storing is = let same : record { driver = None; ident = ident; action = action; encoding = encoding } ≡ storing = cc in ap conversion_of same
file_by e begin (start.Desk place required) ident action (Ok encoding) storing is =
    let same : record { driver = Some (record { place = place; required = required }); ident = ident; action = action; encoding = encoding } ≡ storing = cc in ap conversion_of same

module _ (files : AttrFiles) (drivers : List Driver) (settings : Settings) (e : Entry) (storing : Storing) where
  of_file : file_way files drivers settings e ≡ Stored storing → (file_path files settings e).conversion ≡ conversion_of storing
  of_file is =
      file_by e (filter_start settings.drivers (state_at files e (codes "filter"))) (filter_start drivers (state_at files e (codes "filter"))) (is_set (state_at files e (codes "ident")))
      (action_of (state_at files e (codes "text")) (state_at files e (codes "crlf")) (state_at files e (codes "eol")) settings.autocrlf settings.eol)
      (encoding_of (state_at files e (codes "working-tree-encoding"))) storing is

  of_text : is_utf8 e.path ≡ true → file_way files drivers settings e ≡ Stored storing → (text_path files settings e).conversion ≡ conversion_of storing
  of_text text is = rw text (of_file is)

  of_link : is_utf8 e.path ≡ true → Stored as_it_is ≡ Stored storing → (link_path e).conversion ≡ conversion_of storing
  of_link text is = let same : as_it_is ≡ storing = cc in rw text (ap conversion_of same)

  of_open : (sparse intent : Bool) (p : PathPlan) → sparse ≡ false → intent ≡ false → p.conversion ≡ conversion_of storing → (if sparse then closed e (verdict.Skipped skip.Sparse) else if intent then closed e (verdict.Skipped skip.Intent) else p).conversion ≡ conversion_of storing
  of_open true intent p full meant is = cc
  of_open false true p full meant is = cc
  of_open false false p full meant is = is

  of_mode : (m : Mode) → e.sparse ≡ false → e.intent ≡ false → is_utf8 e.path ≡ true → way_of_mode m files drivers settings e ≡ Stored storing → (path_of_mode m files settings e).conversion ≡ conversion_of storing
  of_mode mode.Plain full meant text is = of_open e.sparse e.intent (text_path files settings e) full meant (of_text text is)
  of_mode mode.Executable full meant text is = of_open e.sparse e.intent (text_path files settings e) full meant (of_text text is)
  of_mode mode.Link full meant text is = of_open e.sparse e.intent (link_path e) full meant (of_link text is)
  of_mode mode.Gitlink full meant text is = cc

  -- what an entry is that isn't left out
  all_in : (a b c d text : Bool) → (not a || b || c || d || not text) ≡ false → (a ≡ true) × (c ≡ false) × (d ≡ false) × (text ≡ true)
  all_in true false false false true is = (refl, refl, refl, refl)
  all_in true false false false false is = absurd cc
  all_in true false false true text is = absurd cc
  all_in true false true d text is = absurd cc
  all_in true true c d text is = absurd cc
  all_in false b c d text is = absurd cc

  of_path : way_of files drivers settings e ≡ Stored storing → (asked_path files settings e).conversion ≡ conversion_of storing
  of_path is = at (is_kept files settings e) refl is
    where
      at : (t : Bool) → is_kept files settings e ≡ t → (if t then Kept else way_of_mode e.mode files drivers settings e) ≡ Stored storing → (asked_path files settings e).conversion ≡ conversion_of storing
      at true kept is = absurd cc
      at false kept is =
          let all = all_in (e.stage == 0) (is_gitlink e.mode) e.sparse e.intent (is_utf8 e.path) (sym (kept_is_left_out files settings e) ∙ kept) in
          rw all.0 (of_mode e.mode all.1 all.2 all.3 is)

-- the stored bytes of a content have the name of its object
abbrev HasOneSpelling : List ℕ → List ℕ → Type 0
HasOneSpelling raw name = (content : List ℕ) → object_of raw name ≡ Ok content → (raw ≡ spelled_blob content) × (sha1 raw ≡ name)

-- a path that was checked out and whose content loses nothing comes back
pub comes_back : (storing : Storing) (raw name content : List ℕ) → stored storing.ident storing.action storing.encoding (has_crlf content) (prepared (conversion_of storing) name content).bytes ≡ Some content → HasOneSpelling raw name
    → ComesBack storing raw name content
comes_back storing raw name content back spelled object told files config settings drivers e o named one is out =
    let made : storing.driver ≡ None → (tree_file files settings e content).bytes ≡ (prepared (conversion_of storing) e.name content).bytes =
    λ none. ap (λ (c : Conversion). (prepared c e.name content).bytes) (of_path files drivers settings e storing is.way) in
    let back_e : stored storing.ident storing.action storing.encoding (has_crlf content) (prepared (conversion_of storing) e.name content).bytes ≡ Some content =
    ap (λ (n : List ℕ). stored storing.ident storing.action storing.encoding (has_crlf content) (prepared (conversion_of storing) n content).bytes) named ∙ back in
    let spelling : (raw ≡ spelled_blob content) × (sha1 raw ≡ name) = spelled content (ap (object_of raw) (sym named) ∙ is.gives) in
    let named_e : name_of content ≡ e.name = ap sha1 (sym spelling.0) ∙ spelling.1 ∙ sym named in
    let fate : HasStoredFate (object e.name) (told e.path) e.name storing o.asked o.content o.fate = subst (λ (w : Way). HasFate (object e.name) (told e.path) e.name w o.asked o.content o.fate) is.way out.fate in
    let counts : HasStoredCounts (object e.name) (told e.path) storing o o.fate = subst (λ (w : Way). HasCounts (object e.name) (told e.path) w o) is.way out.counts in
    one_fate e.name storing raw content (prepared (conversion_of storing) e.name content).bytes is.bytes (tree_file files settings e content).bytes o.asked is.gives is.within is.is_file made back_e named_e o o.content o.fate
    (subst (λ (t : Told). HasStoredFate (Raw raw) t e.name storing o.asked o.content o.fate) is.file (subst (λ (t : Told). HasStoredFate t (told e.path) e.name storing o.asked o.content o.fate) is.there fate))
    (subst (λ (t : Told). HasStoredCounts (Raw raw) t storing o o.fate) is.file (subst (λ (t : Told). HasStoredCounts t (told e.path) storing o o.fate) is.there counts))
