-- The same files are cleaned from the same bytes.
use Rattle.std.proofs.Common.{◌≡◌, ◌≤◌, ◌⊎◌, ℕ, List, [], ◌∷◌, length, Option, Some, None, Result, Ok, Err, refl, sym, ap, subst, inl, inr, ◌∙◌, arith}
use Rattle.edge_kit.specs.Told.{Told, Raw, Absent, Failing, Untold, MayFail, TellsBytes}
use Rattle.clean_drivers.specs.declared.cause.CleanCause.{CleanCause}
use Rattle.checkin_paths.specs.declared.path.CheckinPath.{CheckinPath}
use Rattle.checkin_paths.specs.declared.path.PathDriver.{PathDriver}
use Rattle.checkin_paths.specs.declared.path.Storing.{Storing}
use Rattle.checkin_paths.specs.declared.path.Way.{Way}
use Rattle.checkin_paths.specs.declared.path.Way.TheVariants as way
use Rattle.checkin_paths.specs.declared.fate.Fate.{Fate}
use Rattle.checkin_paths.specs.declared.fate.Fate.TheVariants.{Same, Changed, Gone, Kept, Failed}
use Rattle.checkin_paths.specs.declared.fate.CheckinCause.TheVariants.{Encoding, NoProcess, Read, TooLarge, Filter}
use Rattle.checkin_paths.specs.declared.fate.CheckinCause.TheVariants.{EncodingForm, OtherKind}
use Rattle.checkin_paths.specs.CleanedFiles.{Asked, IsCleaned}
use Rattle.checkin_paths.specs.Fates.{max_file, HasFile, HasStoredFate, HasFate}
use Rattle.checkin_paths.specs.Outcomes.{Outcome, HasStoredCounts, HasCounts, IsUnread, AreOutcomes}
use Rattle.checkin_engine.specs.EqualTurns.{IsAskedAlike, AreAlike, IsAllTold, SameFilesAskAlike}

told_bytes : (file : Told) → (MayFail file → ⊥) → (bytes : List ℕ) → TellsBytes file bytes → file ≡ Raw bytes
told_bytes (Raw told) ready bytes is = ap Raw (sym is)
told_bytes Absent ready bytes is = absurd is
told_bytes Failing ready bytes is = absurd is
told_bytes Untold ready bytes is = absurd (ready tt)

-- the driver wasn't asked, and there are no bytes that it could be asked for
record IsSilent (file : Told) (asked : Option Asked) : Type 0 where
  is_none : asked ≡ None
  never : (bytes : List ℕ) → file ≡ Raw bytes → length bytes ≤ max_file → ⊥

-- it was asked, for the bytes of the file
record IsSpoken (file : Told) (asked : Option Asked) : Type 0 where
  bytes : List ℕ
  told : file ≡ Raw bytes
  within : length bytes ≤ max_file
  a : Asked
  is : asked ≡ Some a
  of : a.bytes ≡ bytes

unasked : (asked : Option Asked) (bytes : List ℕ) (r : Result (List ℕ) CleanCause) → IsCleaned None asked bytes r → asked ≡ None
unasked None bytes r is = refl
unasked (Some a) bytes r is = absurd is

same_raw : (a b : List ℕ) → Raw a ≡ Raw b → a ≡ b
same_raw a b is = cc is

module _ (file : Told) (ready : MayFail file → ⊥) (object : Told) (whole : MayFail object → ⊥) (name : List ℕ) (storing : Storing) (o : Outcome) (asked : Option Asked) (content : List ℕ) where
  spoken_by : (d : PathDriver) (asked : Option Asked) (has : HasFile object file name storing.action) (r : Result (List ℕ) CleanCause) → IsCleaned (Some d) asked has.bytes r → IsSpoken file asked
  spoken_by d None has r is = absurd is
  spoken_by d (Some a) has r is = record { bytes = has.bytes; told = told_bytes file ready has.bytes has.tells; within = has.within; a = a; is = refl; of = is.0 }

  unread : IsUnread object file storing.action o.failed o.blob → ⊥
  unread (inl failed) = ready failed.0
  unread (inr failed) = whole failed.2

  gone : (bytes : List ℕ) → file ≡ Raw bytes → HasStoredFate object file name storing asked content Gone → ⊥
  gone bytes told is = subst (λ (f : Told). HasStoredFate object f name storing asked content Gone → ⊥) (sym told) (λ never. absurd never.0) is

  large : (bytes : List ℕ) → file ≡ Raw bytes → length bytes ≤ max_file → HasStoredFate object file name storing asked content (Failed TooLarge) → ⊥
  large bytes told within is = subst (λ (f : Told). HasStoredFate object f name storing asked content (Failed TooLarge) → ⊥) (sym told) (λ never. omega (arith, within, never.0)) is

  -- with a driver
  speaks : (d : PathDriver) → storing.driver ≡ Some d → (fate : Fate) → HasStoredFate object file name storing asked content fate → HasStoredCounts object file storing o fate → IsSilent file asked ⊎ IsSpoken file asked
  speaks d by Same is counts = inr (spoken_by d asked is.0.clean.has _ (subst (λ (x : Option PathDriver). IsCleaned x asked is.0.clean.has.bytes (Ok is.0.clean.cleaned)) by is.0.clean.is_cleaned))
  speaks d by (Changed new) is counts = inr (spoken_by d asked is.0.clean.has _ (subst (λ (x : Option PathDriver). IsCleaned x asked is.0.clean.has.bytes (Ok is.0.clean.cleaned)) by is.0.clean.is_cleaned))
  speaks d by Gone is counts = inl (record { is_none = is.1; never = λ bytes told within. gone bytes told is })
  speaks d by Kept is counts = absurd is
  speaks d by (Failed Encoding) is counts = absurd is
  speaks d by (Failed NoProcess) is counts = absurd is
  speaks d by (Failed Read) is counts = absurd (unread counts)
  speaks d by (Failed OtherKind) is counts = absurd (ready counts.0)
  speaks d by (Failed TooLarge) is counts = inl (record { is_none = is.2; never = λ bytes told within. large bytes told within is })
  speaks d by (Failed (Filter why)) is counts = inr (spoken_by d asked is.0 _ (subst (λ (x : Option PathDriver). IsCleaned x asked is.0.bytes (Err why)) by is.1))
  speaks d by (Failed EncodingForm) is counts = inr (spoken_by d asked is.0.has _ (subst (λ (x : Option PathDriver). IsCleaned x asked is.0.has.bytes (Ok is.0.cleaned)) by is.0.is_cleaned))

  -- without one
  unspoken : storing.driver ≡ None → (fate : Fate) → HasStoredFate object file name storing asked content fate → asked ≡ None
  unspoken by Same is = unasked asked is.0.clean.has.bytes _ (subst (λ (x : Option PathDriver). IsCleaned x asked is.0.clean.has.bytes (Ok is.0.clean.cleaned)) by is.0.clean.is_cleaned)
  unspoken by (Changed new) is = unasked asked is.0.clean.has.bytes _ (subst (λ (x : Option PathDriver). IsCleaned x asked is.0.clean.has.bytes (Ok is.0.clean.cleaned)) by is.0.clean.is_cleaned)
  unspoken by Gone is = is.1
  unspoken by Kept is = absurd is
  unspoken by (Failed Encoding) is = absurd is
  unspoken by (Failed NoProcess) is = absurd is
  unspoken by (Failed Read) is = is
  unspoken by (Failed OtherKind) is = is
  unspoken by (Failed TooLarge) is = is.2
  unspoken by (Failed (Filter why)) is = unasked asked is.0.bytes _ (subst (λ (x : Option PathDriver). IsCleaned x asked is.0.bytes (Err why)) by is.1)
  unspoken by (Failed EncodingForm) is = unasked asked is.0.has.bytes _ (subst (λ (x : Option PathDriver). IsCleaned x asked is.0.has.bytes (Ok is.0.cleaned)) by is.0.is_cleaned)

none_alike : (asked also : Option Asked) → asked ≡ None → also ≡ None → IsAskedAlike asked also
none_alike asked also one other = subst (λ (x : Option Asked). IsAskedAlike x also) (sym one) (subst (λ (x : Option Asked). IsAskedAlike None x) (sym other) tt)

alike_by : (file : Told) (asked also : Option Asked) → IsSilent file asked ⊎ IsSpoken file asked → IsSilent file also ⊎ IsSpoken file also → IsAskedAlike asked also
alike_by file asked also (inl one) (inl other) = none_alike asked also one.is_none other.is_none
alike_by file asked also (inl one) (inr other) = absurd (one.never other.bytes other.told other.within)
alike_by file asked also (inr one) (inl other) = absurd (other.never one.bytes one.told one.within)
alike_by file asked also (inr one) (inr other) =
    let same : one.bytes ≡ other.bytes = same_raw one.bytes other.bytes (sym one.told ∙ other.told) in
    subst (λ (x : Option Asked). IsAskedAlike x also) (sym one.is) (subst (λ (x : Option Asked). IsAskedAlike (Some one.a) x) (sym other.is) (one.of ∙ same ∙ sym other.of))

module _ (file : Told) (ready : MayFail file → ⊥) (object other : Told) (whole : MayFail object → ⊥) (sound : MayFail other → ⊥) (name : List ℕ) (o u : Outcome) where
  stored_alike : (storing : Storing) (driver : Option PathDriver) → storing.driver ≡ driver → HasStoredFate object file name storing o.asked o.content o.fate → HasStoredCounts object file storing o o.fate
      → HasStoredFate other file name storing u.asked u.content u.fate → HasStoredCounts other file storing u u.fate → IsAskedAlike o.asked u.asked
  stored_alike storing None by is counts so also = none_alike o.asked u.asked (unspoken file ready object whole name storing o o.asked o.content by o.fate is) (unspoken file ready other sound name storing u u.asked u.content by u.fate so)
  stored_alike storing (Some d) by is counts so also =
      alike_by file o.asked u.asked (speaks file ready object whole name storing o o.asked o.content d by o.fate is counts) (speaks file ready other sound name storing u u.asked u.content d by u.fate so also)

  way_alike : (w : Way) → HasFate object file name w o.asked o.content o.fate → HasCounts object file w o → HasFate other file name w u.asked u.content u.fate → HasCounts other file w u → IsAskedAlike o.asked u.asked
  way_alike (way.Stored storing) is counts so also = stored_alike storing storing.driver refl is counts so also
  way_alike way.Kept is counts so also = none_alike o.asked u.asked is.1 so.1
  way_alike way.UnknownEncoding is counts so also = none_alike o.asked u.asked is.1 so.1
  way_alike way.NoProcess is counts so also = none_alike o.asked u.asked is.1 so.1

all_alike : (files object other : List ℕ → Told) → IsAllTold files → IsAllTold object → IsAllTold other → (ps : List CheckinPath) (os us : List Outcome) → AreOutcomes object files ps os → AreOutcomes other files ps us → AreAlike os us
all_alike files object other ready whole sound [] [] [] are so = tt
all_alike files object other ready whole sound [] [] (u ∷ us) are so = absurd so
all_alike files object other ready whole sound [] (o ∷ os) us are so = absurd are
all_alike files object other ready whole sound (p ∷ ps) [] us are so = absurd are
all_alike files object other ready whole sound (p ∷ ps) (o ∷ os) [] are so = absurd so
all_alike files object other ready whole sound (p ∷ ps) (o ∷ os) (u ∷ us) are so = (
  way_alike (files p.path) (ready p.path) (object p.object) (other p.object) (whole p.object) (sound p.object) p.object o u p.way are.0.fate are.0.counts so.0.fate so.0.counts,
  all_alike files object other ready whole sound ps os us are.1 so.1,
)

pub same_files_ask_alike : SameFilesAskAlike
same_files_ask_alike told other old new past now a b have =
    all_alike told.files told.repo.object other.repo.object have.ready have.objects have.others a.paths a.checked.outcomes b.checked.outcomes a.checked.each
    (subst (λ (f : List ℕ → Told). AreOutcomes other.repo.object f a.paths b.checked.outcomes) (sym have.files)
    (subst (λ (ps : List CheckinPath). AreOutcomes other.repo.object other.files ps b.checked.outcomes) (sym have.paths) b.checked.each))
