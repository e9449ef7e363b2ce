-- A SHA-1 has 20 bytes.
use Rattle.std.proofs.Common.{◌≡◌, ℕ, List, [], ◌∷◌, length, Option, refl, sym, ap, ◌∙◌}
use Rattle.sha1.specs.Sha1.{sha1, digest_bytes}
use Rattle.edge_kit.specs.Told.{Told}
use Rattle.checkin_paths.specs.declared.path.Way.{Way}
use Rattle.checkin_paths.specs.declared.path.Way.TheVariants as way
use Rattle.checkin_paths.specs.declared.path.CheckinPath.{CheckinPath}
use Rattle.checkin_paths.specs.declared.fate.Fate.{Fate}
use Rattle.checkin_paths.specs.declared.fate.Fate.TheVariants.{Same, Changed, Gone, Kept, Failed}
use Rattle.checkin_paths.specs.CleanedFiles.{Asked}
use Rattle.checkin_paths.specs.Fates.{HasFate, name_of}
use Rattle.checkin_paths.specs.Outcomes.{Outcome, AreOutcomes, fates_of}
use Rattle.checkin_engine.specs.KeptIndex.{HasName, HaveNames}

sha1_length : (m : List ℕ) → length (sha1 m) ≡ 20
unfolding digest_bytes sha1
sha1_length m = refl

fate_has_name : (object file : Told) (name : List ℕ) (w : Way) (asked : Option Asked) (content : List ℕ) (fate : Fate) → HasFate object file name w asked content fate → HasName fate
fate_has_name object file name w asked content Same has = tt
fate_has_name object file name w asked content Gone has = tt
fate_has_name object file name w asked content Kept has = tt
fate_has_name object file name w asked content (Failed cause) has = tt
fate_has_name object file name way.Kept asked content (Changed new) has = absurd cc
fate_has_name object file name way.UnknownEncoding asked content (Changed new) has = absurd cc
fate_has_name object file name way.NoProcess asked content (Changed new) has = absurd cc
fate_has_name object file name (way.Stored storing) asked content (Changed new) has = let is : name_of content ≡ new = has.1 in sym (ap (length {A = ℕ}) is) ∙ sha1_length _

-- the fates of outcomes have names
pub fates_have_names : (object files : List ℕ → Told) (ps : List CheckinPath) (os : List Outcome) → AreOutcomes object files ps os → HaveNames (fates_of os)
fates_have_names object files [] [] are = tt
fates_have_names object files (p ∷ ps) [] are = tt
fates_have_names object files [] (o ∷ os) are = absurd are
fates_have_names object files (p ∷ ps) (o ∷ os) are =
    (fate_has_name (object p.object) (files p.path) p.object p.way o.asked o.content o.fate are.0.fate, fates_have_names object files ps os are.1)
