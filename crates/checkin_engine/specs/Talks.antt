-- The talks of a check-in: what the starters of the drivers kept, by the paths that each driver was asked for.
use Rattle.std.specs.Prelude.{◌≡◌, ℕ, ◌+◌, ◌==◌, Bool, true, false, List, [], ◌∷◌, ◌++◌, Option, Some}
use Rattle.std.specs.Prelude.{if◌then◌else◌}
use Rattle.edge_kit.specs.Starters.{Had, SpawnerSeen}
use Rattle.one_shot.specs.Starters.{is_single_run}
use Rattle.settings_view.specs.declared.view.Driver.{Driver}
use Rattle.clean_drivers.specs.CleanTalks.{Turn, IsCleanTalk}
use Rattle.checkin_paths.specs.declared.path.PathDriver.{PathDriver}
use Rattle.checkin_paths.specs.declared.path.CheckinPath.{CheckinPath}
use Rattle.checkin_paths.specs.CleanedFiles.{Asked, as_answer, text_in}
use Rattle.checkin_paths.specs.Fates.{driver_of}
use Rattle.checkin_paths.specs.Outcomes.{Outcome}

-- the turn of a path, if its driver is the one at this place and was asked: the bytes of its file, and the answer
abbrev pub turn_of : ℕ → List ℕ → Option PathDriver → Option Asked → List Turn
turn_of place path (Some d) (Some a) =
    if d.place == place then record { path = path; content = a.bytes; answer = as_answer a.answer } ∷ [] else []
turn_of place path driver asked = []

-- the turns of the driver at this place, in the order of the paths
abbrev pub turns_of : ℕ → List CheckinPath → List Outcome → List Turn
turns_of place (p ∷ ps) (o ∷ os) = turn_of place p.path (driver_of p.way) o.asked ++ turns_of place ps os
turns_of place ps os = []

-- A driver with these turns gave its starter back before the rest: what came of its starts is a talk with the turns.
-- One that runs once for each content, or had no turn, has no starter.
abbrev pub GivesTalk : Bool → List ℕ → List Turn → List (List ℕ × List Had) → (List (List ℕ × List Had) → Type 0)
    → Type 0
GivesTalk true text turns backs Rest = Rest backs
GivesTalk false text [] backs Rest = Rest backs
GivesTalk false text (t ∷ ts) [] Rest = ⊥
GivesTalk false text (t ∷ ts) ((command, had) ∷ backs) Rest =
    (command ≡ text) × IsCleanTalk had (t ∷ ts) × Rest backs

-- the same for the drivers from this place on, in order
abbrev pub GiveTalks : List CheckinPath → List Outcome → ℕ → List Driver → List (List ℕ × List Had) → Type 0
GiveTalks ps os place [] backs = backs ≡ []
GiveTalks ps os place (d ∷ ds) backs = GivesTalk (is_single_run (text_in (Some d))) (text_in (Some d))
    (turns_of place ps os) backs (λ rest. GiveTalks ps os (place + 1) ds rest)

-- these starters were given back, one for each driver that had a talk
pub record HaveTalks (drivers : List Driver) (ps : List CheckinPath) (os : List Outcome) (old new : SpawnerSeen)
    : Type 0 where
  pub backs : List (List ℕ × List Had)
  pub returned : new.returned ≡ old.returned ++ backs
  pub talks : GiveTalks ps os 0 drivers backs
