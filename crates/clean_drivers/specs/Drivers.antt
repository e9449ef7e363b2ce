-- The drivers of a check-in, and what each path that one is asked for does to them.
use Rattle.std.specs.Prelude.{◌≡◌, ◌⊎◌, ℕ, ◌+◌, Bool, true, false, List, [], ◌∷◌, ◌++◌, drop, Option, Some, None}
use Rattle.std.specs.Prelude.{Result, Err, slice_get, slice_set}
use Rattle.edge_kit.specs.Starters.{Starts, StarterSeen, SpawnerSeen, new_starter, starter_back}
use Rattle.one_shot.specs.Onces.{RunsTold}
use Rattle.one_shot.specs.Starters.{is_single_run}
use Rattle.clean_drivers.specs.CleanLines.{CleanLineView, line_of, Cleans, Closes}
use Rattle.clean_drivers.specs.declared.cause.CleanFault.{CleanFault}
use Rattle.clean_drivers.specs.declared.cause.CleanFault.TheVariants.{NoMemory}
use Rattle.clean_drivers.specs.Singles.{RunsSingle}

-- the lines of the drivers by their places, and how many questions were asked over them
pub record LinesView : Type 0 where
  pub lines : List (Option CleanLineView)
  pub asked : ℕ

-- The lines of the drivers, by their places: a driver that was asked for no path has none. And what started them, and
-- how often single runs have failed.
pub record DriversSeen : Type 0 where
  pub lines : List (Option CleanLineView)
  pub spawner : SpawnerSeen
  pub faults : ℕ

abbrev pub drivers_seen : List (Option CleanLineView) → SpawnerSeen → ℕ → DriversSeen
drivers_seen lines spawner faults = record { lines = lines; spawner = spawner; faults = faults }

-- the line of a driver: for the first path it is a new one, over a starter for its command
abbrev pub HasLine : (List ℕ → Starts) → List ℕ → Option CleanLineView → SpawnerSeen → SpawnerSeen → CleanLineView
    → Type 0
HasLine starts command None old new line = (new ≡ record old { out = old.out + 1 })
    × (line ≡ line_of (new_starter command (starts command)) None None)
HasLine starts command (Some found) old new line = (new ≡ old) × (line ≡ found)

-- the driver at that place was asked over its line
pub record TalksWith (starts : List ℕ → Starts) (place : ℕ) (command path content : List ℕ) (old new : DriversSeen)
    (answer : Result (List ℕ) CleanFault) : Type 0 where
  pub found : Option CleanLineView
  pub stood : slice_get old.lines place ≡ Some found
  pub line : CleanLineView
  pub has : HasLine starts command found old.spawner new.spawner line
  pub last : CleanLineView
  pub cleans : Cleans path content line last answer
  pub lines : new.lines ≡ slice_set old.lines place (Some last)
  pub faults : new.faults ≡ old.faults

-- there was no memory for a first line, and nothing was asked
abbrev pub IsUnasked : ℕ → DriversSeen → DriversSeen → Result (List ℕ) CleanFault → Type 0
IsUnasked place old new answer = (slice_get old.lines place ≡ Some None) × (answer ≡ Err NoMemory) × (new ≡ old)

-- the driver at that place was asked over its line, or there was no memory for a first one
abbrev pub IsTalk : (List ℕ → Starts) → ℕ → List ℕ → List ℕ → List ℕ → DriversSeen → DriversSeen
    → Result (List ℕ) CleanFault → Type 0
IsTalk starts place text path content old new answer =
    TalksWith starts place text path content old new answer ⊎ IsUnasked place old new answer

-- by whether what runs the driver is a NUL and a command
abbrev pub AsksBy : Bool → (List ℕ → Starts) → RunsTold → ℕ → List ℕ → List ℕ → List ℕ → DriversSeen → DriversSeen
    → Result (List ℕ) CleanFault → Type 0
AsksBy true starts runs place text path content old new answer =
    RunsSingle runs (drop 1 text) path content old.faults new.faults answer
    × (new ≡ record old { faults = new.faults })
AsksBy false starts runs place text path content old new answer =
    IsTalk starts place text path content old new answer

-- the driver at that place was asked to clean a content for a path
abbrev pub Asks : (List ℕ → Starts) → RunsTold → ℕ → List ℕ → List ℕ → List ℕ → DriversSeen → DriversSeen
    → Result (List ℕ) CleanFault → Type 0
Asks starts runs place text path content old new answer =
    AsksBy (is_single_run text) starts runs place text path content old new answer

-- how many lines there are
abbrev pub out_of : Option CleanLineView → ℕ
out_of None = 0
out_of (Some line) = 1

abbrev pub lines_out : List (Option CleanLineView) → ℕ
lines_out [] = 0
lines_out (line ∷ lines) = out_of line + lines_out lines

-- a line was closed, and its starter given back
abbrev pub GivesLine : Option CleanLineView → SpawnerSeen → SpawnerSeen → Type 0
GivesLine None old new = new ≡ old
GivesLine (Some line) old new = (starter : StarterSeen) × Closes line starter × (new.out + 1 ≡ old.out)
    × (new ≡ record old { out = new.out; returned = old.returned ++ starter_back starter ∷ [] })

-- the lines were closed and their starters given back, in order
abbrev pub GivesBack : List (Option CleanLineView) → SpawnerSeen → SpawnerSeen → Type 0
GivesBack [] old new = new ≡ old
GivesBack (line ∷ lines) old new = (mid : SpawnerSeen) × GivesLine line old mid × GivesBack lines mid new
