-- What the filter drivers of a check-in are asked, and what comes of it.
use Rattle.std.specs.Prelude.{◌≡◌, ℕ, Bool, true, false, List, [], Option, Some, None, Result, Ok, Err, slice_get}
use Rattle.edge_kit.specs.Starters.{Starts}
use Rattle.one_shot.specs.Onces.{RunsTold}
use Rattle.settings_view.specs.declared.view.Driver.{Driver}
use Rattle.clean_drivers.specs.declared.cause.CleanCause.{CleanCause}
use Rattle.clean_drivers.specs.declared.cause.CleanFault.{CleanFault}
use Rattle.clean_drivers.specs.declared.cause.CleanFault.TheVariants.{Refused}
use Rattle.clean_drivers.specs.Drivers.{DriversSeen, Asks}
use Rattle.checkin_paths.specs.declared.path.PathDriver.{PathDriver}

-- a driver was asked for a path: the bytes of its file, and what they were cleaned to, or why they were refused
pub record Asked : Type 0 where
  pub bytes : List ℕ
  pub answer : Result (List ℕ) CleanCause

-- a driver that isn't required and refuses bytes leaves them
abbrev pub cleaned_by : Bool → List ℕ → Result (List ℕ) CleanCause → Result (List ℕ) CleanCause
cleaned_by required bytes (Ok cleaned) = Ok cleaned
cleaned_by true bytes (Err why) = Err why
cleaned_by false bytes (Err why) = Ok bytes

-- What the bytes of a file are cleaned to, or why they are refused. Without a driver they stay, and with one it was
-- asked.
abbrev pub IsCleaned : Option PathDriver → Option Asked → List ℕ → Result (List ℕ) CleanCause → Type 0
IsCleaned None None bytes cleaned = cleaned ≡ Ok bytes
IsCleaned (Some d) (Some a) bytes cleaned = (a.bytes ≡ bytes) × (cleaned ≡ cleaned_by d.required bytes a.answer)
IsCleaned None (Some a) bytes cleaned = ⊥
IsCleaned (Some d) None bytes cleaned = ⊥

-- the drivers of the configuration, and what is told of their starts and of single runs
pub record Cleaning : Type 0 where
  pub drivers : List Driver
  pub starts : List ℕ → Starts
  pub runs : RunsTold

abbrev pub cleaning : List Driver → (List ℕ → Starts) → RunsTold → Cleaning
cleaning drivers starts runs = record { drivers = drivers; starts = starts; runs = runs }

-- what runs the driver at a place
abbrev pub text_told : Option (List ℕ) → List ℕ
text_told None = []
text_told (Some text) = text

abbrev pub text_in : Option Driver → List ℕ
text_in None = []
text_in (Some d) = text_told d.process

abbrev pub text_at : List Driver → ℕ → List ℕ
text_at drivers place = text_in (slice_get drivers place)

-- an answer for which there was memory
abbrev pub as_answer : Result (List ℕ) CleanCause → Result (List ℕ) CleanFault
as_answer (Ok cleaned) = Ok cleaned
as_answer (Err why) = Err (Refused why)

-- a driver was asked to clean these bytes for a path
abbrev pub AsksFor : Cleaning → List ℕ → PathDriver → List ℕ → DriversSeen → DriversSeen
    → Result (List ℕ) CleanFault → Type 0
AsksFor c path d bytes old new answer =
    Asks c.starts c.runs d.place (text_at c.drivers d.place) path bytes old new answer

-- the driver of a path was asked, or nothing was
abbrev pub AsksOne : Cleaning → List ℕ → Option PathDriver → Option Asked → DriversSeen → DriversSeen → Type 0
AsksOne c path driver None old new = new ≡ old
AsksOne c path None (Some a) old new = ⊥
AsksOne c path (Some d) (Some a) old new = AsksFor c path d a.bytes old new (as_answer a.answer)

-- the driver of a path was asked to clean these bytes, or nothing was asked, and then memory ran out
abbrev pub AsksInVain : Cleaning → List ℕ → Option PathDriver → List ℕ → DriversSeen → DriversSeen → Type 0
AsksInVain c path None bytes old new = ⊥
AsksInVain c path (Some d) bytes old new =
    (answer : Result (List ℕ) CleanFault) × AsksFor c path d bytes old new answer
