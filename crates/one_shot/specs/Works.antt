-- The work of running a command once for each content.
use Rattle.std.specs.Prelude.{◌≡◌, ◌⊎◌, ℕ, ◌≤◌, ◌&&◌, nat_le, true, false, List, length}
use Rattle.std.specs.Prelude.{Option, Some, None, if◌then◌else◌}
use Rattle.edge_kit.specs.Faults.{Rose}
use Rattle.edge_kit.specs.Links.{Replies}
use Rattle.driver_host.specs.declared.work.Choice.{Choice}
use Rattle.driver_host.specs.declared.work.Choice.TheVariants as choice
use Rattle.driver_host.specs.declared.work.LateChoice.TheVariants as late
use Rattle.driver_host.specs.Works.{WorkTold}
use Rattle.one_shot.specs.Commands.{once_command}
use Rattle.one_shot.specs.Onces.{OnceTold, Ended, Failing, Untold, RunsTold, RunsUntold, RunsListed, told_of}
use Rattle.one_shot.specs.Onces.{TellsEnd, TellsLong, MayFail}

-- how many bytes an output may have
abbrev pub most_output : ℕ
most_output = 536000000

-- a content is given if the run ended well with no more bytes than that, and refused if not
abbrev pub choice_told : OnceTold → Option Choice
choice_told (Ended output zero) =
    Some (if zero && nat_le (length output) most_output then choice.Give output else choice.Refuse)
choice_told Failing = Some choice.Refuse
choice_told Untold = None

-- the runs of a command, if they are told
abbrev pub runs_of : RunsTold → List ℕ → Option Replies
runs_of RunsUntold command = None
runs_of (RunsListed runs) command = Some (record { command = command; runs = runs })

-- the first choice by what is told of the run; a second one is always refused
abbrev pub work_told : RunsTold → List ℕ → WorkTold
work_told told command = record {
  first = λ path content can_delay. choice_told (told_of told (once_command command path) content);
  second = λ path content. Some late.Refuse;
  runs = runs_of told command;
}

-- the output of a run that ended well was given, or it was refused since the exit status wasn't 0, the output was too
-- long, or the run failed
abbrev pub IsChosen : OnceTold → ℕ → ℕ → Choice → Type 0
IsChosen told before after (choice.Give output) =
    TellsEnd told (record { output = output; zero = true }) × (length output ≤ most_output) × (after ≡ before)
IsChosen told before after choice.Refuse =
    ((output : List ℕ) × TellsEnd told (record { output = output; zero = false }) × (after ≡ before))
    ⊎ (TellsLong told most_output × (after ≡ before))
    ⊎ (MayFail told × Rose before after)
IsChosen told before after c = ⊥
