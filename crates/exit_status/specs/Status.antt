-- The number of a status.
use Rattle.std.specs.Prelude.{ℕ, ◌==◌, Option, Some, None, if◌then◌else◌}
use Rattle.exit_status.specs.declared.status.ExitStatus.{ExitStatus}
use Rattle.exit_status.specs.declared.status.ExitStatus.TheVariants as status

-- the number of a status, which the program ends with
abbrev pub number_of : ExitStatus → ℕ
number_of status.Done = 0
number_of status.DoneWithFailures = 1
number_of status.Usage = 2
number_of status.Refused = 3
number_of status.OutputNotWritten = 4
number_of status.OutOfMemory = 5
number_of status.ReadFault = 6
number_of status.NotEmpty = 7

-- the status with a number, if one has it
abbrev pub status_with : ℕ → Option ExitStatus
status_with number =
    if number == 0 then Some status.Done
    else if number == 1 then Some status.DoneWithFailures
    else if number == 2 then Some status.Usage
    else if number == 3 then Some status.Refused
    else if number == 4 then Some status.OutputNotWritten
    else if number == 5 then Some status.OutOfMemory
    else if number == 6 then Some status.ReadFault
    else if number == 7 then Some status.NotEmpty
    else None
