-- The program's words, and what it says of a status.
use Rattle.std.specs.Prelude.{ℕ, ◌==◌, if◌then◌else◌, List, [], codes, slice_get, map, Option, Some}
use Rattle.std.specs.Prelude.{string_bytes, String}
use Rattle.std.specs.Option.{unwrap_or}
use Rattle.std.specs.declared.alloc.Global.{Global}
use Rattle.exit_status.specs.declared.status.ExitStatus.TheVariants.{Usage}
use Rattle.exit_status.specs.Status.{number_of}
use Rattle.program_kit.specs.Words.{message_of}

-- the word with this number, or the empty text if it is missing
abbrev pub word_at : List (String Global) → ℕ → List ℕ
word_at words number = unwrap_or (slice_get (map string_bytes words) number) []

-- what a status says on standard error
abbrev pub message_for : ℕ → Option (List ℕ)
message_for number =
    if number == number_of Usage then Some (codes "usage: REPO TREE checkout|plan|rehearse")
    else message_of number
