-- What was read at a path.
use Rattle.std.specs.Prelude.{ℕ, ◌≤◌, length}
use Rattle.checkin_edge.specs.declared.folder_entry.FileRead.{FileRead}
use Rattle.checkin_edge.specs.declared.folder_entry.FileRead.TheVariants as read

-- no more bytes than the limit
abbrev pub IsWithin : ℕ → FileRead → Type 0
IsWithin limit (read.Whole bytes stat) = length bytes.items ≤ limit
IsWithin limit read.TooLong = Unit {0}
IsWithin limit read.Absent = Unit {0}
IsWithin limit read.OtherKind = Unit {0}
