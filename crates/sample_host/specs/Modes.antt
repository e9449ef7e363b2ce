-- What the program is told to do.
use Rattle.std.specs.Prelude.{ℕ, List, Bool, true, false, if◌then◌else◌, Option, Some, None}
use Rattle.std.specs.Prelude.{codes}
use Rattle.std.specs.Str.{bytes_eq}
use Rattle.filter_words.specs.declared.reply.Caps.{Caps}

-- to smudge, and to delay or not
abbrev pub smudges : Bool → Caps
smudges delay = record { smudge = true; delay = delay }

-- what is announced under this argument, if it is one
abbrev pub caps_named : List ℕ → Option Caps
caps_named word =
    if bytes_eq word (codes "upper") then Some (smudges false)
    else if bytes_eq word (codes "late") then Some (smudges true)
    else None
