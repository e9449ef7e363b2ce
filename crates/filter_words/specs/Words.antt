-- Lines of a key list, and the words in them: gitattributes(5), "Long Running Filter Process".
use Rattle.std.specs.Prelude.{ℕ, ◌+◌, ◌-◌, ◌==◌, if◌then◌else◌, Option, Some, None, List, [], ◌∷◌, length, take, drop}
use Rattle.std.specs.Prelude.{codes, nat_eq, position}
use Rattle.std.specs.List.{ends_with}
use Rattle.std.specs.Str.{bytes_eq}
use Rattle.filter_words.specs.declared.words.Status.{Status}
use Rattle.filter_words.specs.declared.words.Status.TheVariants.{Success, Error, Abort, Delayed, Other}

-- a line without the one LF at its end
abbrev pub without_lf : List ℕ → List ℕ
without_lf line = if ends_with nat_eq line (10 ∷ []) then take (length line - 1) line else line

-- what comes before a place and after it
abbrev pub cut_at : Option ℕ → List ℕ → Option (List ℕ × List ℕ)
cut_at None text = None
cut_at (Some place) text = Some (take place text, drop (place + 1) text)

-- a line without its LF, cut at its first `=`
abbrev pub key_and_value : List ℕ → Option (List ℕ × List ℕ)
key_and_value line = cut_at (position (λ b. b == 61) (without_lf line)) (without_lf line)

abbrev pub value_with : List ℕ → Option (List ℕ × List ℕ) → Option (List ℕ)
value_with key None = None
value_with key (Some pair) = if bytes_eq pair.0 key then Some pair.1 else None

-- the value of a line with this key
abbrev pub value_of : List ℕ → List ℕ → Option (List ℕ)
value_of key line = value_with key (key_and_value line)

abbrev pub status_value : List ℕ → Status
status_value value =
    if bytes_eq value (codes "success") then Success
    else if bytes_eq value (codes "error") then Error
    else if bytes_eq value (codes "abort") then Abort
    else if bytes_eq value (codes "delayed") then Delayed
    else Other

abbrev pub status_or : Option Status → Option (List ℕ) → Option Status
status_or before None = before
status_or before (Some value) = Some (status_value value)

-- the status after one more line of a key list: a line without `=` and one with another key are ignored
abbrev pub status_after : Option Status → List ℕ → Option Status
status_after before line = status_or before (value_of (codes "status") line)

-- the last `status=` line gives the status
abbrev pub last_status : Option Status → List (List ℕ) → Option Status
last_status before [] = before
last_status before (line ∷ lines) = last_status (status_after before line) lines
