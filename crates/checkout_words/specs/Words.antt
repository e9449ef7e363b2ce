-- The words after the program's name, and the command that they give.
use Rattle.std.specs.Prelude.{Bool, false, ◌||◌}
use Rattle.std.specs.Prelude.{ℕ, ◌-◌, ◌^◌, nat_le, List, [], ◌∷◌, take, drop, codes, Option, Some, None}
use Rattle.std.specs.Prelude.{Result, Ok, Err, ◌≡◌, if◌then◌else◌}
use Rattle.std.specs.Str.{bytes_eq}
use Rattle.byte_path.specs.Decimal.{decimal_within}
use Rattle.checkout_words.specs.declared.Command.{Command}
use Rattle.checkout_words.specs.declared.Command.TheVariants.{Checkout, Plan, Rehearse}
use Rattle.checkout_words.specs.declared.WordFault.{WordFault}
use Rattle.checkout_words.specs.declared.WordFault.TheVariants.{Usage, NoMemory}

-- a number of workers that is at least 1
abbrev pub with_workers : Option ℕ → Option Command
with_workers None = None
with_workers (Some n) = if nat_le 1 n then Some (Checkout (Some n)) else None

-- a checkout with the workers of a text: a decimal from 1 to 16
abbrev pub workers_command : List ℕ → Option Command
workers_command text = with_workers (decimal_within text 16)

-- no words, `--workers=N`, or `--workers` and N
abbrev pub checkout_command : List (List ℕ) → Option Command
checkout_command [] = Some (Checkout None)
checkout_command (word ∷ []) =
    if bytes_eq (take 10 word) (codes "--workers=") then workers_command (drop 10 word) else None
checkout_command (word ∷ number ∷ []) = if bytes_eq word (codes "--workers") then workers_command number else None
checkout_command (word ∷ number ∷ other ∷ more) = None

-- no words
abbrev pub plan_command : List (List ℕ) → Option Command
plan_command [] = Some Plan
plan_command (word ∷ more) = None

abbrev pub with_numbers : Option ℕ → Option ℕ → Option Command
with_numbers None paths = None
with_numbers (Some seed) None = None
with_numbers (Some seed) (Some paths) = Some (Rehearse seed paths)

-- SEED, a decimal up to 2^64 - 1, and PATHS, a decimal up to 99,999
abbrev pub rehearse_command : List (List ℕ) → Option Command
rehearse_command [] = None
rehearse_command (seed ∷ []) = None
rehearse_command (seed ∷ paths ∷ []) = with_numbers (decimal_within seed (2 ^ 64 - 1)) (decimal_within paths 99999)
rehearse_command (seed ∷ paths ∷ other ∷ more) = None

-- a command's name and its tail
abbrev pub named_command : List ℕ → List (List ℕ) → Option Command
named_command name tail =
    if bytes_eq name (codes "checkout") then checkout_command tail
    else if bytes_eq name (codes "plan") then plan_command tail
    else if bytes_eq name (codes "rehearse") then rehearse_command tail
    else None

-- REPO and TREE, which may be any text, a command's name and its tail
abbrev pub command_of : List (List ℕ) → Option Command
command_of [] = None
command_of (repo ∷ []) = None
command_of (repo ∷ tree ∷ []) = None
command_of (repo ∷ tree ∷ name ∷ tail) = named_command name tail

-- whether a command has this name, and whether words name a command
abbrev pub is_command_name : List ℕ → Bool
is_command_name name =
    bytes_eq name (codes "checkout") || bytes_eq name (codes "plan") || bytes_eq name (codes "rehearse")

abbrev pub names_command : List (List ℕ) → Bool
names_command [] = false
names_command (repo ∷ []) = false
names_command (repo ∷ tree ∷ []) = false
names_command (repo ∷ tree ∷ name ∷ tail) = is_command_name name

-- what words are read as: their command, or Usage if they give none, or out of memory
abbrev pub Reads : Option Command → Result Command WordFault → Type 0
Reads command (Ok c) = command ≡ Some c
Reads command (Err Usage) = command ≡ None
Reads command (Err NoMemory) = Unit {0}
