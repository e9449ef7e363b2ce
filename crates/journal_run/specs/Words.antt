-- The words that ask for a journal, or for the audit of one.
use Rattle.std.specs.Prelude.{ℕ, ◌-◌, ◌^◌, ◌≤◌, ◌||◌, Bool, false, List, [], ◌∷◌, codes, map, if◌then◌else◌}
use Rattle.std.specs.Prelude.{Option, Some, None, String, string_bytes}
use Rattle.std.specs.declared.alloc.Global.{Global}
use Rattle.std.specs.Str.{bytes_eq}
use Rattle.byte_path.specs.Decimal.{decimal_within}
use Rattle.journal_run.specs.declared.words.JournalTask.{JournalTask}
use Rattle.journal_run.specs.declared.words.JournalTask.TheVariants.{Rehearsal, Audit}

-- whether the third word is `journal` or `audit`
abbrev pub names_journal : List (List ℕ) → Bool
names_journal [] = false
names_journal (repo ∷ []) = false
names_journal (repo ∷ tree ∷ []) = false
names_journal (repo ∷ tree ∷ name ∷ tail) = bytes_eq name (codes "journal") || bytes_eq name (codes "audit")

-- the rehearsal of two numbers
abbrev pub with_numbers : Option ℕ → Option ℕ → Option JournalTask
with_numbers None paths = None
with_numbers (Some seed) None = None
with_numbers (Some seed) (Some paths) = Some (Rehearsal seed paths)

-- `audit` alone, or `journal` with SEED, a decimal up to 2^64 - 1, and PATHS, a decimal up to 99,999
abbrev pub named_task : List ℕ → List (List ℕ) → Option JournalTask
named_task name [] = if bytes_eq name (codes "audit") then Some Audit else None
named_task name (seed ∷ []) = None
named_task name (seed ∷ paths ∷ []) =
    if bytes_eq name (codes "journal")
    then with_numbers (decimal_within seed (2 ^ 64 - 1)) (decimal_within paths 99999)
    else None
named_task name (seed ∷ paths ∷ other ∷ more) = None

-- REPO and TREE, which may be any text, a name and its tail
abbrev pub task_of : List (List ℕ) → Option JournalTask
task_of [] = None
task_of (repo ∷ []) = None
task_of (repo ∷ tree ∷ []) = None
task_of (repo ∷ tree ∷ name ∷ tail) = named_task name tail

-- what the words ask for, if they are one of the two forms
abbrev pub asked : List (String Global) → Option JournalTask
asked words = task_of (map string_bytes words)

-- a rehearsal that words ask for has at most 99,999 paths
abbrev pub HasFewPaths : JournalTask → Type 0
HasFewPaths (Rehearsal seed paths) = paths ≤ 99999
HasFewPaths Audit = Unit {0}
