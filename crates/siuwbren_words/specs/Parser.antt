-- The program's commands with their arguments, as `clap` reads them.
use Rattle.std.specs.Prelude.{◌≡◌, ℕ, true, List, [], ◌∷◌, Option, Some, None, Result, Ok, Err, codes}
use Rattle.clap.specs.Words.{App, Kinds, Row, Rule, Shape, Text, fault_of, new_app, new_rule, subcommand_of}
use Rattle.clap.specs.Words.{subcommand_rows_of, with_rule, with_subcommand}
use Rattle.clap.specs.declared.parser.matches.ArgMatches.{ArgMatches}
use Rattle.clap.specs.declared.builder.action.ArgAction.TheVariants.{SetTrue}
use Rattle.siuwbren_words.specs.declared.fault.UsageFault.{UsageFault}
use Rattle.siuwbren_words.specs.declared.fault.UsageFault.TheVariants.{Wish, Wrong, NoMemory}

-- an option with a value, and a flag, by its long name or by a letter
abbrev pub option_rule : Text → Rule
option_rule name = record (new_rule name) { long = Some name; value_names = 1 }

abbrev pub flag_rule : Text → Rule
flag_rule name = record (new_rule name) { long = Some name; action = Some SetTrue }

abbrev pub letter_rule : Text → ℕ → Rule
letter_rule name letter = record (new_rule name) { short = Some letter; action = Some SetTrue }

-- a word that has to be there
abbrev pub place_rule : Text → Rule
place_rule name = record (new_rule name) { value_names = 1; required = true }

-- a word that may be missing
abbrev pub free_rule : Text → Rule
free_rule name = record (new_rule name) { value_names = 1 }

abbrev pub quiet_rule : Rule
quiet_rule = record (flag_rule (codes "quiet")) { short = Some 113 }

abbrev pub update_rule : Rule
update_rule = record (flag_rule (codes "update-index")) { short = Some 117 }

-- checkout [--git-dir DIR] [--commit REV] [--workers N] ..
unfoldable pub checkout_source : App
checkout_source =
    with_rule (with_rule (with_rule (new_app (codes "checkout"))
    (option_rule (codes "git-dir"))) (option_rule (codes "commit"))) (option_rule (codes "workers"))

-- .. [--report FORM] [-z] [--journal FILE] ..
unfoldable pub checkout_report : App
checkout_report =
    with_rule (with_rule (with_rule checkout_source
    (option_rule (codes "report"))) (letter_rule (codes "nul") 122)) (option_rule (codes "journal"))

-- .. [--progress] [--no-progress] [-q] ..
unfoldable pub checkout_progress : App
checkout_progress =
    with_rule (with_rule (with_rule checkout_report
    (flag_rule (codes "progress"))) (flag_rule (codes "no-progress"))) quiet_rule

-- .. [-u] TREE
unfoldable pub checkout_app : App
checkout_app = with_rule (with_rule checkout_progress update_rule) (place_rule (codes "tree"))

-- checkin [--git-dir DIR] [--allow-empty] ..
unfoldable pub checkin_source : App
checkin_source =
    with_rule (with_rule (new_app (codes "checkin")) (option_rule (codes "git-dir"))) (flag_rule (codes "allow-empty"))

-- .. [-u] [TREE]
unfoldable pub checkin_app : App
checkin_app = with_rule (with_rule checkin_source update_rule) (free_rule (codes "tree"))

-- plan [--git-dir DIR] [--commit REV] ..
unfoldable pub plan_source : App
plan_source =
    with_rule (with_rule (new_app (codes "plan")) (option_rule (codes "git-dir"))) (option_rule (codes "commit"))

-- .. [--report FORM] [-z]
unfoldable pub plan_app : App
plan_app = with_rule (with_rule plan_source (option_rule (codes "report"))) (letter_rule (codes "nul") 122)

-- rehearse SEED PATHS
unfoldable pub rehearse_app : App
rehearse_app =
    with_rule (with_rule (new_app (codes "rehearse")) (place_rule (codes "seed"))) (place_rule (codes "paths"))

-- audit FILE
unfoldable pub audit_app : App
audit_app = with_rule (new_app (codes "audit")) (place_rule (codes "file"))

-- the program: it has a version, and needs one of the five commands
abbrev pub siuwbren_shape : Shape
siuwbren_shape = record (new_app (codes "siuwbren")).top {
  no_binary_name = true;
  has_version = true;
  subcommand_required = true;
}

unfoldable pub top_app : App
top_app = record { top = siuwbren_shape; subs = [] }

-- with the commands that read a repository
unfoldable pub repository_app : App
repository_app =
    with_subcommand (with_subcommand (with_subcommand top_app checkout_app.top) checkin_app.top) plan_app.top

unfoldable pub siuwbren_app : App
siuwbren_app = with_subcommand (with_subcommand repository_app rehearse_app.top) audit_app.top

-- what was found, unless some kind of refusal comes
abbrev pub unless_refused : Kinds → Option (Text × List Row) → Option (Text × List Row)
unless_refused [] found = found
unless_refused (kind ∷ more) found = None

-- the subcommand's name and its arguments that `clap` finds in the words, or `None` if it refuses them. The wish for
-- help or for the version is a refusal too.
abbrev pub command_in : App → List Text → Option (Text × List Row)
command_in app words = unless_refused (fault_of app words) (subcommand_of app words)

-- a text comes where nothing was found; or memory ran out
abbrev pub GivesText : {T : Type 0} → Option T → UsageFault → Type 0
GivesText found (Wish text) = found ≡ None
GivesText found (Wrong text) = found ≡ None
GivesText found NoMemory = Unit {0}

-- what a parse gives: that subcommand, or a text
abbrev pub Finds : Option (Text × List Row) → Result ArgMatches UsageFault → Type 0
Finds found (Ok matches) = found ≡ subcommand_rows_of matches
Finds found (Err fault) = GivesText found fault
