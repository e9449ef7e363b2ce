-- The tail of the words, after a command's name, as `clap` reads it.
use Rattle.std.specs.Prelude.{◌≡◌, ◌-◌, ◌^◌, ◌&&◌, Bool, true, not, nat_le, List, [], ◌∷◌, length, codes}
use Rattle.std.specs.Prelude.{Option, Some, None, Result, Ok, Err}
use Rattle.std.specs.List.{list_any}
use Rattle.std.specs.Str.{bytes_eq}
use Rattle.clap.specs.Words.{App, Kinds, Row, Rule, Shape, Text, fault_of, found_of, matches_of, new_app}
use Rattle.clap.specs.Words.{new_rule, rows_of, with_rule}
use Rattle.clap.specs.declared.parser.matches.ArgMatches.{ArgMatches}
use Rattle.clap.specs.declared.error.kind.ErrorKind.{ErrorKind}
use Rattle.clap.specs.declared.error.kind.ErrorKind.TheVariants.{OutOfMemory}
use Rattle.byte_path.specs.Decimal.{decimal_within}
use Rattle.checkout_words.specs.Words.{with_numbers, workers_command}
use Rattle.checkout_words.specs.declared.Command.{Command}
use Rattle.checkout_words.specs.declared.Command.TheVariants.{Checkout}
use Rattle.checkout_words.specs.declared.WordFault.{WordFault}
use Rattle.checkout_words.specs.declared.WordFault.TheVariants.{Usage, NoMemory}

-- at most two words, none of which is `--`
abbrev pub is_plain_tail : List Text → Bool
is_plain_tail words = nat_le (length words) 2 && not (list_any (λ word. bytes_eq word (codes "--")) words)

-- no program's name, no flag for help or the version, and no argument yet
abbrev pub tail_shape : Shape
tail_shape = record (new_app (codes "tail")).top {
  no_binary_name = true;
  disable_help_flag = true;
  disable_version_flag = true;
}

-- the commands of `clap`: one with no argument, with the option `--workers`, and with two words
abbrev pub plan_app : App
plan_app = record { top = tail_shape; subs = [] }

abbrev pub workers_rule : Rule
workers_rule = record (new_rule (codes "workers")) { long = Some (codes "workers") }

abbrev pub checkout_app : App
checkout_app = with_rule plan_app workers_rule

abbrev pub number_rule : Text → Rule
number_rule id = record (new_rule id) { required = true }

abbrev pub rehearse_app : App
rehearse_app = with_rule (with_rule plan_app (number_rule (codes "seed"))) (number_rule (codes "paths"))

-- the arguments that were found, or `None` if there is a kind of refusal
abbrev pub unless_refused : Kinds → List Row → Option (List Row)
unless_refused [] rows = Some rows
unless_refused (kind ∷ more) rows = None

-- the arguments that `clap` finds in words, or `None` if it refuses them
abbrev pub rows_in : App → List Text → Option (List Row)
rows_in app words = unless_refused (fault_of app words) (matches_of app words)

-- out of memory, or a refusal
abbrev pub fault_of_kind : ErrorKind → WordFault
fault_of_kind OutOfMemory = NoMemory
fault_of_kind _ = Usage

-- what a parse gives: those arguments, or Usage if it refuses the words, or out of memory
abbrev pub Finds : Option (List Row) → Result ArgMatches WordFault → Type 0
Finds rows (Ok matches) = rows ≡ Some (rows_of (found_of matches))
Finds rows (Err Usage) = rows ≡ None
Finds rows (Err NoMemory) = Unit {0}

-- the command of the value of `--workers`
abbrev pub checkout_by : Option Text → Option Command
checkout_by None = Some (Checkout None)
checkout_by (Some number) = workers_command number

-- the command of the two words
abbrev pub rehearse_by : Option Text → Option Text → Option Command
rehearse_by None paths = None
rehearse_by (Some seed) None = None
rehearse_by (Some seed) (Some paths) = with_numbers (decimal_within seed (2 ^ 64 - 1)) (decimal_within paths 99999)
