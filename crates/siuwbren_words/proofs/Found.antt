-- What a parse finds, and the command of it.
use Rattle.std.proofs.Common.{◌≡◌, ◌⊎◌, ◌&&◌, ◌∙◌, Bool, true, false, List, [], ◌∷◌, Option, Some, None, Result, Ok, Err, refl, sym, inl, inr}
use Rattle.clap.specs.Words.{App, Kinds, HasKind, Row, Text, kind_of, subcommand_rows_of}
use Rattle.clap.specs.declared.error.Error.{Error}
use Rattle.clap.specs.declared.parser.matches.ArgMatches.{ArgMatches}
use Rattle.clap.specs.declared.error.kind.ErrorKind.TheVariants.{OutOfMemory}
use Rattle.siuwbren_words.specs.Asked.{Asked, Gives, asked_in}
use Rattle.siuwbren_words.specs.Parser.{Finds, command_in, unless_refused}
use Rattle.siuwbren_words.specs.declared.command.Subcommand.{Subcommand}
use Rattle.siuwbren_words.specs.declared.fault.UsageFault.{UsageFault}
use Rattle.siuwbren_words.specs.declared.fault.UsageFault.TheVariants.{Wish, Wrong, NoMemory}

pub left_holds : (left right : Bool) → (left && right) ≡ true → left ≡ true
left_holds true right e = refl
left_holds false right e = cc

pub finds_matches : (kinds : Kinds) (found rows : Option (Text × List Row)) → kinds ≡ [] → rows ≡ found → unless_refused kinds found ≡ rows
finds_matches kinds found rows none same = rw (none, same) refl

finds_none : (fault : UsageFault) → Finds None (Err fault)
finds_none (Wish text) = refl
finds_none (Wrong text) = refl
finds_none NoMemory = tt

pub finds_fault : (kinds : Kinds) (found : Option (Text × List Row)) (error : Error) (fault : UsageFault) → HasKind kinds error
    → (kind_of error ≡ OutOfMemory → fault ≡ NoMemory) → Finds (unless_refused kinds found) (Err fault)
finds_fault kinds found error fault (inl memory) is = rw (is memory) tt
finds_fault [] found error fault (inr among) is = absurd among
finds_fault (first ∷ more) found error fault (inr among) is = finds_none fault

pub gives_none : (asked : Option Asked) (fault : UsageFault) → asked ≡ None → Gives asked (Err fault)
gives_none asked (Wish text) e = e
gives_none asked (Wrong text) e = e
gives_none asked NoMemory e = tt

pub gives_fault : (found : Option (Text × List Row)) (fault : UsageFault) → Finds found (Err fault) → Gives (asked_in found) (Err fault)
gives_fault found (Wish text) e = rw e refl
gives_fault found (Wrong text) e = rw e refl
gives_fault found NoMemory e = tt

pub finds_in : (one other : App) (words : List Text) (result : Result ArgMatches UsageFault) → one ≡ other → Finds (command_in one words) result
    → Finds (command_in other words) result
finds_in one other words result same found = rw (← same) found
