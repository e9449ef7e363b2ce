-- Why a driver cleans no content.
use Rattle.std.specs.Prelude.{ℕ, List, codes}
use Rattle.filter_words.specs.BreakWords.{break_word}
use Rattle.clean_drivers.specs.declared.cause.CleanCause.{CleanCause}
use Rattle.clean_drivers.specs.declared.cause.CleanCause.TheVariants as clean

abbrev pub cause_word : CleanCause → List ℕ
cause_word clean.Error = codes "filter-error"
cause_word clean.ErrorAfter = codes "filter-error-late"
cause_word clean.Abort = codes "filter-abort"
cause_word clean.NoClean = codes "filter-no-clean"
cause_word clean.NotStarted = codes "filter-not-started"
cause_word (clean.Broken why) = break_word why
