-- The words of the causes of a verdict.
use Rattle.std.specs.Prelude.{ℕ, List, codes}
use Rattle.filter_words.specs.BreakWords.{break_word}
use Rattle.checkout_core.specs.declared.verdict.FilterCause.{FilterCause}
use Rattle.checkout_core.specs.declared.verdict.FilterCause.TheVariants as filter
use Rattle.checkout_core.specs.declared.verdict.ObjectKind.{ObjectKind}
use Rattle.checkout_core.specs.declared.verdict.ObjectKind.TheVariants as object
use Rattle.checkout_core.specs.declared.verdict.SkipCause.{SkipCause}
use Rattle.checkout_core.specs.declared.verdict.SkipCause.TheVariants as skip
use Rattle.checkout_core.specs.declared.verdict.FailCause.{FailCause}
use Rattle.checkout_core.specs.declared.verdict.FailCause.TheVariants as fail

abbrev pub filter_word : FilterCause → List ℕ
filter_word filter.Error = codes "filter-error"
filter_word filter.ErrorAfter = codes "filter-error-late"
filter_word filter.Abort = codes "filter-abort"
filter_word filter.NoSmudge = codes "filter-no-smudge"
filter_word filter.NotStarted = codes "filter-not-started"
filter_word (filter.Broken cause) = break_word cause

abbrev pub object_word : ObjectKind → List ℕ
object_word object.Absent = codes "object-absent"
object_word object.Header = codes "object-header"
object_word object.Size = codes "object-size"
object_word object.WrongName = codes "object-name"
object_word object.TooLarge = codes "object-too-large"

abbrev pub skip_word : SkipCause → List ℕ
skip_word skip.Gitlink = codes "gitlink"
skip_word skip.Unmerged = codes "unmerged"
skip_word skip.Sparse = codes "sparse"
skip_word skip.Intent = codes "intent"

abbrev pub fail_word : FailCause → List ℕ
fail_word (fail.Filter cause) = filter_word cause
fail_word fail.Missing = codes "missing"
fail_word fail.NoProcess = codes "no-process"
fail_word (fail.Object kind) = object_word kind
fail_word fail.UnknownEncoding = codes "encoding"
fail_word fail.NameNotText = codes "name"
fail_word fail.ReadFailed = codes "read"
fail_word fail.WriteFailed = codes "write"
