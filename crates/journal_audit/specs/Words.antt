-- The words of an outcome, of a failed opening and of an answer.
use Rattle.std.specs.Prelude.{ℕ, List, codes, if◌then◌else◌}
use Rattle.filter_words.specs.BreakWords.{break_word}
use Rattle.filter_words.specs.declared.reply.Reply.{Reply}
use Rattle.filter_words.specs.declared.reply.Reply.TheVariants as reply
use Rattle.checkout_core.specs.CauseWords.{object_word}
use Rattle.checkout_core.specs.declared.verdict.Own.{Own}
use Rattle.checkout_core.specs.declared.verdict.Own.TheVariants as own
use Rattle.checkout_core.specs.declared.event.OpenCause.{OpenCause}
use Rattle.checkout_core.specs.declared.event.OpenCause.TheVariants as opening

abbrev pub own_word : Own → List ℕ
own_word (own.Fine unencoded) = if unencoded then codes "fine-unencoded" else codes "fine"
own_word own.ReadFailed = codes "read"
own_word own.WriteFailed = codes "write"
own_word own.NoMemory = codes "no-memory"
own_word (own.Object kind) = object_word kind

abbrev pub opening_word : OpenCause → List ℕ
opening_word opening.NotStarted = codes "not-started"
opening_word opening.NoMemory = codes "no-memory"
opening_word (opening.Broken why) = break_word why

abbrev pub reply_word : Reply → List ℕ
reply_word reply.Content = codes "content"
reply_word reply.Error = codes "error"
reply_word reply.ErrorAfter = codes "error-late"
reply_word reply.Abort = codes "abort"
reply_word reply.Delayed = codes "delayed"
reply_word reply.NoMemory = codes "no-memory"
reply_word (reply.Broken why) = break_word why
