-- How the command of a checkout ends: as the checkout does, and by what is said of that.
use Rattle.std.specs.Prelude.{◌≡◌, ℕ, List, Option}
use Rattle.edge_kit.specs.Starters.{Starts}
use Rattle.edge_kit.specs.Told.{RepoTold}
use Rattle.exit_status.specs.declared.status.ExitStatus.{ExitStatus}
use Rattle.exit_status.specs.declared.status.ExitStatus.TheVariants as status
use Rattle.checkout_engine.specs.declared.end.Checkout.{Checkout}
use Rattle.checkout_engine.specs.Checkout.{Leaves, history_of}
use Rattle.checkout_engine.specs.Ends.{Seen}
use Rattle.checkout_engine.specs.Said.{SaysEnd}

-- what is seen once a checkout ended so, and before that is said
abbrev pub before_said : Seen → Seen → Checkout → Seen
before_said old new end = record new { sink = old.sink; history = history_of end }

-- The command ends with this status: the checkout ended so, and that was said of it.
pub record EndsWith (told : RepoTold) (ahead : List ℕ → Starts) (asked : Option ℕ) (old new : Seen) (s : ExitStatus)
    : Type 0 where
  pub end : Checkout
  pub history_is : new.history ≡ history_of end
  pub left : Leaves told ahead asked old (before_said old new end) end
  pub said : SaysEnd end old.sink new.sink s

-- 4: the sink failed, at the line of a refusal, or in the report of a checkout that is done: of no other end a text is
-- said, and of a run in which memory ran out for some path the status is 5.
abbrev pub IsCutOff : RepoTold → (List ℕ → Starts) → Option ℕ → Seen → Seen → Type 0
IsCutOff told ahead asked old new = EndsWith told ahead asked old new status.OutputNotWritten

-- 5: memory ran out, before any file was touched, before the paths were done, for some path, or as the end was said.
abbrev pub IsOutOfMemory : RepoTold → (List ℕ → Starts) → Option ℕ → Seen → Seen → Type 0
IsOutOfMemory told ahead asked old new = EndsWith told ahead asked old new status.OutOfMemory
