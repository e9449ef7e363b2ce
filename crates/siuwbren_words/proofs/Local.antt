-- A command with an argument more still has no global one.
use Rattle.std.proofs.Common.{◌≡◌, ◌∙◌, ◌||◌, false, ap₂}
use Rattle.clap.specs.Words.{AddsArg}
use Rattle.clap.specs.declared.builder.arg.Arg.{Arg}
use Rattle.clap.specs.declared.builder.command.Command.{Command}
use Rattle.clap.specs.declared.builder.command.Command.TheViews.{out-Command}

pub local_still : (old new : Command) (arg : Arg) → AddsArg old arg new → (out-Command old).has_globals ≡ false
    → arg.global ≡ false → (out-Command new).has_globals ≡ false
local_still old new arg adds was is = adds.globals ∙ ap₂ ◌||◌ was is
