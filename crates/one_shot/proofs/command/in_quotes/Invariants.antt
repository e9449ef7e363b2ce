use Rattle.std.proofs.Common.{◌≡◌, ◌∷◌, [], ◌++◌, take}
use Rattle.std.specs.List.{flat_map}
use Rattle.one_shot.specs.Commands.{quoted_byte}
use Rattle.one_shot.proofs.command.in_quotes.Given as goal

abbrev pub invariant-loop-byte : goal.invariant-loop-byte
invariant-loop-byte l = l.text.items ≡ (39 ∷ []) ++ flat_map quoted_byte (take l.byte-index l.path)
