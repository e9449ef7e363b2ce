use Rattle.std.proofs.Common.{◌≡◌, ◌∷◌, [], ◌++◌, take}
use Rattle.std.specs.List.{flat_map}
use Rattle.byte_path.specs.Quote.{spelled_byte}
use Rattle.byte_path.proofs.quote.quote_path.Given as goal

abbrev pub invariant-loop-byte : goal.invariant-loop-byte
invariant-loop-byte l = l.text.items ≡ (34 ∷ []) ++ flat_map spelled_byte (take l.byte-index l.path)
