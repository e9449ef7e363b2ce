use Rattle.std.proofs.Common.{◌≡◌, take}
use Rattle.std.specs.List.{flat_map}
use Rattle.git_listings.specs.IndexRows.{line}
use Rattle.git_listings.proofs.index_rows.listing_of.Given as goal

abbrev pub invariant-loop-entry : goal.invariant-loop-entry
invariant-loop-entry l = l.text.items ≡ flat_map line (take l.entry-index l.entries)
