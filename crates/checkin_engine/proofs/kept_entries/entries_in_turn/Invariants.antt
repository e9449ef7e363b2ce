use Rattle.std.proofs.Common.{◌≡◌, ◌++◌, drop}
use Rattle.checkin_engine.specs.InTurn.{entries_after, entries_in_turn}
use Rattle.checkin_engine.proofs.kept_entries.entries_in_turn.Given as goal

abbrev pub invariant-loop-entry : goal.invariant-loop-entry
invariant-loop-entry l = l.kept.items ++ entries_after l.fate l.before (drop l.entry-index l.entries) l.rest ≡ entries_in_turn l.entries l.fates
