use Rattle.std.proofs.Common.{◌≡◌, ◌++◌, map, drop}
use Rattle.checkout_plan.specs.Paths.{asked_path, first_entries_after, asked_paths}
use Rattle.checkout_plan.proofs.paths.Asking.asked_paths.Given as goal

abbrev pub invariant-loop-entry : goal.invariant-loop-entry
invariant-loop-entry l = record {
  kept : l.self ≡ l.initial.self;
  paths : l.paths.items ++ map (asked_path l.self.stack l.self.settings.now) (first_entries_after l.before (drop l.entry-index l.entries)) ≡ asked_paths l.self.stack l.self.settings.now l.entries;
}
