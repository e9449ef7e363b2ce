use Rattle.std.proofs.Common.{◌≡◌, map}
use Rattle.settings_view.specs.Drivers.{drivers_told}
use Rattle.settings_view.specs.Seen.{entry_seen}
use Rattle.settings_view.proofs.Drafts.{drivers_behind}
use Rattle.settings_view.proofs.drivers.drivers_told.Given as goal

abbrev pub invariant-loop-name : goal.invariant-loop-name
invariant-loop-name l =
    (goal.iterator-loop-name).can_next l.name-iterator ×
    (goal.iterator-loop-name).is_finite l.name-iterator ×
    (drivers_told l.single l.settings ≡ drivers_behind l.single l.drivers.items (map entry_seen l.name-iterator))
