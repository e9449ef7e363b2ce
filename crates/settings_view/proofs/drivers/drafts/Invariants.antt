use Rattle.std.proofs.Common.{◌≡◌, ℕ, List, take}
use Rattle.settings_view.specs.Drivers.{names_of, said_of}
use Rattle.settings_view.specs.Seen.{said_at, names_in, IsInOrder}
use Rattle.settings_view.proofs.drivers.drafts.Given as goal

abbrev pub invariant-loop-setting : goal.invariant-loop-setting
invariant-loop-setting l = record {
  names : names_in l.drafts ≡ names_of (take l.setting-index l.settings);
  said : (name : List ℕ) → said_at l.drafts name ≡ said_of (take l.setting-index l.settings) name;
  ordered : IsInOrder l.drafts;
}
