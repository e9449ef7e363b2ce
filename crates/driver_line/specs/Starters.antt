-- The starter of a line, after some exchanges.
use Rattle.std.specs.Prelude.{◌≡◌, Bool, true, false, List, [], ◌∷◌}
use Rattle.edge_kit.specs.Faults.{Rose}
use Rattle.edge_kit.specs.Starters.{StarterSeen}
use Rattle.driver_line.specs.Conversations.{Exchange, NoStart}

-- whether a start failed
abbrev pub has_failed_start : List Exchange → Bool
has_failed_start [] = false
has_failed_start (NoStart p ∷ es) = true
has_failed_start (e ∷ es) = has_failed_start es

-- The starter has its command still. Its count of faults rose if a start failed, and stays otherwise.
pub record IsSameStarter (es : List Exchange) (old new : StarterSeen) : Type 0 where
  pub command : new.command ≡ old.command
  pub rose : has_failed_start es ≡ true → Rose old.faults new.faults
  pub still : has_failed_start es ≡ false → new.faults ≡ old.faults
