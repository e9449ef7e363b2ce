use Rattle.std.proofs.Common.{◌+◌, ◌-◌, length}
use Rattle.wild_match.specs.Steps.{IsClose}
use Rattle.wild_match.proofs.ReadMembers.{IsReading}
use Rattle.wild_match.proofs.sets.is_in_members.Given as goal

abbrev pub invariant-members : goal.invariant-members
invariant-members l = record {
  read : IsReading l.byte l.text l.found l.place;
  known : IsClose l.text (l.place + 2) l.close;
}

abbrev pub decreases-members : goal.decreases-members
decreases-members l = length l.text - l.place
