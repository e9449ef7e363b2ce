use Rattle.std.proofs.Common.{◌≡◌, ◌≤◌, vec_len, vec_capacity}
use Rattle.std.specs.Prelude.{replicate}
use Rattle.delay_table.specs.declared.place.Place.TheVariants.{Idle}
use Rattle.delay_table.proofs.table.DelayTable.reserve.Given as goal

abbrev pub invariant-loop : goal.invariant-loop
invariant-loop l = record {
  places : l.places.items ≡ replicate l.counter Idle;
  room : vec_len l.names ≤ vec_capacity l.places;
  end : l.end ≡ vec_len l.names;
}
