use Rattle.std.proofs.Common.{◌≡◌, ◌<◌, ◌≤◌, ◌-◌, ◌++◌, ◌⊎◌, length, take}
use Rattle.eol_convert.specs.Windows.{crlf_from}
use Rattle.eol_convert.proofs.windows.fill_block.Given as goal

abbrev pub invariant-windows : goal.invariant-windows
invariant-windows l = record {
  low : l.from ≤ l.reach.from;
  within : l.reach.from ≤ length l.content;
  room : l.reach.at ≤ length l.block;
  len : length l.block ≡ length l.initial.block;
  done : take l.reach.at l.block ++ crlf_from l.content l.reach.from ≡ crlf_from l.content l.from;
  some : (l.from < l.reach.from) ⊎ (l.reach.at ≡ 0);
}

abbrev pub decreases-windows : goal.decreases-windows
decreases-windows l = length l.content - l.reach.from
