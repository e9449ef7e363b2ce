use Rattle.std.proofs.Common.{◌≡◌, drop}
use Rattle.edge_kit.specs.MemoryDrivers.{sessions_for}
use Rattle.edge_kit.proofs.memory_spawner.sessions_for.Given as goal

abbrev pub invariant-loop-script : goal.invariant-loop-script
invariant-loop-script l = sessions_for (drop l.script-index l.scripts) l.command ≡ sessions_for l.scripts l.command
