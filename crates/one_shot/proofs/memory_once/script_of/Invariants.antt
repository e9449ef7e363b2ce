use Rattle.std.proofs.Common.{◌≡◌, drop}
use Rattle.one_shot.specs.Onces.{run_in}
use Rattle.one_shot.specs.MemoryOnces.{runs_in}
use Rattle.one_shot.proofs.memory_once.script_of.Given as goal

abbrev pub invariant-loop-script : goal.invariant-loop-script
invariant-loop-script l =
    run_in (runs_in (drop l.script-index l.scripts)) l.command l.input ≡ run_in (runs_in l.scripts) l.command l.input
