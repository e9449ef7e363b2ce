-- What the runs in memory tell.
use Rattle.std.specs.Prelude.{List, [], ◌∷◌, Option, Some, None}
use Rattle.one_shot.specs.declared.memory_once.OnceScript.{OnceScript}
use Rattle.edge_kit.specs.Links.{RunTold}
use Rattle.one_shot.specs.Onces.{OnceTold, Ended, Failing, RunsTold, RunsListed}

-- a run by its script, without which it fails
abbrev pub told_by : Option OnceScript → OnceTold
told_by None = Failing
told_by (Some s) = Ended s.output s.zero

-- the runs that scripts tell
abbrev pub runs_in : List OnceScript → List RunTold
runs_in [] = []
runs_in (s ∷ ss) = record { command = s.command; input = s.input; output = s.output; zero = s.zero } ∷ runs_in ss

abbrev pub scripts_tell : List OnceScript → RunsTold
scripts_tell scripts = RunsListed (runs_in scripts)
