use Rattle.std.proofs.Common.{take}
use Rattle.one_shot.specs.Links.{either_seen}
use Rattle.one_shot.specs.Replies.{run_seen, AreServed, TellNoAnswers}
use Rattle.one_shot.specs.Starters.{kept_had}
use Rattle.one_shot.specs.Works.{work_told}
use Rattle.one_shot.proofs.Backs.{AllHeld}
use Rattle.one_shot.proofs.spawner.OnceSpawner.sessions_are_served.Given as goal

abbrev pub invariant-loop-starter : goal.invariant-loop-starter
invariant-loop-starter g l = TellNoAnswers g.P.Starter.Link.Link.seen
    → AllHeld (λ t. AreServed (kept_had (either_seen g.P.Starter.Link.Link.seen (run_seen (λ w. work_told (g.M.Once.Once.told w.once) w.command))) t.kept)) (take l.starter-index l.back)
