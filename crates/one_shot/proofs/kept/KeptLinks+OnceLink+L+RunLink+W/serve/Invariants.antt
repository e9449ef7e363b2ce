use Rattle.std.proofs.Common.{take}
use Rattle.one_shot.specs.Links.{either_seen}
use Rattle.one_shot.specs.Replies.{run_seen, TellNoAnswers}
use Rattle.one_shot.proofs.Sessions.{AllLinks}
use Rattle.one_shot.proofs.kept.KeptLinks+OnceLink+L+RunLink+W.serve.Given as goal

abbrev pub invariant-loop-session : goal.invariant-loop-session
invariant-loop-session g l =
    TellNoAnswers g.L.Link.seen → AllLinks (either_seen g.L.Link.seen (run_seen g.W.Work.told)) (take l.session-index l.ended)
