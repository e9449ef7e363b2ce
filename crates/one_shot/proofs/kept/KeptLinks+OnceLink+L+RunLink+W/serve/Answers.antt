use Rattle.std.proofs.Common.{◌≡◌, length, arith}
use Rattle.one_shot.specs.Links.{either_seen}
use Rattle.one_shot.specs.Replies.{run_seen}
use Rattle.one_shot.proofs.Sessions.{links_next, kept_served}
use Rattle.one_shot.proofs.kept.KeptLinks+OnceLink+L+RunLink+W.serve.Goals as goal

pub loop-session-preserved : goal.loop-session-preserved
loop-session-preserved g c = λ plain.
    links_next (either_seen g.L.Link.seen (run_seen g.W.Work.told)) c.as_slice-ended.result.now c.loop-session.session-index c.session-item.result
    c.loop-session-test.true c.session-item.is (c.loop-session.invariant plain) (c.serves.ensures plain)

pub returns : goal.returns
returns g c = λ plain.
    let end : c.loop-session.session-index ≡ length c.as_slice-ended.result.now = omega (arith, c.loop-session-test.false, c.loop-session.auto.session-index-end) in
    kept_served (either_seen g.L.Link.seen (run_seen g.W.Work.told)) c.args.self.now c.as_slice-ended.result.now c.loop-session.session-index
    c.as_slice-ended.ensures.value end (c.loop-session.invariant plain)
