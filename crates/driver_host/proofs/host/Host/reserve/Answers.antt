use Rattle.std.proofs.Common.{◌≡◌, ℕ, List, [], None, ap, ◌∙◌}
use Rattle.pkt_line.specs.Reading.{Reading}
use Rattle.driver_host.specs.Talks.{TalkSeen}
use Rattle.driver_host.specs.Hosts.{new_talk}
use Rattle.driver_host.proofs.Taking.{new_host}
use Rattle.driver_host.proofs.host.Host.reserve.Goals as goal

pub returns-clause-new : goal.returns-clause-new
returns-clause-new g c =
    let unread = c.in_ok-reader.reader.unread in
    let none : unread ≡ [] = ap (λ (r : Reading). r.unread) c.in_ok-reader.ensures in
    let talk = new_talk c.args.caps c.args.batch c.args.work in
    new_host g.W.Work.told g.W.Work.latest c.args.caps c.args.batch c.args.work
    (record { talk = c.new.result; unread = unread; fault = None }) c.requires
    (ap (λ (t : TalkSeen _). record { talk = t; unread = unread; fault = None }) c.new.ensures
    ∙ ap (λ (u : List ℕ). record { talk = talk; unread = u; fault = None }) none)
