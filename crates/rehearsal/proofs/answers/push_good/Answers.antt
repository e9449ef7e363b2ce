use Rattle.std.proofs.Common.{◌≡◌, ◌++◌}
use Rattle.std.specs.Prelude.{codes}
use Rattle.pkt_line.specs.Packets.{Flush}
use Rattle.pkt_line.specs.Spelling.{spelling, spelling_all, content_packets}
use Rattle.rehearsal.specs.Drivers.{status, good}
use Rattle.rehearsal.proofs.Spelled.{on_ok, good_texts}
use Rattle.rehearsal.proofs.answers.push_good.Goals as goal

pub returns : goal.returns
returns c =
    on_ok c.push_flush-2.result (c.push_flush-2.new.out.items ≡ c.push_flush.new.out.items ++ spelling Flush)
    (c.push_flush-2.new.out.items ≡ c.args.out.now.items ++ spelling_all (good c.args.text.now))
    (good_texts c.args.out.now.items c.push_status.new.out.items c.push_content.new.out.items c.push_flush.new.out.items
    c.push_flush-2.new.out.items (status (codes "success")) (content_packets c.args.text.now)
    c.in_ok-push_status.ensures c.in_ok-push_content.ensures.ok c.in_ok-push_flush.ensures.ok)
    c.push_flush-2.ensures.ok
