use Rattle.std.specs.Prelude.{codes}
use Rattle.pkt_line.specs.Packets.{Flush}
use Rattle.filter_words.specs.Requests.{line}
use Rattle.filter_words.proofs.Texts.{four_packets}
use Rattle.filter_words.proofs.requests.push_caps_packets.Goals as goal

pub returns-clause-ok : goal.returns-clause-ok
returns-clause-ok c =
    four_packets c.push_flush.result c.args.out.now.items c.push_line.new.out.items c.push_line-2.new.out.items
    c.push_line-3.new.out.items c.push_flush.new.out.items (line (codes "capability=clean"))
    (line (codes "capability=smudge")) (line (codes "capability=delay")) Flush
    c.in_ok-push_line.ensures.ok c.in_ok-push_line-2.ensures.ok c.in_ok-push_line-3.ensures.ok c.push_flush.ensures.ok
