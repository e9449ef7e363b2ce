use Rattle.std.proofs.Common.{◌++◌}
use Rattle.std.specs.Prelude.{codes}
use Rattle.pkt_line.specs.Packets.{Flush}
use Rattle.filter_words.specs.Requests.{line}
use Rattle.filter_words.proofs.Texts.{three_packets}
use Rattle.filter_words.proofs.requests.push_clean_key_packets.Goals as goal

pub returns-clause-ok : goal.returns-clause-ok
returns-clause-ok c =
    three_packets c.push_flush.result c.args.out.now.items c.push_line.new.out.items c.push_pathname.new.out.items
    c.push_flush.new.out.items (line (codes "command=clean")) (line (codes "pathname=" ++ c.args.path.now)) Flush
    c.in_ok-push_line.ensures.ok c.in_ok-push_pathname.ensures.ok c.push_flush.ensures.ok
