use Rattle.std.proofs.Common.{◌++◌}
use Rattle.std.specs.Prelude.{codes}
use Rattle.pkt_line.specs.Packets.{Flush}
use Rattle.hex.specs.Hex.{encode_lower}
use Rattle.filter_words.specs.Requests.{line, can_delay_line}
use Rattle.filter_words.proofs.Texts.{keys_texts}
use Rattle.filter_words.proofs.requests.push_key_packets.Goals as goal

pub returns-clause-ok : goal.returns-clause-ok
returns-clause-ok c =
    keys_texts c.push_flush.result c.args.out.now.items c.push_line.new.out.items c.push_pathname.new.out.items
    c.push_blob.new.out.items c.push_can_delay.new.out.items c.push_flush.new.out.items
    (line (codes "command=smudge")) (line (codes "pathname=" ++ c.args.path.now))
    (line (codes "blob=" ++ encode_lower c.args.name.now)) Flush (can_delay_line c.args.can_delay)
    c.in_ok-push_line.ensures.ok c.in_ok-push_pathname.ensures.ok c.in_ok-push_blob.ensures.ok
    c.in_ok-push_can_delay.ensures.ok c.push_flush.ensures.ok
