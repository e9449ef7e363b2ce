use Rattle.filter_words.specs.Requests.{clean_keys}
use Rattle.pkt_line.specs.Spelling.{content_packets}
use Rattle.pkt_line.specs.Packets.{Flush}
use Rattle.filter_words.proofs.Texts.{three_texts}
use Rattle.filter_words.proofs.requests.push_clean_packets.Goals as goal

pub returns-clause-ok : goal.returns-clause-ok
returns-clause-ok c =
    three_texts c.push_flush.result c.args.out.now.items c.push_clean_key_packets.new.out.items
    c.push_content.new.out.items c.push_flush.new.out.items (clean_keys c.args.path.now)
    (content_packets c.args.content.now) Flush
    c.in_ok-push_clean_key_packets.ensures.ok c.in_ok-push_content.ensures.ok c.push_flush.ensures.ok
