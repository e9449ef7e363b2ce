use Rattle.filter_words.specs.Outcomes.{limit}
use Rattle.filter_words.specs.Listing.{list_step, list_start}
use Rattle.filter_words.proofs.OneAnswer.{one_answer, answer_more}
use Rattle.filter_words.proofs.Same.{packet_laws, same, longer}
use Rattle.filter_words.proofs.laws.one_list.Goals as goal

pub returns-clause-same : goal.returns-clause-same
returns-clause-same c d ps qs a b x y u v sa sb e f g hu hv =
    same (packet_laws c.prefix_free.ensures c.one_reading.ensures c.no_packet.ensures.apart c.no_packet.ensures.fault
    c.no_packet.ensures.part)
    (list_step d) limit list_start ps qs a b x y u v sa sb e f g hu hv

pub returns-clause-none_longer : goal.returns-clause-none_longer
returns-clause-none_longer c d ps qs a b x y p v sa sb e none f g hv =
    longer (packet_laws c.prefix_free.ensures c.one_reading.ensures c.no_packet.ensures.apart c.no_packet.ensures.fault
    c.no_packet.ensures.part)
    (list_step d) limit list_start ps qs a b x y p v sa sb e none f g hv

pub returns-clause-heard : goal.returns-clause-heard
returns-clause-heard c d a x e b y f u v one two same =
    one_answer (packet_laws c.prefix_free.ensures c.one_reading.ensures c.no_packet.ensures.apart
    c.no_packet.ensures.fault c.no_packet.ensures.part)
    (list_step d) list_start a x e b y f u v one two same

pub returns-clause-ended : goal.returns-clause-ended
returns-clause-ended c d used rest ahead more later u one whole =
    answer_more (packet_laws c.prefix_free.ensures c.one_reading.ensures c.no_packet.ensures.apart
    c.no_packet.ensures.fault c.no_packet.ensures.part)
    (list_step d) list_start used rest ahead more later u one whole
