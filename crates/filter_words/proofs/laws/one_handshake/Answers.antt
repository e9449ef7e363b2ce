use Rattle.filter_words.specs.Outcomes.{limit}
use Rattle.filter_words.specs.Handshake.{handshake_step, handshake_start}
use Rattle.filter_words.proofs.OneAnswer.{one_answer, answer_more}
use Rattle.filter_words.proofs.Same.{packet_laws, same, longer}
use Rattle.filter_words.proofs.laws.one_handshake.Goals as goal

pub returns-clause-same : goal.returns-clause-same
returns-clause-same c ps qs a b x y u v sa sb e f g hu hv =
    same (packet_laws c.prefix_free.ensures c.one_reading.ensures c.no_packet.ensures.apart c.no_packet.ensures.fault
    c.no_packet.ensures.part)
    handshake_step limit handshake_start ps qs a b x y u v sa sb e f g hu hv

pub returns-clause-none_longer : goal.returns-clause-none_longer
returns-clause-none_longer c ps qs a b x y p v sa sb e none f g hv =
    longer (packet_laws c.prefix_free.ensures c.one_reading.ensures c.no_packet.ensures.apart c.no_packet.ensures.fault
    c.no_packet.ensures.part)
    handshake_step limit handshake_start ps qs a b x y p v sa sb e none f g hv

pub returns-clause-heard : goal.returns-clause-heard
returns-clause-heard c a x e b y f u v one two same =
    one_answer (packet_laws c.prefix_free.ensures c.one_reading.ensures c.no_packet.ensures.apart
    c.no_packet.ensures.fault c.no_packet.ensures.part)
    handshake_step handshake_start a x e b y f u v one two same

pub returns-clause-ended : goal.returns-clause-ended
returns-clause-ended c used rest ahead more later u one whole =
    answer_more (packet_laws c.prefix_free.ensures c.one_reading.ensures c.no_packet.ensures.apart
    c.no_packet.ensures.fault c.no_packet.ensures.part)
    handshake_step handshake_start used rest ahead more later u one whole
