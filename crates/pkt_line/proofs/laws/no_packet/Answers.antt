use Rattle.pkt_line.proofs.NoPacket as lemma
use Rattle.pkt_line.proofs.laws.no_packet.Goals as goal

pub returns-clause-apart : goal.returns-clause-apart
returns-clause-apart c = lemma.not_at_front

pub returns-clause-fault : goal.returns-clause-fault
returns-clause-fault c = lemma.fault_more

pub returns-clause-part : goal.returns-clause-part
returns-clause-part c = lemma.partial_fault
