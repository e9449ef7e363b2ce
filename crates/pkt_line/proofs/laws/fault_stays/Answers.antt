use Rattle.pkt_line.proofs.NoPacket as lemma
use Rattle.pkt_line.proofs.laws.fault_stays.Goals as goal

pub returns-clause-fed : goal.returns-clause-fed
returns-clause-fed c = lemma.fault_stays

pub returns-clause-called : goal.returns-clause-called
returns-clause-called c = lemma.fault_kept
