use Rattle.pkt_line.proofs.NoPacket as lemma
use Rattle.pkt_line.proofs.laws.one_answer.Goals as goal

pub returns : goal.returns
returns c = lemma.one_answer
