use Rattle.pkt_line.proofs.Spelled as lemma
use Rattle.pkt_line.proofs.laws.spells.Goals as goal

pub returns : goal.returns
returns c = lemma.spells
