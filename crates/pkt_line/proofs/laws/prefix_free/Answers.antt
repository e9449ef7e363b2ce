use Rattle.pkt_line.proofs.PrefixFree as lemma
use Rattle.pkt_line.proofs.laws.prefix_free.Goals as goal

pub returns : goal.returns
returns c = lemma.prefix_free
