use Rattle.pkt_line.proofs.Cuts as lemma
use Rattle.pkt_line.proofs.laws.given_so_far.Goals as goal

pub returns : goal.returns
returns c = lemma.given_so_far
