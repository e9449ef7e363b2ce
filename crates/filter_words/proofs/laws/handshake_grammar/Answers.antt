use Rattle.filter_words.specs.Handshake.{handshake_step}
use Rattle.filter_words.specs.HandshakeGrammar.{IsHandshake, BreaksHandshake}
use Rattle.filter_words.specs.declared.handshake.HandshakePhase.TheVariants.{Server}
use Rattle.filter_words.proofs.Breaks.{breaks_handshake}
use Rattle.filter_words.proofs.GrammarLaws.{ends_well, read_well, open_reading, broken_reading}
use Rattle.filter_words.proofs.HandshakeRuns.{reads_handshake}
use Rattle.filter_words.proofs.laws.handshake_grammar.Goals as goal

pub returns-clause-good : goal.returns-clause-good
returns-clause-good c ps g e = ends_well handshake_step Server IsHandshake reads_handshake ps g e

pub returns-clause-again : goal.returns-clause-again
returns-clause-again c ps g w le = read_well handshake_step Server IsHandshake reads_handshake ps g w le

pub returns-clause-opened : goal.returns-clause-opened
returns-clause-opened c ps p e = open_reading handshake_step Server IsHandshake reads_handshake ps p e

pub returns-clause-broken : goal.returns-clause-broken
returns-clause-broken c ps why e = broken_reading handshake_step Server IsHandshake BreaksHandshake reads_handshake
    breaks_handshake ps why e
