use Rattle.filter_words.proofs.OwnCauses.{reply_own, handshake_own, reply_delayed}
use Rattle.filter_words.proofs.laws.own_causes.Goals as goal

pub returns-clause-reply : goal.returns-clause-reply
returns-clause-reply c d ps why e = reply_own d ps why e

pub returns-clause-handshake : goal.returns-clause-handshake
returns-clause-handshake c ps why e = handshake_own ps why e

pub returns-clause-delayed : goal.returns-clause-delayed
returns-clause-delayed c d ps e = reply_delayed d ps e
