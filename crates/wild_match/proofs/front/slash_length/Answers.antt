use Rattle.std.proofs.Common.{rules}
use Rattle.wild_match.specs.Pieces.{plain_front, escape_front, set_front}
use Rattle.wild_match.proofs.front.slash_length.Goals as goal

pub returns-in_default-2-clause-value : goal.returns-in_default-2-clause-value
unfolding plain_front escape_front set_front
returns-in_default-2-clause-value c = search rules

pub returns-in_default-4-clause-value : goal.returns-in_default-4-clause-value
unfolding plain_front escape_front set_front
returns-in_default-4-clause-value c = search rules
