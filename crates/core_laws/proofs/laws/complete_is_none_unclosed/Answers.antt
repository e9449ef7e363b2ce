use Rattle.core_laws.proofs.Unclosed.{none_unclosed, all_closed}
use Rattle.core_laws.proofs.laws.complete_is_none_unclosed.Goals as goal

pub returns : goal.returns
returns c = record { none = λ x h. none_unclosed x.paths h; all = λ x h. all_closed x.paths h }
