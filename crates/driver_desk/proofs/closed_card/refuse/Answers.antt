use Rattle.std.proofs.Common.{◌∙◌}
use Rattle.driver_desk.proofs.Closings.{drop_refused}
use Rattle.driver_desk.proofs.closed_card.refuse.Goals as goal

pub close_empty-requires-clause-may : goal.close_empty-requires-clause-may
close_empty-requires-clause-may g c = drop_refused _ _ _ _ c.requires.may.0 c.requires.may.1 (λ ok. c.requires.required ∙ c.if-required.true)

pub close_empty-requires-in-Err-clause-may : goal.close_empty-requires-in-Err-clause-may
close_empty-requires-in-Err-clause-may g c = drop_refused _ _ _ c.args.put c.requires.may.0 c.requires.may.1 (λ ok. absurd (let e = c.in-Err.is in cc (ok, e)))
