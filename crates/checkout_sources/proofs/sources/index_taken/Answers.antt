use Rattle.std.proofs.Common.{ℕ, Option, Ok, sym, ap, ◌∙◌}
use Rattle.std.specs.Global.{Vec}
use Rattle.checkout_sources.specs.Reading.{index_taken}
use Rattle.checkout_sources.proofs.sources.index_taken.Goals as goal

pub returns-in-Ok-None : goal.returns-in-Ok-None
returns-in-Ok-None c = sym (ap index_taken (c.in-Ok-None.is ∙ ap (λ (o : Option (Vec ℕ)). Ok o) c.in-Ok-None.field-0-is))
