use Rattle.std.proofs.Common.{ap, ◌∙◌}
use Rattle.std.specs.Prelude.{slice_get}
use Rattle.delay_table.proofs.Kept.{kept_delayed}
use Rattle.delay_table.proofs.table.DelayTable.delay.Goals as goal

pub invariant_of-self : goal.invariant_of-self
invariant_of-self c =
    kept_delayed _ _ _ _ _ _ c.self.invariant c.args.place c.min-self-inside.result c.min-self-inside.ensures
    (ap (λ t. slice_get t.places c.args.place) c.self.view_is ∙ c.requires.idle)
