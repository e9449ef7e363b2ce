use Rattle.std.proofs.Common.{List, sym, subst, ◌∙◌}
use Rattle.git_index.specs.declared.entry.Entry.{Entry}
use Rattle.git_index.specs.Spelling.{CanStand}
use Rattle.checkin_engine.proofs.Standing.{can_stand_after}
use Rattle.checkin_engine.proofs.Kept.{index_keeps}
use Rattle.checkin_engine.proofs.kept_index.keep_index.Goals as goal

pub spell_entries-requires : goal.spell_entries-requires
spell_entries-requires g c = subst (λ (es : List Entry). CanStand es) (sym (c.deref.ensures.value ∙ c.in-Ok.ensures)) (can_stand_after c.args.entries.now c.args.fates.now c.requires.entries c.requires.names)

pub returns : goal.returns
returns g c = index_keeps (Unit {0}) c.deref-2.result.now c.args.entries.now c.args.fates.now c.deref.result.now _ _ c.index.result (c.deref.ensures.value ∙ c.in-Ok.ensures) (c.deref-2.ensures.value ∙ c.in-Ok-spell_entries.ensures.value) c.index.ensures
