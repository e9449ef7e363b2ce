use Rattle.std.proofs.Common.{refl, ◌∙◌}
use Rattle.checkin_paths.proofs.Kept.{unchanged_keeps, changed_keeps}
use Rattle.checkin_paths.proofs.kept_paths.keep_changed.Goals as goal

pub returns-in_default : goal.returns-in_default
returns-in_default g c = unchanged_keeps c.args.fate c.args.content.now _ c.in_default.not-Changed

pub returns-in_default-spell_blob : goal.returns-in_default-spell_blob
returns-in_default-spell_blob g c = ((c.in-Changed.name, c.in-Changed.is), refl)

pub returns : goal.returns
returns g c = changed_keeps (Unit {0}) c.args.fate c.args.content.now c.in-Changed.name c.deref.result.now _ _ c.object.result c.in-Changed.is (c.deref.ensures.value ∙ c.in-Ok.ensures) c.object.ensures
