use Rattle.std.proofs.Common.{ℕ, List, Err, refl, ap, subst, ◌∙◌}
use Rattle.checkin_paths.specs.Outside.{with_objects}
use Rattle.checkin_paths.specs.Outcomes.{object_by}
use Rattle.checkin_paths.specs.KeptPaths.{KeepsStored}
use Rattle.checkin_paths.proofs.Looked.{path_checked}
use Rattle.checkin_paths.proofs.Kept.{path_fails}
use Rattle.checkin_paths.proofs.kept_paths.check_in_path.Goals as goal

pub returns-in-Err-clause-checks : goal.returns-in-Err-clause-checks
returns-in-Err-clause-checks g c = record { left = c.in-Err.ensures.left; files_same = c.in-Err.ensures.unfailed; keep_same = refl }

pub returns-in-Ok-keep_changed-clause-checks : goal.returns-in-Ok-keep_changed-clause-checks
returns-in-Ok-keep_changed-clause-checks g c =
    path_checked _ _ _ _ _ _ _ _ (g.K.Keep.seen c.args.keep.now) _ c.in-Ok.looked.content.items c.in-Ok.looked.fate c.in-Ok.ensures.looks
    (c.in-Ok-keep_changed.ensures ∙ ap (λ (content : List ℕ). with_objects (object_by c.in-Ok.looked.fate content) (g.K.Keep.seen c.args.keep.now)) c.deref.ensures.value)

pub returns-clause-checks : goal.returns-clause-checks
returns-clause-checks g c =
    path_fails (Unit {0}) _ _ _ _ _ _ _ _ (g.K.Keep.seen c.args.keep.now) (g.K.Keep.seen c.keep_changed.new.keep) c.in-Ok.looked.content.items c.in-Ok.looked.fate c.in-Err-keep_changed.fault c.in-Ok.ensures.looks
    (subst (λ (content : List ℕ). KeepsStored {T = Unit {0}} c.in-Ok.looked.fate content (g.K.Keep.seen c.args.keep.now) (g.K.Keep.seen c.keep_changed.new.keep) (Err c.in-Err-keep_changed.fault)) c.deref.ensures.value c.in-Err-keep_changed.ensures)
