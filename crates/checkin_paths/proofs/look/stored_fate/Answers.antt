use Rattle.std.proofs.Common.{ap, ◌∙◌}
use Rattle.checkin_paths.specs.Looks.{fate_by}
use Rattle.checkin_paths.proofs.Looked.{stored_is, unstored_is, no_form}
use Rattle.checkin_paths.proofs.look.stored_fate.Goals as goal

pub returns-in-Ok : goal.returns-in-Ok
returns-in-Ok c =
    stored_is c.args.name.now c.args.storing c.args.old c.args.bytes.items c.in-Ok.content.items c.fate_by.result (c.fate_by.ensures ∙ ap (fate_by c.args.name.now) c.deref.ensures.value) c.in-Ok.ensures

pub returns-in-Err-Form : goal.returns-in-Err-Form
returns-in-Err-Form c =
    unstored_is c.args.name.now c.args.storing c.args.old c.args.bytes.items c.failed.result.content.items c.failed.result.fate c.failed.ensures.fate
    (no_form c.in-Err-Form.field-0 _ c.in-Err-Form.field-0-is c.in-Err-Form.ensures)
