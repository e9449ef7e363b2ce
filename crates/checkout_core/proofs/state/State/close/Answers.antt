use Rattle.std.proofs.Common.{◌∙◌, sym}
use Rattle.checkout_core.proofs.Desks.{heard_elsewhere, unasked_elsewhere}
use Rattle.checkout_core.proofs.state.State.close.Goals as goal

pub returns-in_err-desk-in-Heard : goal.returns-in_err-desk-in-Heard
returns-in_err-desk-in-Heard c =
    c.from_residual-in_err-desk-in-Heard.ensures ∙ heard_elsewhere c.args.self.now c.args.path c.args.actor
    c.args.own c.in_ok-was.was' c.in-Heard.heard (sym c.path_at.ensures ∙ c.in_ok-was.was) c.in-Heard.is
    c.in_err-desk-in-Heard.ensures

pub returns-in_err-driver_path-in-Unasked : goal.returns-in_err-driver_path-in-Unasked
returns-in_err-driver_path-in-Unasked c =
    c.from_residual-in_err-driver_path-in-Unasked.ensures ∙ unasked_elsewhere c.args.self.now c.args.path
    c.args.actor c.args.own c.in_ok-was.was' (sym c.path_at.ensures ∙ c.in_ok-was.was) c.in-Unasked.is
    c.in_err-driver_path-in-Unasked.ensures
