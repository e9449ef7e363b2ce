use Rattle.checkout_core.proofs.Follows.{cursor_in}
use Rattle.checkout_core.proofs.state.State.cursor.Goals as goal

pub returns : goal.returns
returns c = cursor_in c.args.self.now c.self.inside.workers c.self.inside.paths.items c.self.inside.drivers.items
    c.self.inside.cursors.items c.args.driver c.index.result.now c.self.view_is c.self.invariant.cursors_follow
    c.requires c.index.ensures
