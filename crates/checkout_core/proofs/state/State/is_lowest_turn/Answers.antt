use Rattle.checkout_core.proofs.Follows.{lowest_turn}
use Rattle.checkout_core.proofs.state.State.is_lowest_turn.Goals as goal

pub returns : goal.returns
returns c =
    let k = c.cursor.ensures in
    let r = c.requires.there in
    lowest_turn _ _ _ _ _ _ r.0 k.2 r.1 r.2 r.3
