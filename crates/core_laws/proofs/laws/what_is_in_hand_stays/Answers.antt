use Rattle.core_laws.proofs.Hands.{holds_stay}
use Rattle.core_laws.proofs.laws.what_is_in_hand_stays.Goals as goal

pub returns : goal.returns
returns c starts workers drivers p a raw c1 x history rest below run all none holds =
    holds_stay starts workers drivers p a raw c1 x history rest below run all none holds
